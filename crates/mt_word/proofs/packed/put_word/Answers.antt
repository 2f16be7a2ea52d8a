use Rattle.std.proofs.Common.{◌≡◌, ◌∷◌, [], ap, arith}
use Rattle.mt_word.proofs.PackedLemmas.{spliced, put_w8, put_w16, put_w32, put_w64}
use Rattle.mt_word.proofs.packed.put_word.Goals as goal

pub returns-in-W8 : goal.returns-in-W8
returns-in-W8 c =
    let room = rw c.in-W8.is at c.requires.at in
    let put : c.store.new.bytes ≡ spliced c.args.bytes.now (c.args.word ∷ []) c.args.at 1 = rw c.to_le_bytes.ensures at c.store.ensures in
    rw c.in-W8.is (put_w8 c.args.bytes.now _ c.args.at c.args.word room put)

pub returns-in-W16 : goal.returns-in-W16
returns-in-W16 c =
    let room = rw c.in-W16.is at c.requires.at in
    let fits = rw c.in-W16.is at c.requires.word in
    rw c.in-W16.is (put_w16 c.args.bytes.now _ _ c.args.at c.args.word room fits c.to_le_bytes-in-W16.ensures c.store-in-W16.ensures)

pub returns-in-W32 : goal.returns-in-W32
returns-in-W32 c =
    let room = rw c.in-W32.is at c.requires.at in
    let fits = rw c.in-W32.is at c.requires.word in
    rw c.in-W32.is (put_w32 c.args.bytes.now _ _ c.args.at c.args.word room fits c.to_le_bytes-in-W32.ensures c.store-in-W32.ensures)

pub returns-in-W64 : goal.returns-in-W64
returns-in-W64 c =
    let room = rw c.in-W64.is at c.requires.at in
    let fits = rw c.in-W64.is at c.requires.word in
    rw c.in-W64.is (put_w64 c.args.bytes.now _ _ c.args.at c.args.word room fits c.to_le_bytes-in-W64.ensures c.store-in-W64.ensures)
