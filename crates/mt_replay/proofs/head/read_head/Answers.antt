use Rattle.std.proofs.Common.{◌≡◌, ◌∙◌, ◌++◌, ◌∷◌, [], ap, sym, subst, arith, drop, length, length-append, List, ℕ}
use Rattle.std.specs.Io.KnownBytes.{prepend_known}
use Rattle.std.specs.Str.{bytes_eq}
use Rattle.mt_replay.specs.Input.{separator}
use Rattle.mt_replay.proofs.Texts.{OnErr-any}
use Rattle.mt_replay.proofs.Heads.{Keeps, keeps_byte, head_parts, head_parts_at_end, head_whole, head_breaks, head_exceeds, next_begun, next_within}
use Rattle.mt_replay.proofs.head.read_head.Goals as goal

pub returns-in_err-fill-clause-err : goal.returns-in_err-fill-clause-err
returns-in_err-fill-clause-err g c =
    let inv = c.loop-input.invariant in
    OnErr-any c.from_residual.result (head_breaks c.loop-input.start c.loop-input.kept.items _ _ _ inv.short inv.begun inv.bytes c.in_err-fill.ensures.err)

pub loop-input-preserved : goal.loop-input-preserved
loop-input-preserved g c =
    let inv = c.loop-input.invariant in
    let step = c.in-Some.ensures.step in
    let filled = rw c.if-branch.true at c.in_ok-fill.ensures.ok in
    record {
      begun = next_begun c.loop-input.start c.in-Some.next c.take_byte-byte.result _ _ inv.within step inv.begun;
      within = next_within c.loop-input.start c.in-Some.next c.take_byte-byte.result _ _ inv.within step;
      bytes = subst (Keeps _ _) (sym step.0) (keeps_byte _ _ (g.S.Source.left c.fill.new.source) _ _ c.loop-input.kept.items c.take_byte-byte.result inv.bytes filled c.take_byte-byte.ensures);
      short = omega (arith, inv.short, ap length step.0, length-append c.loop-input.kept.items (c.take_byte-byte.result ∷ []), c.if-len-eq-HEAD_ROOM.false, c.len.ensures);
      room = omega (arith, inv.room, c.in-Some.ensures.room);
      faults = c.in_ok-fill.ensures.cause.kept ∙ inv.faults;
    }

pub returns-in-None-clause-ok : goal.returns-in-None-clause-ok
returns-in-None-clause-ok g c =
    let inv = c.loop-input.invariant in
    let kept = c.loop-input.kept.items in
    let step = c.in-None.ensures.step in
    let filled = rw c.if-branch.true at c.in_ok-fill.ensures.ok in
    let bytes : Keeps (prepend_known c.args.input.now (g.S.Source.left c.args.source.now)) (prepend_known c.take_byte-byte.new.self (g.S.Source.left c.fill.new.source)) (kept ++ 10 ∷ []) =
    subst (λ (b : ℕ). Keeps (prepend_known c.args.input.now (g.S.Source.left c.args.source.now)) (prepend_known c.take_byte-byte.new.self (g.S.Source.left c.fill.new.source)) (kept ++ b ∷ [])) step.0
    (keeps_byte _ _ (g.S.Source.left c.fill.new.source) _ _ kept c.take_byte-byte.result inv.bytes filled c.take_byte-byte.ensures) in
    rw step.2 (head_parts c.loop-input.start kept _ _ step.1 inv.begun bytes)

pub returns-then-len-eq-HEAD_ROOM-clause-ok : goal.returns-then-len-eq-HEAD_ROOM-clause-ok
returns-then-len-eq-HEAD_ROOM-clause-ok g c =
    let inv = c.loop-input.invariant in
    let step = c.in-Some.ensures.step in
    let filled = rw c.if-branch.true at c.in_ok-fill.ensures.ok in
    let full : length c.take_byte.new.kept.items ≡ 65542 = omega (arith, c.len.ensures, c.if-len-eq-HEAD_ROOM.true) in
    head_exceeds c.in-Some.next c.take_byte.new.kept.items _ _ full
    (next_begun c.loop-input.start c.in-Some.next c.take_byte-byte.result _ _ inv.within step inv.begun)
    (subst (Keeps _ _) (sym step.0) (keeps_byte _ _ (g.S.Source.left c.fill.new.source) _ _ c.loop-input.kept.items c.take_byte-byte.result inv.bytes filled c.take_byte-byte.ensures))

pub returns-then-is_separator-clause-ok : goal.returns-then-is_separator-clause-ok
returns-then-is_separator-clause-ok g c =
    let inv = c.loop-input.invariant in
    let is = sym (ap (λ (l : List ℕ). bytes_eq (drop c.loop-input.start l) separator) c.deref.ensures.value) ∙ sym c.is_separator.ensures ∙ c.if-is_separator.true in
    rw c.truncate.ensures.items (head_parts_at_end c.loop-input.start c.loop-input.kept.items _ _ _ is inv.begun inv.bytes (rw c.if-branch.false at c.in_ok-fill.ensures.ok))

pub returns-clause-ok : goal.returns-clause-ok
returns-clause-ok g c =
    let inv = c.loop-input.invariant in
    let is = sym (ap (λ (l : List ℕ). bytes_eq (drop c.loop-input.start l) separator) c.deref.ensures.value) ∙ sym c.is_separator.ensures ∙ c.if-is_separator.false in
    head_whole c.loop-input.start c.loop-input.kept.items _ _ _ is inv.begun inv.bytes (rw c.if-branch.false at c.in_ok-fill.ensures.ok)
