use Rattle.std.proofs.Common.{◌≡◌, ℕ, List, [], ◌++◌, append-nil, Option, Result, Ok, Err, ap, sym, ◌∙◌}
use Rattle.std.specs.Prelude.{OnOk, OnErr}
use Rattle.std.specs.Io.KnownBytes.{Appends}
use Rattle.mt_port.specs.declared.stream.Failed.{Failed}
use Rattle.mt_port.specs.Gathering.{Gathers}
use Rattle.mt_port.specs.Streams.{AppendsFront}
use Rattle.mt_port.specs.Inner.Streams.{Appends-trans, AppendsFront-after}
use Rattle.mt_port.proofs.gathered.Gathered.put_after_flush.Goals as goal

-- the bytes that waited were taken whole, and then all of the piece, or a proper front of it
front_after : (a b c : Option (List ℕ)) (waits piece : List ℕ) (result : Result (Unit {0}) Failed) → Appends a b waits
    → OnErr result (AppendsFront b c piece) → OnErr result (AppendsFront a c (waits ++ piece))
front_after a b c waits piece (Ok done) whole front = tt
front_after a b c waits piece (Err failed) whole front = AppendsFront-after a b c waits piece whole front

all_after : (a b c : Option (List ℕ)) (waits waits' piece : List ℕ) (result : Result (Unit {0}) Failed) → Appends a b waits → waits' ≡ []
    → OnOk result (Appends b c piece) → OnOk result (Gathers a c waits waits' piece)
all_after a b c waits waits' piece (Err failed) whole none all = tt
all_after a b c waits waits' piece (Ok done) whole none all = record {
  given = waits ++ piece;
  all = sym (append-nil (waits ++ piece)) ∙ ap (λ (l : List ℕ). (waits ++ piece) ++ l) (sym none);
  appended = Appends-trans a b c waits piece whole all;
}

pub returns-then-piece-gt-ROOM-clause-ok : goal.returns-then-piece-gt-ROOM-clause-ok
returns-then-piece-gt-ROOM-clause-ok g c =
    all_after _ _ _ c.args.self.now c.flush.new.self c.args.piece.now c.put.result c.in_ok-flush.ensures.ok c.in_ok-flush.ensures.none c.put.ensures.ok

pub returns-then-piece-gt-ROOM-clause-err : goal.returns-then-piece-gt-ROOM-clause-err
returns-then-piece-gt-ROOM-clause-err g c =
    front_after _ _ _ c.args.self.now c.args.piece.now c.put.result c.in_ok-flush.ensures.ok c.put.ensures.err
