use Rattle.std.proofs.Common.{◌≡◌, ◌≤◌, ◌+◌, ◌-◌, ◌++◌, ℕ, List, Option, length, take}
use Rattle.std.specs.Io.KnownBytes.{prepend_known}
use Rattle.mt_verify.specs.Lines.{feeds}
use Rattle.mt_replay.specs.declared.comparing.State.TheVariants.{Matching}
use Rattle.mt_replay.proofs.Lines.{Begun}
use Rattle.mt_replay.proofs.comparing.Comparison.compare_bytes.Given as goal

abbrev pub invariant-loop-done : goal.invariant-loop-done
invariant-loop-done g l = record {
  within : l.done ≤ length l.text;
  matching : l.self.state ≡ Matching;
  tally : l.self.tally ≡ l.initial.self.tally + feeds (take l.done l.text);
  begun : (expected : List ℕ) (given : Option (List ℕ)) → Begun given (prepend_known l.initial.input (g.S.Source.left l.initial.source)) expected
      → Begun given (prepend_known l.input (g.S.Source.left l.source)) (expected ++ take l.done l.text);
  faults : g.S.Source.faults l.source ≡ g.S.Source.faults l.initial.source;
}

abbrev pub decreases-loop-done : goal.decreases-loop-done
decreases-loop-done g l = length l.text - l.done
