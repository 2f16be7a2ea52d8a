use Rattle.std.proofs.Common.{◌≡◌, ◌≤◌}
use Rattle.std.specs.Io.KnownBytes.{prepend_known}
use Rattle.mt_replay.specs.Verify.{script_limit}
use Rattle.mt_replay.proofs.ClaimedLines.{Read}
use Rattle.mt_replay.proofs.verifying.read_script.Given as goal

abbrev pub invariant-loop-number : goal.invariant-loop-number
invariant-loop-number g l = record {
  read : Read l.shape (record { number = l.number; size = l.size }) l.kept.items (prepend_known l.initial.input (g.S.Source.left l.initial.source)) (prepend_known l.input (g.S.Source.left l.source));
  few : l.number ≤ 1000001;
  room : l.size ≤ script_limit;
  faults : g.S.Source.faults l.source ≡ g.S.Source.faults l.initial.source;
}
