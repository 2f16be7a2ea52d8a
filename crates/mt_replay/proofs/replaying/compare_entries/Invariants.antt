use Rattle.std.proofs.Common.{◌≤◌, ◌+◌, drop}
use Rattle.std.specs.Io.KnownBytes.{prepend_known}
use Rattle.mt_replay.specs.Inner.Comparing.{KeepsCause, IsDrained}
use Rattle.mt_replay.proofs.Traces.{SoFar}
use Rattle.mt_replay.proofs.replaying.compare_entries.Given as goal

abbrev pub invariant-loop-entry : goal.invariant-loop-entry
invariant-loop-entry g l = record {
  so : SoFar l.width l.number l.entries (drop l.entry-index l.entries) l.initial.comparison l.comparison (prepend_known l.initial.input (g.S.Source.left l.initial.source)) (prepend_known l.input (g.S.Source.left l.source));
  cause : KeepsCause l.initial.comparison l.comparison (g.S.Source.faults l.initial.source) (g.S.Source.faults l.source);
  drained : IsDrained l.initial.comparison l.initial.input → IsDrained l.comparison l.input;
  few : l.comparison.tally ≤ l.initial.comparison.tally + l.entry-index;
}
