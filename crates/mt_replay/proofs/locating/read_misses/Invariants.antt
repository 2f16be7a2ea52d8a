use Rattle.std.proofs.Common.{◌≡◌}
use Rattle.std.specs.Io.KnownBytes.{prepend_known}
use Rattle.mt_port.specs.Streams.{WhereTold}
use Rattle.mt_replay.proofs.LocatedLines.{Missed}
use Rattle.mt_replay.proofs.locating.read_misses.Given as goal

abbrev pub invariant-loop-number : goal.invariant-loop-number
invariant-loop-number g l = record {
  missed : WhereTold (prepend_known l.initial.input (g.S.Source.left l.initial.source)) (prepend_known l.input (g.S.Source.left l.source)) (Missed l.probe l.number l.after l.misses.items);
  faults : g.S.Source.faults l.source ≡ g.S.Source.faults l.initial.source;
}
