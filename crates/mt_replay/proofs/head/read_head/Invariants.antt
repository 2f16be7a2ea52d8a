use Rattle.std.proofs.Common.{◌≡◌, ◌<◌, ◌≤◌, ◌-◌, length, take, drop, vec_capacity}
use Rattle.std.specs.Io.KnownBytes.{prepend_known}
use Rattle.mt_replay.proofs.Heads.{Begun, Keeps}
use Rattle.mt_replay.proofs.head.read_head.Given as goal

abbrev pub invariant-loop-input : goal.invariant-loop-input
invariant-loop-input g l = record {
  begun : Begun (take l.start l.kept.items) (drop l.start l.kept.items);
  within : l.start ≤ length l.kept.items;
  bytes : Keeps (prepend_known l.initial.input (g.S.Source.left l.initial.source)) (prepend_known l.input (g.S.Source.left l.source)) l.kept.items;
  short : length l.kept.items < 65542;
  room : 65542 ≤ vec_capacity l.kept;
  faults : g.S.Source.faults l.source ≡ g.S.Source.faults l.initial.source;
}

abbrev pub decreases-loop-input : goal.decreases-loop-input
decreases-loop-input g l = 65542 - length l.kept.items
