use Rattle.std.proofs.Common.{◌≡◌, ◌≤◌, ◌-◌, length}
use Rattle.std.specs.Io.KnownBytes.{prepend_known}
use Rattle.mt_replay.specs.Inner.Reading.{HasNoFeed}
use Rattle.mt_replay.proofs.Lines.{Begun}
use Rattle.mt_replay.proofs.input.Input.read_line.Given as goal

abbrev pub invariant-loop-self : goal.invariant-loop-self
invariant-loop-self g l = record {
  small : length l.text.items ≤ 1024;
  bytes : Begun (prepend_known l.initial.self (g.S.Source.left l.initial.source)) (prepend_known l.self (g.S.Source.left l.source)) l.text.items;
  feeds : HasNoFeed l.text.items;
  faults : g.S.Source.faults l.source ≡ g.S.Source.faults l.initial.source;
}

abbrev pub decreases-loop-self : goal.decreases-loop-self
decreases-loop-self g l = 1024 - length l.text.items
