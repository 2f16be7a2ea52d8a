use Rattle.std.proofs.Common.{◌≡◌, ◌≤◌, ◌-◌, length, Err}
use Rattle.std.specs.Io.KnownBytes.{prepend_known}
use Rattle.mt_port.specs.declared.board.Shape.{Shape}
use Rattle.mt_replay.specs.declared.run.End.TheVariants.{Broken}
use Rattle.mt_replay.specs.Input.{Failed}
use Rattle.mt_replay.specs.Verify.{last_claimed}
use Rattle.mt_replay.specs.Inner.Reading.{HasNoFeed}
use Rattle.mt_replay.proofs.Lines.{Begun}
use Rattle.mt_replay.proofs.verifying.read_text.Given as goal

abbrev pub invariant-loop-input : goal.invariant-loop-input
invariant-loop-input g l = record {
  small : length l.text.items ≤ 1024;
  bytes : Begun (prepend_known l.initial.input (g.S.Source.left l.initial.source)) (prepend_known l.input (g.S.Source.left l.source)) l.text.items;
  feeds : HasNoFeed l.text.items;
  breaks : (shape : Shape) → last_claimed shape Failed l.mark.number l.mark.size l.text.items ≡ Err Broken;
  faults : g.S.Source.faults l.source ≡ g.S.Source.faults l.initial.source;
}

abbrev pub decreases-loop-input : goal.decreases-loop-input
decreases-loop-input g l = 1024 - length l.text.items
