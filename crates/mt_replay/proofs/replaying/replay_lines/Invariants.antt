use Rattle.std.proofs.Common.{◌≤◌, ◌+◌, ◌++◌, ◌*◌}
use Rattle.std.specs.Io.KnownBytes.{prepend_known}
use Rattle.mt_port.specs.Memory.{plain_left}
use Rattle.mt_replay.specs.declared.form.Form.TheVariants.{Run}
use Rattle.mt_machine.specs.Machine.{machine, IsReady}
use Rattle.mt_replay.specs.Changes.{UsesBoard}
use Rattle.mt_replay.specs.Inner.Comparing.{KeepsCause, IsDrained}
use Rattle.mt_replay.proofs.Replays.{Replaying}
use Rattle.mt_replay.proofs.replaying.replay_lines.Given as goal

abbrev pub invariant-loop-number : goal.invariant-loop-number
invariant-loop-number g l = record {
  ready : IsReady l.shape (machine (g.B.Port.state l.board) l.modules);
  board : UsesBoard Run (g.B.Port.state l.initial.board) (g.B.Port.state l.board) (g.B.Port.tape l.initial.board) (g.B.Port.tape l.board);
  replaying : Replaying l.shape l.count l.number l.fn.kept.items (l.lines ++ plain_left l.script) (machine (g.B.Port.state l.initial.board) l.initial.modules) (machine (g.B.Port.state l.board) l.modules)
      l.initial.comparison l.comparison (prepend_known l.initial.input (g.S.Source.left l.initial.source)) (prepend_known l.input (g.S.Source.left l.source)) (g.B.Port.tape l.initial.board) (g.B.Port.tape l.board);
  cause : KeepsCause l.initial.comparison l.comparison (g.S.Source.faults l.initial.source) (g.S.Source.faults l.source);
  drained : IsDrained l.initial.comparison l.initial.input → IsDrained l.comparison l.input;
  few : l.comparison.tally + 257 ≤ 257 * l.number;
}
