use Rattle.std.proofs.Common.{◌≡◌}
use Rattle.std.specs.Io.KnownBytes.{prepend_known}
use Rattle.mt_machine.specs.Machine.{machine}
use Rattle.mt_replay.specs.Changes.{change, UsesBoard}
use Rattle.mt_replay.specs.Inner.Runs.{place, Goes, IsReadyFor}
use Rattle.mt_replay.proofs.run.run_script.Given as goal

abbrev pub invariant-loop-number : goal.invariant-loop-number
invariant-loop-number g l = record {
  ready : IsReadyFor l.task.form l.task.shape (machine (g.B.Port.state l.board) l.modules);
  board : UsesBoard l.task.form (g.B.Port.state l.initial.board) (g.B.Port.state l.board) (g.B.Port.tape l.initial.board) (g.B.Port.tape l.board);
  goes : Goes (place l.task.form l.task.shape 1) (machine (g.B.Port.state l.initial.board) l.initial.modules) (machine (g.B.Port.state l.board) l.modules) l.number
      (change (prepend_known l.initial.input (g.S.Source.left l.initial.source)) (prepend_known l.input (g.S.Source.left l.source)) (g.K.Sink.held l.initial.sink) (g.K.Sink.held l.sink) (g.B.Port.tape l.initial.board) (g.B.Port.tape l.board));
  source : g.S.Source.faults l.source ≡ g.S.Source.faults l.initial.source;
  sink : g.K.Sink.faults l.sink ≡ g.K.Sink.faults l.initial.sink;
}
