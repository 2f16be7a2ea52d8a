use Rattle.std.proofs.Common.{ap, Ok}
use Rattle.std.specs.Io.KnownBytes.{prepend_known}
use Rattle.mt_machine.specs.Machine.{machine}
use Rattle.mt_replay.specs.declared.run.End.{End}
use Rattle.mt_replay.proofs.Jobs.{gives_at, ended_job, ended_caused, stopped_job}
use Rattle.mt_replay.proofs.job.take_lines.Goals as goal

pub returns-in-Ok-clause-gives : goal.returns-in-Ok-clause-gives
returns-in-Ok-clause-gives g c = λ a h was defect before config task begun begins.
    let form = c.args.task.now.form in
    let m = machine (g.B.Port.state c.args.board.now) c.args.modules.now in
    let m' = machine (g.B.Port.state c.run_script.new.board) c.run_script.new.modules in
    let ends = c.in-Ok.ensures.gives in
    let at = gives_at c.in-Ok.end form config c.args.task.now.shape defect m before was _ ends.lines c.run_script.new.input a _ (g.S.Source.left c.run_script.new.source)
    task.shape begun.machine (λ e. c.in-Ok.ensures.none (ap (λ (x : End). Ok x) e)) begins ends.script in
    ended_job c.tell_end.result c.in-Ok.end form config c.args.task.now defect m m' before ends.lines a (g.S.Source.left c.run_script.new.source) h _ _ _ was _ _ _ _ _ _
    task begun (record { written = ends.answered.written; taped = ends.answered.taped; after = ends.answered.after }) c.run_script.ensures.board at c.in-Ok.ensures.cause.0 c.tell_end.ensures

pub returns-in-Err-clause-gives : goal.returns-in-Err-clause-gives
returns-in-Err-clause-gives g c = λ a h was defect before config task begun begins.
    let m = machine (g.B.Port.state c.args.board.now) c.args.modules.now in
    let m' = machine (g.B.Port.state c.run_script.new.board) c.run_script.new.modules in
    let told = g.B.Port.tape c.args.board.now in
    stopped_job c.args.task.now.form config c.args.task.now defect m m' before c.run_script.new.input a
    (prepend_known c.args.input.now (g.S.Source.left c.args.source.now)) (g.S.Source.left c.run_script.new.source) h (g.K.Sink.held c.args.sink.now) (g.K.Sink.held c.run_script.new.sink) was told
    (g.B.Port.tape c.run_script.new.board) (g.S.Source.faults c.args.source.now) (g.S.Source.faults c.run_script.new.source)
    task begun begins c.in-Err.ensures.cause.0 c.in-Err.ensures.gives c.run_script.ensures.board

pub returns-in-Ok-clause-cause : goal.returns-in-Ok-clause-cause
returns-in-Ok-clause-cause g c = ended_caused c.tell_end.result c.in-Ok.end _ _ _ _ _ _ _ _ c.in-Ok.ensures.cause.0 c.in-Ok.ensures.cause.1 c.tell_end.ensures
