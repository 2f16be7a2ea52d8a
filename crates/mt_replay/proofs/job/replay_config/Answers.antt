use Rattle.std.proofs.Common.{[], None, refl, subst}
use Rattle.std.specs.Io.KnownBytes.{prepend_known}
use Rattle.mt_port.specs.Streams.{WhereTold}
use Rattle.mt_replay.specs.declared.form.Form.{Form}
use Rattle.mt_replay.specs.Changes.{UsesBoard}
use Rattle.mt_replay.specs.declared.job.Found.TheVariants as found
use Rattle.mt_replay.specs.declared.job.Follows.{Follows}
use Rattle.mt_replay.specs.declared.run.End.TheVariants as end
use Rattle.mt_machine.specs.Machine.{machine}
use Rattle.mt_replay.specs.Inner.Runs.{place}
use Rattle.mt_replay.specs.Inner.Jobs.{FoundGives}
use Rattle.mt_replay.proofs.Runs.{Answered-none, UsesBoard-none, UsesBoard-then}
use Rattle.mt_replay.proofs.Jobs.{begun_uses, gives_empty, ended_job, failed_job}
use Rattle.mt_replay.proofs.job.replay_config.Goals as goal

pub returns-in-Ok-begin-clause-gives : goal.returns-in-Ok-begin-clause-gives
returns-in-Ok-begin-clause-gives g c = λ a begins.
    let form = c.args.form in
    let defect = (g.B.Port.state c.args.board.now).defect in
    let before = g.B.Port.state c.args.board.now in
    let m = machine (g.B.Port.state c.begin.new.board) c.in-Ok-begin.modules in
    let left = g.S.Source.left c.args.source.now in
    let held = g.K.Sink.held c.begin.new.sink in
    let was = g.B.Port.tape c.args.board.now in
    let told = g.B.Port.tape c.begin.new.board in
    let faults = g.S.Source.faults c.args.source.now in
    let begun = c.in-Ok-begin.ensures.begun in
    let empty = subst (λ (f : Follows). WhereTold a (prepend_known c.args.input.now left) (FoundGives (found.Config c.args.config f))) c.in-Nothing.is begins in
    ended_job c.tell_end.result (end.Whole 0) form c.args.config c.in-Ok.task defect m m before [] a left (g.K.Sink.held c.args.sink.now) held held (g.K.Sink.held c.tell_end.new.sink) was told told
    faults faults (g.K.Sink.faults c.begin.new.sink) (g.K.Sink.faults c.tell_end.new.sink)
    c.in-Ok.ensures begun (Answered-none (place form c.in-Ok.task.shape 1) m None None held told) (UsesBoard-none form m.board told)
    (gives_empty form c.args.config defect m before was told c.args.input.now a left begun.machine empty) refl c.tell_end.ensures

pub returns-clause-gives : goal.returns-clause-gives
returns-clause-gives g c = λ a begins.
    failed_job c.in-Err.how c.args.form c.args.config c.args.follows (g.B.Port.state c.args.board.now).defect _ _ c.args.input.now a (g.S.Source.left c.args.source.now) _ _ _ _ _ _ _ c.in-Err.ensures.err begins

pub returns-in-Ok-begin-clause-board : goal.returns-in-Ok-begin-clause-board
returns-in-Ok-begin-clause-board g c =
    begun_uses c.args.form c.args.config (machine (g.B.Port.state c.begin.new.board) c.in-Ok-begin.modules) (g.B.Port.state c.args.board.now) (g.B.Port.tape c.args.board.now) (g.B.Port.tape c.begin.new.board)
    c.in-Ok-begin.ensures.begun.machine

pub returns-in-Lines-clause-board : goal.returns-in-Lines-clause-board
returns-in-Lines-clause-board g c =
    let before = g.B.Port.state c.args.board.now in
    let mid = g.B.Port.state c.begin.new.board in
    let was = g.B.Port.tape c.args.board.now in
    let told = g.B.Port.tape c.begin.new.board in
    UsesBoard-then c.args.form before mid (g.B.Port.state c.take_lines.new.board) was told (g.B.Port.tape c.take_lines.new.board)
    (begun_uses c.args.form c.args.config (machine mid c.in-Ok-begin.modules) before was told c.in-Ok-begin.ensures.begun.machine)
    (subst (λ (form : Form). UsesBoard form mid (g.B.Port.state c.take_lines.new.board) told (g.B.Port.tape c.take_lines.new.board)) c.in-Ok.ensures.same c.take_lines.ensures.board)
