use Rattle.std.proofs.Common.{◌-◌, Ok, Err}
use Rattle.mt_replay.specs.declared.run.End.TheVariants as end
use Rattle.mt_machine.specs.Machine.{machine}
use Rattle.mt_replay.proofs.Runs.{whole_turn, last_turn, bare_end, end_is, long_is, broken_is}
use Rattle.mt_replay.proofs.run.run_line.Goals as goal

pub returns-in-Ok-Whole-clause-gives : goal.returns-in-Ok-Whole-clause-gives
returns-in-Ok-Whole-clause-gives g c =
    whole_turn c.judge_line.result c.args.task.now.form c.args.task.now.shape c.args.number _ _ c.read_line.new.text.items _ _ _ _ _ _ (rw c.in-Ok-Whole.field-0-is at c.in-Ok-Whole.ensures.ok) c.judge_line.ensures.gives

pub returns-in-Ok-clause-gives : goal.returns-in-Ok-clause-gives
returns-in-Ok-clause-gives g c =
    last_turn (Ok c.in-Ok.end) c.args.task.now.form c.args.task.now.shape c.args.number _ _ c.read_line.new.text.items _ _ _ _ _ _ (rw c.in-Ok-Last.field-0-is at c.in-Ok-Last.ensures.ok) c.in-Ok.ensures.gives

pub returns-in-Err-last_line-clause-gives : goal.returns-in-Err-last_line-clause-gives
returns-in-Err-last_line-clause-gives g c =
    last_turn (Err c.in-Err-last_line.failed) c.args.task.now.form c.args.task.now.shape c.args.number _ (machine (g.B.Port.state c.last_line.new.board) c.last_line.new.modules) c.read_line.new.text.items _ _ _ _ _ _ (rw c.in-Ok-Last.field-0-is at c.in-Ok-Last.ensures.ok) c.in-Err-last_line.ensures.gives

pub returns-in-Ok-End-clause-gives : goal.returns-in-Ok-End-clause-gives
returns-in-Ok-End-clause-gives g c =
    bare_end (end.Whole (c.args.number - 1)) c.args.task.now.form c.args.task.now.shape c.args.number _ _ _ _ _
    (end_is c.args.task.now.shape c.args.number c.read_line.new.text.items _ _ (rw c.in-Ok-End.field-0-is at c.in-Ok-End.ensures.ok))

pub returns-in-Ok-TooLong-clause-gives : goal.returns-in-Ok-TooLong-clause-gives
returns-in-Ok-TooLong-clause-gives g c =
    bare_end (end.Refused c.args.number 10 1025) c.args.task.now.form c.args.task.now.shape c.args.number _ _ _ _ _
    (long_is c.args.task.now.shape c.args.number c.read_line.new.text.items _ _ c.requires.few (rw c.in-Ok-TooLong.field-0-is at c.in-Ok-TooLong.ensures.ok))

pub returns-in-Err-clause-gives : goal.returns-in-Err-clause-gives
returns-in-Err-clause-gives g c =
    bare_end end.Broken c.args.task.now.form c.args.task.now.shape c.args.number _ _ _ _ _ (broken_is c.args.task.now.shape c.args.number c.read_line.new.text.items _ _ c.requires.few c.in-Err.ensures.err)
