use Rattle.mt_replay.proofs.ClaimedLines.{said-refused}
use Rattle.mt_replay.proofs.verifying.judge_line.Goals as goal

pub returns-in-Err-clause-err : goal.returns-in-Err-clause-err
returns-in-Err-clause-err c = said-refused c.args.shape c.args.mark c.args.count c.args.text.now c.in-Err.end (c.in-Err.ensures.is c.args.text.now c.requires.short)
