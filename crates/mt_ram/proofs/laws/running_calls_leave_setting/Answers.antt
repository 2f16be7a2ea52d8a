use Rattle.mt_ram.specs.Table.{MainFunction, RunFullTest, RunPartialTest}
use Rattle.mt_ram.proofs.Settings.{pass_leaves, test_leaves}
use Rattle.mt_ram.proofs.laws.running_calls_leave_setting.Goals as goal

pub returns-clause-tick : goal.returns-clause-tick
returns-clause-tick c = pass_leaves MainFunction

pub returns-clause-full : goal.returns-clause-full
returns-clause-full c = test_leaves RunFullTest

pub returns-clause-partial : goal.returns-clause-partial
returns-clause-partial c = λ block. test_leaves (RunPartialTest block)
