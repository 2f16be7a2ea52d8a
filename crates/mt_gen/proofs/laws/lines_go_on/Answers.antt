use Rattle.mt_gen.proofs.ScriptLemmas.{lines_behind-more}
use Rattle.mt_gen.proofs.laws.lines_go_on.Goals as goal

pub returns : goal.returns
returns c = lines_behind-more
