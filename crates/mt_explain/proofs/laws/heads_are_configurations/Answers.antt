use Rattle.mt_explain.proofs.Heads.{heads_stand}
use Rattle.mt_explain.proofs.laws.heads_are_configurations.Goals as goal

pub returns : goal.returns
returns c = heads_stand
