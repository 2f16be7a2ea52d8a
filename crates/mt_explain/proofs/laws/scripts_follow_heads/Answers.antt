use Rattle.mt_explain.proofs.Scripts.{scripts_stand}
use Rattle.mt_explain.proofs.laws.scripts_follow_heads.Goals as goal

pub returns : goal.returns
returns c = scripts_stand
