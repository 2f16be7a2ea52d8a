use Rattle.std.proofs.Common.{refl}
use Rattle.mt_explain.specs.Rows.{rules}
use Rattle.mt_explain.proofs.table.rows.Goals as goal

pub returns : goal.returns
unfolding rules
returns c = refl
