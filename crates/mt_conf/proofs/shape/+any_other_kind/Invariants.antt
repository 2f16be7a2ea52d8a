use Rattle.std.proofs.Common.{length}
use Rattle.mt_conf.proofs.shape.+any_other_kind.Given as goal

abbrev pub decreases-any_other_kind : goal.decreases-any_other_kind
decreases-any_other_kind l = length l.rows.now
