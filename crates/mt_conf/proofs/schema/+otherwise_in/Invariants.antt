use Rattle.std.proofs.Common.{length}
use Rattle.mt_conf.proofs.schema.+otherwise_in.Given as goal

abbrev pub decreases-otherwise_in : goal.decreases-otherwise_in
decreases-otherwise_in l = length l.rows.now
