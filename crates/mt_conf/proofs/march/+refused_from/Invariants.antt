use Rattle.std.proofs.Common.{length}
use Rattle.mt_conf.proofs.march.+refused_from.Given as goal

abbrev pub decreases-refused_from : goal.decreases-refused_from
decreases-refused_from l = length l.values.now
