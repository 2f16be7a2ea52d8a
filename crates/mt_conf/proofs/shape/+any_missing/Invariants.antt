use Rattle.std.proofs.Common.{length}
use Rattle.mt_conf.proofs.shape.+any_missing.Given as goal

abbrev pub decreases-any_missing : goal.decreases-any_missing
decreases-any_missing l = length l.rows.now
