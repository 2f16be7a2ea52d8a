use Rattle.std.proofs.Common.{arith}
use Rattle.std.proofs.lemmas.Int.{ints}
use Rattle.mt_conf.proofs.flash.last_of_copy.Goals as goal

pub returns : goal.returns
returns c = omega (arith, ints)
