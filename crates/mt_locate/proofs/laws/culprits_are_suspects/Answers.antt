use Rattle.mt_locate.proofs.Suspicion.{culprits}
use Rattle.mt_locate.proofs.laws.culprits_are_suspects.Goals as goal

pub returns : goal.returns
returns c = culprits c.bits_are_put.ensures.same c.plans_are_steady.ensures
