use Rattle.mt_fls.proofs.Blocks.{bgnd_accepted, fgnd_accepted}
use Rattle.mt_fls.proofs.state.Fls.config.Goals as goal

pub returns-clause-bgnd : goal.returns-clause-bgnd
returns-clause-bgnd c = bgnd_accepted c.self.inside.shape c.self.inside.config c.self.invariant.accepted

pub returns-clause-fgnd : goal.returns-clause-fgnd
returns-clause-fgnd c = fgnd_accepted c.self.inside.shape c.self.inside.config c.self.invariant.accepted
