use Rattle.mt_fls.proofs.Walks.{idle_pass}
use Rattle.mt_fls.proofs.state.Fls.enter_pass.Goals as goal

pub returns-in-Suspended-clause-fits : goal.returns-in-Suspended-clause-fits
returns-in-Suspended-clause-fits c = idle_pass c.args.self.now _ c.no_group.result c.is_sound.ensures c.no_group.ensures

pub returns-in-Uninit-clause-fits : goal.returns-in-Uninit-clause-fits
returns-in-Uninit-clause-fits c = idle_pass c.args.self.now _ c.no_group-in-Uninit.result c.is_sound.ensures c.no_group-in-Uninit.ensures
