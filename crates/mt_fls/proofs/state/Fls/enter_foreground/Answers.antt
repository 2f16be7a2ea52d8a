use Rattle.mt_fls.proofs.Walks.{idle_block}
use Rattle.mt_fls.proofs.state.Fls.enter_foreground.Goals as goal

pub returns-in-Aborted-clause-fits : goal.returns-in-Aborted-clause-fits
returns-in-Aborted-clause-fits c = idle_block c.args.self.now c.args.block _ c.state-state.result c.no_block.result c.is_sound.ensures c.no_block.ensures

pub returns-in-Uninit-clause-fits : goal.returns-in-Uninit-clause-fits
returns-in-Uninit-clause-fits c = idle_block c.args.self.now c.args.block _ c.state-state.result c.no_block-in-Uninit.result c.is_sound.ensures c.no_block-in-Uninit.ensures
