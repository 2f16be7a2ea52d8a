use Rattle.mt_port.proofs.Operations.{erased}
use Rattle.mt_port.proofs.laws.flash_begins_erased.Goals as goal

pub returns : goal.returns
returns c = erased
