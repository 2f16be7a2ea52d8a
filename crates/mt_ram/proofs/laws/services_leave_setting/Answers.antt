use Rattle.mt_ram.specs.Kept.{services_leave_setting}
use Rattle.mt_ram.proofs.laws.services_leave_setting.Goals as goal

pub returns : goal.returns
returns c = services_leave_setting
