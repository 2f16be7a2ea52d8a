use Rattle.mt_locate.proofs.LaneBits.{has_differing}
use Rattle.mt_locate.proofs.lanes.or_differing.Goals as goal

pub returns : goal.returns
returns c = λ l h. has_differing c.args.mask c.args.one c.args.other l
