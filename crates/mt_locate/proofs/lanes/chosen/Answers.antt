use Rattle.mt_locate.proofs.LaneBits.{has_chosen}
use Rattle.mt_locate.proofs.lanes.chosen.Goals as goal

pub returns : goal.returns
returns c = λ l h. has_chosen c.args.mask c.args.one c.args.other l c.ranges.mask.fits h
