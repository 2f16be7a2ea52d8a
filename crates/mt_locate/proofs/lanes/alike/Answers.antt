use Rattle.std.proofs.lemmas.Nat.{xor_lt}
use Rattle.mt_locate.proofs.LaneBits.{has_alike}
use Rattle.mt_locate.proofs.lanes.alike.Goals as goal

pub returns : goal.returns
returns c = λ l h. has_alike c.args.one c.args.other l (xor_lt 64 c.args.one c.args.other c.ranges.one.fits c.ranges.other.fits) h
