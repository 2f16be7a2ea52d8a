use Rattle.std.proofs.Common.{refl}
use Rattle.mt_conf.proofs.march.march_of.Goals as goal

pub returns-in-Ok : goal.returns-in-Ok
returns-in-Ok c = rw (← c.as_bytes.ensures.value, ← c.in-Ok.ensures.value) refl
