use Rattle.std.proofs.Common.{sym}
use Rattle.mt_conf.proofs.march.march_refusal.Goals as goal

pub returns-in-Ok : goal.returns-in-Ok
returns-in-Ok c = rw (← c.as_bytes.ensures.value) (sym c.in-Ok.ensures.unrefused)

pub returns-in-Err : goal.returns-in-Err
returns-in-Err c = rw (← c.as_bytes.ensures.value) (sym c.in-Err.ensures.refused)
