use Rattle.mt_cover.proofs.Writes.{attempts_stay_sound}
use Rattle.mt_cover.proofs.laws.attempts_stay_sound.Goals as goal

pub returns : goal.returns
returns c = attempts_stay_sound c.memory_stays_sound.ensures.fits c.memory_stays_sound.ensures.sound c.memory_stays_sound.ensures.size
