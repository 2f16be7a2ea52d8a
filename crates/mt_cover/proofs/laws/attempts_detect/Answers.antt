use Rattle.mt_cover.proofs.Detection.{attempts_detect, whole_attempts_end}
use Rattle.mt_cover.proofs.laws.attempts_detect.Goals as goal

pub returns-clause-detects : goal.returns-clause-detects
returns-clause-detects c = attempts_detect c.each_tabled_fault_is_caught.ensures c.caught_faults_fail.ensures c.memory_stays_sound.ensures.fits

pub returns-clause-ends : goal.returns-clause-ends
returns-clause-ends c = whole_attempts_end
