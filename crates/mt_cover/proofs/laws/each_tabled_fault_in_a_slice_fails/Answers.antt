use Rattle.mt_cover.proofs.Detection.{detection}
use Rattle.mt_cover.proofs.laws.each_tabled_fault_in_a_slice_fails.Goals as goal

pub returns : goal.returns
returns c = detection c.each_tabled_fault_is_caught.ensures c.caught_faults_fail.ensures c.memory_stays_sound.ensures.fits
