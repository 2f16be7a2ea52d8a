use Rattle.mt_ram.specs.Event.{job_of}
use Rattle.mt_ram.proofs.laws.dropped_attempts_leave_words.Goals as goal

pub returns : goal.returns
returns c = λ may r p b sound accepted none. c.attempts_on_sound_memory.ensures.stays may b (job_of r p) p.slice sound accepted none
