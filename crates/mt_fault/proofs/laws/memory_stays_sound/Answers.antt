use Rattle.mt_fault.proofs.Spans.{length-words_after}
use Rattle.mt_fault.proofs.Steps.{sound_after, read_leaves}
use Rattle.mt_fault.proofs.Forward.{answer_fits}
use Rattle.mt_fault.proofs.laws.memory_stays_sound.Goals as goal

pub returns : goal.returns
returns c = record { sound = sound_after; size = length-words_after; read = read_leaves; fits = answer_fits }
