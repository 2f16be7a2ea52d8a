use Rattle.mt_ram.proofs.Sets.{accepted_spans, slices_are_sound}
use Rattle.mt_ram.proofs.laws.accepted_sets_are_sound.Goals as goal

pub returns-clause-cut : goal.returns-clause-cut
returns-clause-cut c = accepted_spans

pub returns-clause-slices : goal.returns-clause-slices
returns-clause-slices c = slices_are_sound
