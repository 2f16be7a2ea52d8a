use Rattle.mt_ram.proofs.AtSlices.{tick_tries_slices, full_tries_slices, partial_tries_slices}
use Rattle.mt_ram.proofs.laws.attempts_are_at_slices.Goals as goal

pub returns-clause-tick : goal.returns-clause-tick
returns-clause-tick c = tick_tries_slices

pub returns-clause-full : goal.returns-clause-full
returns-clause-full c = full_tries_slices

pub returns-clause-partial : goal.returns-clause-partial
returns-clause-partial c = partial_tries_slices
