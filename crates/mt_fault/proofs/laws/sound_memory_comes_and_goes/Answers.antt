use Rattle.mt_fault.proofs.Steps.{sound_fresh, sound_injected, sound_healed}
use Rattle.mt_fault.proofs.laws.sound_memory_comes_and_goes.Goals as goal

pub returns : goal.returns
returns c = record { fresh = sound_fresh; injected = sound_injected; healed = sound_healed }
