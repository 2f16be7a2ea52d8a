use Rattle.std.proofs.Common.{refl}
use Rattle.mt_replay.proofs.laws.traces_are_of_steps.Goals as goal

pub returns : goal.returns
returns c = λ config m script. refl
