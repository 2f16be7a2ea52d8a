use Rattle.mt_gen.proofs.ScriptLemmas.{lines_are_of_forms}
use Rattle.mt_gen.proofs.laws.lines_are_of_forms.Goals as goal

pub returns : goal.returns
returns c = lines_are_of_forms
