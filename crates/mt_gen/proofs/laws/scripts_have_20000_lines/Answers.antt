use Rattle.mt_gen.proofs.ScriptLemmas.{length-script}
use Rattle.mt_gen.proofs.laws.scripts_have_20000_lines.Goals as goal

pub returns : goal.returns
returns c = length-script
