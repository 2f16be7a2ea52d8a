use Rattle.mt_text.proofs.Converse.{tokens_spell}
use Rattle.mt_text.proofs.laws.tokens_of_a_line_spell_it.Goals as goal

pub returns : goal.returns
returns c = tokens_spell
