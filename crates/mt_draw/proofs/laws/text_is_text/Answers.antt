use Rattle.mt_draw.proofs.Entities.{no_markup, kept}
use Rattle.mt_draw.proofs.laws.text_is_text.Goals as goal

pub returns-clause-no_markup : goal.returns-clause-no_markup
returns-clause-no_markup c = no_markup

pub returns-clause-kept : goal.returns-clause-kept
returns-clause-kept c = kept
