use Rattle.mt_text.proofs.RoundTrip.{canonical_spells}
use Rattle.mt_text.proofs.laws.canonical_lines_spell_themselves.Goals as goal

pub returns : goal.returns
returns c = canonical_spells
