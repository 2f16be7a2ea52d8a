use Rattle.mt_march.proofs.Canonicals.{canonical_spells, spells_one}
use Rattle.mt_march.proofs.Spaced.{spaces_follow_semicolons}
use Rattle.mt_march.proofs.laws.canonical_spells.Goals as goal

pub returns-clause-spells : goal.returns-clause-spells
returns-clause-spells c = canonical_spells

pub returns-clause-spaces : goal.returns-clause-spaces
returns-clause-spaces c = spaces_follow_semicolons

pub returns-clause-one : goal.returns-clause-one
returns-clause-one c = spells_one
