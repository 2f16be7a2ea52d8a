use Rattle.mt_text.proofs.Readings.{spells_from, comes_from_spells, refuses_from, comes_from_refuses}
use Rattle.mt_text.proofs.laws.reading_is_spelling.Goals as goal

pub returns-clause-ok : goal.returns-clause-ok
returns-clause-ok c = λ shape text line. (spells_from shape text line, comes_from_spells shape text line)

pub returns-clause-err : goal.returns-clause-err
returns-clause-err c = λ shape text e. (refuses_from shape text e, comes_from_refuses shape text e)
