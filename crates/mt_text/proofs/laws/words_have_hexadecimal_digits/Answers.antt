use Rattle.mt_text.proofs.SpellingLaws.{word_spelled, word_from_digits, either_case}
use Rattle.mt_text.proofs.Values.{word_of_text}
use Rattle.mt_text.proofs.laws.words_have_hexadecimal_digits.Goals as goal

pub returns-clause-spelled : goal.returns-clause-spelled
returns-clause-spelled c = word_spelled

pub returns-clause-each : goal.returns-clause-each
returns-clause-each c = word_from_digits

pub returns-clause-either_case : goal.returns-clause-either_case
returns-clause-either_case c = either_case

pub returns-clause-written : goal.returns-clause-written
returns-clause-written c = word_of_text
