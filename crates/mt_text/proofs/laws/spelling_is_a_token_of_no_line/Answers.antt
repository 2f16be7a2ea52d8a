use Rattle.mt_text.proofs.RuleOne.{refused_is_no_line, spelled_is_of_kinds}
use Rattle.mt_text.proofs.laws.spelling_is_a_token_of_no_line.Goals as goal

pub returns-clause-refused : goal.returns-clause-refused
returns-clause-refused c = λ shape text e b. refused_is_no_line shape _ e b

pub returns-clause-spelled : goal.returns-clause-spelled
returns-clause-spelled c = spelled_is_of_kinds
