use Rattle.mt_text.proofs.TraceNames.{names_differ, details_differ}
use Rattle.mt_text.proofs.laws.replies_are_told_apart.Goals as goal

pub returns-clause-names : goal.returns-clause-names
returns-clause-names c = names_differ

pub returns-clause-details : goal.returns-clause-details
returns-clause-details c = details_differ
