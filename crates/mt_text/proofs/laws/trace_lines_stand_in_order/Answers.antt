use Rattle.mt_text.proofs.TraceLemmas.{no_entries, one_entry, more_entries}
use Rattle.mt_text.proofs.laws.trace_lines_stand_in_order.Goals as goal

pub returns-clause-none : goal.returns-clause-none
returns-clause-none c = no_entries

pub returns-clause-one : goal.returns-clause-one
returns-clause-one c = one_entry

pub returns-clause-more : goal.returns-clause-more
returns-clause-more c = more_entries
