use Rattle.mt_gen.proofs.SummaryLemmas.{with_entry-summary_of}
use Rattle.mt_gen.proofs.laws.summaries_are_sums.Goals as goal

pub returns : goal.returns
returns c = with_entry-summary_of
