use Rattle.mt_text.proofs.Parts.{spelled_is_accepted}
use Rattle.mt_text.proofs.laws.spelled_lines_are_accepted.Goals as goal

pub returns : goal.returns
returns c = spelled_is_accepted
