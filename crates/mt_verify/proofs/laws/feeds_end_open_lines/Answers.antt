use Rattle.mt_verify.proofs.Whole.{open_line}
use Rattle.mt_verify.proofs.laws.feeds_end_open_lines.Goals as goal

pub returns : goal.returns
returns c = open_line
