use Rattle.mt_verify.proofs.Whole.{line_first, lines_join, whole, joined}
use Rattle.mt_verify.proofs.laws.whole_lines.Goals as goal

pub returns-clause-first : goal.returns-clause-first
returns-clause-first c = line_first

pub returns-clause-behind : goal.returns-clause-behind
returns-clause-behind c = lines_join

pub returns-clause-whole : goal.returns-clause-whole
returns-clause-whole c = whole

pub returns-clause-joined : goal.returns-clause-joined
returns-clause-joined c = joined
