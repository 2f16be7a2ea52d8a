use Rattle.mt_plan.proofs.Spans.{spans_counted}
use Rattle.mt_plan.proofs.laws.spans_are_counted.Goals as goal

pub returns : goal.returns
returns c = spans_counted
