use Rattle.std.proofs.Common.{sym, ◌∙◌}
use Rattle.mt_conf.proofs.Lists.{any_meet-drop}
use Rattle.mt_conf.proofs.values.any_meet.Goals as goal

pub returns-then-meets_any : goal.returns-then-meets_any
returns-then-meets_any c =
    let met = rw c.split_at.ensures.back at c.meets_any.ensures in
    let step = any_meet-drop c.args.values.now c.loop-i.i c.index-values-i.result c.span_of.result c.meets_any.result c.loop-i-test.true c.index-values-i.is c.span_of.ensures met in
    sym (sym c.loop-i.invariant ∙ step ∙ rw c.if-meets_any.true)

pub loop-i-preserved : goal.loop-i-preserved
loop-i-preserved c =
    let met = rw c.split_at.ensures.back at c.meets_any.ensures in
    let step = any_meet-drop c.args.values.now c.loop-i.i c.index-values-i.result c.span_of.result c.meets_any.result c.loop-i-test.true c.index-values-i.is c.span_of.ensures met in
    sym (step ∙ rw c.if-meets_any.false) ∙ c.loop-i.invariant
