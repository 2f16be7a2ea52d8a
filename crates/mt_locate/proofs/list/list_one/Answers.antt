use Rattle.std.proofs.Common.{sym, ◌∙◌}
use Rattle.mt_locate.proofs.Listing.{Lists-left_out, Lists-taken, Lists-cut, Lists-err}
use Rattle.mt_locate.proofs.list.list_one.Goals as goal

pub returns-then-not-is_explained-clause-lists : goal.returns-then-not-is_explained-clause-lists
returns-then-not-is_explained-clause-lists g c =
    let probe = c.args.syndrome.now.probe.now in
    let misses = c.args.syndrome.now.misses.now in
    Lists-left_out probe misses c.args.fault _ _ _ (sym c.is_explained.ensures.explained ∙ c.if-not-is_explained.true)

pub returns-in_err-write-clause-lists : goal.returns-in_err-write-clause-lists
returns-in_err-write-clause-lists g c =
    let probe = c.args.syndrome.now.probe.now in
    let misses = c.args.syndrome.now.misses.now in
    Lists-err probe misses _ _ c.in_err-write.field-0.0 c.from_residual.result c.from_residual.ensures.0
    (Lists-cut probe misses c.args.fault _ _ _ _ _ _ c.in_err-write.field-0.0 (sym c.is_explained.ensures.explained ∙ c.if-not-is_explained.false)
    c.in_err-write.ensures.err c.in_err-write.ensures.cause)

pub returns-clause-lists : goal.returns-clause-lists
returns-clause-lists g c =
    let probe = c.args.syndrome.now.probe.now in
    let misses = c.args.syndrome.now.misses.now in
    Lists-taken probe misses c.args.fault _ _ _ _ _ _ c.in_ok-write.field-0 (sym c.is_explained.ensures.explained ∙ c.if-not-is_explained.false)
    c.in_ok-write.ensures.ok c.in_ok-write.ensures.cause
