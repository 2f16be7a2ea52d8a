use Rattle.std.proofs.Common.{[], ◌∷◌, sym, ap}
use Rattle.mt_locate.specs.Inner.Places.{faults_in}
use Rattle.mt_locate.proofs.Listing.{Done-none, Done-from, Done-then, Lists-from, Lists-fails, Lists-err, Lists-of}
use Rattle.mt_locate.proofs.list.list_few.Goals as goal

pub returns-in-None-clause-lists : goal.returns-in-None-clause-lists
returns-in-None-clause-lists g c =
    let probe = c.args.syndrome.now.probe.now in
    let misses = c.args.syndrome.now.misses.now in
    Lists-of probe misses _ _ _ _ (sym (ap faults_in c.in-None.is)) (Lists-from probe misses [] _ 0 (Done-none probe misses _ _ _))

pub returns-in_err-found-in-Two-clause-lists : goal.returns-in_err-found-in-Two-clause-lists
returns-in_err-found-in-Two-clause-lists g c =
    let probe = c.args.syndrome.now.probe.now in
    let misses = c.args.syndrome.now.misses.now in
    Lists-of probe misses _ _ _ _ (sym (ap faults_in c.in-Two.is))
    (Lists-err probe misses _ _ c.in_err-found-in-Two.field-0.0 c.from_residual.result c.from_residual.ensures.0
    (Lists-fails probe misses [] (c.in-Two.one ∷ []) (c.in-Two.other ∷ []) _ _ _ _ _ _ _ _ _ 0 c.in_err-found-in-Two.field-0.0 (Done-none probe misses _ _ _) c.in_err-found-in-Two.ensures.lists))

pub returns-in_err-more-in-Two-clause-lists : goal.returns-in_err-more-in-Two-clause-lists
returns-in_err-more-in-Two-clause-lists g c =
    let probe = c.args.syndrome.now.probe.now in
    let misses = c.args.syndrome.now.misses.now in
    Lists-of probe misses _ _ _ _ (sym (ap faults_in c.in-Two.is))
    (Lists-err probe misses _ _ c.in_err-more-in-Two.field-0.0 c.from_residual-in_err-more-in-Two.result c.from_residual-in_err-more-in-Two.ensures.0
    (Lists-fails probe misses (c.in-Two.one ∷ []) (c.in-Two.other ∷ []) [] _ _ _ _ _ _ _ _ _ c.in_ok-found-in-Two.found c.in_err-more-in-Two.field-0.0
    (Done-from probe misses (c.in-Two.one ∷ []) _ c.in_ok-found-in-Two.found c.in_ok-found-in-Two.ensures.lists) c.in_err-more-in-Two.ensures.lists))

pub returns-in_ok-more-in-Two-clause-lists : goal.returns-in_ok-more-in-Two-clause-lists
returns-in_ok-more-in-Two-clause-lists g c =
    let probe = c.args.syndrome.now.probe.now in
    let misses = c.args.syndrome.now.misses.now in
    Lists-of probe misses _ _ _ _ (sym (ap faults_in c.in-Two.is))
    (Lists-from probe misses _ _ _
    (Done-then probe misses (c.in-Two.one ∷ []) (c.in-Two.other ∷ []) _ _ _ _ _ _ _ _ _ c.in_ok-found-in-Two.found c.in_ok-more-in-Two.more
    (Done-from probe misses (c.in-Two.one ∷ []) _ c.in_ok-found-in-Two.found c.in_ok-found-in-Two.ensures.lists)
    (Done-from probe misses (c.in-Two.other ∷ []) _ c.in_ok-more-in-Two.more c.in_ok-more-in-Two.ensures.lists)))
