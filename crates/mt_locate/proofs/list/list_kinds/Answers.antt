use Rattle.std.proofs.Common.{◌≤◌, ℕ, List, get_or, ap, arith}
use Rattle.mt_locate.specs.declared.kinds.Kind.{Kind}
use Rattle.mt_locate.specs.declared.kinds.Kind.TheVariants as kind
use Rattle.mt_locate.specs.declared.kinds.OfBit.TheVariants.{StuckAt}
use Rattle.mt_locate.specs.Listed.{kinds, of_kind, faults_of}
use Rattle.mt_locate.proofs.Listing.{Done-none, Done-more, Lists-broken, Lists-whole, Lists-err}
use Rattle.mt_locate.proofs.list.list_kinds.Goals as goal

pub loop-kind-init : goal.loop-kind-init
loop-kind-init g c = record { scratch = c.requires.scratch; done = Done-none c.args.syndrome.now.probe.now c.args.syndrome.now.misses.now _ _ _; few = omega arith }

pub returns-in_err-found-clause-lists : goal.returns-in_err-found-clause-lists
unfolding faults_of
returns-in_err-found-clause-lists g c =
    let probe = c.args.syndrome.now.probe.now in
    let misses = c.args.syndrome.now.misses.now in
    let i : ℕ = c.loop-kind.kind-index in
    Lists-err probe misses _ _ c.in_err-found.field-0.0 c.from_residual.result c.from_residual.ensures.0
    (Lists-broken (of_kind probe.width probe.first probe.n) kinds i (get_or c.kinds.result i (kind.OfBit StuckAt)) (kind.OfBit StuckAt) probe misses _ _ _ _ _ _ _ _ _ c.loop-kind.found c.in_err-found.field-0.0
    (omega (arith, c.loop-kind-test.true)) (ap (λ (l : List Kind). get_or l i (kind.OfBit StuckAt)) c.kinds.ensures)
    c.loop-kind.invariant.done c.in_err-found.ensures.lists)

pub loop-kind-preserved : goal.loop-kind-preserved
loop-kind-preserved g c =
    let probe = c.args.syndrome.now.probe.now in
    let misses = c.args.syndrome.now.misses.now in
    let i : ℕ = c.loop-kind.kind-index in
    let few : c.in_ok-found.field-0 ≤ 32768 = c.in_ok-found.ensures.few in
    record {
      scratch = c.list_kind.ensures.after;
      done = Done-more (of_kind probe.width probe.first probe.n) kinds i (get_or c.kinds.result i (kind.OfBit StuckAt)) (kind.OfBit StuckAt) probe misses _ _ _ _ _ _ _ _ _ c.loop-kind.found c.in_ok-found.field-0
          (omega (arith, c.loop-kind-test.true)) (ap (λ (l : List Kind). get_or l i (kind.OfBit StuckAt)) c.kinds.ensures)
          c.loop-kind.invariant.done c.in_ok-found.ensures.lists;
      few = let so_far = c.loop-kind.invariant.few in omega (arith, so_far, few);
    }

pub returns-clause-lists : goal.returns-clause-lists
unfolding faults_of
returns-clause-lists g c =
    let probe = c.args.syndrome.now.probe.now in
    let misses = c.args.syndrome.now.misses.now in
    Lists-whole (of_kind probe.width probe.first probe.n) kinds c.loop-kind.kind-index probe misses _ c.loop-kind.found (omega (arith, c.loop-kind-test.false)) c.loop-kind.invariant.done
