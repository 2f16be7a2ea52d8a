use Rattle.std.proofs.Common.{◌≡◌, ◌+◌, ◌<◌, ◌≤◌, ℕ, get_or, sym, ◌∙◌, arith}
use Rattle.std.specs.List.{range_with_len}
use Rattle.std.proofs.lemmas.List.FromFn.{length-range_with_len, get_or-range_with_len}
use Rattle.mt_locate.specs.Inner.Places.{places, faults_at}
use Rattle.mt_locate.proofs.Listing.{Done-none, Done-more, Lists-broken, Lists-whole, Lists-err, Lists-of, Lists-same}
use Rattle.mt_locate.proofs.Rows.{row}
use Rattle.mt_locate.proofs.list.list_kind.Goals as goal

at : (n k : ℕ) → k < n → k ≡ get_or (range_with_len 0 n) k 0
at n k less = (let e : k ≡ 0 + k = omega arith in e) ∙ sym (get_or-range_with_len 0 n k 0 less)

pub loop-k-init : goal.loop-k-init
loop-k-init g c = record { scratch = c.requires.scratch; done = Done-none c.args.syndrome.now.probe.now c.args.syndrome.now.misses.now _ _ _; few = omega arith }

pub returns-in_err-found-clause-lists : goal.returns-in_err-found-clause-lists
returns-in_err-found-clause-lists g c =
    let probe = c.args.syndrome.now.probe.now in
    let misses = c.args.syndrome.now.misses.now in
    let n : ℕ = places probe.width probe.n c.args.kind in
    let k : ℕ = c.loop-k.k in
    let below : k < n = omega (arith, c.loop-k-test.true, c.places-k-end.ensures.places) in
    Lists-err probe misses _ _ c.in_err-found.field-0.0 c.from_residual.result c.from_residual.ensures.0
    (Lists-of probe misses _ _ _ _ (sym (row probe.width probe.first probe.n c.args.kind))
    (Lists-broken (faults_at probe.width probe.first probe.n c.args.kind) (range_with_len 0 n) k k 0 probe misses _ _ _ _ _ _ _ _ _ c.loop-k.found c.in_err-found.field-0.0
    (omega (arith, length-range_with_len 0 n, below)) (at n k below)
    c.loop-k.invariant.done (Lists-same probe misses _ _ _ _ c.faults_at.ensures.faults c.in_err-found.ensures.lists)))

pub loop-k-preserved : goal.loop-k-preserved
loop-k-preserved g c =
    let probe = c.args.syndrome.now.probe.now in
    let misses = c.args.syndrome.now.misses.now in
    let n : ℕ = places probe.width probe.n c.args.kind in
    let k : ℕ = c.loop-k.k in
    let below : k < n = omega (arith, c.loop-k-test.true, c.places-k-end.ensures.places) in
    let few : c.in_ok-found.field-0 ≤ 2 = c.in_ok-found.ensures.few in
    record {
      scratch = c.list_few.ensures.after;
      done = Done-more (faults_at probe.width probe.first probe.n c.args.kind) (range_with_len 0 n) k k 0 probe misses _ _ _ _ _ _ _ _ _ c.loop-k.found c.in_ok-found.field-0
          (omega (arith, length-range_with_len 0 n, below)) (at n k below)
          c.loop-k.invariant.done (Lists-same probe misses _ _ _ _ c.faults_at.ensures.faults c.in_ok-found.ensures.lists);
      few = let so_far = c.loop-k.invariant.few in omega (arith, so_far, few);
    }

pub returns-clause-lists : goal.returns-clause-lists
returns-clause-lists g c =
    let probe = c.args.syndrome.now.probe.now in
    let misses = c.args.syndrome.now.misses.now in
    let n : ℕ = places probe.width probe.n c.args.kind in
    Lists-of probe misses _ _ _ _ (sym (row probe.width probe.first probe.n c.args.kind))
    (Lists-whole (faults_at probe.width probe.first probe.n c.args.kind) (range_with_len 0 n) c.loop-k.k probe misses _ c.loop-k.found
    (omega (arith, length-range_with_len 0 n, c.loop-k-test.false, c.places-k-end.ensures.places)) c.loop-k.invariant.done)
