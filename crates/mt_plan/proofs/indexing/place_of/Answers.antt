use Rattle.std.proofs.Common.{◌≡◌, ◌<◌, ◌+◌, ◌*◌, arith, sym, subst, inl, inr}
use Rattle.mt_plan.specs.declared.algorithm.Algorithm.{Algorithm}
use Rattle.mt_plan.specs.declared.algorithm.Algorithm.TheVariants.{Checkerboard, March as Marches, WalkPath, Galpat, TransparentGalpat}
use Rattle.mt_plan.specs.Plan.{step_count}
use Rattle.mt_plan.proofs.Standing.{IsPlaceOf, IsRounds, within_count, round_place_is, walk_rounds, galpat_rounds, transparent_rounds}
use Rattle.mt_plan.proofs.indexing.place_of.Goals as goal

pub checkerboard_place-requires-clause-within : goal.checkerboard_place-requires-clause-within
unfolding step_count
checkerboard_place-requires-clause-within c = within_count c.args.algorithm.now Checkerboard c.args.n c.args.i c.in-Checkerboard.is c.requires.within

pub march_place-requires-clause-within : goal.march_place-requires-clause-within
unfolding step_count
march_place-requires-clause-within c = within_count c.args.algorithm.now (Marches c.in-March.march) c.args.n c.args.i c.in-March.is c.requires.within

pub round_place-requires-clause-within : goal.round_place-requires-clause-within
unfolding step_count
round_place-requires-clause-within c =
    let h : c.args.i < 2 * (c.args.n * c.args.n) + 6 * c.args.n = within_count c.args.algorithm.now WalkPath c.args.n c.args.i c.in-WalkPath.is c.requires.within in
    omega arith

pub round_place-requires-in-Galpat-clause-within : goal.round_place-requires-in-Galpat-clause-within
unfolding step_count
round_place-requires-in-Galpat-clause-within c =
    let h : c.args.i < 4 * (c.args.n * c.args.n) + 4 * c.args.n = elim c.in-Galpat.is [
      | inl is ↦ within_count c.args.algorithm.now Galpat c.args.n c.args.i is c.requires.within
      | inr is ↦ within_count c.args.algorithm.now TransparentGalpat c.args.n c.args.i is c.requires.within
    ] in
    omega arith

walk_is : (c : goal.After-round_place) → IsPlaceOf c.args.algorithm.now c.args.n c.args.i c.round_place.result
walk_is c =
    subst (λ (a : Algorithm). IsPlaceOf a c.args.n c.args.i c.round_place.result) (sym c.in-WalkPath.is)
    (round_place_is WalkPath c.args.n (c.args.n + 2) c.args.i c.round_place.result (walk_rounds c.args.n) c.round_place.ensures.part c.round_place.ensures.row c.round_place.ensures.first c.round_place.ensures.later)

galpat_is : (c : goal.After-round_place-in-Galpat) → IsPlaceOf c.args.algorithm.now c.args.n c.args.i c.round_place-in-Galpat.result
galpat_is c =
    let made : (a : Algorithm) → IsRounds a c.args.n (2 * c.args.n + 1) → c.args.algorithm.now ≡ a → IsPlaceOf c.args.algorithm.now c.args.n c.args.i c.round_place-in-Galpat.result = λ a rounds is.
    subst (λ (x : Algorithm). IsPlaceOf x c.args.n c.args.i c.round_place-in-Galpat.result) (sym is)
    (round_place_is a c.args.n (2 * c.args.n + 1) c.args.i c.round_place-in-Galpat.result rounds c.round_place-in-Galpat.ensures.part c.round_place-in-Galpat.ensures.row c.round_place-in-Galpat.ensures.first c.round_place-in-Galpat.ensures.later) in
    elim c.in-Galpat.is [
      | inl is ↦ made Galpat (galpat_rounds c.args.n) is
      | inr is ↦ made TransparentGalpat (transparent_rounds c.args.n) is
    ]

pub returns-in-WalkPath-clause-place : goal.returns-in-WalkPath-clause-place
returns-in-WalkPath-clause-place c = (walk_is c).stands

pub returns-in-WalkPath-clause-index : goal.returns-in-WalkPath-clause-index
returns-in-WalkPath-clause-index c = (walk_is c).index

pub returns-in-Galpat-clause-place : goal.returns-in-Galpat-clause-place
returns-in-Galpat-clause-place c = (galpat_is c).stands

pub returns-in-Galpat-clause-index : goal.returns-in-Galpat-clause-index
returns-in-Galpat-clause-index c = (galpat_is c).index
