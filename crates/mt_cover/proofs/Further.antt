-- What is caught beyond the table.
use Rattle.std.proofs.Common.{ℕ, ◌≡◌, ◌+◌, ◌<◌, Bool, true, false, List, [], ◌∷◌, ◌++◌, map, refl, ap, sym, ◌∙◌, subst, inl, inr, arith}
use mathlib.Core.Path.{ap₂}
use Rattle.std.specs.List.{flat_map}
use Rattle.mt_word.specs.Word.{has_bit}
use Rattle.mt_fault.specs.declared.fault.Fault.{Fault}
use Rattle.mt_fault.specs.declared.fault.Fault.TheVariants.{StuckAt, CannotRise, CannotFall, NoCell, Also, Instead}
use Rattle.mt_fault.specs.declared.fault.Spot.{Spot}
use Rattle.mt_fault.specs.Placement.{IsWellPlaced, IsInside, IsSpot}
use Rattle.mt_march.specs.declared.march.Order.{Order}
use Rattle.mt_march.specs.declared.march.Order.TheVariants.{Up, Down, Either}
use Rattle.mt_march.specs.declared.march.Element.{Element}
use Rattle.mt_march.specs.Known.{march_c_minus, mats_plus}
use Rattle.mt_plan.specs.declared.algorithm.Step.{Step}
use Rattle.mt_plan.specs.declared.algorithm.Algorithm.TheVariants.{Checkerboard, March as Marches, WalkPath, Galpat, TransparentGalpat}
use Rattle.mt_plan.specs.Lists.{cells, in_order, ops_on, march_on, walk_on, galpat_on}
use Rattle.mt_plan.specs.Plan.{steps_of}
use Rattle.mt_cover.specs.Coverage.{class_of}
use Rattle.mt_cover.specs.Further.{settled, RunsAs, IsMatsTabled, kept_at, FurtherCoverage, MatsCatchesOneDirection}
use Rattle.mt_cover.proofs.Below.{Laws}
use Rattle.mt_decoder.specs.BitModel.{stuck, no_rise, no_fall, shared, doubled}
use Rattle.mt_cover.proofs.Models.{spot}
use Rattle.mt_cover.proofs.Finite.{always_at, caught_at, walk-holds, galpat-holds, mats, mats-stuck, mats-rise, mats-fall, mats-moved, mats-wired}
use Rattle.mt_cover.proofs.Covered.{Slice, IsCaught, covered_one, covered_on_bit, covered_alike}
use Rattle.mt_cover.proofs.Table.{CaughtIn, marches, walks, galpats, state_caught, march_c_all}
use Rattle.mt_cover.proofs.Ruled.{stuck_ruled, none_ruled, also_ruled, instead_ruled, rise_ruled, fall_ruled}

-- an order and the one that runs as it does
same_order : (o : Order) (js : List ℕ) → in_order (settled o) js ≡ in_order o js
same_order Up js = refl
same_order Down js = refl
same_order Either js = refl

settled_march : (m : List Element) (js : List ℕ) → march_on js (map (λ (e : Element). record e { order = settled e.order }) m) ≡ march_on js m
settled_march [] js = refl
settled_march (e ∷ m) js = ap₂ (λ (x y : List Step). x ++ y) (ap (flat_map (ops_on e.ops.items)) (same_order e.order js)) (settled_march m js)

-- marches that run as one make the same steps
same_steps : (m k : List Element) → RunsAs m k → (js : List ℕ) → march_on js m ≡ march_on js k
same_steps m k same js = sym (settled_march m js) ∙ ap (march_on js) same ∙ settled_march k js

module _ (laws : Laws) where
  mats_caught : (s : Slice) (size : ℕ) (f : Fault) → IsMatsTabled (class_of f) → IsWellPlaced s.width size f → IsInside f s.first s.n → CaughtIn mats s f
  mats_caught s size (StuckAt vic b) t w i one =
      covered_one laws mats s (marches laws mats_plus) (StuckAt vic b) (stuck b) vic (always_at (stuck b) (mats (1 ∷ [])) (mats-stuck b)) (stuck_ruled laws s size vic b w i)
  mats_caught s size (NoCell addr seen) t w i one =
      covered_one laws mats s (marches laws mats_plus) (NoCell addr seen) (stuck (has_bit seen 0)) (spot addr)
      (always_at (stuck (has_bit seen 0)) (mats (1 ∷ [])) (mats-stuck (has_bit seen 0))) (none_ruled laws s size addr seen i)
  mats_caught s size (Also addr other wired) t w i one =
      covered_alike laws mats s (marches laws mats_plus) (Also addr other wired) (doubled wired) (spot other) (spot addr) (mats-wired wired) (λ e. w.apart (sym e)) refl (one refl) (also_ruled laws s size addr other wired w i)
  mats_caught s size (Instead addr other) t w i one =
      covered_alike laws mats s (marches laws mats_plus) (Instead addr other) shared (spot other) (spot addr) mats-moved (λ e. w.apart (sym e)) refl (one refl) (instead_ruled laws s size addr other w i)
  mats_caught s size f t w i one = elim t [ inl e ↦ absurd cc | inr e ↦ absurd cc ]

  pub further : FurtherCoverage
  unfolding steps_of
  further Checkerboard f t width size first n back w i fits one = absurd t
  further (Marches march) f t width size first n back w i fits one =
      let s : Slice = record { width = width; first = first; n = n; back = back; fits = fits } in
      elim t [
        | inl same ↦ subst (λ (l : List Step). IsCaught (λ js. l) s f) (sym (same_steps march.elements.items march_c_minus same (cells n))) (march_c_all laws s size f w i one)
        | inr mats_like ↦ subst (λ (l : List Step). IsCaught (λ js. l) s f) (sym (same_steps march.elements.items mats_plus mats_like.0 (cells n))) (mats_caught s size f mats_like.1 w i one)
      ]
  further WalkPath f t width size first n back w i fits one = state_caught laws (record { width = width; first = first; n = n; back = back; fits = fits }) size walk_on walks walk-holds f t w i
  further Galpat f t width size first n back w i fits one = state_caught laws (record { width = width; first = first; n = n; back = back; fits = fits }) size galpat_on galpats galpat-holds f t w i
  further TransparentGalpat f t width size first n back w i fits one = state_caught laws (record { width = width; first = first; n = n; back = back; fits = fits }) size galpat_on galpats galpat-holds f t w i

  -- one fault of a bit that MATS+ catches on a background bit
  kept_caught : (s : Slice) (size cell : ℕ) (vic : Spot) (b : Bool) → IsSpot s.width size vic → s.first + cell ≡ vic.word → cell < s.n → has_bit (s.back cell) vic.bit ≡ b → IsCaught mats s (kept_at b vic)
  kept_caught s size cell vic false w at lt bit =
      covered_on_bit laws mats s (marches laws mats_plus) (CannotRise vic) no_rise vic false (caught_at no_rise (mats (1 ∷ [])) false false mats-rise)
      (λ v at_v. let e : v ≡ cell = omega arith in ap (λ (x : ℕ). has_bit (s.back x) vic.bit) e ∙ bit)
      (rise_ruled laws s size vic (record { inside = (w, tt); apart = tt }) (record { from = omega arith; below = omega arith }, tt))
  kept_caught s size cell vic true w at lt bit =
      covered_on_bit laws mats s (marches laws mats_plus) (CannotFall vic) no_fall vic true (caught_at no_fall (mats (1 ∷ [])) true true mats-fall)
      (λ v at_v. let e : v ≡ cell = omega arith in ap (λ (x : ℕ). has_bit (s.back x) vic.bit) e ∙ bit)
      (fall_ruled laws s size vic (record { inside = (w, tt); apart = tt }) (record { from = omega arith; below = omega arith }, tt))

  pub one_direction : MatsCatchesOneDirection
  one_direction march width size first n back cell vic same w at lt fits =
      let s : Slice = record { width = width; first = first; n = n; back = back; fits = fits } in
      let b : Bool = has_bit (back cell) vic.bit in
      subst (λ (l : List Step). IsCaught (λ js. l) s (kept_at b vic)) (sym (same_steps march mats_plus same (cells n))) (kept_caught s size cell vic b w at lt refl)
