-- The whole table.
use Rattle.std.proofs.Common.{ℕ, ◌≡◌, ◌<◌, Bool, true, false, List, [], ◌∷◌, ◌++◌, map, refl, ap, sym, ◌∙◌, subst, ⊎_elim, inl, inr, arith}
use mathlib.Core.Path.{ap₂}
use mathlib.Core.List.{map-append}
use Rattle.std.specs.Prelude.{not}
use Rattle.std.specs.List.{flat_map}
use Rattle.std.proofs.lemmas.List.Concat.{flat_map-append}
use Rattle.std.proofs.lemmas.Bool.{cases_eq}
use Rattle.mt_word.specs.Word.{has_bit}
use Rattle.mt_fault.specs.declared.fault.Fault.{Fault}
use Rattle.mt_fault.specs.declared.fault.Fault.TheVariants.{StuckAt, CannotRise, CannotFall, Invert, Force, State, NoCell, Also, Instead}
use Rattle.mt_fault.specs.Placement.{IsWellPlaced, IsInside}
use Rattle.mt_march.specs.declared.march.Element.{Element}
use Rattle.mt_march.specs.Known.{march_c_minus}
use Rattle.mt_march.specs.Accepted.{IsAcceptedMarch}
use Rattle.mt_plan.specs.declared.algorithm.Act.{Act}
use Rattle.mt_plan.specs.declared.algorithm.Step.{Step}
use Rattle.mt_plan.specs.declared.algorithm.Algorithm.TheVariants.{Checkerboard, March as Marches, WalkPath, Galpat, TransparentGalpat}
use Rattle.mt_fault.specs.Faulty.{is_odd}
use Rattle.mt_plan.specs.Lists.{cells, step, write_act, read_act, march_on, walk_on, galpat_on, checkerboard_on}
use Rattle.mt_plan.specs.Plan.{steps_of}
use Rattle.mt_cover.specs.declared.class.Class.TheVariants as classes
use Rattle.mt_cover.specs.Coverage.{class_of, IsWalkTabled, HasOneWord, Coverage}
use Rattle.mt_decoder.specs.BitModel.{stuck, no_rise, no_fall, inverts, forces, holds, shared, doubled, part, project, IsCaughtOn}
use Rattle.mt_cover.proofs.Below.{Laws}
use Rattle.mt_cover.proofs.Models.{spot}
use Rattle.mt_cover.proofs.Cells.{one_cell, off, project-march}
use Rattle.mt_cover.proofs.Finite.{Facts, always, always_at, is_caught_in_both, march_c, march_c-facts, walk-facts, galpat-facts, march_c-forces, march_c-holds}
use Rattle.mt_cover.proofs.Covered.{Projects, Slice, IsCaught, covered, covered_one, covered_two, covered_alike}
use Rattle.mt_cover.proofs.Ruled.{stuck_ruled, rise_ruled, fall_ruled, none_ruled, invert_ruled, force_ruled, state_ruled, also_ruled, instead_ruled}
use Rattle.mt_cover.proofs.Stuck.{march_stuck}
use Rattle.mt_cover.proofs.Walks.{more-caught, walk-reads, galpat-reads}

pub walks : Projects walk_on
walks r a v js ba bv h x y = more-caught r ba bv x y (walk-reads a v js) (h x y)

pub galpats : Projects galpat_on
galpats r a v js ba bv h x y = more-caught r ba bv x y (galpat-reads a v js) (h x y)

-- an algorithm catches the fault in the slice, a decoder fault where the slice has one background word
abbrev pub CaughtIn : (List ℕ → List Step) → Slice → Fault → Type 0
CaughtIn on s f = (class_of f ≡ classes.Decoder → HasOneWord s.back s.n) → IsCaught on s f

module _ (laws : Laws) where
  pub marches : (m : List Element) → Projects (λ js. march_on js m)
  marches m r a v js ba bv h x y = rw (project-march laws a v js m) (h x y)

  module _ (s : Slice) (size : ℕ) where
    -- what walk path, Galpat and March C- catch alike
    pub alike : (on : List ℕ → List Step) → Projects on → Facts on → (f : Fault) → IsWalkTabled (class_of f) → IsWellPlaced s.width size f → IsInside f s.first s.n → CaughtIn on s f
    alike on p facts (StuckAt vic b) t w i one = covered_one laws on s p (StuckAt vic b) (stuck b) vic (always_at (stuck b) (on (1 ∷ [])) (facts.stuck_at b)) (stuck_ruled laws s size vic b w i)
    alike on p facts (CannotRise vic) t w i one = covered_one laws on s p (CannotRise vic) no_rise vic (always_at no_rise (on (1 ∷ [])) facts.rise) (rise_ruled laws s size vic w i)
    alike on p facts (CannotFall vic) t w i one = covered_one laws on s p (CannotFall vic) no_fall vic (always_at no_fall (on (1 ∷ [])) facts.fall) (fall_ruled laws s size vic w i)
    alike on p facts (Invert agg d vic) t w i one = covered_two laws on s p (Invert agg d vic) (inverts d) agg vic (facts.invert d) w.apart (invert_ruled laws s size agg vic d w i)
    alike on p facts (Force agg d vic b) t w i one = absurd t
    alike on p facts (State agg d vic b) t w i one = absurd t
    alike on p facts (NoCell addr seen) t w i one =
        covered_one laws on s p (NoCell addr seen) (stuck (has_bit seen 0)) (spot addr) (always_at (stuck (has_bit seen 0)) (on (1 ∷ [])) (facts.stuck_at (has_bit seen 0))) (none_ruled laws s size addr seen i)
    alike on p facts (Also addr other wired) t w i one =
        covered_alike laws on s p (Also addr other wired) (doubled wired) (spot other) (spot addr) (facts.wired wired) (λ e. w.apart (sym e)) refl (one refl) (also_ruled laws s size addr other wired w i)
    alike on p facts (Instead addr other) t w i one =
        covered_alike laws on s p (Instead addr other) shared (spot other) (spot addr) facts.moved (λ e. w.apart (sym e)) refl (one refl) (instead_ruled laws s size addr other w i)

    -- state coupling, where an algorithm catches it on two cells
    pub state_caught : (on : List ℕ → List Step) → Projects on → ((d b : Bool) → is_caught_in_both on (holds d b) ≡ true) → (f : Fault) → class_of f ≡ classes.State
        → IsWellPlaced s.width size f → IsInside f s.first s.n → IsCaught on s f
    state_caught on p facts (State agg d vic b) c w i = covered_two laws on s p (State agg d vic b) (holds d b) agg vic (facts d b) w.apart (state_ruled laws s size agg vic d b w i)
    state_caught on p facts f c w i = absurd cc

    -- March C- catches all classes
    pub march_c_all : (f : Fault) → IsWellPlaced s.width size f → IsInside f s.first s.n → CaughtIn march_c s f
    march_c_all (Force agg d vic b) w i one = covered_two laws march_c s (marches march_c_minus) (Force agg d vic b) (forces d b) agg vic (march_c-forces d b) w.apart (force_ruled laws s size agg vic d b w i)
    march_c_all (State agg d vic b) w i one = state_caught march_c (marches march_c_minus) march_c-holds (State agg d vic b) refl w i
    march_c_all (StuckAt vic b) w i one = alike march_c (marches march_c_minus) march_c-facts (StuckAt vic b) tt w i one
    march_c_all (CannotRise vic) w i one = alike march_c (marches march_c_minus) march_c-facts (CannotRise vic) tt w i one
    march_c_all (CannotFall vic) w i one = alike march_c (marches march_c_minus) march_c-facts (CannotFall vic) tt w i one
    march_c_all (Invert agg d vic) w i one = alike march_c (marches march_c_minus) march_c-facts (Invert agg d vic) tt w i one
    march_c_all (NoCell addr seen) w i one = alike march_c (marches march_c_minus) march_c-facts (NoCell addr seen) tt w i one
    march_c_all (Also addr other wired) w i one = alike march_c (marches march_c_minus) march_c-facts (Also addr other wired) tt w i one
    march_c_all (Instead addr other) w i one = alike march_c (marches march_c_minus) march_c-facts (Instead addr other) tt w i one

    -- each accepted march catches stuck-at faults
    accepted_stuck : (m : List Element) → IsAcceptedMarch m → (f : Fault) → class_of f ≡ classes.StuckAt → IsWellPlaced s.width size f → IsInside f s.first s.n → IsCaught (λ js. march_on js m) s f
    accepted_stuck m is (StuckAt vic b) c w i =
        covered_one laws (λ js. march_on js m) s (marches m) (StuckAt vic b) (stuck b) vic (λ ba bv x y. march_stuck b ba bv x y m is.zeros is.ones) (stuck_ruled laws s size vic b w i)
    accepted_stuck m is f c w i = absurd cc

  -- ---- checkerboard

  one-by : (f : ℕ → Act) (v : ℕ) (js : List ℕ) → project v v (map (λ j. step j (f j)) js) ≡ map (λ d. step d (f v)) (flat_map (part v v) js)
  one-by f v [] = refl
  one-by f v (j ∷ js) =
      ⊎_elim
      (λ e. let e' : j ≡ v = e in rw e' (ap (λ (z : List Step). map (λ d. step d (f v)) (part v v v) ++ z) (one-by f v js) ∙ sym (map-append (λ d. step d (f v)) (part v v v) (flat_map (part v v) js))))
      (λ ne. let q : part v v j ≡ [] = off v v j ne ne in rw q (one-by f v js))
      (cases_eq j v)

  one-steps : (f : ℕ → Act) (v n : ℕ) → v < n → project v v (map (λ j. step j (f j)) (cells n)) ≡ step 1 (f v) ∷ []
  one-steps f v n h = one-by f v (cells n) ∙ rw (one_cell laws v n h)

  abbrev check_one : Bool → List Step
  check_one b = (step 1 (write_act b) ∷ step 1 (read_act b) ∷ step 1 (write_act (not b)) ∷ step 1 (read_act (not b)) ∷ [])

  project-check : (v n : ℕ) → v < n → project v v (checkerboard_on (cells n)) ≡ check_one (is_odd v)
  project-check v n h =
      flat_map-append _ (map (λ j. step j (write_act (is_odd j))) (cells n) ++ map (λ j. step j (read_act (is_odd j))) (cells n)) _
      ∙ ap₂ (λ (x y : List Step). x ++ y)
      (flat_map-append _ (map (λ j. step j (write_act (is_odd j))) (cells n)) _
      ∙ ap₂ (λ (x y : List Step). x ++ y) (one-steps (λ j. write_act (is_odd j)) v n h) (one-steps (λ j. read_act (is_odd j)) v n h))
      (flat_map-append _ (map (λ j. step j (write_act (not (is_odd j)))) (cells n)) _
      ∙ ap₂ (λ (x y : List Step). x ++ y) (one-steps (λ j. write_act (not (is_odd j))) v n h) (one-steps (λ j. read_act (not (is_odd j))) v n h))

  check_caught : (b c : Bool) → always (stuck b) (check_one c) ≡ true
  check_caught true true = refl
  check_caught true false = refl
  check_caught false true = refl
  check_caught false false = refl

  checks : (s : Slice) (size : ℕ) (f : Fault) → class_of f ≡ classes.StuckAt → IsWellPlaced s.width size f → IsInside f s.first s.n → IsCaught checkerboard_on s f
  checks s size (StuckAt vic b) c w i =
      covered laws checkerboard_on s (StuckAt vic b) (stuck b) vic vic (stuck_ruled laws s size vic b w i)
      (λ a v at_a at_v lt_a lt_v.
      let same : a ≡ v = omega arith in
      subst (λ (x : ℕ). IsCaughtOn (stuck b) (has_bit (s.back a) vic.bit) (has_bit (s.back v) vic.bit) (project x v (checkerboard_on (cells s.n)))) (sym same)
      (rw (project-check v s.n lt_v) (always_at (stuck b) (check_one (is_odd v)) (check_caught b (is_odd v)) (has_bit (s.back a) vic.bit) (has_bit (s.back v) vic.bit))))
  checks s size f c w i = absurd cc

  pub coverage : Coverage
  unfolding steps_of
  coverage Checkerboard f is t width size first n back w i fits one = checks (record { width = width; first = first; n = n; back = back; fits = fits }) size f t w i
  coverage (Marches march) f is t width size first n back w i fits one =
      let s : Slice = record { width = width; first = first; n = n; back = back; fits = fits } in
      elim t [
        | inl c ↦ accepted_stuck s size march.elements.items is f c w i
        | inr c ↦ subst (λ (m : List Element). IsCaught (λ js. march_on js m) s f) (sym c) (march_c_all s size f w i one)
      ]
  coverage WalkPath f is t width size first n back w i fits one = alike (record { width = width; first = first; n = n; back = back; fits = fits }) size walk_on walks walk-facts f t w i one
  coverage Galpat f is t width size first n back w i fits one = alike (record { width = width; first = first; n = n; back = back; fits = fits }) size galpat_on galpats galpat-facts f t w i one
  coverage TransparentGalpat f is t width size first n back w i fits one = alike (record { width = width; first = first; n = n; back = back; fits = fits }) size galpat_on galpats galpat-facts f t.0 w i one
