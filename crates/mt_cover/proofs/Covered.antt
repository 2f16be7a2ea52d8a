-- What is caught on the fault's cells alone, in each order, is caught in each slice.
use Rattle.std.proofs.Common.{subst, ℕ, ◌≡◌, ◌≢◌, ◌+◌, ◌-◌, ◌<◌, Bool, true, List, [], ◌∷◌, ap, ◌∙◌, arith, sym, inl, inr}
use Rattle.std.specs.List.{flat_map}
use Rattle.std.proofs.lemmas.Bool.{and_parts, cases_order}
use Rattle.mt_word.specs.declared.Width.{Width}
use Rattle.mt_word.specs.Word.{width_bits, Fits, has_bit}
use Rattle.mt_fault.specs.declared.fault.Spot.{Spot}
use Rattle.mt_fault.specs.declared.fault.Fault.{Fault}
use Rattle.mt_fault.specs.History.{History}
use Rattle.mt_fault.specs.Placement.{IsWithin}
use Rattle.mt_plan.specs.declared.algorithm.Step.{Step}
use Rattle.mt_plan.specs.Lists.{cells}
use Rattle.mt_cover.specs.Coverage.{Catches, HasOneWord}
use Rattle.mt_decoder.specs.BitModel.{Rule, part, project, IsCaughtOn, IsModel}
use Rattle.mt_cover.proofs.Below.{Laws, HasSpots}
use Rattle.mt_cover.proofs.Link.{on_all_cells}
use Rattle.mt_cover.proofs.Cells.{one_cell, rising, falling}
use Rattle.mt_cover.proofs.Finite.{always_at, always_alike_at, is_caught_in_both, is_caught_alike_in_both}

-- what is caught by the steps on the fault's cells is caught by those on all cells
abbrev pub Projects : (List ℕ → List Step) → Type 0
Projects on = (r : Rule) (a v : ℕ) (js : List ℕ) (ba bv : Bool) → IsCaughtOn r ba bv (on (flat_map (part a v) js)) → IsCaughtOn r ba bv (project a v (on js))

-- A slice under test, whose background words fit.
pub record Slice : Type 0 where
  pub width : Width
  pub first : ℕ
  pub n : ℕ
  pub back : ℕ → ℕ
  pub fits : (cell : ℕ) → cell < n → Fits width (back cell)

abbrev pub IsCaught : (List ℕ → List Step) → Slice → Fault → Type 0
IsCaught on s f = Catches s.width s.first s.back (on (cells s.n)) f

-- A bit of a word of the slice.
pub record IsBit (s : Slice) (spot : Spot) : Type 0 where
  pub within : IsWithin s.first s.n spot.word
  pub bit : spot.bit < width_bits s.width

-- A fault whose spots lie in the slice, with the rule by which it goes.
pub record IsRuled (s : Slice) (f : Fault) (r : Rule) (agg vic : Spot) : Type 0 where
  pub agg_bit : List ℕ → History → Bool
  pub vic_bit : List ℕ → History → Bool
  pub model : (words : List ℕ) → IsModel f words r agg vic (agg_bit words) (vic_bit words)
  pub spots : HasSpots f agg.word vic.word
  pub agg_in : IsBit s agg
  pub vic_in : IsBit s vic

module _ (laws : Laws) (on : List ℕ → List Step) (s : Slice) where
  -- caught on the cells of the fault, with their backgrounds
  abbrev CaughtThere : Rule → Spot → Spot → Type 0
  CaughtThere r agg vic =
      (a v : ℕ) → s.first + a ≡ agg.word → s.first + v ≡ vic.word → a < s.n → v < s.n
      → IsCaughtOn r (has_bit (s.back a) agg.bit) (has_bit (s.back v) vic.bit) (project a v (on (cells s.n)))

  pub covered : (f : Fault) (r : Rule) (agg vic : Spot) → IsRuled s f r agg vic → CaughtThere r agg vic → IsCaught on s f
  covered f r agg vic ruled there words earlier =
      let v : ℕ = vic.word - s.first in
      let a : ℕ = agg.word - s.first in
      let at_v : s.first + v ≡ vic.word = omega (arith, ruled.vic_in.within.from) in
      let at_a : s.first + a ≡ agg.word = omega (arith, ruled.agg_in.within.from) in
      let lt_v : v < s.n = omega (arith, ruled.vic_in.within.from, ruled.vic_in.within.below) in
      let lt_a : a < s.n = omega (arith, ruled.agg_in.within.from, ruled.agg_in.within.below) in
      on_all_cells laws s.width s.first s.back f words r agg vic (ruled.agg_bit words) (ruled.vic_bit words) a v
      (ruled.model words) ruled.spots at_a at_v (s.fits a lt_a) (s.fits v lt_v) ruled.agg_in.bit ruled.vic_in.bit (on (cells s.n)) earlier
      (there a v at_a at_v lt_a lt_v)

  -- a fault of one spot, where it is caught on the bit of its background
  pub covered_on_bit : Projects on → (f : Fault) (r : Rule) (vic : Spot) (b : Bool) → IsCaughtOn r b b (on (1 ∷ []))
      → ((v : ℕ) → s.first + v ≡ vic.word → has_bit (s.back v) vic.bit ≡ b) → IsRuled s f r vic vic → IsCaught on s f
  covered_on_bit p f r vic b h bit ruled =
      covered f r vic vic ruled (λ a v at_a at_v lt_a lt_v.
      let same : a ≡ v = omega arith in
      subst (λ (x : ℕ). IsCaughtOn r (has_bit (s.back x) vic.bit) (has_bit (s.back v) vic.bit) (project x v (on (cells s.n)))) (sym same)
      (subst (λ (x : Bool). IsCaughtOn r x x (project v v (on (cells s.n)))) (sym (bit v at_v))
      (p r v v (cells s.n) b b (subst (λ (ds : List ℕ). IsCaughtOn r b b (on ds)) (sym (one_cell laws v s.n lt_v)) h))))

  -- a fault of one spot
  pub covered_one : Projects on → (f : Fault) (r : Rule) (vic : Spot) → ((ba bv : Bool) → IsCaughtOn r ba bv (on (1 ∷ []))) → IsRuled s f r vic vic → IsCaught on s f
  covered_one p f r vic h ruled =
      let b : Bool = has_bit (s.back (vic.word - s.first)) vic.bit in
      covered_on_bit p f r vic b (h b b) (λ v at. let e : v ≡ vic.word - s.first = omega arith in ap (λ (x : ℕ). has_bit (s.back x) vic.bit) e) ruled

  -- a property of the fault's cells holds where it does in both orders
  in_both : (P : List ℕ → Type 0) (a v n : ℕ) → P (0 ∷ 1 ∷ []) → P (1 ∷ 0 ∷ []) → a ≢ v → a < n → v < n → P (flat_map (part a v) (cells n))
  in_both P a v n up down ne lt_a lt_v =
      elim (cases_order a v) [
        | inl same ↦ absurd (ne same)
        | inr other ↦ elim other [
          | inl l ↦ subst P (sym (rising laws a v n l lt_v ne)) up
          | inr l ↦ subst P (sym (falling laws a v n l lt_a ne)) down
        ]
      ]

  -- a fault of two spots
  pub covered_two : Projects on → (f : Fault) (r : Rule) (agg vic : Spot) → is_caught_in_both on r ≡ true → agg.word ≢ vic.word → IsRuled s f r agg vic → IsCaught on s f
  covered_two p f r agg vic h ne ruled =
      covered f r agg vic ruled (λ a v at_a at_v lt_a lt_v.
      let ba : Bool = has_bit (s.back a) agg.bit in
      let bv : Bool = has_bit (s.back v) vic.bit in
      p r a v (cells s.n) ba bv
      (in_both (λ ds. IsCaughtOn r ba bv (on ds)) a v s.n
      (always_at r (on (0 ∷ 1 ∷ [])) (and_parts _ _ h).0 ba bv) (always_at r (on (1 ∷ 0 ∷ [])) (and_parts _ _ h).1 ba bv)
      (λ same. ne (sym at_a ∙ ap (λ (x : ℕ). s.first + x) same ∙ at_v)) lt_a lt_v))

  -- a fault of two words that is looked at in one bit of both, where all cells have one background word
  pub covered_alike : Projects on → (f : Fault) (r : Rule) (agg vic : Spot) → is_caught_alike_in_both on r ≡ true → agg.word ≢ vic.word → agg.bit ≡ vic.bit
      → HasOneWord s.back s.n → IsRuled s f r agg vic → IsCaught on s f
  covered_alike p f r agg vic h ne same_bit one ruled =
      covered f r agg vic ruled (λ a v at_a at_v lt_a lt_v.
      let ba : Bool = has_bit (s.back a) agg.bit in
      let bv : Bool = has_bit (s.back v) vic.bit in
      let same : ba ≡ bv = ap (λ (x : ℕ). has_bit x agg.bit) (one a v lt_a lt_v) ∙ ap (λ (i : ℕ). has_bit (s.back v) i) same_bit in
      p r a v (cells s.n) ba bv
      (in_both (λ ds. IsCaughtOn r ba bv (on ds)) a v s.n
      (subst (λ (x : Bool). IsCaughtOn r x bv (on (0 ∷ 1 ∷ []))) (sym same) (always_alike_at r (on (0 ∷ 1 ∷ [])) (and_parts _ _ h).0 bv))
      (subst (λ (x : Bool). IsCaughtOn r x bv (on (1 ∷ 0 ∷ []))) (sym same) (always_alike_at r (on (1 ∷ 0 ∷ [])) (and_parts _ _ h).1 bv))
      (λ e. ne (sym at_a ∙ ap (λ (x : ℕ). s.first + x) e ∙ at_v)) lt_a lt_v))
