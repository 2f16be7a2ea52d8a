-- What is caught on the cells of a fault, by bits, is caught on all cells.
use Rattle.std.proofs.Common.{ℕ, ◌≡◌, ◌≢◌, ◌+◌, ◌-◌, ◌<◌, Bool, true, false, List, [], ◌∷◌, map, refl, arith, ap, sym, ◌∙◌, subst, inl, inr, Some}
use mathlib.Core.Bool.{beq}
use Rattle.std.specs.Prelude.{◌==◌, ◌&&◌, not}
use Rattle.std.proofs.lemmas.Bool.{eq-eqb, ne_eqb, or_cases, cases_eq, cases_Bool}
use Rattle.std.proofs.lemmas.Nat.Bits.{bit_at_not, bit_at-lt}
use Rattle.std.proofs.lemmas.Bool.Decides.{nat_tests}
use Rattle.std.specs.Int.{bit_at}
use mir.Syntax.{w8, w16, w32, w64}
use Rattle.mt_word.specs.declared.Width.{Width}
use Rattle.mt_word.specs.declared.Width.TheVariants.{W8, W16, W32, W64}
use Rattle.mt_word.specs.Word.{width_bits, Fits, has_bit, complement_of}
use Rattle.mt_fault.specs.declared.fault.Spot.{Spot}
use Rattle.mt_fault.specs.declared.fault.Fault.{Fault}
use Rattle.mt_fault.specs.History.{Access, History, Read, Write}
use Rattle.mt_fault.specs.Faulty.{answer, address}
use Rattle.mt_fault.specs.Items.{passes}
use Rattle.mt_plan.specs.declared.algorithm.Act.{Act}
use Rattle.mt_plan.specs.declared.algorithm.Act.TheVariants.{WritePlain, WriteFlipped, ReadPlain, ReadFlipped}
use Rattle.mt_plan.specs.declared.algorithm.Step.{Step}
use Rattle.mt_plan.specs.Lists.{step}
use Rattle.mt_plan.specs.Accesses.{item_of}
use Rattle.mt_fault.specs.Projection.{names, own}
use Rattle.mt_decoder.specs.BitModel.{Rule, vic_own, agg_own, vic_other, shows, caught, project, IsModel, IsCaughtOn}
use Rattle.mt_cover.proofs.Below.{Laws, HasSpots}

not_one : (t : ℕ) → t < 2 → ((1 - t) == 1) ≡ not (t == 1)
not_one t h = grind (arith, nat_tests)

pub complement_bit : (width : Width) (x i : ℕ) → Fits width x → i < width_bits width → has_bit (complement_of width x) i ≡ not (has_bit x i)
unfolding has_bit
complement_bit W8 x i fits within = ap (λ (t : ℕ). t == 1) (bit_at_not w8 x i fits within) ∙ not_one (bit_at x i) (bit_at-lt x i)
complement_bit W16 x i fits within = ap (λ (t : ℕ). t == 1) (bit_at_not w16 x i fits within) ∙ not_one (bit_at x i) (bit_at-lt x i)
complement_bit W32 x i fits within = ap (λ (t : ℕ). t == 1) (bit_at_not w32 x i fits within) ∙ not_one (bit_at x i) (bit_at-lt x i)
complement_bit W64 x i fits within = ap (λ (t : ℕ). t == 1) (bit_at_not w64 x i fits within) ∙ not_one (bit_at x i) (bit_at-lt x i)

-- one part that fails
left_fails : (p q : Bool) → p ≡ false → (p && q) ≡ false
left_fails p q e = rw e

right_fails : (p q : Bool) → q ≡ false → (p && q) ≡ false
right_fails true q e = e
right_fails false q e = refl

differs_from : (x y : Bool) → not (beq x y) ≡ true → x ≢ y
differs_from true true h e = cc
differs_from true false h e = cc
differs_from false true h e = cc
differs_from false false h e = cc

-- an access of the fault's words is kept, and any other is left out
keeps : (f : Fault) (access : Access) (h : History) → names f (address access) ≡ true → own f (access ∷ h) ≡ access ∷ own f h
keeps f access h e = rw e

drops : (f : Fault) (access : Access) (h : History) → names f (address access) ≡ false → own f (access ∷ h) ≡ own f h
drops f access h e = rw e

module _ (laws : Laws) (width : Width) (first : ℕ) (back : ℕ → ℕ) (f : Fault) (words : List ℕ) (r : Rule) (agg vic : Spot) (agg_bit vic_bit : History → Bool) (a v : ℕ)
    (model : IsModel f words r agg vic agg_bit vic_bit) (spots : HasSpots f agg.word vic.word)
    (at_agg : first + a ≡ agg.word) (at_vic : first + v ≡ vic.word)
    (fit_a : Fits width (back a)) (fit_v : Fits width (back v))
    (in_a : agg.bit < width_bits width) (in_v : vic.bit < width_bits width) where
  abbrev ba : Bool
  ba = has_bit (back a) agg.bit

  abbrev bv : Bool
  bv = has_bit (back v) vic.bit

  -- the bits after the accesses of the fault's words alone
  abbrev agg_now : History → Bool
  agg_now h = agg_bit (own f h)

  abbrev vic_now : History → Bool
  vic_now h = vic_bit (own f h)

  abbrev Caught : Bool → Bool → List Step → Type 0
  Caught x y l = caught r ba bv x y l ≡ true

  abbrev Fails : History → List Step → Type 0
  Fails h l = passes (Some f) words h (map (item_of width first back) l) ≡ false

  abbrev Later : List Step → Type 0
  Later l = (g : History) → Caught (agg_now g) (vic_now g) (project a v l) → Fails g l

  shown : (h : History) → has_bit (answer (Some f) words h vic.word) vic.bit ≡ shows r (agg_now h) (vic_now h)
  shown h = ap (λ (y : ℕ). has_bit y vic.bit) (sym (laws.own_words f words h vic.word spots.vic)) ∙ model.shown (own f h)

  shown_agg : (h : History) → agg.word ≢ vic.word → has_bit (answer (Some f) words h agg.word) agg.bit ≡ agg_now h
  shown_agg h ne = ap (λ (y : ℕ). has_bit y agg.bit) (sym (laws.own_words f words h agg.word spots.agg)) ∙ model.shown_agg (own f h) ne

  -- a read that shows another bit than that of a word does not answer the word
  other_agg_word : (h : History) (x : ℕ) (b : Bool) → a ≢ v → has_bit x agg.bit ≡ b → not (beq (agg_now h) b) ≡ true → (answer (Some f) words h (first + a) == x) ≡ false
  other_agg_word h x b apart is ne =
      let words_apart : agg.word ≢ vic.word = λ e. apart (omega arith) in
      ne_eqb _ _ (λ e. differs_from (agg_now h) b ne
      (sym (shown_agg h words_apart) ∙ ap (λ (w : ℕ). has_bit (answer (Some f) words h w) agg.bit) (sym at_agg) ∙ ap (λ (y : ℕ). has_bit y agg.bit) e ∙ is))

  other_word : (h : History) (x : ℕ) (b : Bool) → has_bit x vic.bit ≡ b → not (beq (shows r (agg_now h) (vic_now h)) b) ≡ true → (answer (Some f) words h (first + v) == x) ≡ false
  other_word h x b is ne =
      ne_eqb _ _ (λ e. differs_from (shows r (agg_now h) (vic_now h)) b ne
      (sym (shown h) ∙ ap (λ (w : ℕ). has_bit (answer (Some f) words h w) vic.bit) (sym at_vic) ∙ ap (λ (y : ℕ). has_bit y vic.bit) e ∙ is))

  after_write_own : (h : History) (x : ℕ) (b : Bool) (l : List Step) → has_bit x vic.bit ≡ b → Later l → Caught (agg_own r b (agg_now h)) (vic_own r b (agg_now h) (vic_now h)) (project a v l) → Fails (Write (first + v) x ∷ h) l
  after_write_own h x b l is next c =
      let kept : own f (Write (first + v) x ∷ h) ≡ Write (first + v) x ∷ own f h = keeps f (Write (first + v) x) h (ap (names f) at_vic ∙ spots.vic) in
      let agg_is : agg_now (Write (first + v) x ∷ h) ≡ agg_own r b (agg_now h) = ap agg_bit kept ∙ model.own_agg (own f h) (first + v) x at_vic ∙ ap (λ (t : Bool). agg_own r t (agg_now h)) is in
      let vic_is : vic_now (Write (first + v) x ∷ h) ≡ vic_own r b (agg_now h) (vic_now h) = ap vic_bit kept ∙ model.own_vic (own f h) (first + v) x at_vic ∙ ap (λ (t : Bool). vic_own r t (agg_now h) (vic_now h)) is in
      next (Write (first + v) x ∷ h) (subst (λ (y : Bool). Caught y (vic_now (Write (first + v) x ∷ h)) (project a v l)) (sym agg_is) (subst (λ (y : Bool). Caught (agg_own r b (agg_now h)) y (project a v l)) (sym vic_is) c))

  after_write_other : (h : History) (x : ℕ) (b : Bool) (l : List Step) → has_bit x agg.bit ≡ b → a ≢ v → Later l → Caught b (vic_other r b (agg_now h) (vic_now h)) (project a v l) → Fails (Write (first + a) x ∷ h) l
  after_write_other h x b l is ne next c =
      let off : first + a ≢ vic.word = λ e. ne (omega arith) in
      let kept : own f (Write (first + a) x ∷ h) ≡ Write (first + a) x ∷ own f h = keeps f (Write (first + a) x) h (ap (names f) at_agg ∙ spots.agg) in
      let agg_is : agg_now (Write (first + a) x ∷ h) ≡ b = ap agg_bit kept ∙ model.other_agg (own f h) (first + a) x at_agg off ∙ is in
      let vic_is : vic_now (Write (first + a) x ∷ h) ≡ vic_other r b (agg_now h) (vic_now h) = ap vic_bit kept ∙ model.other_vic (own f h) (first + a) x at_agg off ∙ ap (λ (t : Bool). vic_other r t (agg_now h) (vic_now h)) is in
      next (Write (first + a) x ∷ h) (subst (λ (y : Bool). Caught y (vic_now (Write (first + a) x ∷ h)) (project a v l)) (sym agg_is) (subst (λ (y : Bool). Caught b y (project a v l)) (sym vic_is) c))

  -- accesses that leave both bits
  left : (access : Access) (h : History) (l : List Step) → agg_now (access ∷ h) ≡ agg_now h → vic_now (access ∷ h) ≡ vic_now h → Later l → Caught (agg_now h) (vic_now h) (project a v l) → Fails (access ∷ h) l
  left access h l e g next c =
      next (access ∷ h) (subst (λ (y : Bool). Caught y (vic_now (access ∷ h)) (project a v l)) (sym e) (subst (λ (y : Bool). Caught (agg_now h) y (project a v l)) (sym g) c))

  after_read : (h : History) (x : ℕ) (l : List Step) → Later l → Caught (agg_now h) (vic_now h) (project a v l) → Fails (Read x ∷ h) l
  after_read h x l next c =
      elim (cases_Bool (names f x)) [
        | inl e ↦ left (Read x) h l (ap agg_bit (keeps f (Read x) h e) ∙ model.read_agg (own f h) x) (ap vic_bit (keeps f (Read x) h e) ∙ model.read_vic (own f h) x) next c
        | inr e ↦ left (Read x) h l (ap agg_bit (drops f (Read x) h e)) (ap vic_bit (drops f (Read x) h e)) next c
      ]

  after_write_far : (h : History) (j x : ℕ) (l : List Step) → j ≢ a → j ≢ v → Later l → Caught (agg_now h) (vic_now h) (project a v l) → Fails (Write (first + j) x ∷ h) l
  after_write_far h j x l not_a not_v next c =
      let far : names f (first + j) ≡ false = spots.far (first + j) (λ e. not_a (omega arith)) (λ e. not_v (omega arith)) in
      left (Write (first + j) x) h l (ap agg_bit (drops f (Write (first + j) x) h far)) (ap vic_bit (drops f (Write (first + j) x) h far)) next c

  at_victim : (act : Act) (l : List Step) (h : History) → Later l → Caught (agg_now h) (vic_now h) (step 1 act ∷ project a v l) → Fails h (step v act ∷ l)
  unfolding passes
  at_victim WritePlain l h next c = after_write_own h (back v) bv l refl next c
  at_victim WriteFlipped l h next c = after_write_own h (complement_of width (back v)) (not bv) l (complement_bit width (back v) vic.bit fit_v in_v) next c
  at_victim ReadPlain l h next c =
      elim (or_cases _ _ c) [
        | inl here ↦ left_fails _ _ (other_word h (back v) bv refl here)
        | inr later ↦ right_fails _ _ (after_read h (first + v) l next later)
      ]
  at_victim ReadFlipped l h next c =
      elim (or_cases _ _ c) [
        | inl here ↦ left_fails _ _ (other_word h (complement_of width (back v)) (not bv) (complement_bit width (back v) vic.bit fit_v in_v) here)
        | inr later ↦ right_fails _ _ (after_read h (first + v) l next later)
      ]

  at_aggressor : (act : Act) (l : List Step) (h : History) → a ≢ v → Later l → Caught (agg_now h) (vic_now h) (step 0 act ∷ project a v l) → Fails h (step a act ∷ l)
  unfolding passes
  at_aggressor WritePlain l h ne next c = after_write_other h (back a) ba l refl ne next c
  at_aggressor WriteFlipped l h ne next c = after_write_other h (complement_of width (back a)) (not ba) l (complement_bit width (back a) agg.bit fit_a in_a) ne next c
  at_aggressor ReadPlain l h ne next c =
      elim (or_cases _ _ c) [
        | inl here ↦ left_fails _ _ (other_agg_word h (back a) ba ne refl here)
        | inr later ↦ right_fails _ _ (after_read h (first + a) l next later)
      ]
  at_aggressor ReadFlipped l h ne next c =
      elim (or_cases _ _ c) [
        | inl here ↦ left_fails _ _ (other_agg_word h (complement_of width (back a)) (not ba) ne (complement_bit width (back a) agg.bit fit_a in_a) here)
        | inr later ↦ right_fails _ _ (after_read h (first + a) l next later)
      ]

  at_other : (j : ℕ) (act : Act) (l : List Step) (h : History) → j ≢ a → j ≢ v → Later l → Caught (agg_now h) (vic_now h) (project a v l) → Fails h (step j act ∷ l)
  unfolding passes
  at_other j WritePlain l h not_a not_v next c = after_write_far h j (back j) l not_a not_v next c
  at_other j WriteFlipped l h not_a not_v next c = after_write_far h j (complement_of width (back j)) l not_a not_v next c
  at_other j ReadPlain l h not_a not_v next c = right_fails _ _ (after_read h (first + j) l next c)
  at_other j ReadFlipped l h not_a not_v next c = right_fails _ _ (after_read h (first + j) l next c)

  one : (t : Step) (l : List Step) (h : History) → Later l → Caught (agg_now h) (vic_now h) (project a v (t ∷ l)) → Fails h (t ∷ l)
  one t l h next c =
      elim (cases_eq t.cell v) [
        | inl is_v ↦ (let p : (t.cell == v) ≡ true = eq-eqb _ _ is_v in subst (λ (x : ℕ). Fails h (step x t.act ∷ l)) (sym is_v) (at_victim t.act l h next (rw p at c)))
        | inr not_v ↦ (let p : (t.cell == v) ≡ false = ne_eqb _ _ not_v in
            elim (cases_eq t.cell a) [
              | inl is_a ↦ (let q : (t.cell == a) ≡ true = eq-eqb _ _ is_a in subst (λ (x : ℕ). Fails h (step x t.act ∷ l)) (sym is_a) (at_aggressor t.act l h (λ e. not_v (is_a ∙ e)) next (rw (p, q) at c)))
              | inr not_a ↦ (let q : (t.cell == a) ≡ false = ne_eqb _ _ not_a in at_other t.cell t.act l h not_a not_v next (rw (p, q) at c))
            ])
      ]

  caught-fails : (l : List Step) (h : History) → Caught (agg_now h) (vic_now h) (project a v l) → Fails h l
  caught-fails [] h c = cc
  caught-fails (t ∷ l) h c = one t l h (caught-fails l) c

  -- what is caught on the cells of the fault, whatever its bits are, is caught on all cells after each history
  pub on_all_cells : (l : List Step) (h : History) → IsCaughtOn r ba bv (project a v l) → Fails h l
  on_all_cells l h c = caught-fails l h (c (agg_now h) (vic_now h))
