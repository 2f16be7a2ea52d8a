-- Two bits decide whether a coupling fault explains that nothing was missed.
use Rattle.std.proofs.Common.{ℕ, ◌≡◌, ◌≢◌, ◌-◌, ◌<◌, ◌==◌, Bool, true, false, not, ◌||◌, List, ◌∷◌, Some, refl, sym, ap, ◌∙◌, subst, arith, inl, inr}
use Rattle.std.specs.Prelude.{◌⊎◌, if◌then◌else◌}
use Rattle.std.specs.Int.{bit_at}
use Rattle.std.proofs.lemmas.Bool.{eq-eqb, ne_eqb, cases_eq}
use Rattle.std.proofs.lemmas.Bool.Decides.{nat_tests}
use Rattle.std.proofs.lemmas.Nat.Bits.{bit_at_not, bit_at-lt}
use mathlib.Core.Bool.{beq}
use mir.Syntax.{w8, w16, w32, w64}
use Rattle.mt_word.specs.declared.Width.{Width}
use Rattle.mt_word.specs.declared.Width.TheVariants.{W8, W16, W32, W64}
use Rattle.mt_word.specs.Word.{width_bits, Fits, has_bit, put_bit, complement_of}
use Rattle.mt_fault.specs.History.{History, Read, Write, plain}
use Rattle.mt_fault.specs.Faulty.{asked, answer}
use Rattle.mt_fault.specs.Items.{access_of, agrees}
use Rattle.mt_plan.specs.declared.algorithm.Act.{Act}
use Rattle.mt_plan.specs.declared.algorithm.Act.TheVariants.{WritePlain, WriteFlipped, ReadPlain, ReadFlipped}
use Rattle.mt_plan.specs.declared.algorithm.Step.{Step}
use Rattle.mt_plan.specs.Lists.{is_write, is_flipped, step}
use Rattle.mt_plan.specs.Accesses.{act_on}
use Rattle.mt_decoder.specs.BitModel.{vic_own, agg_own, vic_other, shows, flipped_if, caught, project}
use Rattle.mt_locate.specs.declared.lanes.Means.{Means}
use Rattle.mt_locate.specs.declared.lanes.Means.TheVariants.{Invert, Force, State}
use Rattle.mt_locate.specs.declared.disturbance.Disturbance.{Disturbance}
use Rattle.mt_locate.specs.Lanes.{fault_by}
use Rattle.mt_locate.proofs.Sound.{may_go_wrong, word_for, item_at}
use Rattle.mt_locate.proofs.Culprits.{agrees_well}
use Rattle.mt_locate.proofs.TwoBits.{vic_now, rule, own_agg, shown, after_read, after_own, after_other, after_far, agg_set, agg_kept, answers}

-- ---- words and their bits

not_one : (t : ℕ) → t < 2 → ((1 - t) == 1) ≡ not (t == 1)
not_one t h = grind (arith, nat_tests)

pub complement_bit : (width : Width) (x i : ℕ) → Fits width x → i < width_bits width → has_bit (complement_of width x) i ≡ not (has_bit x i)
unfolding has_bit
complement_bit W8 x i fits within = ap (λ (t : ℕ). t == 1) (bit_at_not w8 x i fits within) ∙ not_one (bit_at x i) (bit_at-lt x i)
complement_bit W16 x i fits within = ap (λ (t : ℕ). t == 1) (bit_at_not w16 x i fits within) ∙ not_one (bit_at x i) (bit_at-lt x i)
complement_bit W32 x i fits within = ap (λ (t : ℕ). t == 1) (bit_at_not w32 x i fits within) ∙ not_one (bit_at x i) (bit_at-lt x i)
complement_bit W64 x i fits within = ap (λ (t : ℕ). t == 1) (bit_at_not w64 x i fits within) ∙ not_one (bit_at x i) (bit_at-lt x i)

-- the laws of mt_word that are used here
pub record Puts : Type 0 where
  pub here : (word i : ℕ) (value : Bool) → has_bit (put_bit word i value) i ≡ value
  pub others : (word i j : ℕ) (value : Bool) → j ≢ i → has_bit (put_bit word i value) j ≡ has_bit word j
  pub same : (word i : ℕ) (value : Bool) → has_bit word i ≡ value → put_bit word i value ≡ word

beq_same : (b : Bool) → beq b b ≡ true
beq_same true = refl
beq_same false = refl

beq_differs : (a b : Bool) → a ≢ b → beq a b ≡ false
beq_differs true true n = absurd (n refl)
beq_differs true false n = refl
beq_differs false true n = refl
beq_differs false false n = absurd (n refl)

bool_cases : (a b : Bool) → (a ≡ b) ⊎ (a ≢ b)
bool_cases true true = inl refl
bool_cases true false = inr (λ e. cc)
bool_cases false true = inr (λ e. cc)
bool_cases false false = inl refl

-- a word with a bit put is the word exactly where the bit was so
put_test : Puts → (word i : ℕ) (value : Bool) → (put_bit word i value == word) ≡ beq value (has_bit word i)
put_test puts word i value = elim (bool_cases value (has_bit word i)) [
  | inl same ↦ eq-eqb _ _ (puts.same word i value (sym same)) ∙ sym (ap (λ (b : Bool). beq b (has_bit word i)) same ∙ beq_same (has_bit word i))
  | inr apart ↦ ne_eqb _ _ (λ e. apart (sym (puts.here word i value) ∙ ap (λ (w : ℕ). has_bit w i) e)) ∙ sym (beq_differs value (has_bit word i) apart)
]

-- a step that reads as it is to, and one that shows another bit
passed : (agrees : Bool) (later caught : Bool) → agrees ≡ true → later ≡ not caught → (if not agrees then false else later) ≡ not caught
passed agrees later caught e l = ap (λ (b : Bool). if not b then false else later) e ∙ l

judged : (agrees : Bool) (later caught : Bool) → later ≡ not caught → (if not agrees then false else later) ≡ not (not agrees || caught)
judged true later caught l = l
judged false later caught l = refl

module _ (puts : Puts) (width : Width) (back : ℕ) (fits : Fits width back) (means : Means) (d : Disturbance) (words : List ℕ)
    (apart : d.agg.word ≢ d.vic.word) (agg_in : d.agg.bit < width_bits width) (vic_in : d.vic.bit < width_bits width) where
  abbrev ba : Bool
  ba = has_bit back d.agg.bit

  abbrev bv : Bool
  bv = has_bit back d.vic.bit

  abbrev pub Unseen : Bool → History → List Step → Type 0
  Unseen later h l = later ≡ not (caught (rule means d) ba bv (asked words h d.agg) (vic_now means d words h) (project d.agg.word d.vic.word l))

  -- what a step makes of what is known of the steps after it
  abbrev Here : Bool → History → Step → List Step → Type 0
  Here later h t l = Unseen (if not (agrees (Some (fault_by d means)) words h (item_at width back t)) then false else later) h (t ∷ l)

  -- a read of plain memory finds what it expects
  abbrev Finds : History → Step → Type 0
  Finds h t = is_write t.act ≡ false → plain words h t.cell ≡ word_for width back (is_flipped t.act)

  -- the same states
  moved : (later a v a' v' : Bool) (l : List Step) → a ≡ a' → v ≡ v' → later ≡ not (caught (rule means d) ba bv a v l) → later ≡ not (caught (rule means d) ba bv a' v' l)
  moved later a v a' v' l e g k = k ∙ ap (λ (x : Bool). not (caught (rule means d) ba bv x v l)) e ∙ ap (λ (y : Bool). not (caught (rule means d) ba bv a' y l)) g

  wanted_agg : (flipped : Bool) → has_bit (word_for width back flipped) d.agg.bit ≡ flipped_if flipped ba
  wanted_agg true = complement_bit width back d.agg.bit fits agg_in
  wanted_agg false = refl

  wanted_vic : (flipped : Bool) → has_bit (word_for width back flipped) d.vic.bit ≡ flipped_if flipped bv
  wanted_vic true = complement_bit width back d.vic.bit fits vic_in
  wanted_vic false = refl

  own_write : (flipped later : Bool) (h : History) (l : List Step) → Unseen later (Write d.vic.word (word_for width back flipped) ∷ h) l
      → later ≡ not (caught (rule means d) ba bv (agg_own (rule means d) (flipped_if flipped bv) (asked words h d.agg)) (vic_own (rule means d) (flipped_if flipped bv) (asked words h d.agg) (vic_now means d words h)) (project d.agg.word d.vic.word l))
  own_write flipped later h l k =
      moved later _ _ _ _ (project d.agg.word d.vic.word l)
      (agg_kept d words h d.vic.word (word_for width back flipped) (λ e. apart (sym e)) ∙ sym (own_agg means d (flipped_if flipped bv) (asked words h d.agg)))
      (after_own means d words h d.vic.word (word_for width back flipped) refl (λ e. apart (sym e)) ∙ ap (λ (c : Bool). vic_own (rule means d) c (asked words h d.agg) (vic_now means d words h)) (wanted_vic flipped)) k

  other_write : (flipped later : Bool) (h : History) (l : List Step) → Unseen later (Write d.agg.word (word_for width back flipped) ∷ h) l
      → later ≡ not (caught (rule means d) ba bv (flipped_if flipped ba) (vic_other (rule means d) (flipped_if flipped ba) (asked words h d.agg) (vic_now means d words h)) (project d.agg.word d.vic.word l))
  other_write flipped later h l k =
      moved later _ _ _ _ (project d.agg.word d.vic.word l)
      (agg_set d words h d.agg.word (word_for width back flipped) refl ∙ wanted_agg flipped)
      (after_other means d words h d.agg.word (word_for width back flipped) refl apart ∙ ap (λ (c : Bool). vic_other (rule means d) c (asked words h d.agg) (vic_now means d words h)) (wanted_agg flipped)) k

  after_any_read : (later : Bool) (h : History) (a : ℕ) (l : List Step) → Unseen later (Read a ∷ h) l → Unseen later h l
  after_any_read later h a l k = moved later _ _ _ _ (project d.agg.word d.vic.word l) refl (after_read means d words h a) k

  -- what a read of the victim's word shows
  own_read : (flipped : Bool) (h : History) → plain words h d.vic.word ≡ word_for width back flipped
      → (answer (Some (fault_by d means)) words h d.vic.word == word_for width back flipped) ≡ beq (shows (rule means d) (asked words h d.agg) (vic_now means d words h)) (flipped_if flipped bv)
  own_read flipped h finds =
      let w : ℕ = word_for width back flipped in
      ap (λ (x : ℕ). x == w) (answers means d words h ∙ ap (λ (x : ℕ). put_bit x d.vic.bit (vic_now means d words h)) finds)
      ∙ put_test puts w d.vic.bit (vic_now means d words h)
      ∙ ap (λ (b : Bool). beq (vic_now means d words h) b) (wanted_vic flipped)
      ∙ ap (λ (b : Bool). beq b (flipped_if flipped bv)) (sym (shown means d (asked words h d.agg) (vic_now means d words h)))

  own_judged : (flipped later : Bool) (h : History) (l : List Step) → plain words h d.vic.word ≡ word_for width back flipped → Unseen later (Read d.vic.word ∷ h) l
      → (if not (answer (Some (fault_by d means)) words h d.vic.word == word_for width back flipped) then false else later)
      ≡ not (not (beq (shows (rule means d) (asked words h d.agg) (vic_now means d words h)) (flipped_if flipped bv)) || caught (rule means d) ba bv (asked words h d.agg) (vic_now means d words h) (project d.agg.word d.vic.word l))
  own_judged flipped later h l finds k =
      ap (λ (b : Bool). if not b then false else later) (own_read flipped h finds)
      ∙ judged _ later _ (after_any_read later h d.vic.word l k)

  at_victim : (act : Act) (later : Bool) (h : History) (l : List Step) → Finds h (step d.vic.word act) → Unseen later (access_of (act_on width d.vic.word back act) ∷ h) l
      → Here later h (step d.vic.word act) l
  at_victim WritePlain later h l finds k = rw (eq-eqb d.vic.word d.vic.word refl) (own_write false later h l k)
  at_victim WriteFlipped later h l finds k = rw (eq-eqb d.vic.word d.vic.word refl) (own_write true later h l k)
  at_victim ReadPlain later h l finds k = rw (eq-eqb d.vic.word d.vic.word refl) (own_judged false later h l (finds refl) k)
  at_victim ReadFlipped later h l finds k = rw (eq-eqb d.vic.word d.vic.word refl) (own_judged true later h l (finds refl) k)

  -- a read of another word finds what it expects
  may : (cell : ℕ) → cell ≢ d.vic.word → may_go_wrong (fault_by d means) cell ≡ false
  may cell far = of means
    where
      of : (m : Means) → may_go_wrong (fault_by d m) cell ≡ false
      of Invert = ne_eqb cell d.vic.word far
      of Force = ne_eqb cell d.vic.word far
      of State = ne_eqb cell d.vic.word far

  sound : (cell : ℕ) (act : Act) (h : History) → cell ≢ d.vic.word → Finds h (step cell act) → agrees (Some (fault_by d means)) words h (act_on width cell back act) ≡ true
  sound cell act h far finds = agrees_well width back (fault_by d means) words h cell act (may cell far) finds

  agg_right : (flipped : Bool) (h : History) → plain words h d.agg.word ≡ word_for width back flipped → beq (asked words h d.agg) (flipped_if flipped ba) ≡ true
  agg_right flipped h finds =
      ap (λ (b : Bool). beq b (flipped_if flipped ba)) (ap (λ (x : ℕ). has_bit x d.agg.bit) finds ∙ wanted_agg flipped) ∙ beq_same (flipped_if flipped ba)

  agg_judged : (flipped later agreed : Bool) (h : History) (l : List Step) → plain words h d.agg.word ≡ word_for width back flipped → agreed ≡ true → Unseen later (Read d.agg.word ∷ h) l
      → (if not agreed then false else later)
      ≡ not (not (beq (asked words h d.agg) (flipped_if flipped ba)) || caught (rule means d) ba bv (asked words h d.agg) (vic_now means d words h) (project d.agg.word d.vic.word l))
  agg_judged flipped later agreed h l finds agreed_well k =
      passed agreed later (caught (rule means d) ba bv (asked words h d.agg) (vic_now means d words h) (project d.agg.word d.vic.word l)) agreed_well (after_any_read later h d.agg.word l k)
      ∙ ap (λ (b : Bool). not (not b || caught (rule means d) ba bv (asked words h d.agg) (vic_now means d words h) (project d.agg.word d.vic.word l))) (sym (agg_right flipped h finds))

  at_aggressor : (act : Act) (later : Bool) (h : History) (l : List Step) → Finds h (step d.agg.word act) → Unseen later (access_of (act_on width d.agg.word back act) ∷ h) l
      → Here later h (step d.agg.word act) l
  at_aggressor WritePlain later h l finds k = rw (ne_eqb d.agg.word d.vic.word apart, eq-eqb d.agg.word d.agg.word refl) (other_write false later h l k)
  at_aggressor WriteFlipped later h l finds k = rw (ne_eqb d.agg.word d.vic.word apart, eq-eqb d.agg.word d.agg.word refl) (other_write true later h l k)
  at_aggressor ReadPlain later h l finds k =
      rw (ne_eqb d.agg.word d.vic.word apart, eq-eqb d.agg.word d.agg.word refl) (agg_judged false later _ h l (finds refl) (sound d.agg.word ReadPlain h apart finds) k)
  at_aggressor ReadFlipped later h l finds k =
      rw (ne_eqb d.agg.word d.vic.word apart, eq-eqb d.agg.word d.agg.word refl) (agg_judged true later _ h l (finds refl) (sound d.agg.word ReadFlipped h apart finds) k)

  far_write : (later : Bool) (h : History) (cell x : ℕ) (l : List Step) → cell ≢ d.agg.word → cell ≢ d.vic.word → Unseen later (Write cell x ∷ h) l → Unseen later h l
  far_write later h cell x l not_agg not_vic k =
      moved later _ _ _ _ (project d.agg.word d.vic.word l) (agg_kept d words h cell x not_agg) (after_far means d words h cell x not_agg not_vic) k

  at_other : (cell : ℕ) (act : Act) (later : Bool) (h : History) (l : List Step) → cell ≢ d.agg.word → cell ≢ d.vic.word → Finds h (step cell act)
      → Unseen later (access_of (act_on width cell back act) ∷ h) l → Here later h (step cell act) l
  at_other cell WritePlain later h l not_agg not_vic finds k = rw (ne_eqb cell d.vic.word not_vic, ne_eqb cell d.agg.word not_agg) (far_write later h cell back l not_agg not_vic k)
  at_other cell WriteFlipped later h l not_agg not_vic finds k = rw (ne_eqb cell d.vic.word not_vic, ne_eqb cell d.agg.word not_agg) (far_write later h cell (complement_of width back) l not_agg not_vic k)
  at_other cell ReadPlain later h l not_agg not_vic finds k =
      rw (ne_eqb cell d.vic.word not_vic, ne_eqb cell d.agg.word not_agg) (passed _ later _ (sound cell ReadPlain h not_vic finds) (after_any_read later h cell l k))
  at_other cell ReadFlipped later h l not_agg not_vic finds k =
      rw (ne_eqb cell d.vic.word not_vic, ne_eqb cell d.agg.word not_agg) (passed _ later _ (sound cell ReadFlipped h not_vic finds) (after_any_read later h cell l k))

  -- one step, and those after it
  pub here : (t : Step) (later : Bool) (h : History) (l : List Step) → Finds h t → Unseen later (access_of (item_at width back t) ∷ h) l → Here later h t l
  here t later h l finds k = elim (cases_eq t.cell d.vic.word) [
    | inl is_vic ↦
        subst (λ (c : ℕ). Here later h (step c t.act) l) (sym is_vic)
        (at_victim t.act later h l (λ r. ap (plain words h) (sym is_vic) ∙ finds r)
        (subst (λ (c : ℕ). Unseen later (access_of (act_on width c back t.act) ∷ h) l) is_vic k))
    | inr not_vic ↦ elim (cases_eq t.cell d.agg.word) [
      | inl is_agg ↦
          subst (λ (c : ℕ). Here later h (step c t.act) l) (sym is_agg)
          (at_aggressor t.act later h l (λ r. ap (plain words h) (sym is_agg) ∙ finds r)
          (subst (λ (c : ℕ). Unseen later (access_of (act_on width c back t.act) ∷ h) l) is_agg k))
      | inr not_agg ↦ at_other t.cell t.act later h l not_agg not_vic finds k
    ]
  ]
