-- A coupling fault explains that nothing was missed exactly where its two bits go unseen.
use Rattle.std.proofs.Common.{ℕ, zero, suc, ◌≡◌, ◌≢◌, ◌+◌, ◌-◌, ◌<◌, Bool, true, false, not, List, [], ◌∷◌, drop, length, replicate, Some, refl, sym, ap, ◌∙◌, subst, arith}
use Rattle.std.specs.Prelude.{if◌then◌else◌, slice_index}
use Rattle.std.specs.Bool.{then_some}
use Rattle.std.specs.List.{cons_option}
use Rattle.std.specs.Cmp.Lexicographic.{pointwise}
use Rattle.std.proofs.lemmas.List.{drop_more, drop_all, get_or-replicate, get_or-set_other}
use Rattle.mt_word.specs.Word.{width_bits, has_bit}
use Rattle.mt_fault.specs.declared.fault.Spot.{Spot}
use Rattle.mt_fault.specs.declared.fault.Fault.{Fault}
use Rattle.mt_fault.specs.History.{History}
use Rattle.mt_fault.specs.Faulty.{asked, same}
use Rattle.mt_fault.specs.Items.{Item, access_of, history, agrees}
use Rattle.mt_fault.specs.Memory.{first_words, set_spot}
use Rattle.mt_fault.specs.Placement.{IsWithin}
use Rattle.mt_plan.specs.declared.algorithm.Act.TheVariants.{ReadPlain}
use Rattle.mt_plan.specs.declared.algorithm.Step.{Step}
use Rattle.mt_plan.specs.Plan.{steps_of}
use Rattle.mt_plan.specs.Steady.{PlansAreSteady}
use Rattle.mt_decoder.specs.BitModel.{caught, project}
use Rattle.mt_decoder.specs.Misses.{is_miss}
use Rattle.mt_locate.specs.declared.probe.Probe.{Probe}
use Rattle.mt_locate.specs.declared.probe.Miss.{Miss}
use Rattle.mt_locate.specs.declared.lanes.Means.{Means}
use Rattle.mt_locate.specs.declared.lanes.Means.TheVariants.{Invert, Force, State}
use Rattle.mt_locate.specs.declared.disturbance.Disturbance.{Disturbance}
use Rattle.mt_locate.specs.Probes.{IsAcceptedProbe}
use Rattle.mt_locate.specs.Moved.{IsFaultOfSlice, moved_down, spot_down}
use Rattle.mt_locate.specs.Misses.{misses_of}
use Rattle.mt_locate.specs.Explanations.{accesses_of}
use Rattle.mt_locate.specs.Listed.{explains, same_miss}
use Rattle.mt_locate.specs.Lanes.{begun, fault_by, BitsDecide}
use Rattle.mt_locate.proofs.MissLists.{misses_from}
use Rattle.mt_locate.proofs.Spans.{history_of, length-accesses}
use Rattle.mt_locate.proofs.Sound.{item_at}
use Rattle.mt_locate.proofs.Culprits.{step_of, past, item_is, expected}
use Rattle.mt_locate.proofs.TwoBits.{vic_now, rule}
use Rattle.mt_locate.proofs.BitsDecide.{Puts, Unseen, here}

-- ---- no miss

abbrev clean : List Miss → Bool
clean ms = pointwise same_miss ms []

clean_more : (missed : Bool) (m : Miss) (ms : List Miss) → clean (cons_option (then_some missed m) ms) ≡ (if missed then false else clean ms)
clean_more true m ms = refl
clean_more false m ms = refl

abbrev none : Step
none = record { cell = 0; act = ReadPlain }

module _ (steady : PlansAreSteady) (puts : Puts) (probe : Probe) (accepted : IsAcceptedProbe probe) (means : Means) (d : Disturbance) (words : List ℕ)
    (apart : d.agg.word ≢ d.vic.word) (agg_in : d.agg.bit < width_bits probe.width) (vic_in : d.vic.bit < width_bits probe.width) where
  abbrev steps : List Step
  steps = steps_of probe.alg probe.n

  abbrev low : Fault
  low = fault_by d means

  abbrev Goes : Bool → History → List Step → Type 0
  Goes later h l = Unseen puts probe.width probe.background accepted.background means d words apart agg_in vic_in later h l

  abbrev after : ℕ → ℕ → Bool
  after i k = clean (misses_from (Some low) words (accesses_of probe) i k)

  past_more : (i : ℕ) → i < length steps → past probe (i + 1) ≡ access_of (item_at probe.width probe.background (step_of probe i)) ∷ past probe i
  past_more i l =
      history_of (accesses_of probe) i (omega (arith, l, length-accesses probe))
      ∙ ap (λ (x : Item). access_of x ∷ past probe i) (item_is probe i l)

  after_more : (i k : ℕ) → i < length steps
      → after i (suc k) ≡ (if not (agrees (Some low) words (past probe i) (item_at probe.width probe.background (step_of probe i))) then false else after (i + 1) k)
  after_more i k l =
      clean_more (is_miss (Some low) words (accesses_of probe) i) _ (misses_from (Some low) words (accesses_of probe) (i + 1) k)
      ∙ ap (λ (x : Item). if not (agrees (Some low) words (past probe i) x) then false else after (i + 1) k) (item_is probe i l)

  from : (k i : ℕ) → i + k ≡ length steps → Goes (after i k) (past probe i) (drop i steps)
  from zero i e = subst (λ (l : List Step). Goes true (past probe i) l) (sym (drop_all i steps (omega (arith, e)))) refl
  from (suc k) i e =
      let l : i < length steps = omega (arith, e) in
      let t : Step = step_of probe i in
      let later : Goes (after (i + 1) k) (access_of (item_at probe.width probe.background t) ∷ past probe i) (drop (i + 1) steps) =
      subst (λ (h : History). Goes (after (i + 1) k) h (drop (i + 1) steps)) (past_more i l) (from k (i + 1) (omega (arith, e))) in
      subst (λ (xs : List Step). Goes (after i (suc k)) (past probe i) xs) (sym (drop_more steps i none l))
      (after_more i k l
      ∙ here puts probe.width probe.background accepted.background means d words apart agg_in vic_in t (after (i + 1) k) (past probe i) (drop (i + 1) steps)
      (λ reads. expected steady probe words i accepted.march l reads) later)

  pub whole : after 0 (length (accesses_of probe))
      ≡ not (caught (rule means d) (has_bit probe.background d.agg.bit) (has_bit probe.background d.vic.bit) (asked words [] d.agg) (vic_now means d words []) (project d.agg.word d.vic.word steps))
  unfolding history
  whole = ap (after 0) (length-accesses probe) ∙ from (length steps) 0 (omega arith)

-- ---- where the fault comes

abbrev init : Probe → List ℕ
init probe = replicate probe.n probe.initial

initial_at : (probe : Probe) (a : ℕ) → a < probe.n → slice_index (init probe) a ≡ probe.initial
initial_at probe a l = get_or-replicate probe.n a probe.initial 0 l

-- The two bits where the fault has come, and nothing was accessed.
record Begins (probe : Probe) (means : Means) (d : Disturbance) : Type 0 where
  agg : asked (first_words (fault_by d means) (init probe)) [] d.agg ≡ has_bit probe.initial d.agg.bit
  vic : vic_now means d (first_words (fault_by d means) (init probe)) [] ≡ begun means d.side d.value (has_bit probe.initial d.agg.bit) (has_bit probe.initial d.vic.bit)

bit_at_first : (probe : Probe) (spot : Spot) → spot.word < probe.n → asked (init probe) [] spot ≡ has_bit probe.initial spot.bit
bit_at_first probe spot l = ap (λ (w : ℕ). has_bit w spot.bit) (initial_at probe spot.word l)

-- the victim under a state, by the words with which the span begins
held_first : (d : Disturbance) (words : List ℕ) (agg vic : Bool) → asked words [] d.agg ≡ agg → (same agg d.side ≡ false → asked words [] d.vic ≡ vic)
    → vic_now State d words [] ≡ begun State d.side d.value agg vic
held_first d words agg vic here there =
    ap (λ (b : Bool). if same b d.side then d.value else asked words [] d.vic) here ∙ of (same agg d.side) there
  where
    of : (b : Bool) → (b ≡ false → asked words [] d.vic ≡ vic) → (if b then d.value else asked words [] d.vic) ≡ (if b then d.value else vic)
    of true f = refl
    of false f = f refl

begins : (probe : Probe) (means : Means) (d : Disturbance) → d.agg.word < probe.n → d.vic.word < probe.n → d.agg.word ≢ d.vic.word → Begins probe means d
begins probe Invert d a v apart = record { agg = bit_at_first probe d.agg a; vic = bit_at_first probe d.vic v }
begins probe Force d a v apart = record { agg = bit_at_first probe d.agg a; vic = bit_at_first probe d.vic v }
begins probe State d a v apart = of (same (asked (init probe) [] d.agg) d.side) refl
  where
    first : Bool → List ℕ
    first b = if b then set_spot d.vic d.value (init probe) else init probe

    agg_is : (b : Bool) → asked (first b) [] d.agg ≡ has_bit probe.initial d.agg.bit
    agg_is true = ap (λ (w : ℕ). has_bit w d.agg.bit) (get_or-set_other (init probe) d.vic.word d.agg.word _ 0 apart) ∙ bit_at_first probe d.agg a
    agg_is false = bit_at_first probe d.agg a

    of : (b : Bool) → same (asked (init probe) [] d.agg) d.side ≡ b → Begins probe State d
    of true e = record {
      agg = ap (λ (b : Bool). asked (first b) [] d.agg) e ∙ agg_is true;
      vic = ap (λ (b : Bool). vic_now State d (first b) []) e
          ∙ held_first d (first true) _ _ (agg_is true) (λ f. absurd (let g : true ≡ false = sym e ∙ ap (λ (b : Bool). same b d.side) (bit_at_first probe d.agg a) ∙ f in cc));
    }
    of false e = record {
      agg = ap (λ (b : Bool). asked (first b) [] d.agg) e ∙ agg_is false;
      vic = ap (λ (b : Bool). vic_now State d (first b) []) e ∙ held_first d (first false) _ _ (agg_is false) (λ f. bit_at_first probe d.vic v);
    }

-- ---- the law

-- the fault on the words that stand for the slice
abbrev lowered : Probe → Disturbance → Disturbance
lowered probe d = record d { agg = spot_down probe.first d.agg; vic = spot_down probe.first d.vic }

lowered_is : (probe : Probe) (means : Means) (d : Disturbance) → moved_down probe.first (fault_by d means) ≡ fault_by (lowered probe d) means
lowered_is probe Invert d = refl
lowered_is probe Force d = refl
lowered_is probe State d = refl

-- What is known of the spots of a coupling fault of the slice.
pub record Spots (probe : Probe) (d : Disturbance) : Type 0 where
  pub agg : IsWithin probe.first probe.n d.agg.word
  pub vic : IsWithin probe.first probe.n d.vic.word
  pub agg_in : d.agg.bit < width_bits probe.width
  pub vic_in : d.vic.bit < width_bits probe.width
  pub apart : d.agg.word ≢ d.vic.word

pub spots : (probe : Probe) (means : Means) (d : Disturbance) → IsFaultOfSlice probe.width probe.first probe.n (fault_by d means) → Spots probe d
spots probe Invert d p = record { agg = p.inside.0; vic = p.inside.1.0; agg_in = p.placed.inside.0.1.0; vic_in = p.placed.inside.1.0.1.0; apart = p.placed.apart }
spots probe Force d p = record { agg = p.inside.0; vic = p.inside.1.0; agg_in = p.placed.inside.0.1.0; vic_in = p.placed.inside.1.0.1.0; apart = p.placed.apart }
spots probe State d p = record { agg = p.inside.0; vic = p.inside.1.0; agg_in = p.placed.inside.0.1.0; vic_in = p.placed.inside.1.0.1.0; apart = p.placed.apart }

pub below : (first n a : ℕ) → IsWithin first n a → a - first < n
below first n a w = let f = w.from in let b = w.below in omega (arith, f, b)

still_apart : (first n a b : ℕ) → IsWithin first n a → IsWithin first n b → a ≢ b → a - first ≢ b - first
still_apart first n a b v w apart e = let f = v.from in let g = w.from in apart (omega (arith, f, g, e))

pub decide : PlansAreSteady → Puts → BitsDecide
unfolding explains misses_of
decide steady puts probe d accepted inside =
    let s : Spots probe d = spots probe d.means d inside in
    let low : Disturbance = lowered probe d in
    let apart = still_apart probe.first probe.n d.agg.word d.vic.word s.agg s.vic s.apart in
    let b : Begins probe d.means low = begins probe d.means low (below probe.first probe.n d.agg.word s.agg) (below probe.first probe.n d.vic.word s.vic) apart in
    ap (λ (f : Fault). clean (misses_of (Some f) (first_words f (init probe)) (accesses_of probe))) (lowered_is probe d.means d)
    ∙ whole steady puts probe accepted d.means low (first_words (fault_by low d.means) (init probe)) apart s.agg_in s.vic_in
    ∙ ap (λ (x : Bool). not (caught (rule d.means d) (has_bit probe.background d.agg.bit) (has_bit probe.background d.vic.bit) x (vic_now d.means low (first_words (fault_by low d.means) (init probe)) []) (project low.agg.word low.vic.word (steps_of probe.alg probe.n)))) b.agg
    ∙ ap (λ (y : Bool). not (caught (rule d.means d) (has_bit probe.background d.agg.bit) (has_bit probe.background d.vic.bit) (has_bit probe.initial d.agg.bit) y (project low.agg.word low.vic.word (steps_of probe.alg probe.n)))) b.vic
