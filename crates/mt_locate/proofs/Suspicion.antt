-- A fault that explains the misses may have made the read of the first one answer so.
use Rattle.std.proofs.Common.{◌≡◌, ℕ, ◌+◌, ◌-◌, ◌<◌, ◌≤◌, ◌==◌, eqb, Bool, true, false, not, ◌&&◌, ◌||◌, List, [], ◌∷◌, length, replicate, Some, None, refl, sym, ap, ◌∙◌, arith}
use Rattle.std.specs.Prelude.{◌≢◌, if◌then◌else◌, slice_get}
use Rattle.std.proofs.lemmas.List.{get_or_past}
use Rattle.std.proofs.lemmas.Bool.{eq-eqb, eqb-true}
use Rattle.mt_word.specs.declared.Width.{Width}
use Rattle.mt_word.specs.Word.{has_bit, put_bit, complement_of}
use Rattle.mt_fault.specs.declared.fault.Spot.{Spot}
use Rattle.mt_fault.specs.declared.fault.Fault.{Fault}
use Rattle.mt_fault.specs.declared.fault.Fault.TheVariants.{StuckAt, CannotRise, CannotFall, Invert, Force, State, NoCell, Also, Instead}
use Rattle.mt_fault.specs.History.{History, plain}
use Rattle.mt_fault.specs.Placement.{IsInside}
use Rattle.mt_fault.specs.Faulty.{with_victim, answer, answer_under, stored_under}
use Rattle.mt_fault.specs.Items.{Item, Look, place, agrees}
use Rattle.mt_fault.specs.Memory.{first_words}
use Rattle.mt_plan.specs.declared.algorithm.Act.{Act}
use Rattle.mt_plan.specs.declared.algorithm.Act.TheVariants.{WritePlain, WriteFlipped, ReadPlain, ReadFlipped}
use Rattle.mt_plan.specs.declared.algorithm.Step.{Step}
use Rattle.mt_plan.specs.Lists.{is_write, is_flipped}
use Rattle.mt_plan.specs.Accesses.{act_on}
use Rattle.mt_plan.specs.Plan.{steps_of}
use Rattle.mt_plan.specs.Steady.{PlansAreSteady}
use Rattle.mt_locate.specs.declared.probe.Probe.{Probe}
use Rattle.mt_locate.specs.declared.probe.Miss.{Miss}
use Rattle.mt_locate.specs.Misses.{misses_of}
use Rattle.mt_locate.specs.Moved.{moved_down, spot_down}
use Rattle.mt_locate.specs.Explanations.{accesses_of}
use Rattle.mt_locate.specs.declared.evidence.Evidence.TheVariants.{NoMiss}
use Rattle.mt_locate.specs.Suspects.{checked, checked_at, told_by, evidence_of, is_flipped_bit, may_answer, suspect, CulpritsAreSuspects}
use Rattle.mt_locate.proofs.Spans.{length-accesses, place_of}
use Rattle.mt_locate.proofs.Sound.{may_go_wrong, word_for}
use Rattle.mt_locate.proofs.Culprits.{IsFirst, first_is, no_miss, item_is, expected, step_of, past}

-- a bit that is put where it is changes nothing
abbrev pub PutSame : Type 0
PutSame = (word i : ℕ) (value : Bool) → has_bit word i ≡ value → put_bit word i value ≡ word

-- ---- one bit

flips : PutSame → (at word answered : ℕ) (b : Bool) → answered ≡ put_bit word at b → answered ≢ word → is_flipped_bit at word answered ≡ true
flips same at word answered b is differs = of b (has_bit word at) refl is
  where
    of : (b h : Bool) → has_bit word at ≡ h → answered ≡ put_bit word at b → (put_bit word at (not (has_bit word at)) == answered) ≡ true
    of true true e is = absurd (differs (is ∙ same word at true e))
    of false false e is = absurd (differs (is ∙ same word at false e))
    of true false e is = eq-eqb _ answered (ap (λ (x : Bool). put_bit word at (not x)) e ∙ sym is)
    of false true e is = eq-eqb _ answered (ap (λ (x : Bool). put_bit word at (not x)) e ∙ sym is)

word_up : (first word cell : ℕ) → first ≤ word → eqb cell (word - first) ≡ true → eqb word (first + cell) ≡ true
word_up first word cell from e = let f : cell ≡ word - first = eqb-true cell (word - first) e in eq-eqb word (first + cell) (omega (arith, from, f))

both_true : (a b : Bool) → a ≡ true → b ≡ true → (a && b) ≡ true
both_true a b p q = ap (λ (x : Bool). x && b) p ∙ q

victim : PutSame → (first : ℕ) (vic : Spot) (bit : Bool) (words : ℕ → ℕ) (cell word answered : ℕ) → first ≤ vic.word → eqb cell (vic.word - first) ≡ true → words cell ≡ word
    → answered ≡ with_victim (spot_down first vic) bit words cell → answered ≢ word → (vic.word == first + cell && is_flipped_bit vic.bit word answered) ≡ true
victim same first vic bit words cell word answered from here holds is differs =
    both_true (vic.word == first + cell) (is_flipped_bit vic.bit word answered) (word_up first vic.word cell from here)
    (flips same vic.bit word answered bit
    (is ∙ ap (λ (t : Bool). if t then put_bit (words cell) vic.bit bit else words cell) here ∙ ap (λ (w : ℕ). put_bit w vic.bit bit) holds) differs)

either_up : (first one other cell : ℕ) → first ≤ one → first ≤ other → (eqb cell (one - first) || eqb cell (other - first)) ≡ true → (one == first + cell || other == first + cell) ≡ true
either_up first one other cell f g e = of (eqb cell (one - first)) refl e
  where
    or_true : (a b : Bool) → b ≡ true → (a || b) ≡ true
    or_true true b q = refl
    or_true false b q = q

    of : (t : Bool) → eqb cell (one - first) ≡ t → (t || eqb cell (other - first)) ≡ true → (one == first + cell || other == first + cell) ≡ true
    of true is e = ap (λ (t : Bool). t || (other == first + cell)) (word_up first one cell f is)
    of false is e = or_true (one == first + cell) (other == first + cell) (word_up first other cell g e)

-- a wrong answer is one that the fault may make
may : PutSame → (first n : ℕ) (fault : Fault) (words : List ℕ) (h : History) (cell word answered : ℕ) → IsInside fault first n → may_go_wrong (moved_down first fault) cell ≡ true
    → plain words h cell ≡ word → answered ≡ answer (Some (moved_down first fault)) words h cell → answered ≢ word → may_answer fault (first + cell) word answered ≡ true
unfolding answer_under stored_under
may same first n (StuckAt vic value) words h cell word answered p here holds is differs = victim same first vic _ (plain words h) cell word answered p.0.from here holds is differs
may same first n (CannotRise vic) words h cell word answered p here holds is differs = victim same first vic _ (plain words h) cell word answered p.0.from here holds is differs
may same first n (CannotFall vic) words h cell word answered p here holds is differs = victim same first vic _ (plain words h) cell word answered p.0.from here holds is differs
may same first n (Invert agg rise vic) words h cell word answered p here holds is differs = victim same first vic _ (plain words h) cell word answered p.1.0.from here holds is differs
may same first n (Force agg rise vic value) words h cell word answered p here holds is differs = victim same first vic _ (plain words h) cell word answered p.1.0.from here holds is differs
may same first n (State agg holding vic value) words h cell word answered p here holds is differs = victim same first vic _ (plain words h) cell word answered p.1.0.from here holds is differs
may same first n (NoCell lost seen) words h cell word answered p here holds is differs =
    both_true (lost == first + cell) (seen == answered) (word_up first lost cell p.0.from here)
    (eq-eqb seen answered (sym (is ∙ ap (λ (t : Bool). if t then seen else stored_under (NoCell (lost - first) seen) words h cell) here)))
may same first n (Also one other wired_and) words h cell word answered p here holds is differs = either_up first one other cell p.0.from p.1.0.from here
may same first n (Instead one other) words h cell word answered p here holds is differs = either_up first one other cell p.0.from p.1.0.from here

-- ---- the first miss

apart : (x w answered : ℕ) → not (x == w) ≡ true → answered ≡ x → answered ≢ w
apart x w answered e is same = let f : (x == w) ≡ true = eq-eqb x w (sym is ∙ same) in let g : not true ≡ true = ap not (sym f) ∙ e in absurd (cc)

-- what the read of a first miss tells of a fault
told : (width : Width) (back : ℕ) (first : ℕ) (fault low : Fault) (words : List ℕ) (h : History) (cell : ℕ) (act : Act) (answered : ℕ)
    → not (agrees (Some low) words h (act_on width cell back act)) ≡ true
    → answered ≡ answer (Some low) words h cell
    → ((word : ℕ) → is_write act ≡ false → word ≡ word_for width back (is_flipped act) → answered ≢ word → may_answer fault (first + cell) word answered ≡ true)
    → suspect (told_by first (checked (act_on width cell back act)) answered) fault ≡ true
told width back first fault low words h cell WritePlain answered wrong is judge = absurd (cc)
told width back first fault low words h cell WriteFlipped answered wrong is judge = absurd (cc)
told width back first fault low words h cell ReadPlain answered wrong is judge = judge back refl refl (apart (answer (Some low) words h cell) back answered wrong is)
told width back first fault low words h cell ReadFlipped answered wrong is judge = judge (complement_of width back) refl refl (apart (answer (Some low) words h cell) (complement_of width back) answered wrong is)

pub culprits : PutSame → PlansAreSteady → CulpritsAreSuspects
unfolding evidence_of misses_of
culprits same steady probe [] fault accepted inside explains = refl
culprits same steady probe (m ∷ more) fault accepted inside explains =
    ap (λ (x : Item). suspect (told_by probe.first (checked x) m.word) fault) (item_is probe m.index l)
    ∙ told probe.width probe.background probe.first fault low words (past probe m.index) t.cell t.act m.word
    (ap (λ (x : Item). not (agrees (Some low) words (past probe m.index) x)) (sym (item_is probe m.index l)) ∙ first.is)
    (first.answered
    ∙ ap (λ (x : Item). answer (Some low) words (past probe m.index) (place x)) (item_is probe m.index l)
    ∙ ap (answer (Some low) words (past probe m.index)) (place_of probe.width t.cell probe.background t.act))
    (λ word reads is differs. may same probe.first probe.n fault words (past probe m.index) t.cell word m.word inside.inside here
    (expected steady probe words m.index accepted.march l reads ∙ sym is)
    (first.answered
    ∙ ap (λ (x : Item). answer (Some low) words (past probe m.index) (place x)) (item_is probe m.index l)
    ∙ ap (answer (Some low) words (past probe m.index)) (place_of probe.width t.cell probe.background t.act)) differs)
  where
    low : Fault
    low = moved_down probe.first fault

    words : List ℕ
    words = first_words low (replicate probe.n probe.initial)

    first : IsFirst (Some low) words (accesses_of probe) 0 (length (accesses_of probe)) m
    first = first_is (Some low) words (accesses_of probe) 0 (length (accesses_of probe)) m more explains

    l : m.index < length (steps_of probe.alg probe.n)
    l = let w = first.within in omega (arith, w, length-accesses probe)

    t : Step
    t = step_of probe m.index

    goes : (b : Bool) → may_go_wrong low t.cell ≡ b → may_go_wrong low t.cell ≡ true
    goes true is = is
    goes false is = let e : true ≡ false = sym first.is ∙ no_miss steady probe low words m.index accepted.march l is in absurd (cc)

    here : may_go_wrong low t.cell ≡ true
    here = goes (may_go_wrong low t.cell) refl

-- ---- evidence

-- there is no read past the end
pub checked_past : (probe : Probe) (i : ℕ) → length (steps_of probe.alg probe.n) ≤ i → None ≡ checked_at probe i
checked_past probe i h = sym (ap checked (get_or_past (accesses_of probe) i (Look 0) (omega (arith, h, length-accesses probe))))

-- the first miss alone tells it
pub evidence_first : (probe : Probe) (misses : List Miss) (m : Miss) → slice_get misses 0 ≡ Some m → evidence_of probe (m ∷ []) ≡ evidence_of probe misses
unfolding evidence_of
evidence_first probe [] m e = absurd (cc)
evidence_first probe (x ∷ misses) m e = let f : x ≡ m = cc in ap (λ (n : Miss). told_by probe.first (checked_at probe n.index) n.word) (sym f)

pub evidence_none : (probe : Probe) (misses : List Miss) → slice_get misses 0 ≡ None → NoMiss ≡ evidence_of probe misses
unfolding evidence_of
evidence_none probe [] e = refl
evidence_none probe (x ∷ misses) e = absurd (cc)
