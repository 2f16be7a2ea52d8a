-- The first miss is one of a read that the fault may disturb.
use Rattle.std.proofs.Common.{◌≡◌, ℕ, zero, suc, ◌+◌, ◌-◌, ◌<◌, ◌≤◌, ◌==◌, eqb, Bool, true, false, not, ◌||◌, List, [], ◌∷◌, ◌++◌, map, reverse, take, length, get_or, replicate, Option, Some, None, refl, sym, ap, ◌∙◌, arith, inl, inr, append-nil}
use Rattle.std.specs.Prelude.{◌≢◌, if◌then◌else◌, slice_get, IsSomeAnd}
use Rattle.std.specs.Bool.{then_some}
use Rattle.std.specs.List.{cons_option}
use Rattle.std.proofs.lemmas.Bool.{eq-eqb, ne_eqb, cases_eq}
use Rattle.std.proofs.lemmas.Option.{slice_get-get_or, get_or_from_slice_get}
use Rattle.mt_word.specs.declared.Width.{Width}
use Rattle.mt_word.specs.declared.Width.TheVariants.{W8, W16, W32, W64}
use Rattle.mt_word.specs.Word.{Fits, complement_of}
use Rattle.mt_fault.specs.declared.fault.Fault.{Fault}
use Rattle.mt_fault.specs.declared.fault.Fault.TheVariants.{StuckAt, CannotRise, CannotFall, Invert, Force, State, NoCell, Also, Instead}
use Rattle.mt_fault.specs.History.{History, plain}
use Rattle.mt_fault.specs.Faulty.{answer, answer_under, stored_under}
use Rattle.mt_fault.specs.Items.{Item, Look, place, access_of, history, agrees}
use Rattle.mt_fault.specs.Memory.{Memory, first_words}
use Rattle.mt_fault.specs.Projection.{names}
use Rattle.mt_plan.specs.declared.algorithm.Act.{Act}
use Rattle.mt_plan.specs.declared.algorithm.Act.TheVariants.{WritePlain, WriteFlipped, ReadPlain, ReadFlipped}
use Rattle.mt_plan.specs.declared.algorithm.Step.{Step}
use Rattle.mt_plan.specs.Lists.{is_write, is_flipped, step, read_act}
use Rattle.mt_plan.specs.Accesses.{act_on, item_of}
use Rattle.mt_plan.specs.Plan.{steps_of, IsAccepted}
use Rattle.mt_plan.specs.Steady.{PlansAreSteady}
use Rattle.mt_decoder.specs.Misses.{accesses, is_miss}
use Rattle.mt_locate.specs.declared.probe.Probe.{Probe}
use Rattle.mt_locate.specs.declared.probe.Miss.{Miss}
use Rattle.mt_locate.specs.Misses.{answer_at, misses_of, wrong_answer}
use Rattle.mt_locate.specs.Explanations.{accesses_of, misses_under}
use Rattle.mt_locate.specs.Suspects.{FirstMissTellsWhatIsSeen}
use Rattle.mt_locate.proofs.MissLists.{miss, misses_from}
use Rattle.mt_locate.proofs.Spans.{Answered, length-accesses, access_at, place_of}
use Rattle.mt_locate.proofs.Sound.{may_go_wrong, word_for, item_at, found, sound_answer}
use Rattle.mt_locate.proofs.CellReads.{each_is_read, has_at}

-- ---- the accesses of a probe, without an offset

raw : (width : Width) (back : ℕ) (steps : List Step) → map (item_of width 0 (λ cell. back)) steps ≡ map (item_at width back) steps
raw width back [] = refl
raw width back (t ∷ more) =
    (let e : 0 + t.cell ≡ t.cell = omega arith in ap (λ (a : ℕ). act_on width a back t.act ∷ map (item_of width 0 (λ cell. back)) more) e)
    ∙ ap (λ (l : List Item). item_at width back t ∷ l) (raw width back more)

accesses_are : (probe : Probe) → accesses_of probe ≡ map (item_at probe.width probe.background) (steps_of probe.alg probe.n)
unfolding accesses
accesses_are probe = raw probe.width probe.background (steps_of probe.alg probe.n)

abbrev none : Step
none = record { cell = 0; act = ReadPlain }

abbrev pub step_of : Probe → ℕ → Step
step_of probe i = get_or (steps_of probe.alg probe.n) i none

-- what was accessed before the access with an index
abbrev pub past : Probe → ℕ → History
past probe i = history (take i (accesses_of probe))

history_is : (probe : Probe) (i : ℕ) → past probe i ≡ reverse (map access_of (take i (map (item_at probe.width probe.background) (steps_of probe.alg probe.n)))) ++ []
unfolding history
history_is probe i = ap (λ (l : List Item). reverse (map access_of (take i l))) (accesses_are probe) ∙ sym (append-nil _)

pub item_is : (probe : Probe) (i : ℕ) → i < length (steps_of probe.alg probe.n) → get_or (accesses_of probe) i (Look 0) ≡ item_at probe.width probe.background (step_of probe i)
item_is probe i l = access_at probe i (step_of probe i) (slice_get-get_or (steps_of probe.alg probe.n) i none l)

-- a read finds what it expects in plain memory
pub expected : PlansAreSteady → (probe : Probe) (words : List ℕ) (i : ℕ) → IsAccepted probe.alg → i < length (steps_of probe.alg probe.n) → is_write ((step_of probe i).act) ≡ false
    → plain words (past probe i) ((step_of probe i).cell) ≡ word_for probe.width probe.background (is_flipped ((step_of probe i).act))
expected steady probe words i accepted l reads =
    ap (λ (h : History). plain words h ((step_of probe i).cell)) (history_is probe i)
    ∙ found probe.width probe.background ((step_of probe i).cell) words (steps_of probe.alg probe.n) None [] i (is_flipped ((step_of probe i).act))
    ((steady probe.alg probe.n accepted).steady ((step_of probe i).cell)) tt l refl reads refl

pub agrees_well : (width : Width) (back : ℕ) (fault : Fault) (words : List ℕ) (h : History) (cell : ℕ) (act : Act) → may_go_wrong fault cell ≡ false
    → (is_write act ≡ false → plain words h cell ≡ word_for width back (is_flipped act)) → agrees (Some fault) words h (act_on width cell back act) ≡ true
agrees_well width back fault words h cell WritePlain e k = refl
agrees_well width back fault words h cell WriteFlipped e k = refl
agrees_well width back fault words h cell ReadPlain e k = eq-eqb (answer (Some fault) words h cell) back (sound_answer fault words h cell e ∙ k refl)
agrees_well width back fault words h cell ReadFlipped e k = eq-eqb (answer (Some fault) words h cell) (complement_of width back) (sound_answer fault words h cell e ∙ k refl)

-- a read that cannot go wrong is no miss
pub no_miss : PlansAreSteady → (probe : Probe) (fault : Fault) (words : List ℕ) (i : ℕ) → IsAccepted probe.alg → i < length (steps_of probe.alg probe.n)
    → may_go_wrong fault ((step_of probe i).cell) ≡ false → is_miss (Some fault) words (accesses_of probe) i ≡ false
no_miss steady probe fault words i accepted l e =
    ap (λ (x : Item). not (agrees (Some fault) words (past probe i) x)) (item_is probe i l)
    ∙ ap not (agrees_well probe.width probe.background fault words (past probe i) ((step_of probe i).cell) ((step_of probe i).act) e (λ r. expected steady probe words i accepted l r))

-- ---- the first of all misses

-- What is known of the first miss.
pub record IsFirst (fault : Option Fault) (words : List ℕ) (items : List Item) (from count : ℕ) (t : Miss) : Type 0 where
  pub after : from ≤ t.index
  pub within : t.index < from + count
  pub is : is_miss fault words items t.index ≡ true
  pub answered : t.word ≡ answer_at fault words items t.index

pub first_is : (fault : Option Fault) (words : List ℕ) (items : List Item) (i k : ℕ) (t : Miss) (more : List Miss) → misses_from fault words items i k ≡ t ∷ more → IsFirst fault words items i k t
first_is fault words items i zero t more e = absurd (cc)
first_is fault words items i (suc k) t more e = of (λ f. first_is fault words items (i + 1) k t more f) (is_miss fault words items i) refl
  where
    of : (misses_from fault words items (i + 1) k ≡ t ∷ more → IsFirst fault words items (i + 1) k t) → (b : Bool) → is_miss fault words items i ≡ b → IsFirst fault words items i (suc k) t
    of later true is =
        let x : ℕ = answer_at fault words items i in
        let f : miss i x ∷ misses_from fault words items (i + 1) k ≡ t ∷ more =
        ap (λ (b : Bool). cons_option (then_some b (miss i x)) (misses_from fault words items (i + 1) k)) (sym is) ∙ e in
        let g : miss i x ≡ t = cc in
        let h : i ≡ t.index = ap (λ (m : Miss). m.index) g in
        record {
          after = omega (arith, h);
          within = omega (arith, h);
          is = ap (is_miss fault words items) (sym h) ∙ is;
          answered = sym (ap (λ (m : Miss). m.word) g) ∙ ap (answer_at fault words items) h;
        }
    of later false is =
        let x : ℕ = answer_at fault words items i in
        let f : misses_from fault words items (i + 1) k ≡ t ∷ more =
        ap (λ (b : Bool). cons_option (then_some b (miss i x)) (misses_from fault words items (i + 1) k)) (sym is) ∙ e in
        let r = later f in
        let a = r.after in
        let w = r.within in
        record { after = omega (arith, a); within = omega (arith, w); is = r.is; answered = r.answered }

-- where there is a miss, there is a first one
pub some_miss : (fault : Option Fault) (words : List ℕ) (items : List Item) (i k j : ℕ) → i ≤ j → j < i + k → is_miss fault words items j ≡ true → misses_from fault words items i k ≡ [] → ⊥
some_miss fault words items i zero j a b is e = omega (arith, a, b)
some_miss fault words items i (suc k) j a b is e = of (λ p q f. some_miss fault words items (i + 1) k j p q is f) (is_miss fault words items i) refl
  where
    of : (i + 1 ≤ j → j < i + 1 + k → misses_from fault words items (i + 1) k ≡ [] → ⊥) → (q : Bool) → is_miss fault words items i ≡ q → ⊥
    of later true here =
        let x : ℕ = answer_at fault words items i in
        let f : miss i x ∷ misses_from fault words items (i + 1) k ≡ [] =
        ap (λ (q : Bool). cons_option (then_some q (miss i x)) (misses_from fault words items (i + 1) k)) (sym here) ∙ e in
        absurd (cc)
    of later false here =
        let x : ℕ = answer_at fault words items i in
        let f : misses_from fault words items (i + 1) k ≡ [] =
        ap (λ (q : Bool). cons_option (then_some q (miss i x)) (misses_from fault words items (i + 1) k)) (sym here) ∙ e in
        elim (cases_eq i j) [
          | inl same ↦ let g : true ≡ false = sym is ∙ ap (is_miss fault words items) (sym same) ∙ here in absurd (cc)
          | inr apart ↦ later (omega (arith, a, apart)) (omega (arith, b)) f
        ]

-- ---- a word without a cell

complement_differs : (width : Width) (word : ℕ) → Fits width word → complement_of width word ≢ word
complement_differs W8 word fits e = omega (arith, fits, e)
complement_differs W16 word fits e = omega (arith, fits, e)
complement_differs W32 word fits e = omega (arith, fits, e)
complement_differs W64 word fits e = omega (arith, fits, e)

seen_answer : (addr seen cell : ℕ) (words : List ℕ) (h : History) → eqb cell addr ≡ true → answer (Some (NoCell addr seen)) words h cell ≡ seen
unfolding answer_under stored_under
seen_answer addr seen cell words h e = ap (λ (t : Bool). if t then seen else stored_under (NoCell addr seen) words h cell) e

-- one of the two words of a cell is not the one that is seen
other_value : (width : Width) (back seen : ℕ) → Fits width back → (value : Bool) × (seen ≢ word_for width back value)
other_value width back seen fits = elim (cases_eq seen back) [
  | inl same ↦ (true, λ e. complement_differs width back fits (sym e ∙ same))
  | inr apart ↦ (false, apart)
]

missed_read : (probe : Probe) (addr seen : ℕ) (words : List ℕ) (value : Bool) (i : ℕ) → seen ≢ word_for probe.width probe.background value → i < length (steps_of probe.alg probe.n)
    → step_of probe i ≡ step addr (read_act value) → is_miss (Some (NoCell addr seen)) words (accesses_of probe) i ≡ true
missed_read probe addr seen words value i apart l at =
    ap (λ (x : Item). not (agrees (Some (NoCell addr seen)) words (past probe i) x)) (item_is probe i l ∙ ap (item_at probe.width probe.background) at)
    ∙ of value apart
  where
    sees : answer (Some (NoCell addr seen)) words (past probe i) addr ≡ seen
    sees = seen_answer addr seen addr words (past probe i) (eq-eqb addr addr refl)

    of : (v : Bool) → seen ≢ word_for probe.width probe.background v → not (agrees (Some (NoCell addr seen)) words (past probe i) (act_on probe.width addr probe.background (read_act v))) ≡ true
    of true a = ap not (ne_eqb _ (complement_of probe.width probe.background) (λ e. a (sym sees ∙ e)))
    of false a = ap not (ne_eqb _ probe.background (λ e. a (sym sees ∙ e)))

pub first_miss_tells : PlansAreSteady → FirstMissTellsWhatIsSeen
unfolding misses_of
first_miss_tells steady probe misses addr seen accepted inside explains = of misses explains
  where
    cell : ℕ
    cell = addr - probe.first

    words : List ℕ
    words = first_words (NoCell cell seen) (replicate probe.n probe.initial)

    below : cell < probe.n
    below = let b = inside.inside.0.below in let f = inside.inside.0.from in omega (arith, b, f)

    some : misses_from (Some (NoCell cell seen)) words (accesses_of probe) 0 (length (accesses_of probe)) ≡ [] → ⊥
    some e =
        let v = other_value probe.width probe.background seen accepted.background in
        let r = has_at (steps_of probe.alg probe.n) (step cell (read_act v.0)) none (each_is_read probe.alg probe.n cell v.0 accepted.march below) in
        let l : r.0 < length (steps_of probe.alg probe.n) = r.1 in
        some_miss (Some (NoCell cell seen)) words (accesses_of probe) 0 (length (accesses_of probe)) r.0 (omega arith) (omega (arith, l, length-accesses probe))
        (missed_read probe cell seen words v.0 r.0 v.1 l r.2) e

    culprit : (m : Miss) → IsFirst (Some (NoCell cell seen)) words (accesses_of probe) 0 (length (accesses_of probe)) m → m.index < length (steps_of probe.alg probe.n)
        → (b : Bool) → eqb ((step_of probe m.index).cell) cell ≡ b → eqb ((step_of probe m.index).cell) cell ≡ true
    culprit m first l true is = is
    culprit m first l false is = let e : true ≡ false = sym first.is ∙ no_miss steady probe (NoCell cell seen) words m.index accepted.march l is in absurd (cc)

    of : (ms : List Miss) → misses_under probe (NoCell addr seen) ≡ ms → IsSomeAnd (slice_get ms 0) (λ m. m.word ≡ seen)
    of [] e = absurd (some e)
    of (m ∷ more) e =
        let first = first_is (Some (NoCell cell seen)) words (accesses_of probe) 0 (length (accesses_of probe)) m more e in
        let w = first.within in
        let l : m.index < length (steps_of probe.alg probe.n) = omega (arith, w, length-accesses probe) in
        first.answered
        ∙ ap (λ (x : Item). answer (Some (NoCell cell seen)) words (past probe m.index) (place x)) (item_is probe m.index l)
        ∙ ap (answer (Some (NoCell cell seen)) words (past probe m.index)) (place_of probe.width ((step_of probe m.index).cell) probe.background ((step_of probe m.index).act))
        ∙ seen_answer cell seen ((step_of probe m.index).cell) words (past probe m.index) (culprit m first l (eqb ((step_of probe m.index).cell) cell) refl)

-- ---- the words of a fault

or_both : (a b : Bool) → (a || b) ≡ false → (a ≡ false) × (b ≡ false)
or_both true b e = absurd (cc)
or_both false b e = (refl, e)

-- a read of a word that the fault does not name cannot go wrong
unnamed : (fault : Fault) (cell : ℕ) → names fault cell ≡ false → may_go_wrong fault cell ≡ false
unnamed (StuckAt vic value) cell e = (or_both _ _ e).0
unnamed (CannotRise vic) cell e = (or_both _ _ e).0
unnamed (CannotFall vic) cell e = (or_both _ _ e).0
unnamed (Invert agg rise vic) cell e = (or_both _ _ (or_both _ _ e).1).0
unnamed (Force agg rise vic value) cell e = (or_both _ _ (or_both _ _ e).1).0
unnamed (State agg holds vic value) cell e = (or_both _ _ (or_both _ _ e).1).0
unnamed (NoCell addr seen) cell e = (or_both _ _ e).0
unnamed (Also addr other wired_and) cell e = let both = or_both _ _ e in ap (λ (t : Bool). t || (cell == other)) both.0 ∙ (or_both _ _ both.1).0
unnamed (Instead addr other) cell e = let both = or_both _ _ e in ap (λ (t : Bool). t || (cell == other)) both.0 ∙ (or_both _ _ both.1).0

-- a step, as an access of a memory under a fault
pub step_answered : PlansAreSteady → (probe : Probe) (m : Memory) (f : Fault) (i : ℕ) (t : Step) {now : Memory} {wrong : Option ℕ}
    → IsAccepted probe.alg → length m.words ≡ probe.n → i < length (steps_of probe.alg probe.n) → slice_get (steps_of probe.alg probe.n) i ≡ Some t → t.cell < probe.n
    → (names f t.cell ≡ true → wrong ≡ wrong_answer now (act_on probe.width t.cell probe.background t.act)) → (names f t.cell ≡ false → wrong ≡ None)
    → Answered m f (accesses_of probe) i now (act_on probe.width t.cell probe.background t.act) wrong
step_answered steady probe m f i t {now} {wrong} accepted size within at inside own other =
    let item : Item = act_on probe.width t.cell probe.background t.act in
    let addr : place item ≡ t.cell = place_of probe.width t.cell probe.background t.act in
    let step_is : step_of probe i ≡ t = get_or_from_slice_get (steps_of probe.alg probe.n) i t none at in
    record {
      within = omega (arith, within, length-accesses probe);
      here = access_at probe i t at;
      inside = omega (arith, addr, size, inside);
      own = λ e. own (ap (names f) (sym addr) ∙ e);
      other = λ e. other (ap (names f) (sym addr) ∙ e);
      spared = λ e. no_miss steady probe f m.words i accepted within (ap (λ (s : Step). may_go_wrong f s.cell) step_is ∙ unnamed f t.cell (ap (names f) (sym addr) ∙ e));
    }
