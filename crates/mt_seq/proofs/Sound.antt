-- Sequences on sound memory, and the join with coverage.
use Rattle.std.proofs.Common.{ℕ, zero, suc, ◌+◌, ◌-◌, ◌<◌, ◌≤◌, ◌≡◌, ◌≢◌, ◌==◌, ◌⊎◌, inl, inr, Bool, true, false, cond, if◌then◌else◌, List, [], ◌∷◌, ◌++◌, map, length, get_or, refl, ap, sym, ◌∙◌, arith, append-nil, take, Option, Some, None}
use Rattle.std.specs.Prelude.{All, nat_le, nat_lt}
use Rattle.std.specs.List.{filter, range_with_len}
use mathlib.Core.Bool.{◌&&◌}
use Rattle.std.proofs.lemmas.Bool.{eq-eqb, ne_eqb, cases_Bool, cases_eq, cases_lt, both_ways, lt-ltb, le-ltb, le-leb, lt-leb}
use Rattle.std.proofs.lemmas.List.{map-append}
use Rattle.std.proofs.lemmas.List.Elements.{All-tail, All-map, All-append, All-cons, All-nil, All-take}
use Rattle.std.proofs.lemmas.List.{length-map}
use Rattle.std.proofs.Math.ListN.{get_or-append}
use Rattle.std.proofs.Math.Seq.{get_or-append_seam}
use Rattle.mt_fault.proofs.Steps.{plain_none}
use Rattle.mt_fault.proofs.ItemLemmas.{history-cons, history-append, passes-append, both}
use Rattle.mt_seq.proofs.Lengths.{length-cells, length-saving}
use Rattle.mt_word.specs.declared.Width.{Width}
use Rattle.mt_word.specs.Word.{complement_of}
use Rattle.mt_fault.specs.declared.fault.Fault.{Fault}
use Rattle.mt_fault.specs.History.{Access, Read, Write, History, plain}
use Rattle.mt_fault.specs.Faulty.{address, answer, words_after, stored}
use Rattle.mt_fault.specs.Projection.{is_of_fault}
use Rattle.mt_fault.proofs.Others.{answer_plain}
use Rattle.mt_fault.proofs.Own.{answer_own}
use Rattle.mt_plan.specs.declared.algorithm.Act.{Act}
use Rattle.mt_plan.specs.declared.algorithm.Act.TheVariants.{WritePlain, WriteFlipped, ReadPlain, ReadFlipped}
use Rattle.mt_plan.specs.declared.algorithm.Step.{Step}
use Rattle.mt_plan.specs.Lists.{cells}
use Rattle.mt_march.specs.Accepted.{wrote as may_expect}
use Rattle.mt_plan.specs.Steady.{steady}
use Rattle.mt_plan.proofs.SteadyPlans.{steady_plans}
use Rattle.mt_plan.specs.Plan.{steps_of, IsAccepted}
use Rattle.mt_port.specs.Board.{Board}
use Rattle.mt_seq.specs.declared.sequence.Slice.{Slice}
use Rattle.mt_seq.specs.declared.sequence.Job.{Job}
use Rattle.mt_plan.specs.declared.algorithm.Policy.{Policy}
use Rattle.mt_plan.specs.declared.algorithm.Policy.TheVariants.{NonDestructive, Destructive}
use Rattle.mt_fault.specs.Items.{Item, Look, Check, Store, place, access_of, history, agrees, passes}
use Rattle.mt_plan.specs.Accesses.{act_on, item_of}
use Rattle.mt_seq.specs.Sequence.{back_of, last_of, saving, saved_words, testing, ending, accesses_of, sequence, sequence_verdict, sequence_words, verdict_of}
use Rattle.mt_seq.specs.declared.sequence.Verdict.TheVariants.{Pass}
use Rattle.mt_seq.specs.Attempts.{attempt, attempt_to, attempt_verdict, attempt_words, backed_out, dropped_at, verdict_to}
use Rattle.mt_seq.specs.Laws.{is_in, left_words, SoundMemoryPasses, SoundMemoryStays, CaughtFaultsFail, DroppedAttemptsStay, WholeAttemptsPass}
use Rattle.mt_seq.proofs.Attempts.{dropped}
use Rattle.mt_seq.proofs.Underway.{IsLook, early_looks}

-- lists whose items are never checked
abbrev pub Unchecked : Item → Type 0
Unchecked item = (fault : Option Fault) (first : List ℕ) (h : History) → agrees fault first h item ≡ true

passes-unchecked : {X : Type 0} (f : X → Item) → ((x : X) (fault : Option Fault) (first : List ℕ) (h : History) → agrees fault first h (f x) ≡ true)
    → (xs : List X) (fault : Option Fault) (first : List ℕ) (h : History) → passes fault first h (map f xs) ≡ true
unfolding passes
passes-unchecked f free [] fault first h = refl
passes-unchecked f free (x ∷ xs) fault first h = both _ true _ true (free x fault first h) (passes-unchecked f free xs fault first (access_of (f x) ∷ h))

passes-saving : (policy : Policy) (slice : Slice) (fault : Option Fault) (first : List ℕ) (h : History) → passes fault first h (saving policy slice) ≡ true
passes-saving NonDestructive slice fault first h = passes-unchecked (λ (cell : ℕ). Look (slice.first + cell)) (λ x k w e. refl) (cells slice.n) fault first h
passes-saving Destructive slice fault first h = none fault first h
  where
    none : (fault : Option Fault) (first : List ℕ) (h : History) → passes fault first h [] ≡ true
    none fault first h = passes-unchecked (λ (cell : ℕ). Look cell) (λ x k w e. refl) [] fault first h

passes-ending : (job : Job) (slice : Slice) (saved : List ℕ) (fault : Option Fault) (first : List ℕ) (h : History) → passes fault first h (ending job slice saved) ≡ true
passes-ending job slice saved fault first h = passes-unchecked (λ (cell : ℕ). Store (slice.first + cell) (last_of job.policy job.fill saved cell)) (λ x k w e. refl) (cells slice.n) fault first h

-- a sequence passes exactly where the algorithm's accesses do, after the saving reads
pub passes-sequence : (b : Board) (job : Job) (slice : Slice) (steps : List Step)
    → passes b.fault b.words [] (accesses_of b job slice steps)
    ≡ passes b.fault b.words (history (saving job.policy slice)) (testing b.shape.width job slice (saved_words job.policy b.fault b.words slice) steps)
unfolding accesses_of
passes-sequence b job slice steps =
    let saved = saved_words job.policy b.fault b.words slice in
    let front = saving job.policy slice in
    let middle = testing b.shape.width job slice saved steps in
    let back = ending job slice saved in
    passes-append b.fault b.words [] (front ++ middle) back
    ∙ both _ (passes b.fault b.words (history front) middle) _ true
    (passes-append b.fault b.words [] front middle ∙ both _ true _ (passes b.fault b.words (history front) middle) (passes-saving job.policy slice b.fault b.words []) (ap (λ h. passes b.fault b.words h middle) (append-nil (history front))))
    (passes-ending job slice saved b.fault b.words (history (front ++ middle) ++ []))
    ∙ and_true (passes b.fault b.words (history front) middle)
  where
    and_true : (x : Bool) → (x && true) ≡ x
    and_true true = refl
    and_true false = refl

-- ---- the join with coverage

pub caught_fails : CaughtFaultsFail
unfolding sequence_verdict sequence
caught_fails b job slice caught =
    ap verdict_of (passes-sequence b job slice (steps_of job.alg slice.n) ∙ caught (history (saving job.policy slice)))

-- ---- sound memory passes

-- the word that a write of a cell wrote
abbrev pub worth : Width → ℕ → Bool → ℕ
worth width back false = back
worth width back true = complement_of width back

-- a cell holds what the last write to it wrote, if there was one
abbrev pub Holds : Width → ℕ → Option Bool → ℕ → Type 0
Holds width back None word = Unit {0}
Holds width back (Some wrote) word = word ≡ worth width back wrote

-- the state after a write of a cell
abbrev after_write : (ℕ → Option Bool) → ℕ → Bool → ℕ → Option Bool
after_write u cell wrote j = if cell == j then Some wrote else u j

-- the word of a cell is none of the fault's
abbrev pub Other : Option Fault → ℕ → ℕ → Type 0
Other fault base j = is_of_fault fault (base + j) ≡ false

sound_write : (width : Width) (fault : Option Fault) (first : List ℕ) (h : History) (base : ℕ) (back : ℕ → ℕ) (u : ℕ → Option Bool) (cell : ℕ) (wrote : Bool)
    → ((j : ℕ) → Other fault base j → Holds width (back j) (u j) (plain first h (base + j)))
    → (j : ℕ) → Other fault base j → Holds width (back j) (after_write u cell wrote j) (plain first (Write (base + cell) (worth width (back cell) wrote) ∷ h) (base + j))
sound_write width fault first h base back u cell wrote holds j o =
    elim (cases_eq cell j) [
      | inl e ↦ (let here : (cell == j) ≡ true = eq-eqb _ _ e in
          let at : (base + j == base + cell) ≡ true = eq-eqb _ _ (omega arith) in
          rw (here, at) (ap (λ (c : ℕ). worth width (back c) wrote) e))
      | inr e ↦ (let here : (cell == j) ≡ false = ne_eqb _ _ e in
          let at : (base + j == base + cell) ≡ false = ne_eqb _ _ (λ x. e (omega arith)) in
          rw (here, at) (holds j o))
    ]

expected : (width : Width) (back : ℕ) (wrote : Option Bool) (flipped : Bool) (word : ℕ) → Holds width back wrote word → may_expect wrote flipped ≡ true → word ≡ worth width back flipped
expected width back None flipped word holds e = cc
expected width back (Some false) false word holds e = holds
expected width back (Some false) true word holds e = cc
expected width back (Some true) false word holds e = cc
expected width back (Some true) true word holds e = holds

steady_write : (b : Bool) (j : ℕ) (wrote : Bool) (was : Option Bool) (more : List Step) → cond b (steady j (Some wrote) more) (steady j was more) ≡ true → steady j (cond b (Some wrote) was) more ≡ true
steady_write true j wrote was more e = e
steady_write false j wrote was more e = e

and_left : (p q : Bool) → (p && q) ≡ true → p ≡ true
and_left true q e = refl
and_left false q e = e

and_right : (p q : Bool) → (p && q) ≡ true → q ≡ true
and_right true q e = e
and_right false q e = cc

steady_read : (b p s : Bool) → cond b (p && s) s ≡ true → s ≡ true
steady_read true p s e = and_right p s e
steady_read false p s e = e

cond_true : (b : Bool) (p q : Bool) → b ≡ true → cond b p q ≡ true → p ≡ true
cond_true true p q e f = f
cond_true false p q e f = cc

-- the accesses of the fault's words alone, and a history without all others
abbrev pub own_items : Option Fault → List Item → List Item
own_items fault items = filter (λ (x : Item). is_of_fault fault (place x)) items

abbrev pub own_history : Option Fault → History → History
own_history fault h = filter (λ (x : Access). is_of_fault fault (address x)) h

-- What is answered at a word of the fault's goes by these alone, and at another word is as in plain memory.
own_answer : (fault : Option Fault) (first : List ℕ) (h : History) (a : ℕ) → is_of_fault fault a ≡ true → answer fault first h a ≡ answer fault first (own_history fault h) a
own_answer None first h a t = cc
own_answer (Some f) first h a t = sym (answer_own f first h a t)

pub other_answer : (fault : Option Fault) (first : List ℕ) (h : History) (a : ℕ) → is_of_fault fault a ≡ false → answer fault first h a ≡ plain first h a
other_answer None first h a o = refl
other_answer (Some f) first h a o = answer_plain f first h a o

-- what the rest of a plan needs: it passes exactly where its accesses of the fault's words do
abbrev pub Rest : Width → Option Fault → List ℕ → ℕ → (ℕ → ℕ) → List Step → Type 0
Rest width fault first base back more =
    (u : ℕ → Option Bool) (h : History) → ((j : ℕ) → Other fault base j → steady j (u j) more ≡ true)
    → ((j : ℕ) → Other fault base j → Holds width (back j) (u j) (plain first h (base + j)))
    → passes fault first h (map (item_of width base back) more) ≡ passes fault first (own_history fault h) (own_items fault (map (item_of width base back) more))

-- a cell of the fault's is another than one that isn't
apart : (fault : Option Fault) (base cell j : ℕ) → is_of_fault fault (base + cell) ≡ true → Other fault base j → cell ≢ j
apart fault base cell j t o e = both_ways (is_of_fault fault (base + j)) o (ap (λ (k : ℕ). is_of_fault fault (base + k)) (sym e) ∙ t)

past_true : (p x y : Bool) → p ≡ false → cond p x y ≡ true → y ≡ true
past_true true x y e f = cc
past_true false x y e f = f

-- ---- a step on a word of the fault's

own_write : (width : Width) (fault : Option Fault) (first : List ℕ) (base : ℕ) (back : ℕ → ℕ) (more : List Step) → Rest width fault first base back more
    → (u : ℕ → Option Bool) (h : History) (cell word : ℕ) (wrote : Bool) → is_of_fault fault (base + cell) ≡ true
    → ((j : ℕ) → Other fault base j → cond (cell == j) (steady j (Some wrote) more) (steady j (u j) more) ≡ true)
    → ((j : ℕ) → Other fault base j → Holds width (back j) (u j) (plain first h (base + j)))
    → passes fault first (Write (base + cell) word ∷ h) (map (item_of width base back) more)
    ≡ passes fault first (own_history fault h) (own_items fault (Store (base + cell) word ∷ map (item_of width base back) more))
unfolding passes
own_write width fault first base back more rest u h cell word wrote t st holds =
    rest u (Write (base + cell) word ∷ h) (λ j o. past_true (cell == j) _ _ (ne_eqb cell j (apart fault base cell j t o)) (st j o))
    (λ j o. let off : (base + j == base + cell) ≡ false = ne_eqb _ _ (λ e. apart fault base cell j t o (omega arith)) in rw off (holds j o))
    ∙ ap (λ (p : Bool). passes fault first (cond p (Write (base + cell) word ∷ own_history fault h) (own_history fault h)) (own_items fault (map (item_of width base back) more))) t
    ∙ sym (ap (λ (p : Bool). passes fault first (own_history fault h) (cond p (Store (base + cell) word ∷ own_items fault (map (item_of width base back) more)) (own_items fault (map (item_of width base back) more)))) t)

own_read : (width : Width) (fault : Option Fault) (first : List ℕ) (base : ℕ) (back : ℕ → ℕ) (more : List Step) → Rest width fault first base back more
    → (u : ℕ → Option Bool) (h : History) (cell word : ℕ) (flipped : Bool) → is_of_fault fault (base + cell) ≡ true
    → ((j : ℕ) → Other fault base j → cond (cell == j) (may_expect (u j) flipped && steady j (u j) more) (steady j (u j) more) ≡ true)
    → ((j : ℕ) → Other fault base j → Holds width (back j) (u j) (plain first h (base + j)))
    → ((answer fault first h (base + cell) == word) && passes fault first (Read (base + cell) ∷ h) (map (item_of width base back) more))
    ≡ passes fault first (own_history fault h) (own_items fault (Check (base + cell) word ∷ map (item_of width base back) more))
unfolding passes
own_read width fault first base back more rest u h cell word flipped t st holds =
    both _ _ _ _ (ap (λ (w : ℕ). w == word) (own_answer fault first h (base + cell) t))
    (rest u (Read (base + cell) ∷ h) (λ j o. past_true (cell == j) _ _ (ne_eqb cell j (apart fault base cell j t o)) (st j o)) holds
    ∙ ap (λ (p : Bool). passes fault first (cond p (Read (base + cell) ∷ own_history fault h) (own_history fault h)) (own_items fault (map (item_of width base back) more))) t)
    ∙ sym (ap (λ (p : Bool). passes fault first (own_history fault h) (cond p (Check (base + cell) word ∷ own_items fault (map (item_of width base back) more)) (own_items fault (map (item_of width base back) more)))) t)

-- ---- a step on another word

one_write : (width : Width) (fault : Option Fault) (first : List ℕ) (base : ℕ) (back : ℕ → ℕ) (more : List Step) → Rest width fault first base back more
    → (u : ℕ → Option Bool) (h : History) (cell : ℕ) (wrote : Bool) → Other fault base cell
    → ((j : ℕ) → Other fault base j → cond (cell == j) (steady j (Some wrote) more) (steady j (u j) more) ≡ true)
    → ((j : ℕ) → Other fault base j → Holds width (back j) (u j) (plain first h (base + j)))
    → passes fault first (Write (base + cell) (worth width (back cell) wrote) ∷ h) (map (item_of width base back) more)
    ≡ passes fault first (own_history fault h) (own_items fault (Store (base + cell) (worth width (back cell) wrote) ∷ map (item_of width base back) more))
unfolding passes
one_write width fault first base back more rest u h cell wrote o' st holds =
    rest (after_write u cell wrote) (Write (base + cell) (worth width (back cell) wrote) ∷ h)
    (λ j o. steady_write (cell == j) j wrote (u j) more (st j o))
    (sound_write width fault first h base back u cell wrote holds)
    ∙ ap (λ (p : Bool). passes fault first (cond p (Write (base + cell) (worth width (back cell) wrote) ∷ own_history fault h) (own_history fault h)) (own_items fault (map (item_of width base back) more))) o'
    ∙ sym (ap (λ (p : Bool). passes fault first (own_history fault h) (cond p (Store (base + cell) (worth width (back cell) wrote) ∷ own_items fault (map (item_of width base back) more)) (own_items fault (map (item_of width base back) more)))) o')

one_read : (width : Width) (fault : Option Fault) (first : List ℕ) (base : ℕ) (back : ℕ → ℕ) (more : List Step) → Rest width fault first base back more
    → (u : ℕ → Option Bool) (h : History) (cell : ℕ) (flipped : Bool) → Other fault base cell
    → ((j : ℕ) → Other fault base j → cond (cell == j) (may_expect (u j) flipped && steady j (u j) more) (steady j (u j) more) ≡ true)
    → ((j : ℕ) → Other fault base j → Holds width (back j) (u j) (plain first h (base + j)))
    → ((answer fault first h (base + cell) == worth width (back cell) flipped) && passes fault first (Read (base + cell) ∷ h) (map (item_of width base back) more))
    ≡ passes fault first (own_history fault h) (own_items fault (Check (base + cell) (worth width (back cell) flipped) ∷ map (item_of width base back) more))
unfolding passes
one_read width fault first base back more rest u h cell flipped o' st holds =
    both _ true _ _
    (eq-eqb _ _ (other_answer fault first h (base + cell) o' ∙ expected width (back cell) (u cell) flipped (plain first h (base + cell)) (holds cell o')
    (and_left _ _ (cond_true (cell == cell) (may_expect (u cell) flipped && steady cell (u cell) more) (steady cell (u cell) more) (eq-eqb cell cell refl) (st cell o')))))
    (rest u (Read (base + cell) ∷ h) (λ j o. steady_read (cell == j) (may_expect (u j) flipped) (steady j (u j) more) (st j o)) holds
    ∙ ap (λ (p : Bool). passes fault first (cond p (Read (base + cell) ∷ own_history fault h) (own_history fault h)) (own_items fault (map (item_of width base back) more))) o')
    ∙ sym (ap (λ (p : Bool). passes fault first (own_history fault h) (cond p (Check (base + cell) (worth width (back cell) flipped) ∷ own_items fault (map (item_of width base back) more)) (own_items fault (map (item_of width base back) more)))) o')

one_step : (width : Width) (fault : Option Fault) (first : List ℕ) (base : ℕ) (back : ℕ → ℕ) (more : List Step) → Rest width fault first base back more
    → (u : ℕ → Option Bool) (h : History) (cell : ℕ) (act : Act)
    → ((j : ℕ) → Other fault base j → steady j (u j) (record { cell = cell; act = act } ∷ more) ≡ true)
    → ((j : ℕ) → Other fault base j → Holds width (back j) (u j) (plain first h (base + j)))
    → (agrees fault first h (act_on width (base + cell) (back cell) act) && passes fault first (access_of (act_on width (base + cell) (back cell) act) ∷ h) (map (item_of width base back) more))
    ≡ passes fault first (own_history fault h) (own_items fault (act_on width (base + cell) (back cell) act ∷ map (item_of width base back) more))
one_step width fault first base back more rest u h cell WritePlain st holds = elim (cases_Bool (is_of_fault fault (base + cell))) [
  | inl t ↦ own_write width fault first base back more rest u h cell (back cell) false t st holds
  | inr o ↦ one_write width fault first base back more rest u h cell false o st holds
]
one_step width fault first base back more rest u h cell WriteFlipped st holds = elim (cases_Bool (is_of_fault fault (base + cell))) [
  | inl t ↦ own_write width fault first base back more rest u h cell (complement_of width (back cell)) true t st holds
  | inr o ↦ one_write width fault first base back more rest u h cell true o st holds
]
one_step width fault first base back more rest u h cell ReadPlain st holds = elim (cases_Bool (is_of_fault fault (base + cell))) [
  | inl t ↦ own_read width fault first base back more rest u h cell (back cell) false t st holds
  | inr o ↦ one_read width fault first base back more rest u h cell false o st holds
]
one_step width fault first base back more rest u h cell ReadFlipped st holds = elim (cases_Bool (is_of_fault fault (base + cell))) [
  | inl t ↦ own_read width fault first base back more rest u h cell (complement_of width (back cell)) true t st holds
  | inr o ↦ one_read width fault first base back more rest u h cell true o st holds
]

pub passes-own : (width : Width) (fault : Option Fault) (first : List ℕ) (base : ℕ) (back : ℕ → ℕ) (steps : List Step) → Rest width fault first base back steps
unfolding passes
passes-own width fault first base back [] u h st holds = refl
passes-own width fault first base back (t ∷ more) u h st holds =
    one_step width fault first base back more (passes-own width fault first base back more) u h t.cell t.act st holds

none_own : (items : List Item) → own_items None items ≡ []
none_own [] = refl
none_own (x ∷ xs) = none_own xs

passes-none : (fault : Option Fault) (first : List ℕ) (h : History) → passes fault first h [] ≡ true
unfolding passes
passes-none fault first h = refl

pub sound_passes : SoundMemoryPasses
unfolding sequence_verdict sequence
sound_passes b job slice e accepted =
    let steps = steps_of job.alg slice.n in
    let saved = saved_words job.policy b.fault b.words slice in
    let front = history (saving job.policy slice) in
    let tests : List Item = testing b.shape.width job slice saved steps in
    let st = (steady_plans job.alg slice.n accepted).steady in
    ap verdict_of (passes-sequence b job slice steps
    ∙ ap (λ (f : Option Fault). passes f b.words front tests) e
    ∙ passes-own b.shape.width None b.words slice.first (back_of job saved) steps (λ j. None) front (λ j o. st j) (λ j o. tt)
    ∙ ap (passes None b.words (own_history None front)) (none_own tests)
    ∙ passes-none None b.words (own_history None front))

-- ---- the words that are left

-- accesses of other addresses change nothing at this one
plain_one : (first : List ℕ) (h : History) (a : ℕ) (item : Item) → place item ≢ a → plain first (access_of item ∷ h) a ≡ plain first h a
plain_one first h a (Look b) ne = refl
plain_one first h a (Check b x) ne = refl
plain_one first h a (Store b x) ne = let off : (a == b) ≡ false = ne_eqb a b (λ e. ne (sym e)) in rw off refl

plain_other : (first : List ℕ) (a : ℕ) (items : List Item) (h : History) → All (λ (x : Item). place x ≢ a) items → plain first (history items ++ h) a ≡ plain first h a
unfolding history
plain_other first a [] h all = refl
plain_other first a (x ∷ xs) h all =
    ap (λ (k : History). plain first k a) (history-cons x xs h)
    ∙ plain_other first a xs (access_of x ∷ h) (All-tail (λ (y : Item). place y ≢ a) x xs all)
    ∙ plain_one first h a x (all 0 x (omega arith))

-- the writes at the end of a sequence
abbrev ends : ℕ → (ℕ → ℕ) → ℕ → List Item
ends base w n = map (λ (cell : ℕ). Store (base + cell) (w cell)) (cells n)

ends-more : (base : ℕ) (w : ℕ → ℕ) (n : ℕ) (h : History) → history (ends base w (suc n)) ++ h ≡ Write (base + n) (w n) ∷ (history (ends base w n) ++ h)
unfolding history
ends-more base w n h =
    ap (λ (l : List Item). history l ++ h) (map-append (λ (cell : ℕ). Store (base + cell) (w cell)) (cells n) (n ∷ []))
    ∙ ap (λ (l : History). l ++ h) (history-append (ends base w n) (Store (base + n) (w n) ∷ []))

ended : (first : List ℕ) (base : ℕ) (w : ℕ → ℕ) (n k : ℕ) (h : History) → k < n → plain first (history (ends base w n) ++ h) (base + k) ≡ w k
ended first base w zero k h lt = absurd (omega arith)
ended first base w (suc n) k h lt =
    ap (λ (l : History). plain first l (base + k)) (ends-more base w n h)
    ∙ elim (cases_eq k n) [
      | inl e ↦ (let at : (base + k == base + n) ≡ true = eq-eqb _ _ (omega arith) in rw at (ap w (sym e)))
      | inr e ↦ (let at : (base + k == base + n) ≡ false = ne_eqb _ _ (λ x. e (omega arith)) in rw at (ended first base w n k h (below k n lt e)))
    ]
  where
    below : (k n : ℕ) → k < suc n → k ≢ n → k < n
    below k n lt ne = omega arith

cells_below : (n : ℕ) → All (λ (c : ℕ). c < n) (cells n)
cells_below zero = All-nil (λ (c : ℕ). c < 0)
cells_below (suc n) = All-append (λ (c : ℕ). c < suc n) (cells n) (n ∷ []) (λ k d h. less n _ (cells_below n k d h)) (All-cons (λ (c : ℕ). c < suc n) n [] (omega arith) (All-nil (λ (c : ℕ). c < suc n)))
  where
    less : (n c : ℕ) → c < n → c < suc n
    less n c h = omega arith

pub cell_of : {X : Type 0} (f : ℕ → X) (n j : ℕ) (d : X) → j < n → get_or (map f (cells n)) j d ≡ f j
cell_of f zero j d h = absurd (omega arith)
cell_of f (suc n) j d h =
    let long : length (map f (cells n)) ≡ n = length-map (cells n) f ∙ length-cells n in
    ap (λ l. get_or l j d) (map-append f (cells n) (n ∷ []))
    ∙ elim (cases_eq j n) [
      | inl e ↦ ap (λ i. get_or (map f (cells n) ++ f n ∷ []) i d) (e ∙ sym long) ∙ get_or-append_seam (map f (cells n)) (f n) [] d ∙ ap f (sym e)
      | inr e ↦ get_or-append (map f (cells n)) (f n ∷ []) d j (omega arith) ∙ cell_of f n j d (omega arith)
    ]

-- maps that agree on the cells are one
pub map_below : {X : Type 0} (f g : ℕ → X) (n : ℕ) → ((c : ℕ) → c < n → f c ≡ g c) → map f (cells n) ≡ map g (cells n)
map_below f g zero same = refl
map_below {X} f g (suc n) same =
    map-append f (cells n) (n ∷ []) ∙ ap (λ (l : List X). l ++ f n ∷ []) (map_below f g n (λ c h. same c (omega arith))) ∙ ap (λ (x : X). map g (cells n) ++ x ∷ []) (same n (omega arith)) ∙ sym (map-append g (cells n) (n ∷ []))

-- no access of a sequence is at another address than those of its slice
abbrev pub Off : ℕ → Item → Type 0
Off a item = place item ≢ a

place_act : (width : Width) (addr back : ℕ) (act : Act) → place (act_on width addr back act) ≡ addr
place_act width addr back WritePlain = refl
place_act width addr back WriteFlipped = refl
place_act width addr back ReadPlain = refl
place_act width addr back ReadFlipped = refl

abbrev pub Outside : Slice → ℕ → Type 0
Outside slice a = (c : ℕ) → c < slice.n → slice.first + c ≢ a

pub off_saving : (policy : Policy) (slice : Slice) (a : ℕ) → Outside slice a → All (Off a) (saving policy slice)
off_saving NonDestructive slice a out = All-map (Off a) (λ (cell : ℕ). Look (slice.first + cell)) (cells slice.n) (λ k d h. out _ (cells_below slice.n k d h))
off_saving Destructive slice a out = All-nil (Off a)

pub off_testing : (width : Width) (job : Job) (slice : Slice) (saved : List ℕ) (steps : List Step) (a : ℕ) → Outside slice a → All (λ (t : Step). t.cell < slice.n) steps → All (Off a) (testing width job slice saved steps)
off_testing width job slice saved steps a out in' =
    All-map (Off a) (item_of width slice.first (back_of job saved)) steps
    (λ k d h. λ e. out _ (in' k d h) (sym (place_act width _ _ (get_or steps k d).act) ∙ e))

pub off_ending : (job : Job) (slice : Slice) (saved : List ℕ) (a : ℕ) → Outside slice a → All (Off a) (ending job slice saved)
off_ending job slice saved a out = All-map (Off a) (λ (cell : ℕ). Store (slice.first + cell) (last_of job.policy job.fill saved cell)) (cells slice.n) (λ k d h. out _ (cells_below slice.n k d h))

-- what stands at an address after a sequence
left_in : (width : Width) (first : List ℕ) (job : Job) (slice : Slice) (saved : List ℕ) (front : List Item) (k : ℕ) → k < slice.n
    → plain first (history (front ++ ending job slice saved)) (slice.first + k) ≡ last_of job.policy job.fill saved k
left_in width first job slice saved front k h =
    ap (λ (l : History). plain first l (slice.first + k)) (history-append front (ending job slice saved))
    ∙ ended first slice.first (last_of job.policy job.fill saved) slice.n k (history front) h

pub left_out : (first : List ℕ) (slice : Slice) (items : List Item) (a : ℕ) → All (Off a) items → plain first (history items) a ≡ get_or first a 0
left_out first slice items a all =
    ap (λ (l : History). plain first l a) (sym (append-nil (history items)))
    ∙ plain_other first a items [] all

outside_below : (slice : Slice) (a : ℕ) → a < slice.first → Outside slice a
outside_below slice a h c lt e = omega arith

pub outside_above : (slice : Slice) (a : ℕ) → slice.first + slice.n ≤ a → Outside slice a
outside_above slice a h c lt e = omega arith

-- inside or outside
abbrev Places : Slice → ℕ → Type 0
Places slice a = ((is_in slice a ≡ true) × (slice.first ≤ a) × (a - slice.first < slice.n)) ⊎ ((is_in slice a ≡ false) × Outside slice a)

places : (slice : Slice) (a : ℕ) → Places slice a
places slice a =
    elim (cases_lt a slice.first) [
      | inl below ↦ inr (let e : nat_le slice.first a ≡ false = lt-leb _ _ below in rw e refl, outside_below slice a below)
      | inr from ↦ elim (cases_lt a (slice.first + slice.n)) [
        | inl to ↦ inl (let e : nat_le slice.first a ≡ true = le-leb _ _ from in let f : nat_lt a (slice.first + slice.n) ≡ true = lt-ltb _ _ to in rw (e, f) refl, from, omega arith)
        | inr above ↦ inr (let f : nat_lt a (slice.first + slice.n) ≡ false = le-ltb _ _ above in let e : nat_le slice.first a ≡ true = le-leb _ _ from in rw (e, f) refl, outside_above slice a above)
      ]
    ]

-- the word that is left at an address
abbrev pub left_at : List ℕ → Policy → ℕ → Slice → ℕ → ℕ
left_at words NonDestructive fill slice a = get_or words a 0
left_at words Destructive fill slice a = if is_in slice a then fill else get_or words a 0

last_saved : (fault : Option Fault) (words : List ℕ) (policy : Policy) (fill : ℕ) (slice : Slice) (a : ℕ) → answer fault words [] a ≡ get_or words a 0 → is_in slice a ≡ true → slice.first ≤ a → a - slice.first < slice.n
    → last_of policy fill (saved_words policy fault words slice) (a - slice.first) ≡ left_at words policy fill slice a
last_saved fault words NonDestructive fill slice a kept is from to =
    cell_of (λ (cell : ℕ). answer fault words [] (slice.first + cell)) slice.n (a - slice.first) 0 to
    ∙ ap (answer fault words []) (let e : slice.first + (a - slice.first) ≡ a = omega arith in e)
    ∙ kept
last_saved fault words Destructive fill slice a kept is from to = rw is refl

unchanged : (words : List ℕ) (policy : Policy) (fill : ℕ) (slice : Slice) (a : ℕ) → is_in slice a ≡ false → get_or words a 0 ≡ left_at words policy fill slice a
unchanged words NonDestructive fill slice a is = refl
unchanged words Destructive fill slice a is = rw is refl

-- no access of a sequence is outside its slice
pub off_sequence : (b : Board) (job : Job) (slice : Slice) (steps : List Step) (a : ℕ) → All (λ (t : Step). t.cell < slice.n) steps → Outside slice a → All (Off a) (accesses_of b job slice steps)
unfolding accesses_of
off_sequence b job slice steps a in' out =
    let saved = saved_words job.policy b.fault b.words slice in
    All-append (Off a) (saving job.policy slice ++ testing b.shape.width job slice saved steps) (ending job slice saved)
    (All-append (Off a) (saving job.policy slice) (testing b.shape.width job slice saved steps) (off_saving job.policy slice a out) (off_testing b.shape.width job slice saved steps a out in'))
    (off_ending job slice saved a out)

-- what stands at an address after accesses of the slice, and the writes that end a sequence
pub left_word : (b : Board) (job : Job) (slice : Slice) (front : List Item) (a : ℕ) → answer b.fault b.words [] a ≡ get_or b.words a 0 → (Outside slice a → All (Off a) front)
    → plain b.words (history (front ++ ending job slice (saved_words job.policy b.fault b.words slice))) a ≡ left_at b.words job.policy job.fill slice a
left_word b job slice front a kept off =
    let saved = saved_words job.policy b.fault b.words slice in
    elim (places slice a) [
      | inl p ↦ (let e : a ≡ slice.first + (a - slice.first) = omega (arith, p.1) in
          ap (plain b.words (history (front ++ ending job slice saved))) e
          ∙ left_in b.shape.width b.words job slice saved front (a - slice.first) p.2
          ∙ last_saved b.fault b.words job.policy job.fill slice a kept p.0 p.1 p.2)
      | inr q ↦ left_out b.words slice (front ++ ending job slice saved) a (All-append (Off a) front (ending job slice saved) (off q.1) (off_ending job slice saved a q.1))
          ∙ unchanged b.words job.policy job.fill slice a q.0
    ]

-- maps that agree on a range are one
map-range : {X : Type 0} (f g : ℕ → X) → ((k : ℕ) → f k ≡ g k) → (xs : List ℕ) → map f xs ≡ map g xs
map-range f g same [] = refl
map-range f g same (x ∷ xs) = ap (λ y. y ∷ map f xs) (same x) ∙ ap (λ l. g x ∷ l) (map-range f g same xs)

left_list : (words : List ℕ) (policy : Policy) (fill : ℕ) (slice : Slice) → map (left_at words policy fill slice) (range_with_len 0 (length words)) ≡ left_words words policy slice fill
left_list words NonDestructive fill slice = sym (plain_none words)
left_list words Destructive fill slice = refl

plain_words : (words : List ℕ) (h : History) → words_after None words h ≡ map (plain words h) (range_with_len 0 (length words))
unfolding words_after stored
plain_words words h = refl

pub left_front : (b : Board) (job : Job) (slice : Slice) (front : List Item) → b.fault ≡ None → ((a : ℕ) → Outside slice a → All (Off a) front)
    → words_after b.fault b.words (history (front ++ ending job slice (saved_words job.policy b.fault b.words slice))) ≡ left_words b.words job.policy slice job.fill
left_front b job slice front none off =
    let items : List Item = front ++ ending job slice (saved_words job.policy b.fault b.words slice) in
    ap (λ (f : Option Fault). words_after f b.words (history items)) none
    ∙ plain_words b.words (history items)
    ∙ map-range _ _ (λ a. left_word b job slice front a (ap (λ (f : Option Fault). answer f b.words [] a) none) (off a)) (range_with_len 0 (length b.words))
    ∙ left_list b.words job.policy job.fill slice

pub sound_stays : SoundMemoryStays
unfolding sequence_words sequence accesses_of
sound_stays b job slice none accepted =
    let steps = steps_of job.alg slice.n in
    let in' = (steady_plans job.alg slice.n accepted).inside in
    let saved = saved_words job.policy b.fault b.words slice in
    left_front b job slice (saving job.policy slice ++ testing b.shape.width job slice saved steps) none
    (λ a out. All-append (Off a) (saving job.policy slice) (testing b.shape.width job slice saved steps) (off_saving job.policy slice a out) (off_testing b.shape.width job slice saved steps a out in'))

-- ---- attempts on sound memory

plain_looks : (first : List ℕ) (a : ℕ) (items : List Item) (h : History) → All IsLook items → plain first (history items ++ h) a ≡ plain first h a
unfolding history
plain_looks first a [] h all = refl
plain_looks first a (Look b ∷ xs) h all =
    ap (λ (k : History). plain first k a) (history-cons (Look b) xs h) ∙ plain_looks first a xs (Read b ∷ h) (All-tail IsLook (Look b) xs all)
plain_looks first a (Check b x ∷ xs) h all = absurd (all 0 (Check b x) (omega arith))
plain_looks first a (Store b x ∷ xs) h all = absurd (all 0 (Store b x) (omega arith))

looks_stay : (b : Board) (items : List Item) → b.fault ≡ None → All IsLook items → words_after b.fault b.words (history items) ≡ b.words
looks_stay b items none all =
    ap (λ (f : Option Fault). words_after f b.words (history items)) none
    ∙ plain_words b.words (history items)
    ∙ map-range _ _ (λ a. ap (λ (k : History). plain b.words k a) (sym (append-nil (history items))) ∙ plain_looks b.words a items [] all) (range_with_len 0 (length b.words))
    ∙ sym (plain_none b.words)

pub backed_out_stays : (b : Board) (job : Job) (slice : Slice) (i : ℕ) → b.fault ≡ None → IsAccepted job.alg → job.policy ≡ NonDestructive
    → words_after b.fault b.words (history (backed_out b job slice i)) ≡ b.words
unfolding sequence accesses_of
backed_out_stays b job slice i none accepted keeps =
    let saved = saved_words job.policy b.fault b.words slice in
    let steps = steps_of job.alg slice.n in
    let in' = (steady_plans job.alg slice.n accepted).inside in
    let items : List Item = take i (accesses_of b job slice steps) in
    elim (cases_lt slice.n i) [
      | inl many ↦ (let yes' : nat_lt slice.n i ≡ true = lt-ltb _ _ many in
          ap (λ (t : Bool). words_after b.fault b.words (history (items ++ (if t then ending job slice saved else [])))) yes'
          ∙ left_front b job slice items none (λ a out. All-take (Off a) i (accesses_of b job slice steps) (off_sequence b job slice steps a in' out))
          ∙ ap (λ (p : Policy). left_words b.words p slice job.fill) keeps)
      | inr few ↦ (let no' : nat_lt slice.n i ≡ false = le-ltb _ _ few in
          let short : i ≤ length (saving job.policy slice) = omega (arith, ap (λ (p : Policy). length (saving p slice)) keeps, length-saving slice) in
          ap (λ (t : Bool). words_after b.fault b.words (history (items ++ (if t then ending job slice saved else [])))) no'
          ∙ ap (λ (l : List Item). words_after b.fault b.words (history l)) (append-nil items)
          ∙ looks_stay b items none (early_looks b.shape.width job slice saved steps i short))
    ]

pub dropped_stays : DroppedAttemptsStay
unfolding attempt_verdict attempt_words attempt
dropped_stays may b job slice none accepted verdict = by_drop (dropped_at may b job slice) refl verdict
  where
    by_drop : (o : Option ℕ) → dropped_at may b job slice ≡ o → verdict_to b job slice o ≡ None → words_after b.fault b.words (history (attempt_to b job slice o)) ≡ b.words
    by_drop None e v = cc
    by_drop (Some i) e v = backed_out_stays b job slice i none accepted (dropped may b job slice i e).keeps

pub whole_attempts_pass : WholeAttemptsPass
unfolding attempt_verdict attempt_words attempt sequence_words
whole_attempts_pass may b job slice verdict none accepted is = by_drop (dropped_at may b job slice) is
  where
    by_drop : (o : Option ℕ) → verdict_to b job slice o ≡ Some verdict → (verdict ≡ Pass) × (words_after b.fault b.words (history (attempt_to b job slice o)) ≡ left_words b.words job.policy slice job.fill)
    by_drop None v = (let same : sequence_verdict b job slice ≡ verdict = cc in sym same ∙ sound_passes b job slice none accepted, sound_stays b job slice none accepted)
    by_drop (Some i) v = cc
