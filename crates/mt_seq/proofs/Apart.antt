-- A sequence that keeps the words, and its accesses of the fault's words alone.
use Rattle.std.proofs.Common.{ℕ, zero-add, ◌+◌, ◌<◌, ◌≤◌, ◌≡◌, Bool, true, false, cond, List, [], ◌∷◌, ◌++◌, map, reverse, length, get_or, Option, Some, None, refl, ap, sym, ◌∙◌, arith, inl, inr, append-nil}
use Rattle.std.specs.Prelude.{All, nat_lt, take, if◌then◌else◌}
use mathlib.Core.Bool.{◌&&◌}
use Rattle.std.specs.List.{filter, range_with_len}
use Rattle.std.proofs.lemmas.List.FromFn.{get_or-range_with_len, length-range_with_len}
use Rattle.std.proofs.lemmas.Bool.{both_ways, cases_Bool, cases_lt}
use Rattle.std.proofs.lemmas.List.{ext_get_or}
use Rattle.std.proofs.lemmas.List.Elements.{filter-append, All-append, All-cons, All-filter, All-map, All-nil, All-take, All-tail}
use Rattle.mt_fault.specs.declared.fault.Fault.{Fault}
use Rattle.mt_fault.specs.History.{Access, History, plain}
use Rattle.mt_fault.specs.Faulty.{address, answer, stored, words_after}
use Rattle.mt_fault.specs.Items.{Item, Look, Check, Store, access_of, history, passes, place}
use Rattle.mt_fault.specs.Projection.{cells_of_fault, is_of_fault}
use Rattle.mt_fault.proofs.ItemLemmas.{both, passes-append}
use Rattle.mt_fault.proofs.Others.{stored_plain}
use Rattle.mt_fault.proofs.Own.{stored_own}
use Rattle.mt_fault.proofs.Spans.{length-words_after, word_after}
use Rattle.mt_plan.specs.declared.algorithm.Policy.{Policy}
use Rattle.mt_plan.specs.declared.algorithm.Policy.TheVariants.{NonDestructive, Destructive}
use Rattle.mt_plan.specs.Plan.{steps_of, IsAccepted}
use Rattle.mt_plan.proofs.SteadyPlans.{steady_plans}
use Rattle.mt_port.specs.declared.board.Touch.{Touch}
use Rattle.mt_port.specs.Board.{Board, IsSound, Logs}
use Rattle.mt_seq.specs.declared.sequence.Job.{Job}
use Rattle.mt_seq.specs.declared.sequence.Slice.{Slice}
use Rattle.mt_seq.specs.Attempts.{backed_out}
use Rattle.mt_seq.specs.Laws.{OwnAccessesDecide, left_words}
use Rattle.mt_seq.specs.Makes.{Makes}
use Rattle.mt_seq.proofs.Makes.{Makes-nil, Makes-same}
use Rattle.mt_seq.specs.Sequence.{IsSoundSlice, accesses_of, back_of, ending, listed, saved_words, saving, sequence, sequence_hold, sequence_words, testing}
use Rattle.mt_seq.proofs.Attempts.{hold_length}
use Rattle.mt_seq.proofs.NamedLists.{filter-reverse}
use Rattle.mt_seq.proofs.Sound.{Off, Outside, Unchecked, left_at, backed_out_stays, left_front, left_out, left_word, map_below, off_ending, off_saving, off_sequence, off_testing, other_answer, outside_above, own_history, own_items, passes-own, passes-sequence, sound_stays}

-- ---- what is checked

passes_all : (items : List Item) → All Unchecked items → (fault : Option Fault) (first : List ℕ) (h : History) → passes fault first h items ≡ true
unfolding passes
passes_all [] all fault first h = refl
passes_all (x ∷ xs) all fault first h = both _ true _ true (all 0 x (omega arith) fault first h) (passes_all xs (All-tail Unchecked x xs all) fault first (access_of x ∷ h))

unchecked_saving : (policy : Policy) (slice : Slice) → All Unchecked (saving policy slice)
unchecked_saving NonDestructive slice = All-map Unchecked (λ (cell : ℕ). Look (slice.first + cell)) _ (λ k d h fault first past. refl)
unchecked_saving Destructive slice = All-nil Unchecked

unchecked_ending : (job : Job) (slice : Slice) (saved : List ℕ) → All Unchecked (ending job slice saved)
unchecked_ending job slice saved = All-map Unchecked _ _ (λ k d h fault first past. refl)

of_items : (fault : Option Fault) → Item → Bool
of_items fault x = is_of_fault fault (place x)

address_is : (x : Item) → address (access_of x) ≡ place x
address_is (Look a) = refl
address_is (Check a w) = refl
address_is (Store a w) = refl

filter_accesses : (fault : Option Fault) (items : List Item) → own_history fault (map access_of items) ≡ map access_of (own_items fault items)
filter_accesses fault [] = refl
filter_accesses fault (x ∷ xs) =
    ap (λ (a : ℕ). cond (is_of_fault fault a) (access_of x ∷ own_history fault (map access_of xs)) (own_history fault (map access_of xs))) (address_is x)
    ∙ ap (λ (l : History). cond (is_of_fault fault (place x)) (access_of x ∷ l) l) (filter_accesses fault xs)
    ∙ pick (is_of_fault fault (place x)) (own_items fault xs)
  where
    pick : (b : Bool) (l : List Item) → cond b (access_of x ∷ map access_of l) (map access_of l) ≡ map access_of (cond b (x ∷ l) l)
    pick true l = refl
    pick false l = refl

-- the history of the fault's own accesses
pub history_own : (fault : Option Fault) (items : List Item) → own_history fault (history items) ≡ history (own_items fault items)
unfolding history
history_own fault items = filter-reverse (λ (x : Access). is_of_fault fault (address x)) (map access_of items) ∙ ap reverse (filter_accesses fault items)

own_passes : (b : Board) (job : Job) (slice : Slice) → IsAccepted job.alg
    → passes b.fault b.words [] (sequence b job slice) ≡ passes b.fault b.words [] (own_items b.fault (sequence b job slice))
unfolding sequence accesses_of
own_passes b job slice accepted =
    let steps = steps_of job.alg slice.n in
    let saved = saved_words job.policy b.fault b.words slice in
    let p : Item → Bool = λ x. is_of_fault b.fault (place x) in
    let looks : List Item = saving job.policy slice in
    let tests : List Item = testing b.shape.width job slice saved steps in
    let stores : List Item = ending job slice saved in
    let st = (steady_plans job.alg slice.n accepted).steady in
    passes-sequence b job slice steps
    ∙ passes-own b.shape.width b.fault b.words slice.first (back_of job saved) steps (λ j. None) (history looks) (λ j o. st j) (λ j o. tt)
    ∙ ap (λ (h : History). passes b.fault b.words h (filter p tests)) (history_own b.fault looks ∙ sym (append-nil (history (filter p looks))))
    ∙ sym (
    ap (passes b.fault b.words []) (filter-append p (looks ++ tests) stores ∙ ap (λ (l : List Item). l ++ filter p stores) (filter-append p looks tests))
    ∙ passes-append b.fault b.words [] (filter p looks ++ filter p tests) (filter p stores)
    ∙ both _ _ _ true (passes-append b.fault b.words [] (filter p looks) (filter p tests)
    ∙ both _ true _ _ (passes_all (filter p looks) (All-filter p Unchecked looks (unchecked_saving job.policy slice)) b.fault b.words []) refl)
    (passes_all (filter p stores) (All-filter p Unchecked stores (unchecked_ending job slice saved)) b.fault b.words (history (filter p looks ++ filter p tests) ++ []))
    ∙ and_true (passes b.fault b.words (history (filter p looks) ++ []) (filter p tests)))
  where
    and_true : (x : Bool) → (x && true) ≡ x
    and_true true = refl
    and_true false = refl

-- ---- what is left

-- a word of the fault's, and another word
stored_at : (fault : Option Fault) (first : List ℕ) (h : History) (a : ℕ) → is_of_fault fault a ≡ true → stored fault first h a ≡ stored fault first (own_history fault h) a
unfolding stored
stored_at None first h a t = cc
stored_at (Some f) first h a t = sym (stored_own f first h a t)

stored_off : (fault : Option Fault) (first : List ℕ) (h : History) (a : ℕ) → is_of_fault fault a ≡ false → stored fault first h a ≡ plain first h a
unfolding stored
stored_off None first h a o = refl
stored_off (Some f) first h a o = stored_plain f first h a o

-- the fault's own accesses leave another word
own_off : (fault : Option Fault) (a : ℕ) → is_of_fault fault a ≡ false → (items : List Item) → All (Off a) (own_items fault items)
own_off fault a o items = λ k d h e. both_ways (is_of_fault fault a) o (ap (is_of_fault fault) (sym e) ∙ kept k d h)
  where
    all_of : (xs : List Item) → All (λ (x : Item). is_of_fault fault (place x) ≡ true) (own_items fault xs)
    all_of [] = λ k d h. absurd (omega arith)
    all_of (x ∷ xs) = elim (cases_Bool (is_of_fault fault (place x))) [
      | inl t ↦ rw t (All-cons (λ (y : Item). is_of_fault fault (place y) ≡ true) x (own_items fault xs) t (all_of xs))
      | inr f ↦ rw f (all_of xs)
    ]

    kept : All (λ (x : Item). is_of_fault fault (place x) ≡ true) (own_items fault items)
    kept = all_of items

-- the sequence leaves another word as it was
sequence_off : (b : Board) (job : Job) (slice : Slice) (a : ℕ) → IsAccepted job.alg → job.policy ≡ NonDestructive → is_of_fault b.fault a ≡ false
    → plain b.words (history (sequence b job slice)) a ≡ get_or b.words a 0
unfolding sequence accesses_of
sequence_off b job slice a accepted keeps o =
    let steps = steps_of job.alg slice.n in
    let in' = (steady_plans job.alg slice.n accepted).inside in
    let saved = saved_words job.policy b.fault b.words slice in
    left_word b job slice (saving job.policy slice ++ testing b.shape.width job slice saved steps) a (other_answer b.fault b.words [] a o)
    (λ out. All-append (Off a) (saving job.policy slice) (testing b.shape.width job slice saved steps) (off_saving job.policy slice a out) (off_testing b.shape.width job slice saved steps a out in'))
    ∙ ap (λ (p : Policy). left_at b.words p job.fill slice a) keeps

own_words : (b : Board) (job : Job) (slice : Slice) → IsAccepted job.alg → job.policy ≡ NonDestructive
    → words_after b.fault b.words (history (sequence b job slice)) ≡ words_after b.fault b.words (history (own_items b.fault (sequence b job slice)))
own_words b job slice accepted keeps =
    let all : List Item = sequence b job slice in
    let own : List Item = own_items b.fault all in
    ext_get_or 0 _ _ (length-words_after b.fault b.words (history all) ∙ sym (length-words_after b.fault b.words (history own))) (λ k l.
    let m : k < length b.words = rw length-words_after at l in
    word_after b.fault b.words (history all) k m
    ∙ elim (cases_Bool (is_of_fault b.fault k)) [
      | inl t ↦ stored_at b.fault b.words (history all) k t ∙ ap (λ (h : History). stored b.fault b.words h k) (history_own b.fault all)
      | inr o ↦ stored_off b.fault b.words (history all) k o ∙ sequence_off b job slice k accepted keeps o
          ∙ sym (stored_off b.fault b.words (history own) k o ∙ left_out b.words slice own k (own_off b.fault k o all))
    ]
    ∙ sym (word_after b.fault b.words (history own) k m))

pub own_decide : OwnAccessesDecide
own_decide b job slice accepted keeps = (own_passes b job slice accepted, own_words b job slice accepted keeps)

-- ---- a sequence of which the fault's own accesses alone are made

-- no access is outside the memory
sequence_inside : (b : Board) (job : Job) (slice : Slice) → IsSound b → IsAccepted job.alg → IsSoundSlice b.shape.ram slice → All (λ x. place x < length b.words) (sequence b job slice)
unfolding sequence
sequence_inside b job slice sound accepted on = λ k d h.
    let items : List Item = accesses_of b job slice (steps_of job.alg slice.n) in
    elim (cases_lt (place (get_or items k d)) (length b.words)) [
      | inl hit ↦ hit
      | inr miss ↦ absurd (off_sequence b job slice (steps_of job.alg slice.n) (place (get_or items k d)) (steady_plans job.alg slice.n accepted).inside (outside_above slice (place (get_or items k d)) (omega (arith, miss, on.inside, sound.sized))) k d h refl)
    ]

none_told : (told now : Option (List Touch)) (touches : List Touch) → now ≡ None → Logs told now touches
none_told told None touches e = tt
none_told told (Some x) touches e = cc

pub Makes-own : (job : Job) (slice : Slice) (a b c : Board) (ta tb tc : Option (List Touch)) (good : Bool) → IsSound a → IsAccepted job.alg → job.policy ≡ NonDestructive → IsSoundSlice a.shape.ram slice
    → Makes (own_items a.fault (sequence a job slice)) a b ta tb good → c ≡ record b { count = a.count + sequence_hold job slice.n } → tc ≡ None → Makes (sequence a job slice) a c ta tc good
Makes-own job slice a b c ta tb tc good sound accepted keeps on own counted none =
    let decide = own_decide a job slice accepted keeps in
    record {
      state = counted ∙ ap (λ (x : Board). record x { count = a.count + sequence_hold job slice.n }) own.state
          ∙ ap (λ (ws : List ℕ). record a { words = ws; count = a.count + sequence_hold job slice.n }) (sym decide.1)
          ∙ ap (λ (n : ℕ). record a { words = words_after a.fault a.words (history (sequence a job slice)); count = a.count + n }) (sym (hold_length a job slice));
      shape = ap (λ (x : Board). x.shape) counted ∙ own.shape;
      held = ap (λ (x : Board). x.held) counted ∙ own.held;
      count = ap (λ (x : Board). x.count) counted ∙ ap (λ (n : ℕ). a.count + n) (sym (hold_length a job slice));
      inside = sequence_inside a job slice sound accepted on;
      pass = own.pass ∙ sym decide.0;
      tape = none_told ta tc _ none;
    }

-- the fault's own accesses are at most all
pub own_few : (fault : Option Fault) (items : List Item) → length (own_items fault items) ≤ length items
own_few fault [] = omega arith
own_few fault (x ∷ xs) = pick (is_of_fault fault (place x)) (own_items fault xs) (own_few fault xs)
  where
    pick : (b : Bool) (l : List Item) → length l ≤ length xs → length (cond b (x ∷ l) l) ≤ length (x ∷ xs)
    pick true l h = omega arith
    pick false l h = omega arith

-- ---- a slice that the fault spares

-- no cell of the slice is one that the fault names
abbrev pub Spares : Option Fault → Slice → Type 0
Spares fault slice = (c : ℕ) → c < slice.n → is_of_fault fault (slice.first + c) ≡ false

none_kept : {X : Type 0} (p : X → Bool) (xs : List X) → filter p xs ≡ [] → All (λ x. p x ≡ false) xs
none_kept p [] e = All-nil (λ x. p x ≡ false)
none_kept {X} p (x ∷ xs) e = elim (cases_Bool (p x)) [
  | inl t ↦ absurd (some (p x) (filter p xs) t e)
  | inr f ↦ All-cons (λ y. p y ≡ false) x xs f (none_kept p xs (sym (ap (λ (b : Bool). cond b (x ∷ filter p xs) (filter p xs)) f) ∙ e))
]
  where
    some : (b : Bool) (l : List X) → b ≡ true → cond b (x ∷ l) l ≡ [] → ⊥
    some true l t e' = cc
    some false l t e' = cc

pub spares_all : (fault : Option Fault) (slice : Slice) → cells_of_fault fault slice.first slice.n ≡ [] → Spares fault slice
spares_all fault slice none c h =
    let all = none_kept (λ cell. is_of_fault fault (slice.first + cell)) (range_with_len 0 slice.n) none in
    ap (λ (k : ℕ). is_of_fault fault (slice.first + k)) (sym (get_or-range_with_len 0 slice.n c 0 h ∙ zero-add c)) ∙ all c 0 (omega (arith, length-range_with_len 0 slice.n))

-- no access is at a word of the fault's
spared_items : (fault : Option Fault) (slice : Slice) (items : List Item) → Spares fault slice → ((a : ℕ) → Outside slice a → All (Off a) items) → All (λ (x : Item). is_of_fault fault (place x) ≡ false) items
spared_items fault slice items spares off = λ k d h. elim (cases_Bool (is_of_fault fault (place (get_or items k d)))) [
  | inl t ↦ absurd (off (place (get_or items k d)) (λ c lt e. both_ways (is_of_fault fault (slice.first + c)) (spares c lt) (ap (is_of_fault fault) e ∙ t)) k d h refl)
  | inr f ↦ f
]

none_left : (fault : Option Fault) (items : List Item) → All (λ (x : Item). is_of_fault fault (place x) ≡ false) items → own_items fault items ≡ []
none_left fault [] all = refl
none_left fault (x ∷ xs) all = rw (all 0 x (omega arith)) (none_left fault xs (All-tail (λ (y : Item). is_of_fault fault (place y) ≡ false) x xs all))

-- such accesses leave what they leave in plain memory
spared_words : (b : Board) (slice : Slice) (items : List Item) → IsSound b → All (λ (x : Item). is_of_fault b.fault (place x) ≡ false) items → words_after b.fault b.words (history items) ≡ words_after None b.words (history items)
unfolding history
spared_words b slice items sound all =
    ext_get_or 0 _ _ (length-words_after b.fault b.words (history items) ∙ sym (length-words_after None b.words (history items))) (λ k l.
    let m : k < length b.words = rw length-words_after at l in
    word_after b.fault b.words (history items) k m
    ∙ elim (cases_Bool (is_of_fault b.fault k)) [
      | inl t ↦ stored_at b.fault b.words (history items) k t
          ∙ ap (λ (h : History). stored b.fault b.words h k) (history_own b.fault items ∙ ap history (none_left b.fault items all))
          ∙ sym (word_after b.fault b.words [] k m)
          ∙ ap (λ (ws : List ℕ). get_or ws k 0) sound.memory.settled
          ∙ sym (left_out b.words slice items k (λ i d h e. both_ways (is_of_fault b.fault k) (ap (is_of_fault b.fault) (sym e) ∙ all i d h) t))
      | inr o ↦ stored_off b.fault b.words (history items) k o
    ]
    ∙ sym (word_after None b.words (history items) k m ∙ plain_at b.words (history items) k))
  where
    plain_at : (first : List ℕ) (h : History) (a : ℕ) → stored None first h a ≡ plain first h a
    plain_at first h a = stored_off None first h a refl

-- the saved words are those of plain memory
same_saved : (b : Board) (policy : Policy) (slice : Slice) → Spares b.fault slice → saved_words policy b.fault b.words slice ≡ saved_words policy None b.words slice
same_saved b NonDestructive slice spares =
    map_below (λ cell. answer b.fault b.words [] (slice.first + cell)) (λ cell. answer None b.words [] (slice.first + cell)) slice.n (λ c h. other_answer b.fault b.words [] (slice.first + c) (spares c h))
same_saved b Destructive slice spares = refl

-- the same sequence as without the fault
without : (b : Board) (job : Job) (slice : Slice) → Spares b.fault slice → sequence b job slice ≡ sequence (record b { fault = None }) job slice
unfolding sequence accesses_of
without b job slice spares = ap (λ saved. listed b.shape.width job slice saved (steps_of job.alg slice.n)) (same_saved b job.policy slice spares)

sequence_outside : (b : Board) (job : Job) (slice : Slice) → IsAccepted job.alg → (a : ℕ) → Outside slice a → All (Off a) (sequence b job slice)
unfolding sequence
sequence_outside b job slice accepted a out = off_sequence b job slice (steps_of job.alg slice.n) a (steady_plans job.alg slice.n accepted).inside out

-- a sequence there that keeps the words only counts
pub Makes-spared : (job : Job) (slice : Slice) (a c : Board) (ta tc : Option (List Touch)) → IsSound a → IsAccepted job.alg → job.policy ≡ NonDestructive → IsSoundSlice a.shape.ram slice → Spares a.fault slice
    → c ≡ record a { count = a.count + sequence_hold job slice.n } → tc ≡ None → Makes (sequence a job slice) a c ta tc true
Makes-spared job slice a c ta tc sound accepted keeps on spares counted told =
    let items : List Item = sequence a job slice in
    let nothing = none_left a.fault items (spared_items a.fault slice items spares (sequence_outside a job slice accepted)) in
    Makes-own job slice a a c ta ta tc true sound accepted keeps on (Makes-same (sym nothing) refl (Makes-nil a ta sound)) counted told

-- What a sequence on such a slice comes to: it passes, and leaves the words, or the fill.
pub spared_sequence : (b : Board) (job : Job) (slice : Slice) → IsSound b → IsAccepted job.alg → Spares b.fault slice
    → (passes b.fault b.words [] (sequence b job slice) ≡ true) × (words_after b.fault b.words (history (sequence b job slice)) ≡ left_words b.words job.policy slice job.fill)
unfolding sequence_words
spared_sequence b job slice sound accepted spares =
    let items : List Item = sequence b job slice in
    let all = spared_items b.fault slice items spares (sequence_outside b job slice accepted) in
    let plain : Board = record b { fault = None } in (
      own_passes b job slice accepted ∙ ap (passes b.fault b.words []) (none_left b.fault items all) ∙ passes_all [] (All-nil Unchecked) b.fault b.words [],
      spared_words b slice items sound all ∙ ap (λ (l : List Item). words_after None b.words (history l)) (without b job slice spares) ∙ sound_stays plain job slice refl accepted,
    )

-- the writes of the fill alone leave what the sequence leaves
pub spared_ending : (b : Board) (job : Job) (slice : Slice) → IsSound b → Spares b.fault slice → job.policy ≡ Destructive
    → words_after b.fault b.words (history (ending job slice [])) ≡ left_words b.words job.policy slice job.fill
spared_ending b job slice sound spares fills =
    let plain : Board = record b { fault = None } in
    let nothing : saved_words job.policy None b.words slice ≡ [] = ap (λ (p : Policy). saved_words p None b.words slice) fills in
    spared_words b slice (ending job slice []) sound (spared_items b.fault slice (ending job slice []) spares (λ a out. off_ending job slice [] a out))
    ∙ ap (λ (saved : List ℕ). words_after None b.words (history (ending job slice saved))) (sym nothing)
    ∙ left_front plain job slice [] refl (λ a out. All-nil (Off a))

pub Makes-filled : (job : Job) (slice : Slice) (a b c : Board) (ta tb tc : Option (List Touch)) → IsSound a → IsAccepted job.alg → job.policy ≡ Destructive → IsSoundSlice a.shape.ram slice → Spares a.fault slice
    → Makes (ending job slice []) a b ta tb true → c ≡ record b { count = a.count + sequence_hold job slice.n } → tc ≡ None → Makes (sequence a job slice) a c ta tc true
Makes-filled job slice a b c ta tb tc sound accepted fills on spares made counted none =
    let come = spared_sequence a job slice sound accepted spares in
    record {
      state = counted ∙ ap (λ (x : Board). record x { count = a.count + sequence_hold job slice.n }) made.state
          ∙ ap (λ (ws : List ℕ). record a { words = ws; count = a.count + sequence_hold job slice.n }) (spared_ending a job slice sound spares fills ∙ sym come.1)
          ∙ ap (λ (n : ℕ). record a { words = words_after a.fault a.words (history (sequence a job slice)); count = a.count + n }) (sym (hold_length a job slice));
      shape = ap (λ (x : Board). x.shape) counted ∙ made.shape;
      held = ap (λ (x : Board). x.held) counted ∙ made.held;
      count = ap (λ (x : Board). x.count) counted ∙ ap (λ (n : ℕ). a.count + n) (sym (hold_length a job slice));
      inside = sequence_inside a job slice sound accepted on;
      pass = sym come.0;
      tape = none_told ta tc _ none;
    }

-- ---- an attempt that is broken off there

part_outside : (b : Board) (job : Job) (slice : Slice) (i : ℕ) → IsAccepted job.alg → (a : ℕ) → Outside slice a → All (Off a) (backed_out b job slice i)
part_outside b job slice i accepted a out =
    All-append (Off a) (take i (sequence b job slice)) (if nat_lt slice.n i then ending job slice (saved_words job.policy b.fault b.words slice) else [])
    (All-take (Off a) i (sequence b job slice) (sequence_outside b job slice accepted a out))
    (pick (nat_lt slice.n i))
  where
    pick : (t : Bool) → All (Off a) (if t then ending job slice (saved_words job.policy b.fault b.words slice) else [])
    pick true = off_ending job slice (saved_words job.policy b.fault b.words slice) a out
    pick false = All-nil (Off a)

part_without : (b : Board) (job : Job) (slice : Slice) (i : ℕ) → Spares b.fault slice → backed_out b job slice i ≡ backed_out (record b { fault = None }) job slice i
part_without b job slice i spares =
    ap (λ (l : List Item). take i l ++ (if nat_lt slice.n i then ending job slice (saved_words job.policy b.fault b.words slice) else [])) (without b job slice spares)
    ∙ ap (λ (saved : List ℕ). take i (sequence (record b { fault = None }) job slice) ++ (if nat_lt slice.n i then ending job slice saved else [])) (same_saved b job.policy slice spares)

part_stays : (b : Board) (job : Job) (slice : Slice) (i : ℕ) → IsSound b → IsAccepted job.alg → job.policy ≡ NonDestructive → Spares b.fault slice → words_after b.fault b.words (history (backed_out b job slice i)) ≡ b.words
part_stays b job slice i sound accepted keeps spares =
    spared_words b slice (backed_out b job slice i) sound (spared_items b.fault slice (backed_out b job slice i) spares (part_outside b job slice i accepted))
    ∙ ap (λ (l : List Item). words_after None b.words (history l)) (part_without b job slice i spares)
    ∙ backed_out_stays (record b { fault = None }) job slice i refl accepted keeps

pub Makes-part : (job : Job) (slice : Slice) (i : ℕ) (a c : Board) (ta tc : Option (List Touch)) → IsSound a → IsAccepted job.alg → job.policy ≡ NonDestructive → IsSoundSlice a.shape.ram slice → Spares a.fault slice
    → c ≡ record a { count = a.count + length (backed_out a job slice i) } → tc ≡ None → Makes (backed_out a job slice i) a c ta tc (passes a.fault a.words [] (backed_out a job slice i))
Makes-part job slice i a c ta tc sound accepted keeps on spares counted none = record {
  state = counted ∙ ap (λ (ws : List ℕ). record a { words = ws; count = a.count + length (backed_out a job slice i) }) (sym (part_stays a job slice i sound accepted keeps spares));
  shape = ap (λ (x : Board). x.shape) counted;
  held = ap (λ (x : Board). x.held) counted;
  count = ap (λ (x : Board). x.count) counted;
  inside = λ k d h. elim (cases_lt (place (get_or (backed_out a job slice i) k d)) (length a.words)) [
    | inl hit ↦ hit
    | inr miss ↦ absurd (part_outside a job slice i accepted (place (get_or (backed_out a job slice i) k d)) (outside_above slice (place (get_or (backed_out a job slice i) k d)) (omega (arith, miss, on.inside, sound.sized))) k d h refl)
  ];
  pass = refl;
  tape = none_told ta tc _ none;
}
