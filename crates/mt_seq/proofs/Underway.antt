-- A sequence that is under way, one access later.
use Rattle.std.proofs.Common.{ℕ, zero, suc, add-one, ◌≡◌, ◌+◌, ◌-◌, ◌<◌, ◌≤◌, Bool, true, false, List, [], ◌∷◌, ◌++◌, take, length, append-nil, append_assoc, refl, arith, ap, sym, ◌∙◌, subst, Option, Some, inl, inr}
use Rattle.std.specs.Prelude.{not, slice_get, All}
use mathlib.Core.Bool.{◌||◌, ◌&&◌}
use Rattle.std.proofs.Math.Seq.{take-suc}
use Rattle.std.proofs.lemmas.Bool.{cases_lt}
use Rattle.std.proofs.lemmas.List.{take_all, take-append-le, length-map}
use Rattle.std.proofs.lemmas.List.Elements.{All-append, All-map, All-nil, All-tail, All-take}
use Rattle.std.proofs.lemmas.Option.{get_or_from_slice_get, slice_get_within}
use Rattle.mt_word.specs.declared.Width.{Width}
use Rattle.mt_fault.specs.declared.fault.Fault.{Fault}
use Rattle.mt_fault.specs.Faulty.{answer, words_after}
use Rattle.mt_fault.specs.History.{Read}
use Rattle.mt_fault.specs.Items.{Item, Look, Check, Store, history}
use Rattle.mt_fault.proofs.ItemLemmas.{history-cons}
use Rattle.mt_fault.proofs.Spans.{words_cut}
use Rattle.mt_fault.proofs.Steps.{read_leaves}
use Rattle.mt_plan.specs.declared.algorithm.Act.{Act}
use Rattle.mt_plan.specs.declared.algorithm.Act.TheVariants.{WritePlain, WriteFlipped, ReadPlain, ReadFlipped}
use Rattle.mt_plan.specs.declared.algorithm.Policy.{Policy}
use Rattle.mt_plan.specs.declared.algorithm.Policy.TheVariants.{NonDestructive, Destructive}
use Rattle.mt_plan.specs.declared.algorithm.Step.{Step}
use Rattle.mt_plan.specs.Accesses.{act_on, item_of}
use Rattle.mt_plan.specs.Lists.{cells}
use Rattle.mt_plan.specs.Plan.{steps_of}
use Rattle.mt_plan.proofs.Items.{in_front, at_map, at_cells}
use Rattle.mt_port.specs.declared.board.Touch.{Touch}
use Rattle.mt_port.specs.declared.board.Shape.{Shape}
use Rattle.mt_port.specs.Board.{Board, IsSound, memory_of}
use Rattle.mt_seq.specs.declared.sequence.Slice.{Slice}
use Rattle.mt_seq.specs.declared.sequence.Job.{Job}
use Rattle.mt_seq.specs.Sequence.{saving, saved_words, testing, ending, listed, accesses_of, sequence, back_of, last_of}
use Rattle.mt_seq.specs.Stepping.{Stepping, item_at, begun, saved_after, agreed, IsUnderway, IsStep, IsNoLook, IsLookAnswer}
use Rattle.mt_seq.proofs.Lengths.{length-saving, length-cells}
use Rattle.mt_seq.proofs.Makes.{Makes-nil, Makes-append}
use Rattle.mt_seq.proofs.Moves.{saving_at}

-- ---- items of lists

pub take_more : {X : Type 0} (xs : List X) (i : ℕ) (x : X) → slice_get xs i ≡ Some x → take (i + 1) xs ≡ take i xs ++ x ∷ []
take_more xs i x at =
    ap (λ (k : ℕ). take k xs) (add-one i) ∙ take-suc xs i x (slice_get_within xs i x at) ∙ ap (λ y. take i xs ++ y ∷ []) (get_or_from_slice_get xs i x x at)

front_same : {X : Type 0} (xs ys zs : List X) (i : ℕ) → i < length xs → slice_get (xs ++ ys) i ≡ slice_get (xs ++ zs) i
front_same [] ys zs i h = absurd (omega arith)
front_same (x ∷ xs) ys zs zero h = refl
front_same (x ∷ xs) ys zs (suc i) h = front_same xs ys zs i (omega arith)

behind_same : {X : Type 0} (xs ys : List X) (i : ℕ) → length xs ≤ i → slice_get (xs ++ ys) i ≡ slice_get ys (i - length xs)
behind_same [] ys i h = let e : i - 0 ≡ i = omega arith in rw e
behind_same (x ∷ xs) ys zero h = absurd (omega arith)
behind_same (x ∷ xs) ys (suc i) h = let e : suc i - suc (length xs) ≡ i - length xs = omega arith in behind_same xs ys i (omega arith) ∙ rw e

All-at : {X : Type 0} (P : X → Type 0) (xs : List X) (i : ℕ) (x : X) → All P xs → slice_get xs i ≡ Some x → P x
All-at P xs i x all at = subst P (get_or_from_slice_get xs i x x at) (all i x (slice_get_within xs i x at))

-- ---- saving reads leave the words

abbrev pub IsLook : Item → Type 0
IsLook (Look addr) = Unit {0}
IsLook (Check addr word) = ⊥
IsLook (Store addr word) = ⊥

looks_leave : (a : Board) → IsSound a → (items : List Item) → All IsLook items → words_after a.fault a.words (history items) ≡ a.words
unfolding history
looks_leave a sound [] all = sound.memory.settled
looks_leave a sound (Check addr word ∷ xs) all = absurd (all 0 (Check addr word) (omega arith))
looks_leave a sound (Store addr word ∷ xs) all = absurd (all 0 (Store addr word) (omega arith))
looks_leave a sound (Look addr ∷ xs) all =
    ap (words_after a.fault a.words) (sym (append-nil (history (Look addr ∷ xs))) ∙ history-cons (Look addr) xs [])
    ∙ words_cut a.shape.width a.fault a.words (history xs) (Read addr ∷ []) sound.memory.placed
    ∙ ap (λ (ws : List ℕ). words_after a.fault ws (history xs)) (read_leaves (memory_of a) addr sound.memory)
    ∙ looks_leave a sound xs (All-tail IsLook (Look addr) xs all)

pub saving_looks : (policy : Policy) (slice : Slice) → All IsLook (saving policy slice)
saving_looks NonDestructive slice = All-map IsLook (λ (cell : ℕ). Look (slice.first + cell)) (cells slice.n) (λ k d h. tt)
saving_looks Destructive slice = All-nil IsLook

-- ---- the list of a board's sequence

pub saved_at : (policy : Policy) (fault : Option Fault) (words : List ℕ) (slice : Slice) (i : ℕ) → i < length (saving policy slice) → slice_get (saved_words policy fault words slice) i ≡ Some (answer fault words [] (slice.first + i))
saved_at NonDestructive fault words slice i h = at_map (λ (cell : ℕ). answer fault words [] (slice.first + cell)) (cells slice.n) i i (at_cells slice.n i (omega (arith, length-saving slice)))
saved_at Destructive fault words slice i h = absurd (omega arith)

pub saved_long : (policy : Policy) (fault : Option Fault) (words : List ℕ) (slice : Slice) → length (saved_words policy fault words slice) ≡ length (saving policy slice)
saved_long NonDestructive fault words slice = length-map (cells slice.n) (λ (cell : ℕ). answer fault words [] (slice.first + cell)) ∙ length-cells slice.n ∙ sym (length-saving slice)
saved_long Destructive fault words slice = refl

pub whole_saved : (policy : Policy) (fault : Option Fault) (words : List ℕ) (slice : Slice) (i : ℕ) → length (saving policy slice) ≤ i → take i (saved_words policy fault words slice) ≡ saved_words policy fault words slice
whole_saved policy fault words slice i h = take_all i (saved_words policy fault words slice) (omega (arith, saved_long policy fault words slice))

-- what is listed with the words saved so far has the same next access as what is listed with all of them
pub next_listed : (width : Width) (s : Stepping) (all : List ℕ) → length all ≤ length (saving s.job.policy s.slice) → s.saved ≡ take s.made all
    → item_at width s ≡ slice_get (listed width s.job s.slice all (steps_of s.job.alg s.slice.n)) s.made
unfolding item_at
next_listed width s all few saved =
    let steps : List Step = steps_of s.job.alg s.slice.n in
    let front : List Item = saving s.job.policy s.slice in
    elim (cases_lt s.made (length front)) [
      | inl lt ↦
          ap (λ (l : List Item). slice_get l s.made) (append_assoc front (testing width s.job s.slice s.saved steps) (ending s.job s.slice s.saved))
          ∙ front_same front _ _ s.made lt
          ∙ ap (λ (l : List Item). slice_get l s.made) (sym (append_assoc front (testing width s.job s.slice all steps) (ending s.job s.slice all)))
      | inr le ↦ ap (λ (l : List ℕ). slice_get (listed width s.job s.slice l steps) s.made) (saved ∙ take_all s.made all (omega arith))
    ]

pub next_same : (b : Board) (s : Stepping) (width : Width) → width ≡ b.shape.width → s.saved ≡ take s.made (saved_words s.job.policy b.fault b.words s.slice)
    → item_at width s ≡ slice_get (sequence b s.job s.slice) s.made
unfolding sequence accesses_of
next_same b s width same saved =
    let all : List ℕ = saved_words s.job.policy b.fault b.words s.slice in
    next_listed width s all (omega (arith, saved_long s.job.policy b.fault b.words s.slice)) saved
    ∙ ap (λ (w : Width). slice_get (listed w s.job s.slice all (steps_of s.job.alg s.slice.n)) s.made) same

act_no_look : (width : Width) (addr back : ℕ) (act : Act) → IsNoLook (act_on width addr back act)
act_no_look width addr back WritePlain = tt
act_no_look width addr back WriteFlipped = tt
act_no_look width addr back ReadPlain = tt
act_no_look width addr back ReadFlipped = tt

-- behind the saving reads there is none
pub later_no_look : (width : Width) (job : Job) (slice : Slice) (saved : List ℕ) (steps : List Step) (i : ℕ) (item : Item) → length (saving job.policy slice) ≤ i
    → slice_get (listed width job slice saved steps) i ≡ Some item → IsNoLook item
later_no_look width job slice saved steps i item h at =
    let front : List Item = saving job.policy slice in
    let rest : List Item = testing width job slice saved steps ++ ending job slice saved in
    let here : slice_get rest (i - length front) ≡ Some item =
    sym (behind_same front rest i h) ∙ ap (λ (l : List Item). slice_get l i) (sym (append_assoc front (testing width job slice saved steps) (ending job slice saved))) ∙ at in
    All-at IsNoLook rest (i - length front) item
    (All-append IsNoLook (testing width job slice saved steps) (ending job slice saved)
    (All-map IsNoLook (item_of width slice.first (back_of job saved)) steps (λ k d g. act_no_look width _ _ _))
    (All-map IsNoLook (λ (cell : ℕ). Store (slice.first + cell) (last_of job.policy job.fill saved cell)) (cells slice.n) (λ k d g. tt)))
    here

-- before that there are only these
pub early_look : (width : Width) (job : Job) (slice : Slice) (saved : List ℕ) (steps : List Step) (i : ℕ) → i < length (saving job.policy slice)
    → slice_get (listed width job slice saved steps) i ≡ Some (Look (slice.first + i))
early_look width job slice saved steps i h =
    in_front (saving job.policy slice ++ testing width job slice saved steps) (ending job slice saved) i _
    (in_front (saving job.policy slice) (testing width job slice saved steps) i _ (saving_at job.policy slice i h))

-- the first accesses are saving reads
pub early_looks : (width : Width) (job : Job) (slice : Slice) (saved : List ℕ) (steps : List Step) (i : ℕ) → i ≤ length (saving job.policy slice) → All IsLook (take i (listed width job slice saved steps))
early_looks width job slice saved steps i h =
    let front : List Item = saving job.policy slice in
    subst (All IsLook) (sym (ap (take i) (append_assoc front (testing width job slice saved steps) (ending job slice saved)) ∙ take-append-le i front (testing width job slice saved steps ++ ending job slice saved) h))
    (All-take IsLook i front (saving_looks job.policy slice))

-- ---- one access more

pub words_early : (b : Board) (s : Stepping) (now : Board) (told tape : Option (List Touch)) → IsSound b → IsUnderway b told s now tape → s.made ≤ length (saving s.job.policy s.slice) → now.words ≡ b.words
unfolding sequence accesses_of
words_early b s now told tape sound is h =
    ap (λ (x : Board). x.words) is.makes.state
    ∙ looks_leave b sound (take s.made (sequence b s.job s.slice))
    (early_looks b.shape.width s.job s.slice (saved_words s.job.policy b.fault b.words s.slice) (steps_of s.job.alg s.slice.n) s.made h)

same_look : (a b answer : ℕ) (item : Item) (board : Board) → Some item ≡ Some (Look a) → IsLookAnswer board item b → (saved : List ℕ) → (saved_after saved item b ≡ saved ++ b ∷ []) × IsLookAnswer board (Look a) b
same_look a b answer (Look addr) board e is saved = (refl, let same : addr ≡ a = cc in subst (λ (x : ℕ). IsLookAnswer board (Look x) b) same is)
same_look a b answer (Check addr word) board e is saved = cc
same_look a b answer (Store addr word) board e is saved = cc

pub no_look_saves : (item : Item) (saved : List ℕ) (answer : ℕ) → IsNoLook item → saved_after saved item answer ≡ saved
no_look_saves (Look addr) saved answer is = absurd is
no_look_saves (Check addr word) saved answer is = refl
no_look_saves (Store addr word) saved answer is = refl

saved_more : (b : Board) (s : Stepping) (now : Board) (told tape : Option (List Touch)) (item : Item) (answer' : ℕ) → IsSound b → IsUnderway b told s now tape
    → slice_get (sequence b s.job s.slice) s.made ≡ Some item → IsLookAnswer now item answer'
    → saved_after s.saved item answer' ≡ take (s.made + 1) (saved_words s.job.policy b.fault b.words s.slice)
unfolding sequence accesses_of
saved_more b s now told tape item answer' sound is at look =
    let all : List ℕ = saved_words s.job.policy b.fault b.words s.slice in
    let steps : List Step = steps_of s.job.alg s.slice.n in
    let front : List Item = saving s.job.policy s.slice in
    elim (cases_lt s.made (length front)) [
      | inl lt ↦ (
          let e : Some item ≡ Some (Look (s.slice.first + s.made)) = sym at ∙ early_look b.shape.width s.job s.slice all steps s.made lt in
          let looked = same_look (s.slice.first + s.made) answer' 0 item now e look s.saved in
          let words : now.words ≡ b.words = words_early b s now told tape sound is (omega arith) in
          let fault : now.fault ≡ b.fault = ap (λ (x : Board). x.fault) is.makes.state in
          let word : answer' ≡ answer b.fault b.words [] (s.slice.first + s.made) =
          looked.1.0 ∙ ap (λ (f : Option Fault). answer f now.words [] (s.slice.first + s.made)) fault ∙ ap (λ (ws : List ℕ). answer b.fault ws [] (s.slice.first + s.made)) words in
          looked.0 ∙ ap (λ (l : List ℕ). l ++ answer' ∷ []) is.saved ∙ ap (λ (w : ℕ). take s.made all ++ w ∷ []) word
          ∙ sym (take_more all s.made _ (saved_at s.job.policy b.fault b.words s.slice s.made lt)))
      | inr le ↦
          no_look_saves item s.saved answer' (later_no_look b.shape.width s.job s.slice all steps s.made item le at)
          ∙ is.saved ∙ whole_saved s.job.policy b.fault b.words s.slice s.made le ∙ sym (whole_saved s.job.policy b.fault b.words s.slice (s.made + 1) (omega arith))
    ]

pub differs_more : (d g : Bool) → (not d && g) ≡ not (d || not g)
differs_more true true = refl
differs_more true false = refl
differs_more false true = refl
differs_more false false = refl

pub underway_more : (b : Board) (told : Option (List Touch)) (s : Stepping) (now : Board) (tape : Option (List Touch)) (t : Stepping) (then' : Board) (tape' : Option (List Touch))
    → IsSound b → IsUnderway b told s now tape → IsStep s now tape t then' tape' → IsUnderway b told t then' tape'
underway_more b told s now tape t then' tape' sound is step =
    let width = ap (λ (x : Shape). x.width) is.makes.shape in
    let at : slice_get (sequence b s.job s.slice) s.made ≡ Some step.item = sym (next_same b s now.shape.width width is.saved) ∙ step.next in
    let made = Makes-append sound is.makes step.makes in
    subst (λ (x : Stepping). IsUnderway b told x then' tape') (sym step.known) (record {
      saved = saved_more b s now told tape step.item step.answer sound is at step.look;
      makes = rw (take_more (sequence b s.job s.slice) s.made step.item at, ← differs_more s.differs (agreed step.item step.answer)) made;
    })

pub underway_begun : (b : Board) (told : Option (List Touch)) (job : Job) (slice : Slice) → IsSound b → IsUnderway b told (begun job slice) b told
underway_begun b told job slice sound = record { saved = refl; makes = Makes-nil b told sound }
