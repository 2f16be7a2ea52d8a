-- What is missed, one access after another, beside what a list of misses says.
use Rattle.std.proofs.Common.{ℕ, zero, suc, ◌+◌, ◌-◌, ◌<◌, ◌≤◌, ◌≡◌, ◌==◌, eqb, Bool, true, false, not, List, [], ◌∷◌, ◌++◌, map, reverse, take, drop, length, get_or, Option, Some, None, refl, sym, ap, ◌∙◌, subst, arith, inl, inr}
use Rattle.std.specs.Prelude.{◌↔◌, ◌≢◌, IsTrue, slice_get, if◌then◌else◌}
use Rattle.std.specs.Bool.{then_some}
use Rattle.std.specs.Option.{option_map, option_eq}
use Rattle.std.specs.List.{cons_option}
use Rattle.std.proofs.lemmas.Bool.{eq-eqb, ne_eqb, cases_eq, cases_Bool}
use Rattle.std.proofs.lemmas.List.{drop_all, take_more, length-map, reverse-append}
use mathlib.Core.List.{map-append}
use Rattle.std.proofs.lemmas.Option.{get_or_from_slice_get, slice_get-map}
use Rattle.mt_word.specs.declared.Width.{Width}
use Rattle.mt_fault.specs.declared.fault.Fault.{Fault}
use Rattle.mt_fault.specs.History.{History}
use Rattle.mt_fault.specs.Placement.{IsPlaced}
use Rattle.mt_fault.specs.Faulty.{words_after, answer, address}
use Rattle.mt_fault.specs.Projection.{names, own}
use Rattle.mt_fault.specs.Items.{Item, Look, Check, Store, place, access_of, history, agrees}
use Rattle.mt_fault.specs.Memory.{Memory, IsSound, after_access}
use Rattle.mt_plan.specs.declared.algorithm.Act.{Act}
use Rattle.mt_plan.specs.declared.algorithm.Act.TheVariants.{WritePlain, WriteFlipped, ReadPlain, ReadFlipped}
use Rattle.mt_plan.specs.declared.algorithm.Step.{Step}
use Rattle.mt_plan.specs.Accesses.{act_on, item_of}
use Rattle.mt_plan.specs.Plan.{steps_of}
use Rattle.mt_decoder.specs.Misses.{accesses, is_miss}
use Rattle.mt_locate.specs.declared.probe.Probe.{Probe}
use Rattle.mt_locate.specs.declared.probe.Miss.{Miss}
use Rattle.mt_locate.specs.Misses.{answer_at, miss_at, misses_of, wrong_answer, told_at}
use Rattle.mt_locate.specs.Explanations.{accesses_of}
use Rattle.mt_locate.proofs.MissLists.{miss, misses_from, head_from, differs, counted, Agree, agree}

-- the laws of mt_fault that are used here
abbrev pub WordsCut : Type 0
WordsCut =
    (width : Width) (fault : Option Fault) (first : List ℕ) (later earlier : History) → IsPlaced width (length first) fault
    → words_after fault first (later ++ earlier) ≡ words_after fault (words_after fault first earlier) later

abbrev pub OwnAnswers : Type 0
OwnAnswers =
    (fault : Fault) (first : List ℕ) (h : History) (a : ℕ) → IsTrue (names fault a) → answer (Some fault) first (own fault h) a ≡ answer (Some fault) first h a

abbrev pub AnswersCut : Type 0
AnswersCut =
    (width : Width) (fault : Option Fault) (first : List ℕ) (later earlier : History) → IsPlaced width (length first) fault
    → (a : ℕ) → a < length first → answer fault first (later ++ earlier) a ≡ answer fault (words_after fault first earlier) later a

-- ---- all accesses of a call

pub history_of : (items : List Item) (i : ℕ) → i < length items → history (take (i + 1) items) ≡ access_of (get_or items i (Look 0)) ∷ history (take i items)
unfolding history
history_of items i l =
    ap (λ (xs : List Item). reverse (map access_of xs)) (take_more items i (Look 0) l)
    ∙ ap reverse (map-append access_of (take i items) (get_or items i (Look 0) ∷ []))
    ∙ reverse-append (map access_of (take i items)) (access_of (get_or items i (Look 0)) ∷ [])

-- A memory after those of the first accesses of a list that are of the fault's own words, where all were as the misses say.
pub record Met (m : Memory) (f : Fault) (items : List Item) (misses : List Miss) (i before : ℕ) (now : Memory) : Type 0 where
  pub after : now ≡ record m { words = words_after (Some f) m.words (own f (history (take i items))) }
  pub size : length now.words ≡ length m.words
  pub few : before ≤ length misses
  pub same : (misses_of (Some f) m.words items ≡ misses) ↔ (misses_from (Some f) m.words items i (length items - i) ≡ drop before misses)

pub Met-none : (m : Memory) (f : Fault) (items : List Item) (misses : List Miss) → m.fault ≡ Some f → IsSound m → Met m f items misses 0 0 m
unfolding history misses_of
Met-none m f items misses there sound = record {
  after = ap (λ (ws : List ℕ). record m { words = ws }) (sym sound.settled ∙ ap (λ (o : Option Fault). words_after o m.words []) there);
  size = refl;
  few = omega arith;
  same = (λ e. all ∙ e, λ e. sym all ∙ e);
}
  where
    all : misses_from (Some f) m.words items 0 (length items - 0) ≡ misses_from (Some f) m.words items 0 (length items)
    all = ap (misses_from (Some f) m.words items 0) (let e : length items - 0 ≡ length items = omega arith in e)

then_map : (b : Bool) (i x : ℕ) → then_some b (miss i x) ≡ option_map (miss i) (then_some b x)
then_map true i x = refl
then_map false i x = refl

-- One access more: what it answered, if it was of a word of the fault; a read of any other word is no miss.
pub record Answered (m : Memory) (f : Fault) (items : List Item) (i : ℕ) (now : Memory) (item : Item) (wrong : Option ℕ) : Type 0 where
  pub within : i < length items
  pub here : get_or items i (Look 0) ≡ item
  pub inside : place item < length m.words
  pub own : names f (place item) ≡ true → wrong ≡ wrong_answer now item
  pub other : names f (place item) ≡ false → wrong ≡ None
  pub spared : names f (place item) ≡ false → is_miss (Some f) m.words items i ≡ false

-- the answer of one of the fault's words, after its own accesses alone
own_answer : AnswersCut → OwnAnswers → (m : Memory) (f : Fault) (h : History) (a : ℕ) → IsPlaced m.width (length m.words) (Some f) → a < length m.words → names f a ≡ true
    → answer (Some f) (words_after (Some f) m.words (own f h)) [] a ≡ answer (Some f) m.words h a
own_answer cut owns m f h a placed inside named = sym (cut m.width (Some f) m.words [] (own f h) placed a inside) ∙ owns f m.words h a named

own_agrees : AnswersCut → OwnAnswers → (m : Memory) (f : Fault) (h : History) (item : Item) → IsPlaced m.width (length m.words) (Some f) → place item < length m.words → names f (place item) ≡ true
    → agrees (Some f) (words_after (Some f) m.words (own f h)) [] item ≡ agrees (Some f) m.words h item
own_agrees cut owns m f h (Look a) placed inside named = refl
own_agrees cut owns m f h (Check a x) placed inside named = ap (λ (y : ℕ). y == x) (own_answer cut owns m f h a placed inside named)
own_agrees cut owns m f h (Store a x) placed inside named = refl

wrong_is : AnswersCut → OwnAnswers → (m : Memory) (f : Fault) (items : List Item) (misses : List Miss) (i before : ℕ) {now : Memory} {item : Item} {wrong : Option ℕ}
    → m.fault ≡ Some f → IsSound m → Met m f items misses i before now → Answered m f items i now item wrong → miss_at (Some f) m.words items i ≡ option_map (miss i) wrong
wrong_is cut owns m f items misses i before {now} {item} {wrong} there sound met answered = elim (cases_Bool (names f (place item))) [
  | inl named ↦
      let h : History = history (take i items) in
      let placed : IsPlaced m.width (length m.words) (Some f) = subst (IsPlaced m.width (length m.words)) there sound.placed in
      let e : wrong ≡ then_some (not (agrees (Some f) m.words h item)) (answer (Some f) m.words h (place item)) =
      answered.own named
      ∙ ap (λ (x : Memory). wrong_answer x item) met.after
      ∙ ap (λ (o : Option Fault). wrong_answer (record m { fault = o; words = words_after (Some f) m.words (own f h) }) item) there
      ∙ ap (λ (b : Bool). then_some (not b) (answer (Some f) (words_after (Some f) m.words (own f h)) [] (place item))) (own_agrees cut owns m f h item placed answered.inside named)
      ∙ ap (then_some (not (agrees (Some f) m.words h item))) (own_answer cut owns m f h (place item) placed answered.inside named) in
      ap (λ (x : Item). then_some (not (agrees (Some f) m.words h x)) (miss i (answer (Some f) m.words h (place x)))) answered.here
      ∙ then_map (not (agrees (Some f) m.words h item)) i (answer (Some f) m.words h (place item))
      ∙ ap (option_map (miss i)) (sym e)
  | inr far ↦
      ap (λ (b : Bool). then_some b (miss i (answer_at (Some f) m.words items i))) (answered.spared far)
      ∙ ap (option_map (miss i)) (sym (answered.other far))
]

-- the misses from an access on: its own, and those after it
from_here : AnswersCut → OwnAnswers → (m : Memory) (f : Fault) (items : List Item) (misses : List Miss) (i before : ℕ) {now : Memory} {item : Item} {wrong : Option ℕ}
    → m.fault ≡ Some f → IsSound m → Met m f items misses i before now → Answered m f items i now item wrong
    → misses_from (Some f) m.words items i (length items - i) ≡ cons_option (option_map (miss i) wrong) (misses_from (Some f) m.words items (i + 1) (length items - (i + 1)))
from_here cut owns m f items misses i before {now} {item} {wrong} there sound met answered =
    let left : length items - i ≡ suc (length items - (i + 1)) = omega (arith, answered.within) in
    let later : List Miss = misses_from (Some f) m.words items (i + 1) (length items - (i + 1)) in
    ap (misses_from (Some f) m.words items i) left
    ∙ ap (λ (o : Option Miss). cons_option o later) (wrong_is cut owns m f items misses i before there sound met answered)

address_is : (item : Item) → address (access_of item) ≡ place item
address_is (Look a) = refl
address_is (Check a x) = refl
address_is (Store a x) = refl

-- What becomes of the memory: an access of a word of the fault is made, and any other is left out.
pub record Moves (f : Fault) (item : Item) (a b : Memory) : Type 0 where
  pub own : names f (place item) ≡ true → b ≡ after_access a (access_of item)
  pub other : names f (place item) ≡ false → b ≡ a
  pub size : length b.words ≡ length a.words

words_more : WordsCut → (m : Memory) (f : Fault) (items : List Item) (i : ℕ) (item : Item) {a b : Memory} → m.fault ≡ Some f → IsSound m → i < length items → get_or items i (Look 0) ≡ item
    → a ≡ record m { words = words_after (Some f) m.words (own f (history (take i items))) } → Moves f item a b
    → b ≡ record m { words = words_after (Some f) m.words (own f (history (take (i + 1) items))) }
words_more cut m f items i item {a} {b} there sound within here now moves =
    let h : History = history (take i items) in
    let next : history (take (i + 1) items) ≡ access_of item ∷ h = history_of items i within ∙ ap (λ (x : Item). access_of x ∷ h) here in
    elim (cases_Bool (names f (place item))) [
      | inl named ↦
          let kept : own f (access_of item ∷ h) ≡ access_of item ∷ own f h = ap (λ (t : Bool). if t then access_of item ∷ own f h else own f h) (ap (names f) (address_is item) ∙ named) in
          moves.own named ∙ ap (λ (x : Memory). after_access x (access_of item)) now
          ∙ ap (λ (o : Option Fault). record m { words = words_after o (words_after (Some f) m.words (own f h)) (access_of item ∷ []) }) there
          ∙ ap (λ (ws : List ℕ). record m { words = ws }) (sym (cut m.width (Some f) m.words (access_of item ∷ []) (own f h) (subst (IsPlaced m.width (length m.words)) there sound.placed)))
          ∙ ap (λ (g : History). record m { words = words_after (Some f) m.words g }) (sym kept ∙ ap (own f) (sym next))
      | inr far ↦
          let dropped : own f (access_of item ∷ h) ≡ own f h = ap (λ (t : Bool). if t then access_of item ∷ own f h else own f h) (ap (names f) (address_is item) ∙ far) in
          moves.other far ∙ now
          ∙ ap (λ (g : History). record m { words = words_after (Some f) m.words g }) (sym dropped ∙ ap (own f) (sym next))
    ]

pub Met-more : WordsCut → AnswersCut → OwnAnswers → (m : Memory) (f : Fault) (items : List Item) (misses : List Miss) (i before : ℕ) (item : Item) {a b : Memory} {wrong : Option ℕ}
    → m.fault ≡ Some f → IsSound m → Met m f items misses i before a → Answered m f items i a item wrong → Moves f item a b
    → wrong ≡ told_at misses before i → Met m f items misses (i + 1) (counted before wrong) b
Met-more words cut owns m f items misses i before item {a} {b} {wrong} there sound met answered moves told =
    let later : List Miss = misses_from (Some f) m.words items (i + 1) (length items - (i + 1)) in
    let all : Agree misses before i wrong later = agree misses before i wrong later met.few told in
    let here = from_here cut owns m f items misses i before there sound met answered in
    record {
      after = words_more words m f items i item there sound answered.within answered.here met.after moves;
      size = moves.size ∙ met.size;
      few = all.few;
      same = (λ e. all.same.0 (sym here ∙ met.same.0 e), λ e. met.same.1 (here ∙ all.same.1 e));
    }

pub Met-differs : AnswersCut → OwnAnswers → (m : Memory) (f : Fault) (items : List Item) (misses : List Miss) (i before : ℕ) (item : Item) {a : Memory} {wrong : Option ℕ}
    → m.fault ≡ Some f → IsSound m → Met m f items misses i before a → Answered m f items i a item wrong → wrong ≢ told_at misses before i
    → misses_of (Some f) m.words items ≡ misses → ⊥
Met-differs cut owns m f items misses i before item {a} {wrong} there sound met answered apart e =
    let rest : ℕ = length items - (i + 1) in
    differs misses before i wrong (misses_from (Some f) m.words items (i + 1) rest)
    (λ t more g. head_from (Some f) m.words items (i + 1) rest t more g) apart
    (sym (from_here cut owns m f items misses i before there sound met answered) ∙ met.same.0 e)

pub Met-all : (m : Memory) (f : Fault) (items : List Item) (misses : List Miss) (before : ℕ) {now : Memory} → Met m f items misses (length items) before now
    → (before ≡ length misses) ↔ (misses_of (Some f) m.words items ≡ misses)
Met-all m f items misses before met =
    let none : length items - length items ≡ 0 = omega arith in
    let end : misses_from (Some f) m.words items (length items) (length items - length items) ≡ [] = ap (misses_from (Some f) m.words items (length items)) none in (
      λ e. met.same.1 (end ∙ sym (drop_all before misses (omega (arith, e)))),
      λ e. let g : [] ≡ drop before misses = sym end ∙ met.same.0 e in over before misses met.few (sym g),
    )
  where
    over : (k : ℕ) (l : List Miss) → k ≤ length l → drop k l ≡ [] → k ≡ length l
    over zero [] h f = refl
    over zero (x ∷ more) h f = absurd (cc)
    over (suc k) [] h f = absurd (omega (arith, h))
    over (suc k) (x ∷ more) h f = ap suc (over k more (omega (arith, h)) f)

-- ---- the accesses of a probe

pub length-accesses : (probe : Probe) → length (accesses_of probe) ≡ length (steps_of probe.alg probe.n)
unfolding accesses
length-accesses probe = length-map (steps_of probe.alg probe.n) (item_of probe.width 0 (λ cell. probe.background))

pub access_at : (probe : Probe) (i : ℕ) (step : Step) → slice_get (steps_of probe.alg probe.n) i ≡ Some step
    → get_or (accesses_of probe) i (Look 0) ≡ act_on probe.width step.cell probe.background step.act
unfolding accesses
access_at probe i step at =
    let f : Step → Item = item_of probe.width 0 (λ cell. probe.background) in
    let e : 0 + step.cell ≡ step.cell = omega arith in
    get_or_from_slice_get (map f (steps_of probe.alg probe.n)) i (f step) (Look 0) (slice_get-map f (steps_of probe.alg probe.n) i ∙ ap (option_map f) at)
    ∙ ap (λ (a : ℕ). act_on probe.width a probe.background step.act) e

pub place_of : (width : Width) (addr back : ℕ) (act : Act) → place (act_on width addr back act) ≡ addr
place_of width addr back WritePlain = refl
place_of width addr back WriteFlipped = refl
place_of width addr back ReadPlain = refl
place_of width addr back ReadFlipped = refl

-- ---- the comparison of what was answered and what the misses say

pub no_difference : (a b : Option ℕ) → not (option_eq eqb a b) ≡ false → a ≡ b
no_difference None None e = refl
no_difference None (Some y) e = absurd (cc)
no_difference (Some x) None e = absurd (cc)
no_difference (Some x) (Some y) e = elim (cases_eq x y) [
  | inl same ↦ ap (λ (n : ℕ). Some n) same
  | inr apart ↦ let f : not false ≡ false = ap not (sym (ne_eqb x y apart)) ∙ e in absurd (cc)
]

pub difference : (a b : Option ℕ) → not (option_eq eqb a b) ≡ true → a ≢ b
difference None None e same = absurd (cc)
difference None (Some y) e same = absurd (cc)
difference (Some x) None e same = absurd (cc)
difference (Some x) (Some y) e same =
    let g : x ≡ y = cc in
    let f : not true ≡ true = ap not (sym (eq-eqb x y g)) ∙ e in absurd (cc)
