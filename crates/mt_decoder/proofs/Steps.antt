-- What is missed, one access after another.
use Rattle.std.proofs.Common.{ℕ, zero, suc, ◌+◌, ◌<◌, ◌≤◌, ◌≡◌, Bool, true, false, not, ◌&&◌, List, [], ◌∷◌, ◌++◌, map, take, length, get_or, Option, Some, None, refl, sym, ap, ◌∙◌, arith, add-one, append-nil, All}
use Rattle.std.specs.Prelude.{is_some, slice_get}
use Rattle.std.specs.Bool.{then_some}
use Rattle.std.specs.Option.{option_or, option_map}
use Rattle.std.specs.List.{find, range_with_len}
use Rattle.std.proofs.lemmas.List.{length-map, take_more, take_all}
use Rattle.std.proofs.lemmas.Option.{get_or_from_slice_get, slice_get-map}
use Rattle.std.proofs.lemmas.List.Elements.{All-cons, All-nil}
use Rattle.std.proofs.lemmas.List.Folds.{find-append}
use Rattle.mt_word.specs.declared.Width.{Width}
use Rattle.mt_fault.specs.declared.fault.Fault.{Fault}
use Rattle.mt_fault.specs.History.{History}
use Rattle.mt_fault.specs.Placement.{IsPlaced}
use Rattle.mt_fault.specs.Faulty.{words_after}
use Rattle.mt_fault.specs.Items.{Item, Look, place, access_of, history, agrees, passes}
use Rattle.mt_fault.specs.Memory.{Memory, IsSound, after_access}
use Rattle.mt_plan.specs.declared.algorithm.Act.{Act}
use Rattle.mt_plan.specs.declared.algorithm.Act.TheVariants.{WritePlain, WriteFlipped, ReadPlain, ReadFlipped}
use Rattle.mt_plan.specs.declared.algorithm.Algorithm.{Algorithm}
use Rattle.mt_plan.specs.declared.algorithm.Step.{Step}
use Rattle.mt_plan.specs.Accesses.{act_on, item_of}
use Rattle.mt_plan.specs.Plan.{steps_of}
use Rattle.mt_decoder.specs.Misses.{accesses, is_miss, first_miss, NothingIsMissedWhereAllPass}

-- the laws of mt_fault that are used here
abbrev pub WordsCut : Type 0
WordsCut =
    (width : Width) (fault : Option Fault) (first : List ℕ) (xs ys : List Item) → IsPlaced width (length first) fault
    → words_after fault first (history (xs ++ ys)) ≡ words_after fault (words_after fault first (history xs)) (history ys)

abbrev pub PassesSplit : Type 0
PassesSplit =
    (fault : Option Fault) (first : List ℕ) (h : History) (xs ys : List Item)
    → passes fault first h (xs ++ ys) ≡ (passes fault first h xs && passes fault first (history xs ++ h) ys)

abbrev pub ChecksCut : Type 0
ChecksCut =
    (width : Width) (fault : Option Fault) (first : List ℕ) (later earlier : History) (xs : List Item)
    → IsPlaced width (length first) fault → All (λ x. place x < length first) xs
    → passes fault first (later ++ earlier) xs ≡ passes fault (words_after fault first earlier) later xs

-- the first miss below a bound
abbrev pub first_below : Option Fault → List ℕ → List Item → ℕ → Option ℕ
first_below fault words items bound = find (is_miss fault words items) (range_with_len 0 bound)

numbers_more : (a i : ℕ) → range_with_len a (suc i) ≡ range_with_len a i ++ ((a + i) ∷ [])
numbers_more a zero = let e : a ≡ a + zero = omega arith in ap (λ (x : ℕ). x ∷ []) e
numbers_more a (suc i) = let e : a + 1 + i ≡ a + suc i = omega arith in ap (λ (l : List ℕ). a ∷ l) (numbers_more (a + 1) i ∙ ap (λ (x : ℕ). range_with_len (a + 1) i ++ x ∷ []) e)

found_alone : (p : ℕ → Bool) (i : ℕ) (b : Bool) → p i ≡ b → find p (i ∷ []) ≡ then_some b i
found_alone p i true e = rw e refl
found_alone p i false e = rw e refl

below_more : (fault : Option Fault) (words : List ℕ) (items : List Item) (i : ℕ)
    → first_below fault words items (i + 1) ≡ option_or (first_below fault words items i) (then_some (is_miss fault words items i) i)
below_more fault words items i =
    let p : ℕ → Bool = is_miss fault words items in
    let e : 0 + i ≡ i = omega arith in
    ap (λ (n : ℕ). find p (range_with_len 0 n)) (add-one i)
    ∙ ap (find p) (numbers_more 0 i ∙ ap (λ (x : ℕ). range_with_len 0 i ++ x ∷ []) e)
    ∙ find-append p (range_with_len 0 i) (i ∷ [])
    ∙ ap (option_or (first_below fault words items i)) (found_alone p i (p i) refl)

and_true : (b : Bool) → (b && true) ≡ b
and_true true = refl
and_true false = refl

-- ---- all accesses of a call

-- A memory after the first accesses of a list, with what they missed.
pub record Made (m : Memory) (items : List Item) (i : ℕ) (now : Memory) (first : Option ℕ) : Type 0 where
  pub after : now ≡ record m { words = words_after m.fault m.words (history (take i items)) }
  pub size : length now.words ≡ length m.words
  pub found : first ≡ first_below m.fault m.words items i

pub Made-none : (m : Memory) (items : List Item) → IsSound m → Made m items 0 m None
unfolding history
Made-none m items sound = record {
  after = ap (λ (ws : List ℕ). record m { words = ws }) (sym sound.settled);
  size = refl;
  found = refl;
}

-- one access, seen from the first words and from those before it
agrees_cut : ChecksCut → (m : Memory) (items : List Item) (i : ℕ) (item : Item) → IsSound m → place item < length m.words
    → agrees m.fault (words_after m.fault m.words (history (take i items))) [] item ≡ agrees m.fault m.words (history (take i items)) item
unfolding passes
agrees_cut checks m items i item sound inside =
    sym (and_true _)
    ∙ sym (checks m.width m.fault m.words [] (history (take i items)) (item ∷ []) sound.placed (All-cons (λ x. place x < length m.words) item [] inside (All-nil (λ x. place x < length m.words))))
    ∙ and_true _

words_more : WordsCut → (m : Memory) (items : List Item) (i : ℕ) → IsSound m → i < length items
    → words_after m.fault (words_after m.fault m.words (history (take i items))) (access_of (get_or items i (Look 0)) ∷ []) ≡ words_after m.fault m.words (history (take (i + 1) items))
unfolding history
words_more cut m items i sound within =
    let item : Item = get_or items i (Look 0) in
    sym (cut m.width m.fault m.words (take i items) (item ∷ []) sound.placed)
    ∙ ap (λ (l : List Item). words_after m.fault m.words (history l)) (sym (take_more items i (Look 0) within))

pub Made-more : WordsCut → ChecksCut → (m : Memory) (items : List Item) (i : ℕ) (item : Item) {a b : Memory} {found now : Option ℕ} {missed : Bool}
    → IsSound m → Made m items i a found → i < length items → get_or items i (Look 0) ≡ item → place item < length m.words
    → b ≡ after_access a (access_of item) → length b.words ≡ length a.words → missed ≡ not (agrees a.fault a.words [] item)
    → now ≡ option_or found (then_some missed i) → Made m items (i + 1) b now
Made-more cut checks m items i item {a} {b} {found} {now} {missed} sound made within here inside after size miss is =
    let ws : List ℕ = words_after m.fault m.words (history (take i items)) in
    let missed_is : missed ≡ is_miss m.fault m.words items i =
    miss ∙ ap (λ (x : Memory). not (agrees x.fault x.words [] item)) made.after
    ∙ ap not (agrees_cut checks m items i item sound inside)
    ∙ ap (λ (x : Item). not (agrees m.fault m.words (history (take i items)) x)) (sym here) in
    record {
      after = after ∙ ap (λ (x : Memory). after_access x (access_of item)) made.after
          ∙ ap (λ (x : Item). record m { words = words_after m.fault ws (access_of x ∷ []) }) (sym here)
          ∙ ap (λ (l : List ℕ). record m { words = l }) (words_more cut m items i sound within);
      size = size ∙ made.size;
      found = is ∙ ap (λ (o : Option ℕ). option_or o (then_some missed i)) made.found
          ∙ ap (λ (b : Bool). option_or (first_below m.fault m.words items i) (then_some b i)) missed_is
          ∙ sym (below_more m.fault m.words items i);
    }

pub Made-all : (m : Memory) (items : List Item) {now : Memory} {found : Option ℕ} → Made m items (length items) now found
    → (found ≡ first_miss m.fault m.words items) × (now ≡ record m { words = words_after m.fault m.words (history items) })
unfolding first_miss
Made-all m items made = (made.found, made.after ∙ ap (λ (l : List Item). record m { words = words_after m.fault m.words (history l) }) (take_all (length items) items (omega arith)))

-- ---- the accesses of an algorithm

pub length-accesses : (width : Width) (algorithm : Algorithm) (background first n : ℕ) → length (accesses width algorithm background first n) ≡ length (steps_of algorithm n)
unfolding accesses
length-accesses width algorithm background first n = length-map (steps_of algorithm n) (item_of width first (λ cell. background))

pub access_at : (width : Width) (algorithm : Algorithm) (background first n i : ℕ) (step : Step) → slice_get (steps_of algorithm n) i ≡ Some step
    → get_or (accesses width algorithm background first n) i (Look 0) ≡ act_on width (first + step.cell) background step.act
unfolding accesses
access_at width algorithm background first n i step at =
    let f : Step → Item = item_of width first (λ cell. background) in
    get_or_from_slice_get (map f (steps_of algorithm n)) i (f step) (Look 0) (slice_get-map f (steps_of algorithm n) i ∙ ap (option_map f) at)

pub place_of : (width : Width) (addr back : ℕ) (act : Act) → place (act_on width addr back act) ≡ addr
place_of width addr back WritePlain = refl
place_of width addr back WriteFlipped = refl
place_of width addr back ReadPlain = refl
place_of width addr back ReadFlipped = refl

-- ---- nothing is missed where all pass

one_more : (o : Option ℕ) (g : Bool) (i : ℕ) → (not (is_some o) && (g && true)) ≡ not (is_some (option_or o (then_some (not g) i)))
one_more None true i = refl
one_more None false i = refl
one_more (Some x) g i = refl

pass_below : PassesSplit → (fault : Option Fault) (words : List ℕ) (items : List Item) (k : ℕ) → k ≤ length items
    → passes fault words [] (take k items) ≡ not (is_some (first_below fault words items k))
unfolding passes
pass_below split fault words items zero h = refl
pass_below split fault words items (suc k) h =
    let item : Item = get_or items k (Look 0) in
    let before : Bool = passes fault words [] (take k items) in
    ap (λ (n : ℕ). passes fault words [] (take n items)) (sym (add-one k))
    ∙ ap (passes fault words []) (take_more items k (Look 0) (omega arith))
    ∙ split fault words [] (take k items) (item ∷ [])
    ∙ ap (λ (g : History). before && (agrees fault words g item && true)) (append-nil (history (take k items)))
    ∙ ap (λ (b : Bool). b && (agrees fault words (history (take k items)) item && true)) (pass_below split fault words items k (omega arith))
    ∙ one_more (first_below fault words items k) (agrees fault words (history (take k items)) item) k
    ∙ ap (λ (o : Option ℕ). not (is_some o)) (sym (below_more fault words items k))
    ∙ ap (λ (n : ℕ). not (is_some (first_below fault words items n))) (add-one k)

none_from : (o : Option ℕ) → not (is_some o) ≡ true → o ≡ None
none_from None h = refl
none_from (Some x) h = cc

pub nothing_missed : PassesSplit → NothingIsMissedWhereAllPass
unfolding first_miss
nothing_missed split fault words items =
    let whole : passes fault words [] items ≡ not (is_some (first_below fault words items (length items))) =
    ap (passes fault words []) (sym (take_all (length items) items (omega arith))) ∙ pass_below split fault words items (length items) (omega arith) in
    (λ none. whole ∙ ap (λ (o : Option ℕ). not (is_some o)) none, λ pass. none_from _ (sym whole ∙ pass))
