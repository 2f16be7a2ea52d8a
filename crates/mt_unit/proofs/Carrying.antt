-- The loop over a plan makes the accesses of the sequence.
use Rattle.std.proofs.Common.{ℕ, suc, zero, ◌≡◌, ◌+◌, ◌-◌, ◌<◌, ◌≤◌, Bool, true, false, List, [], ◌∷◌, ◌++◌, map, take, drop, length, refl, arith, ap, sym, ◌∙◌, Some, None}
use Rattle.std.specs.Prelude.{◌/◌, ◌&&◌, ◌||◌, if◌then◌else◌, find}
use Rattle.std.specs.Option.{option_or}
use Rattle.std.specs.List.{range_with_len}
use Rattle.std.proofs.lemmas.List.{length-append}
use Rattle.std.proofs.lemmas.List.Folds.{find-append}
use Rattle.mt_word.specs.declared.Width.{Width}
use Rattle.mt_word.specs.Word.{complement_of}
use Rattle.mt_fault.specs.Faulty.{is_odd}
use Rattle.mt_fault.specs.Items.{Item, Look, Check, Store}
use Rattle.mt_plan.specs.Accesses.{act_on, item_of}
use Rattle.mt_plan.specs.Lists.{cells}
use Rattle.mt_plan.specs.declared.algorithm.Act.{Act}
use Rattle.mt_plan.specs.declared.algorithm.Act.TheVariants.{ReadPlain, ReadFlipped, WritePlain, WriteFlipped}
use Rattle.mt_plan.specs.declared.algorithm.Step.{Step}
use Rattle.mt_seq.specs.Told.{all_agreed}
use Rattle.mt_unit.specs.Carrying.{access_for, but_last, is_stopped, polled}
use Rattle.mt_unit.specs.Plans.{act_bits, byte_of}
use Rattle.mt_unit.proofs.Bytes.{bits_small, cell_back, low_bit, next_bit}

-- ---- a byte's access is its step's

-- the access by a cell and two bits
abbrev shaped : Width → ℕ → (ℕ → ℕ) → ℕ → Bool → Bool → Item
shaped width first back cell write flipped =
    let word = if flipped then complement_of width (back cell) else back cell in if write then Store (first + cell) word else Check (first + cell) word

shaped_is : (width : Width) (first : ℕ) (back : ℕ → ℕ) (cell : ℕ) (act : Act)
    → shaped width first back cell (is_odd (act_bits act / 2)) (is_odd (act_bits act)) ≡ act_on width (first + cell) (back cell) act
shaped_is width first back cell ReadPlain = refl
shaped_is width first back cell ReadFlipped = refl
shaped_is width first back cell WritePlain = refl
shaped_is width first back cell WriteFlipped = refl

pub access_is : (width : Width) (first : ℕ) (back : ℕ → ℕ) (step : Step) → access_for width first back (byte_of step) ≡ item_of width first back step
access_is width first back step =
    let small = bits_small step.act in
    let byte : ℕ = byte_of step in
    ap (λ (k : ℕ). shaped width first back k (is_odd (byte / 2)) (is_odd byte)) (cell_back step.cell (act_bits step.act) small)
    ∙ ap (λ (b : Bool). shaped width first back step.cell b (is_odd byte)) (next_bit step.cell (act_bits step.act) small)
    ∙ ap (λ (b : Bool). shaped width first back step.cell (is_odd (act_bits step.act / 2)) b) (low_bit step.cell (act_bits step.act))
    ∙ shaped_is width first back step.cell step.act

pub accesses_are : (width : Width) (first : ℕ) (back : ℕ → ℕ) (steps : List Step) → map (access_for width first back) (map byte_of steps) ≡ map (item_of width first back) steps
accesses_are width first back [] = refl
accesses_are width first back (step ∷ more) =
    ap (λ (i : Item). i ∷ map (access_for width first back) (map byte_of more)) (access_is width first back step)
    ∙ ap (λ (l : List Item). item_of width first back step ∷ l) (accesses_are width first back more)

-- ---- where a loop stops

-- A loop that stops: at the first moment of its own at which an interrupt waits.
pub record Stops (waits : ℕ → Bool) (made : ℕ) (items : List Item) : Type 0 where
  pub at : ℕ
  pub found : find waits (range_with_len (made + 1) (length items)) ≡ Some at
  pub after : made < at
  pub within : at ≤ made + length items
  pub makes : polled waits made items ≡ take (at - made) items

pub stops : (waits : ℕ → Bool) (made : ℕ) (items : List Item) → is_stopped waits made items ≡ true → Stops waits made items
stops waits made [] e = cc
stops waits made (item ∷ more) e = here (waits (made + 1)) refl e (λ k. stops waits (made + 1) more k)
  where
    here : (b : Bool) → waits (made + 1) ≡ b → (b || is_stopped waits (made + 1) more) ≡ true
        → (is_stopped waits (made + 1) more ≡ true → Stops waits (made + 1) more) → Stops waits made (item ∷ more)
    here true is e again = record {
      at = made + 1;
      found = ap (λ (b : Bool). if b then Some (made + 1) else find waits (range_with_len (made + 1 + 1) (length more))) is;
      after = omega arith;
      within = omega arith;
      makes =
          let one : made + 1 - made ≡ 1 = omega arith in
          ap (λ (b : Bool). item ∷ (if b then [] else polled waits (made + 1) more)) is ∙ ap (λ (k : ℕ). take k (item ∷ more)) (sym one);
    }
    here false is e again =
        let rest : Stops waits (made + 1) more = again e in
        record {
          at = rest.at;
          found = ap (λ (b : Bool). if b then Some (made + 1) else find waits (range_with_len (made + 1 + 1) (length more))) is ∙ rest.found;
          after = omega (arith, rest.after);
          within = omega (arith, rest.within);
          makes =
              let next : suc (rest.at - (made + 1)) ≡ rest.at - made = omega (arith, rest.after) in
              ap (λ (b : Bool). item ∷ (if b then [] else polled waits (made + 1) more)) is
              ∙ ap (λ (l : List Item). item ∷ l) rest.makes
              ∙ ap (λ (k : ℕ). take k (item ∷ more)) next;
        }

pub goes_on : (waits : ℕ → Bool) (made : ℕ) (items : List Item) → is_stopped waits made items ≡ false → find waits (range_with_len (made + 1) (length items)) ≡ None
goes_on waits made [] e = refl
goes_on waits made (item ∷ more) e = here (waits (made + 1)) refl e (λ k. goes_on waits (made + 1) more k)
  where
    here : (b : Bool) → waits (made + 1) ≡ b → (b || is_stopped waits (made + 1) more) ≡ false
        → (is_stopped waits (made + 1) more ≡ false → find waits (range_with_len (made + 1 + 1) (length more)) ≡ None)
        → find waits (range_with_len (made + 1) (length (item ∷ more))) ≡ None
    here true is e again = cc
    here false is e again =
        ap (λ (b : Bool). if b then Some (made + 1) else find waits (range_with_len (made + 1 + 1) (length more))) is ∙ again e

-- numbers in a row, in two parts
pub in_parts : (a n m : ℕ) → range_with_len a (n + m) ≡ range_with_len a n ++ range_with_len (a + n) m
in_parts a zero m =
    let none : zero + m ≡ m = omega arith in
    let same : a ≡ a + zero = omega arith in
    ap (λ (k : ℕ). range_with_len a k) none ∙ ap (λ (k : ℕ). range_with_len k m) same
in_parts a (suc n) m =
    let more : suc n + m ≡ suc (n + m) = omega arith in
    let next : a + 1 + n ≡ a + suc n = omega arith in
    ap (λ (k : ℕ). range_with_len a k) more
    ∙ ap (λ (l : List ℕ). a ∷ l) (in_parts (a + 1) n m)
    ∙ ap (λ (k : ℕ). a ∷ (range_with_len (a + 1) n ++ range_with_len k m)) next

pub found_in_parts : (p : ℕ → Bool) (a n m : ℕ) → find p (range_with_len a (n + m)) ≡ option_or (find p (range_with_len a n)) (find p (range_with_len (a + n) m))
found_in_parts p a n m = ap (λ (l : List ℕ). find p l) (in_parts a n m) ∙ find-append p (range_with_len a n) (range_with_len (a + n) m)

-- ---- all but the last

pub length-but_last : (items : List Item) → length (but_last items) ≡ length items - 1
length-but_last [] = refl
length-but_last (item ∷ []) = refl
length-but_last (item ∷ next ∷ more) =
    let e = length-but_last (next ∷ more) in
    omega (arith, e)

pub take-but_last : (items : List Item) (k : ℕ) → k ≤ length items - 1 → take k (but_last items) ≡ take k items
take-but_last items zero small = refl
take-but_last [] (suc k) small = refl
take-but_last (item ∷ []) (suc k) small = absurd (omega arith)
take-but_last (item ∷ next ∷ more) (suc k) small = ap (λ (l : List Item). item ∷ l) (take-but_last (next ∷ more) k (omega (arith, small)))

-- ---- what is agreed

no_answer : (items : List Item) → all_agreed items [] ≡ true
no_answer [] = refl
no_answer (item ∷ more) = refl

pub agreed-after-looks : (first : ℕ) (js : List ℕ) (rest : List Item) (answers : List ℕ)
    → all_agreed (map (λ (j : ℕ). Look (first + j)) js ++ rest) answers ≡ all_agreed rest (drop (length js) answers)
agreed-after-looks first [] rest answers = refl
agreed-after-looks first (j ∷ js) rest [] = sym (no_answer rest)
agreed-after-looks first (j ∷ js) rest (answer ∷ answers) = agreed-after-looks first js rest answers

all-stores : (first : ℕ) (word : ℕ → ℕ) (js : List ℕ) (answers : List ℕ) → all_agreed (map (λ (j : ℕ). Store (first + j) (word j)) js) answers ≡ true
all-stores first word [] answers = refl
all-stores first word (j ∷ js) [] = refl
all-stores first word (j ∷ js) (answer ∷ answers) = all-stores first word js answers

pub agreed-before-stores : (first : ℕ) (word : ℕ → ℕ) (js : List ℕ) (items : List Item) (answers : List ℕ)
    → all_agreed (items ++ map (λ (j : ℕ). Store (first + j) (word j)) js) answers ≡ all_agreed items answers
agreed-before-stores first word js [] answers = all-stores first word js answers
agreed-before-stores first word js (item ∷ more) [] = refl
agreed-before-stores first word js (item ∷ more) (answer ∷ answers) =
    ap (λ (b : Bool). Rattle.mt_seq.specs.Stepping.agreed item answer && b) (agreed-before-stores first word js more answers)

pub length-cells : (n : ℕ) → length (cells n) ≡ n
length-cells zero = refl
length-cells (suc n) = length-append (cells n) (n ∷ []) ∙ omega (arith, length-cells n)
