-- Accesses that loops make.
use Rattle.std.proofs.Common.{ℕ, ◌≡◌, ◌+◌, ◌*◌, ◌^◌, ◌<◌, ◌≤◌, inl, inr, Bool, true, false, List, [], ◌∷◌, ◌++◌, map, take, refl, arith, ap, sym, ◌∙◌, subst, add-one, append-nil, Option, Some}
use Rattle.std.specs.Prelude.{◌==◌, not, slice_get, slice_index, if◌then◌else◌}
use mathlib.Core.Bool.{◌&&◌}
use Rattle.std.specs.List.{flat_map}
use Rattle.std.proofs.lemmas.Bool.{cases_lt, eq-eqb, ne_eqb}
use Rattle.std.proofs.Math.Nat.{mul-le-mul_right}
use Rattle.std.proofs.Math.Bool.{and_assoc}
use Rattle.std.proofs.lemmas.List.{map-append}
use Rattle.std.proofs.lemmas.List.Concat.{flat_map-append}
use Rattle.std.proofs.lemmas.List.Elements.{filter-append}
use Rattle.mt_word.specs.declared.Width.{Width}
use Rattle.mt_word.specs.Word.{Fits, complement_of}
use Rattle.mt_fault.specs.Items.{Item, Check, Store}
use Rattle.mt_march.specs.declared.march.Op.{Op}
use Rattle.mt_plan.specs.declared.algorithm.Act.{Act}
use Rattle.mt_plan.specs.declared.algorithm.Act.TheVariants.{ReadPlain, ReadFlipped, WritePlain, WriteFlipped}
use Rattle.mt_plan.specs.declared.algorithm.Step.{Step}
use Rattle.mt_plan.specs.Lists.{act_of, cells, is_flipped, others, ops_on, read_act, step}
use Rattle.mt_plan.specs.Accesses.{act_on}
use Rattle.mt_port.specs.declared.board.Touch.{Touch}
use Rattle.mt_port.specs.declared.board.Shape.{Shape}
use Rattle.mt_port.specs.Board.{Board, IsSound}
use Rattle.mt_seq.specs.declared.span.Ground.{Ground}
use Rattle.mt_seq.specs.declared.span.Target.{Target}
use Rattle.mt_seq.specs.Inner.Ground.{IsGround, IsTarget, MakesToo, access_for, back_on, item_on, operation, other_pairs, other_reads}
use Rattle.mt_seq.specs.Makes.{Makes}
use Rattle.mt_seq.proofs.Makes.{Makes-append, Makes-more, Makes-same}

-- accesses of steps, one list behind another
pub Makes-map : (f : Step → Item) (xs ys : List Step) {a b c : Board} {ta tb tc : Option (List Touch)} {p q : Bool}
    → IsSound a → Makes (map f xs) a b ta tb p → Makes (map f ys) b c tb tc q → Makes (map f (xs ++ ys)) a c ta tc (p && q)
Makes-map f xs ys {a} {b} {c} {ta} {tb} {tc} {p} {q} sound first second =
    subst (λ l. Makes l a c ta tc (p && q)) (sym (map-append f xs ys)) (Makes-append sound first second)

-- the same, where the whole is spelled otherwise
pub Makes-steps : (f : Step → Item) (xs ys zs : List Step) {a b c : Board} {ta tb tc : Option (List Touch)} {p q : Bool}
    → IsSound a → zs ≡ xs ++ ys → Makes (map f xs) a b ta tb p → Makes (map f ys) b c tb tc q → Makes (map f zs) a c ta tc (p && q)
Makes-steps f xs ys zs {a} {b} {c} {ta} {tb} {tc} {p} {q} sound same first second =
    subst (λ l. Makes (map f l) a c ta tc (p && q)) (sym same) (Makes-map f xs ys sound first second)

-- accesses leave what they need
pub ground_after : {items : List Item} {a b : Board} {ta tb : Option (List Touch)} {good : Bool} (ground : Ground) (saved : List ℕ)
    → IsGround a ground saved → Makes items a b ta tb good → IsGround b ground saved
ground_after ground saved is makes = record {
  held = makes.held ∙ is.held;
  inside = omega (arith, is.inside, ap (λ (s : Shape). s.ram) makes.shape);
  width = is.width ∙ ap (λ (s : Shape). s.width) (sym makes.shape);
  background = is.background;
  fit = is.fit;
  known = is.known;
}

-- one more cell
pub each_more : (f : ℕ → Step) (k : ℕ) → map f (cells (k + 1)) ≡ map f (cells k) ++ f k ∷ []
each_more f k = ap (λ (n : ℕ). map f (cells n)) (add-one k) ∙ map-append f (cells k) (k ∷ [])

pub pieces_more : (f : ℕ → List Step) (k : ℕ) → flat_map f (cells (k + 1)) ≡ flat_map f (cells k) ++ f k
pieces_more f k =
    ap (λ (n : ℕ). flat_map f (cells n)) (add-one k) ∙ flat_map-append f (cells k) (k ∷ []) ∙ ap (λ (l : List Step). flat_map f (cells k) ++ l) (append-nil (f k))

pub others_more : (base k : ℕ) → others base (cells (k + 1)) ≡ others base (cells k) ++ others base (k ∷ [])
others_more base k = ap (λ (n : ℕ). others base (cells n)) (add-one k) ∙ filter-append (λ j. not (j == base)) (cells k) (k ∷ [])

pub reads_more : (flipped : Bool) (base k : ℕ) → other_reads flipped base (cells (k + 1)) ≡ other_reads flipped base (cells k) ++ other_reads flipped base (k ∷ [])
reads_more flipped base k =
    ap (map (λ (j : ℕ). step j (read_act flipped))) (others_more base k) ∙ map-append (λ (j : ℕ). step j (read_act flipped)) (others base (cells k)) (others base (k ∷ []))

pub pairs_more : (flipped : Bool) (base k : ℕ) → other_pairs flipped base (cells (k + 1)) ≡ other_pairs flipped base (cells k) ++ other_pairs flipped base (k ∷ [])
pairs_more flipped base k =
    let pair : ℕ → List Step = λ j. step j (read_act flipped) ∷ step base (read_act (not flipped)) ∷ [] in
    ap (flat_map pair) (others_more base k) ∙ flat_map-append pair (others base (cells k)) (others base (k ∷ []))

-- a cell is other than the base or not
pub others_none : (base cell : ℕ) → cell ≡ base → others base (cell ∷ []) ≡ []
others_none base cell e = let test : (cell == base) ≡ true = eq-eqb _ _ e in rw test

pub others_one : (base cell : ℕ) → (cell ≡ base → ⊥) → others base (cell ∷ []) ≡ cell ∷ []
others_one base cell ne = let test : (cell == base) ≡ false = ne_eqb _ _ ne in rw test

-- an act that is spelled otherwise
pub Makes-act : (f : Step → Item) (cell : ℕ) {act act' : Act} {a b : Board} {ta tb : Option (List Touch)} {p : Bool}
    → act ≡ act' → Makes (f (step cell act) ∷ []) a b ta tb p → Makes (f (step cell act') ∷ []) a b ta tb p
Makes-act f cell {act} {act'} {a} {b} {ta} {tb} {p} same makes = subst (λ (x : Act). Makes (f (step cell x) ∷ []) a b ta tb p) same makes

-- ---- operations of an element

pub act_same : (width : Width) (addr back flipped : ℕ) (act : Act) → flipped ≡ complement_of width back
    → access_for addr (if is_flipped act then flipped else back) act ≡ act_on width addr back act
act_same width addr back flipped ReadPlain same = refl
act_same width addr back flipped ReadFlipped same = ap (Check addr) same
act_same width addr back flipped WritePlain same = refl
act_same width addr back flipped WriteFlipped same = ap (Store addr) same

pub operations_are : (ground : Ground) (target : Target) (cell : ℕ) (ops : List Op) → ground.transparent ≡ false → target.addr ≡ ground.first + cell → target.plain ≡ ground.background
    → target.flipped ≡ complement_of ground.width ground.background → map (operation target) ops ≡ map (item_on ground []) (ops_on ops cell)
operations_are ground target cell [] opaque addr plain flipped = refl
operations_are ground target cell (op ∷ ops) opaque addr plain flipped =
    let back : back_on ground [] cell ≡ ground.background = ap (λ (b : Bool). if b then slice_index [] cell else ground.background) opaque in
    let same : target.flipped ≡ complement_of ground.width target.plain = flipped ∙ ap (complement_of ground.width) (sym plain) in
    let one : operation target op ≡ item_on ground [] (step cell (act_of op)) =
    act_same ground.width target.addr target.plain target.flipped (act_of op) same
    ∙ ap (λ (a : ℕ). act_on ground.width a target.plain (act_of op)) addr
    ∙ ap (λ (w : ℕ). act_on ground.width (ground.first + cell) w (act_of op)) (plain ∙ sym back) in
    ap (λ (x : Item). x ∷ map (operation target) ops) one
    ∙ ap (λ (l : List Item). item_on ground [] (step cell (act_of op)) ∷ l) (operations_are ground target cell ops opaque addr plain flipped)

pub target_after : {items : List Item} {a b : Board} {ta tb : Option (List Touch)} {good : Bool} (target : Target) → IsTarget a target → Makes items a b ta tb good → IsTarget b target
target_after target is makes = record {
  held = makes.held ∙ is.held;
  inside = omega (arith, is.inside, ap (λ (s : Shape). s.ram) makes.shape);
  plain = subst (λ (s : Shape). Fits s.width target.plain) (sym makes.shape) is.plain;
  flipped = subst (λ (s : Shape). Fits s.width target.flipped) (sym makes.shape) is.flipped;
}

-- ---- what was good before

-- one more item of a list
pub MakesToo-more : (f : Op → Item) (ops : List Op) (i : ℕ) (op : Op) {a b c : Board} {ta tb tc : Option (List Touch)} {was p good : Bool}
    → IsSound a → slice_get ops i ≡ Some op → MakesToo (map f (take i ops)) a b ta tb was p → MakesToo (f op ∷ []) b c tb tc p good → MakesToo (map f (take (i + 1) ops)) a c ta tc was good
MakesToo-more f ops i op {was = was} sound at first second = record {
  pass = first.pass && second.pass;
  makes = Makes-more f ops i op sound at first.makes second.makes;
  both = second.both ∙ ap (λ (b : Bool). b && second.pass) first.both ∙ and_assoc was first.pass second.pass;
}

-- one more piece of a list, where all was good so far or not
pub MakesToo-steps : (f : Step → Item) (xs ys zs : List Step) {items : List Item} {a b c : Board} {ta tb tc : Option (List Touch)} {p good : Bool}
    → IsSound a → zs ≡ xs ++ ys → items ≡ map f ys → Makes (map f xs) a b ta tb p → MakesToo items b c tb tc p good → Makes (map f zs) a c ta tc good
MakesToo-steps f xs ys zs {items} {a} {b} {c} {ta} {tb} {tc} {p} {good} sound same these first second =
    Makes-same refl (sym second.both) (Makes-steps f xs ys zs sound same first (Makes-same these refl second.makes))

-- ---- room to count

pub room_for_one : (count now n base cell : ℕ) → (cell ≤ base → now ≡ count + cell) → (base < cell → now + 1 ≡ count + cell) → count + n < 2 ^ 32 → cell < n → now + 1 < 2 ^ 32
room_for_one count now n base cell before behind room within =
    elim (cases_lt base cell) [ inl lt ↦ omega (arith, behind lt) | inr le ↦ omega (arith, before le) ]

pub room_for_two : (count now n base cell : ℕ) → (cell ≤ base → now ≡ count + 2 * cell) → (base < cell → now + 2 ≡ count + 2 * cell) → count + 2 * n < 2 ^ 32 + 1 → base < n → cell < n → (cell ≡ base → ⊥)
    → now + 2 < 2 ^ 32
room_for_two count now n base cell before behind room inside within ne =
    elim (cases_lt base cell) [ inl lt ↦ omega (arith, behind lt) | inr le ↦ omega (arith, before le) ]

pub room_for_ops : (count now n place len : ℕ) → now ≡ count + place * len → count + n * len < 2 ^ 32 → place < n → now + len < 2 ^ 32
room_for_ops count now n place len made room within =
    let more : (place + 1) * len ≤ n * len = mul-le-mul_right len (omega arith) in
    let product : (place + 1) * len ≡ place * len + len = omega arith in
    omega arith
