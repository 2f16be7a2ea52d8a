-- Accesses that are made piece by piece, with room to count them.
use Rattle.std.proofs.Common.{ℕ, zero, suc, ◌+◌, ◌<◌, ◌≤◌, ◌≡◌, Bool, true, false, cond, List, [], ◌∷◌, ◌++◌, map, take, reverse, length, get_or, Option, Some, refl, ap, sym, ◌∙◌, subst, arith, add-one, append-nil, length-append, inl, inr}
use mathlib.Core.Bool.{◌&&◌}
use Rattle.std.specs.Prelude.{not, slice_get, if◌then◌else◌}
use Rattle.std.proofs.lemmas.Option.{slice_get_within}
use Rattle.std.specs.List.{filter, flat_map}
use Rattle.std.proofs.lemmas.Bool.{cases_lt}
use Rattle.std.proofs.Math.Seq.{take-suc}
use Rattle.std.proofs.lemmas.List.{length-map}
use mathlib.Core.List.{reverse-cons}
use Rattle.std.proofs.lemmas.List.Concat.{flat_map-append}
use Rattle.std.proofs.lemmas.List.Elements.{All-append, All-cons, All-nil, All-tail}
use Rattle.mt_fault.specs.Items.{Item}
use Rattle.mt_plan.specs.declared.algorithm.Act.{Act}
use Rattle.mt_plan.specs.declared.algorithm.Act.TheVariants.{WritePlain, WriteFlipped, ReadPlain, ReadFlipped}
use Rattle.mt_plan.specs.Lists.{cells, others, read_act, write_act}
use Rattle.mt_port.specs.declared.board.Touch.{Touch}
use Rattle.mt_port.specs.Board.{Board, IsSound}
use Rattle.mt_seq.specs.declared.own.Named.{Named}
use Rattle.mt_seq.specs.Inner.Ground.{IsTarget}
use Rattle.mt_seq.specs.Inner.Own.{AreTargets, at_base, doing, off_base, own_each, own_galpat_base, own_pairs, own_walk_base}
use Rattle.mt_seq.specs.Makes.{Makes}
use Rattle.mt_seq.proofs.Makes.{Makes-append, Makes-same}
use Rattle.mt_seq.proofs.Spans.{others_more, target_after}

get_of : {X : Type 0} (xs : List X) (i : ℕ) (x : X) → slice_get xs i ≡ Some x → get_or xs i x ≡ x
get_of [] i x h = cc
get_of (y ∷ xs) zero x h = cc
get_of (y ∷ xs) (suc i) x h = get_of xs i x h

-- one more piece
more_pieces : {X : Type 0} (piece : X → List Item) (xs : List X) (i : ℕ) (x : X) → slice_get xs i ≡ Some x → flat_map piece (take (i + 1) xs) ≡ flat_map piece (take i xs) ++ piece x
more_pieces piece xs i x at =
    ap (λ (k : ℕ). flat_map piece (take k xs)) (add-one i)
    ∙ ap (flat_map piece) (take-suc xs i x (slice_get_within xs i x at))
    ∙ flat_map-append piece (take i xs) (get_or xs i x ∷ [])
    ∙ ap (λ y. flat_map piece (take i xs) ++ (piece y ++ [])) (get_of xs i x at)
    ∙ ap (λ (l : List Item). flat_map piece (take i xs) ++ l) (append-nil (piece x))

pub Makes-pieces : {X : Type 0} (piece : X → List Item) (xs : List X) (i : ℕ) (x : X) {a b c : Board} {ta tb tc : Option (List Touch)} {p q : Bool}
    → IsSound a → slice_get xs i ≡ Some x → Makes (flat_map piece (take i xs)) a b ta tb p → Makes (piece x) b c tb tc q → Makes (flat_map piece (take (i + 1) xs)) a c ta tc (p && q)
Makes-pieces piece xs i x sound at first second = Makes-same (sym (more_pieces piece xs i x at)) refl (Makes-append sound first second)

-- what stands past the end of a list
abbrev pub some_cell : Named
some_cell = record { cell = 0; saved = 0; target = record { addr = 0; plain = 0; flipped = 0 } }

-- one more cell
pub more_cells : (f : ℕ → List Item) (k : ℕ) → flat_map f (cells (k + 1)) ≡ flat_map f (cells k) ++ f k
more_cells f k =
    ap (λ (n : ℕ). flat_map f (cells n)) (add-one k) ∙ flat_map-append f (cells k) (k ∷ []) ∙ ap (λ (l : List Item). flat_map f (cells k) ++ l) (append-nil (f k))

pub cells_fit : (f : ℕ → List Item) (k n : ℕ) → k < n → length (flat_map f (cells k)) + length (f k) ≤ length (flat_map f (cells n))
cells_fit f k zero h = absurd (omega arith)
cells_fit f k (suc n) h =
    let last : flat_map f (cells (suc n)) ≡ flat_map f (cells n) ++ f n =
    flat_map-append f (cells n) (n ∷ []) ∙ ap (λ (l : List Item). flat_map f (cells n) ++ l) (append-nil (f n)) in
    let long = ap length last ∙ length-append (flat_map f (cells n)) (f n) in
    elim (cases_lt k n) [
      | inl lt ↦ omega (arith, long, cells_fit f k n lt)
      | inr le ↦ (let e : k ≡ n = omega arith in
          subst (λ (j : ℕ). length (flat_map f (cells j)) + length (f j) ≤ length (flat_map f (cells (suc n)))) (sym e) (omega (arith, long)))
    ]

-- one more cell other than a base
pub more_others : (f : ℕ → List Item) (base k : ℕ) → flat_map f (others base (cells (k + 1))) ≡ flat_map f (others base (cells k)) ++ flat_map f (others base (k ∷ []))
more_others f base k = ap (flat_map f) (others_more base k) ∙ flat_map-append f (others base (cells k)) (others base (k ∷ []))

pub others_fit : (f : ℕ → List Item) (base k n : ℕ) → k < n → length (flat_map f (others base (cells k))) + length (flat_map f (others base (k ∷ []))) ≤ length (flat_map f (others base (cells n)))
others_fit f base k zero h = absurd (omega arith)
others_fit f base k (suc n) h =
    let last : flat_map f (others base (cells (suc n))) ≡ flat_map f (others base (cells n)) ++ flat_map f (others base (n ∷ [])) =
    ap (λ (j : ℕ). flat_map f (others base (cells j))) (sym (add-one n)) ∙ more_others f base n in
    let long = ap length last ∙ length-append (flat_map f (others base (cells n))) (flat_map f (others base (n ∷ []))) in
    elim (cases_lt k n) [
      | inl lt ↦ omega (arith, long, others_fit f base k n lt)
      | inr le ↦ (let e : k ≡ n = omega arith in
          subst (λ (j : ℕ). length (flat_map f (others base (cells j))) + length (flat_map f (others base (j ∷ []))) ≤ length (flat_map f (others base (cells (suc n))))) (sym e) (omega (arith, long)))
    ]

-- the items of the elements that pass a test
pub kept_pieces : {X : Type 0} (f : X → Item) (p : X → Bool) (xs : List X) → map f (filter p xs) ≡ flat_map (λ x. cond (p x) (f x ∷ []) []) xs
kept_pieces f p [] = refl
kept_pieces {X} f p (x ∷ xs) = pick (p x) (filter p xs) ∙ ap (λ (l : List Item). cond (p x) (f x ∷ []) [] ++ l) (kept_pieces f p xs)
  where
    pick : (b : Bool) (l : List X) → map f (cond b (x ∷ l) l) ≡ cond b (f x ∷ []) [] ++ map f l
    pick true l = refl
    pick false l = refl

pub all_pieces : {X : Type 0} (f : X → Item) (xs : List X) → map f xs ≡ flat_map (λ x. f x ∷ []) xs
all_pieces f [] = refl
all_pieces f (x ∷ xs) = ap (λ (l : List Item). f x ∷ l) (all_pieces f xs)

-- the words stay those that accesses can be made of
pub targets_after : {items : List Item} {a b : Board} {ta tb : Option (List Touch)} {good : Bool} (named : List Named) → AreTargets a named → Makes items a b ta tb good → AreTargets b named
targets_after named are makes = λ k d h. target_after (get_or named k d).target (are k d h) makes

-- ---- acts on cells

pub each_same : (f g : ℕ → Act) → ((j : ℕ) → f j ≡ g j) → (named : List Named) → own_each f named ≡ own_each g named
each_same f g same [] = refl
each_same f g same (m ∷ ms) = ap (λ (a : Act). doing m.target a ∷ own_each f ms) (same m.cell) ∙ ap (λ (l : List Item). doing m.target (g m.cell) ∷ l) (each_same f g same ms)

pub Makes-acts : (named : List Named) (f g : ℕ → Act) {a b : Board} {ta tb : Option (List Touch)} {p : Bool} → ((j : ℕ) → f j ≡ g j) → Makes (own_each f named) a b ta tb p → Makes (own_each g named) a b ta tb p
Makes-acts named f g same makes = Makes-same (each_same f g same named) refl makes

pub either : (b : Bool) (x y z : Act) → x ≡ z → y ≡ z → (if b then y else x) ≡ z
either true x y z e f = f
either false x y z e f = e

pub writes_by : (b : Bool) → (if b then WriteFlipped else WritePlain) ≡ write_act b
writes_by true = refl
writes_by false = refl

pub reads_by : (b : Bool) → (if b then ReadFlipped else ReadPlain) ≡ read_act b
reads_by true = refl
reads_by false = refl

pub writes_by_not : (b : Bool) → (if b then WritePlain else WriteFlipped) ≡ write_act (not b)
writes_by_not true = refl
writes_by_not false = refl

pub reads_by_not : (b : Bool) → (if b then ReadPlain else ReadFlipped) ≡ read_act (not b)
reads_by_not true = refl
reads_by_not false = refl

-- how many accesses there are
pub each_long : (act : ℕ → Act) (named : List Named) → length (own_each act named) ≡ length named
each_long act named = length-map named (λ (m : Named). doing m.target (act m.cell))

pub walk_long : (v : Bool) (named : List Named) (base : ℕ) → length (own_walk_base v named base) ≡ length (at_base base named) + length (off_base base named) + (length (at_base base named) + length (at_base base named))
walk_long v named base =
    let at = at_base base named in
    let off = off_base base named in
    omega (
      arith,
      length-append (own_each (λ j. write_act (not v)) at ++ own_each (λ j. read_act v) off) (own_each (λ j. read_act (not v)) at ++ own_each (λ j. write_act v) at),
      length-append (own_each (λ j. write_act (not v)) at) (own_each (λ j. read_act v) off),
      length-append (own_each (λ j. read_act (not v)) at) (own_each (λ j. write_act v) at),
      each_long (λ j. write_act (not v)) at,
      each_long (λ j. read_act v) off,
      each_long (λ j. read_act (not v)) at,
      each_long (λ j. write_act v) at,
    )

pub galpat_long : (v : Bool) (n : ℕ) (named : List Named) (base : ℕ) → length (own_galpat_base v n named base) ≡ length (at_base base named) + length (at_base base named) + length (own_pairs v n named base) + length (at_base base named)
galpat_long v n named base =
    let at = at_base base named in
    omega (
      arith,
      length-append ((own_each (λ j. write_act (not v)) at ++ own_each (λ j. read_act (not v)) at) ++ own_pairs v n named base) (own_each (λ j. write_act v) at),
      length-append (own_each (λ j. write_act (not v)) at ++ own_each (λ j. read_act (not v)) at) (own_pairs v n named base),
      length-append (own_each (λ j. write_act (not v)) at) (own_each (λ j. read_act (not v)) at),
      each_long (λ j. write_act (not v)) at,
      each_long (λ j. read_act (not v)) at,
      each_long (λ j. write_act v) at,
    )

-- ---- the same cells the other way round

pub falling_targets : (b : Board) (named : List Named) → AreTargets b named → AreTargets b (reverse named)
falling_targets b [] are = are
falling_targets b (m ∷ ms) are =
    let P : Named → Type 0 = λ x. IsTarget b x.target in
    rw reverse-cons (All-append P (reverse ms) (m ∷ []) (falling_targets b ms (All-tail P m ms are)) (All-cons P m [] (are 0 m (omega arith)) (All-nil P)))
