-- Accesses that are made one after another.
use Rattle.std.proofs.Common.{ℕ, zero, suc, add-one, ◌+◌, ◌<◌, ◌≡◌, Bool, true, List, [], ◌∷◌, ◌++◌, map, take, length, get_or, Option, Some, refl, sym, ap, ◌∙◌, subst, arith, length-append, append-nil}
use Rattle.std.specs.Prelude.{All, slice_get}
use mathlib.Core.Bool.{◌&&◌}
use Rattle.std.specs.List.{flat_map}
use Rattle.std.proofs.Math.Seq.{take-suc}
use Rattle.std.proofs.lemmas.List.{map-append, map_more}
use Rattle.std.proofs.lemmas.List.Concat.{flat_map-append}
use Rattle.std.proofs.lemmas.Option.{slice_get_within}
use Rattle.mt_plan.specs.Lists.{cells}
use Rattle.std.proofs.lemmas.List.Elements.{All-append, All-cons, All-nil}
use Rattle.mt_fault.specs.Faulty.{words_after}
use Rattle.mt_fault.proofs.Spans.{words_cut, length-words_after}
use Rattle.mt_fault.proofs.ItemLemmas.{history-append, passes-append, passes_cut, both, and_true}
use Rattle.mt_port.specs.declared.board.Touch.{Touch}
use Rattle.mt_port.specs.Inner.Streams.{Logs-nil, Logs-append, logs_one}
use Rattle.mt_port.specs.Tape.{recorded}
use Rattle.mt_port.specs.Board.{Board, IsSound, Logs}
use Rattle.mt_fault.specs.Items.{Item, place, access_of, history, agrees, passes}
use Rattle.mt_seq.specs.Tape.{touch_of}
use Rattle.mt_seq.specs.Makes.{Makes}

board-is : (a b : Board) (ws vs : List ℕ) (m n : ℕ) → b ≡ record a { words = ws; count = m } → ws ≡ vs → m ≡ n → b ≡ record a { words = vs; count = n }
board-is a b ws vs m n e f g = cc

pub Makes-nil : (b : Board) (told : Option (List Touch)) → IsSound b → Makes [] b b told told true
unfolding history passes
Makes-nil b told sound = record {
  state = ap (λ ws. record b { words = ws }) (sym sound.memory.settled) ∙ ap (λ n. record b { words = words_after b.fault b.words []; count = n }) (let e : b.count ≡ b.count + 0 = omega arith in e);
  shape = refl;
  held = refl;
  count = omega arith;
  inside = All-nil (λ item. place item < length b.words);
  pass = refl;
  tape = Logs-nil told;
}

pub Makes-append : {xs ys : List Item} {a b c : Board} {ta tb tc : Option (List Touch)} {p q : Bool}
    → IsSound a → Makes xs a b ta tb p → Makes ys b c tb tc q → Makes (xs ++ ys) a c ta tc (p && q)
Makes-append {xs} {ys} {a} {b} {c} {ta} {tb} {tc} {p} {q} sound first second =
    let placed = sound.memory.placed in
    let long : length b.words ≡ length a.words = ap (λ (x : Board). length x.words) first.state ∙ length-words_after a.fault a.words (history xs) in
    let words : words_after b.fault b.words (history ys) ≡ words_after a.fault a.words (history (xs ++ ys)) =
    ap (λ (x : Board). words_after x.fault x.words (history ys)) first.state
    ∙ sym (words_cut a.shape.width a.fault a.words (history ys) (history xs) placed)
    ∙ ap (words_after a.fault a.words) (sym (history-append xs ys)) in
    let count : b.count + length ys ≡ a.count + length (xs ++ ys) = omega (arith, first.count, length-append xs ys) in
    let inside : All (λ x. place x < length a.words) ys = subst (λ (n : ℕ). All (λ x. place x < n) ys) long second.inside in
    record {
      state = board-is a c _ _ _ _ (second.state ∙ ap (λ (x : Board). record x { words = words_after b.fault b.words (history ys); count = b.count + length ys }) first.state) words count;
      shape = second.shape ∙ first.shape;
      held = second.held ∙ first.held;
      count = omega (arith, second.count, count);
      inside = All-append (λ x. place x < length a.words) xs ys first.inside inside;
      pass = both _ _ _ _ first.pass (second.pass ∙ ap (λ (x : Board). passes x.fault x.words [] ys) first.state ∙ sym (passes_cut a.shape.width a.fault a.words [] (history xs) placed ys inside) ∙ ap (λ h. passes a.fault a.words h ys) (sym (append-nil (history xs))))
          ∙ sym (passes-append a.fault a.words [] xs ys);
      tape = subst (Logs ta tc) (sym (map-append touch_of xs ys)) (Logs-append ta tb tc _ _ first.tape second.tape);
    }

-- a board records one access
pub touched : (ta tb : Option (List Touch)) (most : ℕ) (touch : Touch) → tb ≡ recorded most ta touch → Logs ta tb (touch ∷ [])
touched ta tb most touch e = subst (λ t. Logs ta t (touch ∷ [])) (sym e) (logs_one most ta touch)

-- one access
pub Makes-one : (item : Item) {a b : Board} {ta tb : Option (List Touch)} {good : Bool} → IsSound a
    → b ≡ record a { words = words_after a.fault a.words (access_of item ∷ []); count = a.count + 1 }
    → place item < a.shape.ram → good ≡ agrees a.fault a.words [] item → Logs ta tb (touch_of item ∷ []) → Makes (item ∷ []) a b ta tb good
unfolding history passes
Makes-one item {a} {b} {ta} {tb} {good} sound state inside pass tape = record {
  state = state;
  shape = ap (λ (x : Board). x.shape) state;
  held = ap (λ (x : Board). x.held) state;
  count = ap (λ (x : Board). x.count) state;
  inside = All-cons (λ x. place x < length a.words) item [] (subst (λ (n : ℕ). place item < n) (sym sound.sized) inside) (All-nil (λ x. place x < length a.words));
  pass = pass ∙ sym (and_true (agrees a.fault a.words [] item));
  tape = tape;
}

-- one more item of a list
pub Makes-more : {X : Type 0} (f : X → Item) (xs : List X) (i : ℕ) (x : X) {a b c : Board} {ta tb tc : Option (List Touch)} {p q : Bool}
    → IsSound a → slice_get xs i ≡ Some x → Makes (map f (take i xs)) a b ta tb p → Makes (f x ∷ []) b c tb tc q → Makes (map f (take (i + 1) xs)) a c ta tc (p && q)
Makes-more f xs i x {a} {b} {c} {ta} {tb} {tc} {p} {q} sound at first second =
    let here : get_or xs i x ≡ x = get_of xs i x at in
    subst (λ l. Makes l a c ta tc (p && q)) (sym (map_more f xs i x (slice_get_within xs i x at) ∙ ap (λ y. map f (take i xs) ++ f y ∷ []) here)) (Makes-append sound first second)
  where
    get_of : {X : Type 0} (xs : List X) (i : ℕ) (x : X) → slice_get xs i ≡ Some x → get_or xs i x ≡ x
    get_of [] i x h = cc
    get_of (y ∷ xs) zero x h = cc
    get_of (y ∷ xs) (suc i) x h = get_of xs i x h

-- one more piece of a list that is made of pieces
pub Makes-piece : {X Y : Type 0} (f : Y → Item) (piece : X → List Y) (xs : List X) (i : ℕ) (x : X) {a b c : Board} {ta tb tc : Option (List Touch)} {p q : Bool}
    → IsSound a → i < length xs → get_or xs i x ≡ x → Makes (map f (flat_map piece (take i xs))) a b ta tb p → Makes (map f (piece x)) b c tb tc q
    → Makes (map f (flat_map piece (take (i + 1) xs))) a c ta tc (p && q)
Makes-piece {X} {Y} f piece xs i x {a} {b} {c} {ta} {tb} {tc} {p} {q} sound within here first second =
    let more : flat_map piece (take (i + 1) xs) ≡ flat_map piece (take i xs) ++ piece x =
    ap (λ (k : ℕ). flat_map piece (take k xs)) (add-one i)
    ∙ ap (flat_map piece) (take-suc xs i x within)
    ∙ flat_map-append piece (take i xs) (get_or xs i x ∷ [])
    ∙ ap (λ (l : List Y). flat_map piece (take i xs) ++ l) (append-nil (piece (get_or xs i x)) ∙ ap piece here) in
    subst (λ l. Makes l a c ta tc (p && q)) (sym (ap (map f) more ∙ map-append f (flat_map piece (take i xs)) (piece x))) (Makes-append sound first second)

-- one more cell
pub Makes-cell : (f : ℕ → Item) (n : ℕ) {a b c : Board} {ta tb tc : Option (List Touch)} {p q : Bool}
    → IsSound a → Makes (map f (cells n)) a b ta tb p → Makes (f n ∷ []) b c tb tc q → Makes (map f (cells (n + 1))) a c ta tc (p && q)
Makes-cell f n {a} {b} {c} {ta} {tb} {tc} {p} {q} sound first second =
    subst (λ l. Makes l a c ta tc (p && q)) (sym (ap (λ m. map f (cells m)) (add-one n) ∙ map-append f (cells n) (n ∷ []))) (Makes-append sound first second)

-- accesses that are spelled otherwise, and a verdict too
pub Makes-same : {xs ys : List Item} {a b : Board} {ta tb : Option (List Touch)} {p q : Bool} → xs ≡ ys → p ≡ q → Makes xs a b ta tb p → Makes ys a b ta tb q
Makes-same {xs} {ys} {a} {b} {ta} {tb} {p} {q} e g m = subst (λ r. Makes ys a b ta tb r) g (subst (λ l. Makes l a b ta tb p) e m)
