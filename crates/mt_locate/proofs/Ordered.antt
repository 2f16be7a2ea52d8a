-- The list of all faults of a slice rises strictly.
use Rattle.std.proofs.Common.{◌≡◌, ℕ, ◌+◌, ◌*◌, ◌/◌, ◌%◌, ◌^◌, ◌<◌, ◌==◌, Bool, true, false, not, List, [], ◌∷◌, ◌++◌, get_or, refl, sym, ap, ◌∙◌, subst, arith, inl, inr, append_assoc}
use Rattle.std.specs.Prelude.{◌≢◌, ◌&&◌, ◌||◌, nat_lt, if◌then◌else◌}
use Rattle.std.specs.List.{flat_map, range_with_len}
use Rattle.std.proofs.lemmas.Bool.{cases_eq, eqb-true, ltb-true, or_cases}
use Rattle.mt_word.specs.declared.Width.{Width}
use Rattle.mt_word.specs.declared.Width.TheVariants.{W8, W16, W32, W64}
use Rattle.mt_word.specs.Word.{width_bits, bit_number}
use Rattle.mt_fault.specs.declared.fault.Spot.{Spot}
use Rattle.mt_fault.specs.declared.fault.Fault.{Fault}
use Rattle.mt_fault.specs.declared.fault.Fault.TheVariants as fault
use Rattle.mt_locate.specs.declared.kinds.OfBit.{OfBit}
use Rattle.mt_locate.specs.declared.kinds.OfBit.TheVariants.{StuckAt, CannotRise, CannotFall}
use Rattle.mt_locate.specs.declared.kinds.Coupling.{Coupling}
use Rattle.mt_locate.specs.declared.kinds.Coupling.TheVariants.{Invert, Force, State}
use Rattle.mt_locate.specs.declared.kinds.OfCells.{OfCells}
use Rattle.mt_locate.specs.declared.kinds.OfCells.TheVariants.{Also, Instead}
use Rattle.mt_locate.specs.declared.kinds.Kind.{Kind}
use Rattle.mt_locate.specs.declared.kinds.Kind.TheVariants as kind
use Rattle.mt_locate.specs.Listed.{spot_at, spots, on_bit, on_bits, coupled, on_cells, crossed, all_seen, kinds, of_kind, faults_of, FaultsAreListedOnce}
use Rattle.mt_locate.specs.Order.{rank, IsBelow, ComesBefore, FaultsAreInOrder}
use Rattle.mt_locate.proofs.CellReads.{Has}
use Rattle.mt_locate.proofs.Members.{of_map, of_flat_map}
use Rattle.mt_locate.proofs.Tested.{and_true}
use Rattle.mt_locate.proofs.Rising.{Rises, mapped, flattened, pairs, Less, range_rises}

-- ---- ranks

-- what decides first decides
first_decides : (xs ys us vs : List ℕ) → IsBelow xs ys → IsBelow (xs ++ us) (ys ++ vs)
first_decides [] ys us vs p = absurd p
first_decides (x ∷ xs) [] us vs p = absurd p
first_decides (x ∷ xs) (y ∷ ys) us vs (inl less) = inl less
first_decides (x ∷ xs) (y ∷ ys) us vs (inr same) = inr (same.0, first_decides xs ys us vs same.1)

rest_decides : (xs us vs : List ℕ) → IsBelow us vs → IsBelow (xs ++ us) (xs ++ vs)
rest_decides [] us vs p = p
rest_decides (x ∷ xs) us vs p = inr (refl, rest_decides xs us vs p)

abbrev place : Spot → List ℕ
place s = s.word ∷ s.bit ∷ []

abbrev Below : Spot → Spot → Type 0
Below s t = IsBelow (place s) (place t)

spot_below : (width : Width) (first a b : ℕ) → a < b → Below (spot_at width first a) (spot_at width first b)
spot_below width first a b less = elim (cases_eq (a / width_bits width) (b / width_bits width)) [
  | inl same ↦ inr (ap (λ (q : ℕ). first + q) same, inl (inside width a b less same))
  | inr apart ↦ inl (between width first a b less apart)
]
  where
    inside : (width : Width) (a b : ℕ) → a < b → a / width_bits width ≡ b / width_bits width → a % width_bits width < b % width_bits width
    inside W8 a b l e = omega (arith, l, e)
    inside W16 a b l e = omega (arith, l, e)
    inside W32 a b l e = omega (arith, l, e)
    inside W64 a b l e = omega (arith, l, e)

    between : (width : Width) (first a b : ℕ) → a < b → a / width_bits width ≢ b / width_bits width → first + a / width_bits width < first + b / width_bits width
    between W8 first a b l e = omega (arith, l, e)
    between W16 first a b l e = omega (arith, l, e)
    between W32 first a b l e = omega (arith, l, e)
    between W64 first a b l e = omega (arith, l, e)

spots_rise : (width : Width) (first n : ℕ) → Rises Below (spots width first n)
spots_rise width first n = mapped Less Below (spot_at width first) (range_with_len 0 (n * width_bits width)) (spot_below width first) (range_rises 0 (n * width_bits width))

-- ---- what a rank begins with

-- the numbers of a kind
abbrev head : Kind → List ℕ
head (kind.OfBit StuckAt) = 0 ∷ []
head (kind.OfBit CannotRise) = 1 ∷ []
head (kind.OfBit CannotFall) = 2 ∷ []
head (kind.Coupling (Invert rise)) = 3 ∷ bit_number (not rise) ∷ []
head (kind.Coupling (Force rise)) = 4 ∷ bit_number (not rise) ∷ []
head (kind.Coupling (State holds)) = 5 ∷ bit_number holds ∷ []
head kind.NoCell = 6 ∷ []
head (kind.OfCells Also) = 7 ∷ []
head (kind.OfCells Instead) = 8 ∷ []

-- A rank that begins with these numbers.
record Begins (f : Fault) (front : List ℕ) : Type 0 where
  rest : List ℕ
  is : rank f ≡ front ++ rest

by_front : (f g : Fault) (xs ys : List ℕ) → IsBelow xs ys → Begins f xs → Begins g ys → ComesBefore f g
by_front f g xs ys less p q =
    subst (λ (l : List ℕ). IsBelow l (rank g)) (sym p.is) (subst (λ (l : List ℕ). IsBelow (xs ++ p.rest) l) (sym q.is) (first_decides xs ys p.rest q.rest less))

of_bit : (k : OfBit) (vic : Spot) (f : Fault) → Has (on_bit k vic) f → Begins f (head (kind.OfBit k) ++ place vic)
of_bit StuckAt vic f (inl e) = record { rest = 0 ∷ []; is = ap rank (sym e) }
of_bit StuckAt vic f (inr (inl e)) = record { rest = 1 ∷ []; is = ap rank (sym e) }
of_bit StuckAt vic f (inr (inr h)) = absurd h
of_bit CannotRise vic f (inl e) = record { rest = []; is = ap rank (sym e) }
of_bit CannotRise vic f (inr h) = absurd h
of_bit CannotFall vic f (inl e) = record { rest = []; is = ap rank (sym e) }
of_bit CannotFall vic f (inr h) = absurd h

of_bits : (k : Coupling) (agg vic : Spot) (f : Fault) → Has (on_bits k agg vic) f → Begins f (head (kind.Coupling k) ++ place agg ++ place vic)
of_bits (Invert rise) agg vic f (inl e) = record { rest = []; is = ap rank (sym e) }
of_bits (Invert rise) agg vic f (inr h) = absurd h
of_bits (Force rise) agg vic f (inl e) = record { rest = 0 ∷ []; is = ap rank (sym e) }
of_bits (Force rise) agg vic f (inr (inl e)) = record { rest = 1 ∷ []; is = ap rank (sym e) }
of_bits (Force rise) agg vic f (inr (inr h)) = absurd h
of_bits (State holds) agg vic f (inl e) = record { rest = 0 ∷ []; is = ap rank (sym e) }
of_bits (State holds) agg vic f (inr (inl e)) = record { rest = 1 ∷ []; is = ap rank (sym e) }
of_bits (State holds) agg vic f (inr (inr h)) = absurd h

of_cells : (k : OfCells) (addr other : ℕ) (f : Fault) → Has (on_cells k addr other) f → Begins f (head (kind.OfCells k) ++ addr ∷ other ∷ [])
of_cells Also addr other f (inl e) = record { rest = 0 ∷ []; is = ap rank (sym e) }
of_cells Also addr other f (inr (inl e)) = record { rest = 1 ∷ []; is = ap rank (sym e) }
of_cells Also addr other f (inr (inr h)) = absurd h
of_cells Instead addr other f (inl e) = record { rest = []; is = ap rank (sym e) }
of_cells Instead addr other f (inr h) = absurd h

-- what a choice that may be empty has
of_choice : (b : Bool) (xs : List Fault) (f : Fault) → Has (if b then [] else xs) f → Has xs f
of_choice true xs f h = absurd h
of_choice false xs f h = h

shorter : (f : Fault) (xs ys : List ℕ) → Begins f (xs ++ ys) → Begins f xs
shorter f xs ys p = record { rest = ys ++ p.rest; is = p.is ∙ append_assoc xs ys p.rest }

-- ---- each kind

two_rise : (f g : Fault) → ComesBefore f g → Rises ComesBefore (f ∷ g ∷ [])
two_rise f g p = (λ y h. elim h [ inl e ↦ subst (ComesBefore f) e p | inr n ↦ absurd n ], (λ y h. absurd h, tt))

one_rises : (f : Fault) → Rises ComesBefore (f ∷ [])
one_rises f = (λ y h. absurd h, tt)

last_less : (xs : List ℕ) → IsBelow (xs ++ 0 ∷ []) (xs ++ 1 ∷ [])
last_less xs = rest_decides xs (0 ∷ []) (1 ∷ []) (inl (omega arith))

on_bit_rises : (k : OfBit) (vic : Spot) → Rises ComesBefore (on_bit k vic)
on_bit_rises StuckAt vic = two_rise (fault.StuckAt vic false) (fault.StuckAt vic true) (last_less (0 ∷ place vic))
on_bit_rises CannotRise vic = one_rises (fault.CannotRise vic)
on_bit_rises CannotFall vic = one_rises (fault.CannotFall vic)

on_bits_rise : (k : Coupling) (agg vic : Spot) → Rises ComesBefore (on_bits k agg vic)
on_bits_rise (Invert rise) agg vic = one_rises (fault.Invert agg rise vic)
on_bits_rise (Force rise) agg vic = two_rise (fault.Force agg rise vic false) (fault.Force agg rise vic true) (last_less (4 ∷ bit_number (not rise) ∷ agg.word ∷ agg.bit ∷ vic.word ∷ vic.bit ∷ []))
on_bits_rise (State holds) agg vic = two_rise (fault.State agg holds vic false) (fault.State agg holds vic true) (last_less (5 ∷ bit_number holds ∷ agg.word ∷ agg.bit ∷ vic.word ∷ vic.bit ∷ []))

on_cells_rise : (k : OfCells) (addr other : ℕ) → Rises ComesBefore (on_cells k addr other)
on_cells_rise Also addr other = two_rise (fault.Also addr other true) (fault.Also addr other false) (last_less (7 ∷ addr ∷ other ∷ []))
on_cells_rise Instead addr other = one_rises (fault.Instead addr other)

choice_rises : (b : Bool) (xs : List Fault) → Rises ComesBefore xs → Rises ComesBefore (if b then [] else xs)
choice_rises true xs p = tt
choice_rises false xs p = p

victims_rise : (width : Width) (first n : ℕ) (k : Coupling) (agg : Spot) → Rises ComesBefore (flat_map (coupled k agg) (spots width first n))
victims_rise width first n k agg =
    flattened Below ComesBefore (coupled k agg) (spots width first n) (λ vic. choice_rises (vic.word == agg.word) (on_bits k agg vic) (on_bits_rise k agg vic))
    (λ v w less f g p q. by_front f g (head (kind.Coupling k) ++ place agg ++ place v) (head (kind.Coupling k) ++ place agg ++ place w)
    (rest_decides (head (kind.Coupling k) ++ place agg) (place v) (place w) less)
    (of_bits k agg v f (of_choice (v.word == agg.word) (on_bits k agg v) f p)) (of_bits k agg w g (of_choice (w.word == agg.word) (on_bits k agg w) g q)))
    (spots_rise width first n)

of_aggressor : (width : Width) (first n : ℕ) (k : Coupling) (agg : Spot) (f : Fault) → Has (flat_map (coupled k agg) (spots width first n)) f → Begins f (head (kind.Coupling k) ++ place agg)
of_aggressor width first n k agg f h =
    let v = of_flat_map (coupled k agg) (spots width first n) f h in
    shorter f (head (kind.Coupling k) ++ place agg) (place v.0) (of_bits k agg v.0 f (of_choice (v.0.word == agg.word) (on_bits k agg v.0) f v.2))

others_rise : (first n : ℕ) (k : OfCells) (addr : ℕ) → Rises ComesBefore (flat_map (crossed k addr) (range_with_len first n))
others_rise first n k addr =
    flattened Less ComesBefore (crossed k addr) (range_with_len first n) (λ other. choice_rises (other == addr) (on_cells k addr other) (on_cells_rise k addr other))
    (λ v w less f g p q. by_front f g (head (kind.OfCells k) ++ addr ∷ v ∷ []) (head (kind.OfCells k) ++ addr ∷ w ∷ [])
    (rest_decides (head (kind.OfCells k)) (addr ∷ v ∷ []) (addr ∷ w ∷ []) (inr (refl, inl less)))
    (of_cells k addr v f (of_choice (v == addr) (on_cells k addr v) f p)) (of_cells k addr w g (of_choice (w == addr) (on_cells k addr w) g q)))
    (range_rises first n)

of_address : (first n : ℕ) (k : OfCells) (addr : ℕ) (f : Fault) → Has (flat_map (crossed k addr) (range_with_len first n)) f → Begins f (head (kind.OfCells k) ++ addr ∷ [])
of_address first n k addr f h =
    let o = of_flat_map (crossed k addr) (range_with_len first n) f h in
    let p = of_cells k addr o.0 f (of_choice (o.0 == addr) (on_cells k addr o.0) f o.2) in
    record { rest = o.0 ∷ p.rest; is = p.is ∙ append_assoc (head (kind.OfCells k)) (addr ∷ o.0 ∷ []) p.rest ∙ sym (append_assoc (head (kind.OfCells k)) (addr ∷ []) (o.0 ∷ p.rest)) }

seen_rise : (width : Width) (addr : ℕ) → Rises ComesBefore (all_seen width addr)
seen_rise width addr = mapped Less ComesBefore (fault.NoCell addr) (range_with_len 0 (2 ^ width_bits width)) (λ a b less. inr (refl, inr (refl, inl less))) (range_rises 0 (2 ^ width_bits width))

of_lost : (width : Width) (addr : ℕ) (f : Fault) → Has (all_seen width addr) f → Begins f (6 ∷ addr ∷ [])
of_lost width addr f h = let x = of_map (fault.NoCell addr) (range_with_len 0 (2 ^ width_bits width)) f h in record { rest = x.0 ∷ []; is = ap rank (sym x.2) }

kind_rises : (width : Width) (first n : ℕ) (k : Kind) → Rises ComesBefore (of_kind width first n k)
unfolding of_kind
kind_rises width first n (kind.OfBit k) =
    flattened Below ComesBefore (on_bit k) (spots width first n) (on_bit_rises k)
    (λ v w less f g p q. by_front f g (head (kind.OfBit k) ++ place v) (head (kind.OfBit k) ++ place w) (rest_decides (head (kind.OfBit k)) (place v) (place w) less) (of_bit k v f p) (of_bit k w g q))
    (spots_rise width first n)
kind_rises width first n (kind.Coupling k) =
    flattened Below ComesBefore (λ agg. flat_map (coupled k agg) (spots width first n)) (spots width first n) (victims_rise width first n k)
    (λ a b less f g p q. by_front f g (head (kind.Coupling k) ++ place a) (head (kind.Coupling k) ++ place b) (rest_decides (head (kind.Coupling k)) (place a) (place b) less)
    (of_aggressor width first n k a f p) (of_aggressor width first n k b g q))
    (spots_rise width first n)
kind_rises width first n kind.NoCell =
    flattened Less ComesBefore (all_seen width) (range_with_len first n) (seen_rise width)
    (λ a b less f g p q. by_front f g (6 ∷ a ∷ []) (6 ∷ b ∷ []) (inr (refl, inl less)) (of_lost width a f p) (of_lost width b g q))
    (range_rises first n)
kind_rises width first n (kind.OfCells k) =
    flattened Less ComesBefore (λ addr. flat_map (crossed k addr) (range_with_len first n)) (range_with_len first n) (others_rise first n k)
    (λ a b less f g p q. by_front f g (head (kind.OfCells k) ++ a ∷ []) (head (kind.OfCells k) ++ b ∷ []) (rest_decides (head (kind.OfCells k)) (a ∷ []) (b ∷ []) (inl less))
    (of_address first n k a f p) (of_address first n k b g q))
    (range_rises first n)

-- ---- all kinds

headed : (width : Width) (first n : ℕ) (k : Kind) (f : Fault) → Has (of_kind width first n k) f → Begins f (head k)
unfolding of_kind
headed width first n (kind.OfBit k) f h =
    let v = of_flat_map (on_bit k) (spots width first n) f h in shorter f (head (kind.OfBit k)) (place v.0) (of_bit k v.0 f v.2)
headed width first n (kind.Coupling k) f h =
    let a = of_flat_map (λ agg. flat_map (coupled k agg) (spots width first n)) (spots width first n) f h in
    shorter f (head (kind.Coupling k)) (place a.0) (of_aggressor width first n k a.0 f a.2)
headed width first n kind.NoCell f h = let a = of_flat_map (all_seen width) (range_with_len first n) f h in shorter f (6 ∷ []) (a.0 ∷ []) (of_lost width a.0 f a.2)
headed width first n (kind.OfCells k) f h =
    let a = of_flat_map (λ addr. flat_map (crossed k addr) (range_with_len first n)) (range_with_len first n) f h in
    shorter f (head (kind.OfCells k)) (a.0 ∷ []) (of_address first n k a.0 f a.2)

abbrev Earlier : Kind → Kind → Type 0
Earlier k l = IsBelow (head k) (head l)

-- the same as a test, which computes
abbrev below : List ℕ → List ℕ → Bool
below [] ys = false
below (x ∷ xs) [] = false
below (x ∷ xs) (y ∷ ys) = nat_lt x y || (x == y && below xs ys)

from_test : (xs ys : List ℕ) → below xs ys ≡ true → IsBelow xs ys
unfolding below
from_test [] ys e = absurd (cc)
from_test (x ∷ xs) [] e = absurd (cc)
from_test (x ∷ xs) (y ∷ ys) e = elim (or_cases _ _ e) [
  | inl less ↦ inl (ltb-true x y less)
  | inr same ↦ inr (eqb-true x y (and_true _ _ same).0, from_test xs ys (and_true _ _ same).1)
]

abbrev all_after : List ℕ → List Kind → Bool
all_after xs [] = true
all_after xs (k ∷ ks) = below xs (head k) && all_after xs ks

abbrev rises_test : List Kind → Bool
rises_test [] = true
rises_test (k ∷ ks) = all_after (head k) ks && rises_test ks

after_from : (k : Kind) (ks : List Kind) → all_after (head k) ks ≡ true → (l : Kind) → Has ks l → Earlier k l
unfolding all_after
after_from k [] e l h = absurd h
after_from k (m ∷ ks) e l (inl same) = subst (Earlier k) same (from_test (head k) (head m) (and_true _ _ e).0)
after_from k (m ∷ ks) e l (inr h) = after_from k ks (and_true _ _ e).1 l h

rises_from : (ks : List Kind) → rises_test ks ≡ true → Rises Earlier ks
unfolding rises_test
rises_from [] e = tt
rises_from (k ∷ ks) e = (after_from k ks (and_true _ _ e).0, rises_from ks (and_true _ _ e).1)

kinds_rise : Rises Earlier kinds
unfolding rises_test all_after below
kinds_rise = rises_from kinds refl

pub ordered : FaultsAreInOrder
unfolding faults_of
ordered width first n =
    pairs ComesBefore (flat_map (of_kind width first n) kinds)
    (flattened Earlier ComesBefore (of_kind width first n) kinds (kind_rises width first n)
    (λ k l less f g p q. by_front f g (head k) (head l) less (headed width first n k f p) (headed width first n l g q)) kinds_rise)

never_below : (xs : List ℕ) → IsBelow xs xs → ⊥
never_below [] p = p
never_below (x ∷ xs) (inl less) = omega (arith, less)
never_below (x ∷ xs) (inr same) = never_below xs same.1

pub once : FaultsAreInOrder → FaultsAreListedOnce
once order width first n i j d less l =
    λ e. never_below (rank (get_or (faults_of width first n) i d)) (subst (λ (f : Fault). ComesBefore (get_or (faults_of width first n) i d) f) (sym e) (order width first n i j d less l))
