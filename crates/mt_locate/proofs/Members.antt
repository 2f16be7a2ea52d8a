-- The list of all faults of a slice has each of them, and no other.
use Rattle.std.proofs.Common.{◌≡◌, ℕ, zero, suc, ◌+◌, ◌-◌, ◌*◌, ◌/◌, ◌%◌, ◌^◌, ◌<◌, ◌≤◌, Bool, true, false, List, [], ◌∷◌, ◌++◌, map, length, get_or, refl, sym, ap, ◌∙◌, subst, arith, inl, inr}
use Rattle.std.specs.Prelude.{◌⊎◌, ◌≢◌, if◌then◌else◌, Contains}
use Rattle.std.specs.List.{flat_map, range_with_len}
use Rattle.std.proofs.lemmas.Bool.{eq-eqb, ne_eqb, cases_eq}
use Rattle.std.proofs.lemmas.Nat.{mul-le}
use Rattle.mt_word.specs.declared.Width.{Width}
use Rattle.mt_word.specs.declared.Width.TheVariants.{W8, W16, W32, W64}
use Rattle.mt_word.specs.Word.{width_bits}
use Rattle.mt_fault.specs.declared.fault.Spot.{Spot}
use Rattle.mt_fault.specs.declared.fault.Fault.{Fault}
use Rattle.mt_fault.specs.declared.fault.Fault.TheVariants as fault
use Rattle.mt_fault.specs.Placement.{IsWithin}
use Rattle.mt_locate.specs.declared.kinds.OfBit.{OfBit}
use Rattle.mt_locate.specs.declared.kinds.OfBit.TheVariants.{StuckAt, CannotRise, CannotFall}
use Rattle.mt_locate.specs.declared.kinds.Coupling.{Coupling}
use Rattle.mt_locate.specs.declared.kinds.Coupling.TheVariants.{Invert, Force, State}
use Rattle.mt_locate.specs.declared.kinds.OfCells.{OfCells}
use Rattle.mt_locate.specs.declared.kinds.OfCells.TheVariants.{Also, Instead}
use Rattle.mt_locate.specs.declared.kinds.Kind.{Kind}
use Rattle.mt_locate.specs.declared.kinds.Kind.TheVariants as kind
use Rattle.mt_locate.specs.Moved.{IsFaultOfSlice}
use Rattle.mt_locate.specs.Listed.{spot_at, spots, on_bit, on_bits, coupled, on_cells, crossed, all_seen, kinds, of_kind, faults_of, FaultsOfTheSliceAreListed}
use Rattle.mt_locate.proofs.CellReads.{Has, has_map, has_flat_map, has_at}

-- ---- elements of lists

contains_from : {X : Type 0} (xs : List X) (x : X) → Has xs x → Contains xs x
contains_from xs x h = let r = has_at xs x x h in (r.0, r.1, r.2)

has_from : {X : Type 0} (xs : List X) (x : X) (k : ℕ) → k < length xs → get_or xs k x ≡ x → Has xs x
has_from [] x k l e = absurd (omega (arith, l))
has_from (y ∷ xs) x zero l e = inl e
has_from (y ∷ xs) x (suc k) l e = inr (has_from xs x k (omega (arith, l)) e)

pub split : {X : Type 0} (xs ys : List X) (x : X) → Has (xs ++ ys) x → Has xs x ⊎ Has ys x
split [] ys x h = inr h
split (y ∷ xs) ys x (inl e) = inl (inl e)
split (y ∷ xs) ys x (inr h) = elim (split xs ys x h) [ inl a ↦ inl (inr a) | inr b ↦ inr b ]

-- what is mapped to an element
pub of_map : {X Y : Type 0} (f : X → Y) (xs : List X) (y : Y) → Has (map f xs) y → (x : X) × Has xs x × (f x ≡ y)
of_map f [] y h = absurd h
of_map f (x ∷ xs) y (inl e) = (x, inl refl, e)
of_map f (x ∷ xs) y (inr h) = let r = of_map f xs y h in (r.0, inr r.1, r.2)

pub of_flat_map : {X Y : Type 0} (f : X → List Y) (xs : List X) (y : Y) → Has (flat_map f xs) y → (x : X) × Has xs x × Has (f x) y
of_flat_map f [] y h = absurd h
of_flat_map f (x ∷ xs) y h = elim (split (f x) (flat_map f xs) y h) [
  | inl a ↦ (x, inl refl, a)
  | inr b ↦ let r = of_flat_map f xs y b in (r.0, inr r.1, r.2)
]

has_range : (a n x : ℕ) → a ≤ x → x < a + n → Has (range_with_len a n) x
has_range a zero x h l = absurd (omega (arith, h, l))
has_range a (suc n) x h l = elim (cases_eq a x) [
  | inl same ↦ inl same
  | inr apart ↦ inr (has_range (a + 1) n x (omega (arith, h, apart)) (omega (arith, l)))
]

pub of_range : (a n x : ℕ) → Has (range_with_len a n) x → (a ≤ x) × (x < a + n)
of_range a zero x h = absurd h
of_range a (suc n) x (inl e) = (omega (arith, e), omega (arith, e))
of_range a (suc n) x (inr h) = let r = of_range (a + 1) n x h in let p = r.0 in let q = r.1 in (omega (arith, p), omega (arith, q))

-- ---- spots

-- a bit of one of the words
record IsSpotAmong (width : Width) (first n : ℕ) (spot : Spot) : Type 0 where
  word : IsWithin first n spot.word
  bit : spot.bit < width_bits width

-- the number of a bit of a word
number_below : (bits first n word bit : ℕ) → first ≤ word → word < first + n → bit < bits → (word - first) * bits + bit < n * bits
number_below bits first n word bit f l b =
    let d : ℕ = word - first in
    let up : d + 1 ≤ n = omega (arith, f, l) in
    let step : (d + 1) * bits ≤ n * bits = mul-le (d + 1) bits n bits up (omega arith) in
    let more : (d + 1) * bits ≡ d * bits + bits = omega arith in
    omega (arith, b, step, more)

record Divides (bits d bit k : ℕ) : Type 0 where
  word : k / bits ≡ d
  rest : k % bits ≡ bit

divides : (width : Width) (d bit : ℕ) → bit < width_bits width → Divides (width_bits width) d bit (d * width_bits width + bit)
divides W8 d bit l = record { word = omega (arith, l); rest = omega (arith, l) }
divides W16 d bit l = record { word = omega (arith, l); rest = omega (arith, l) }
divides W32 d bit l = record { word = omega (arith, l); rest = omega (arith, l) }
divides W64 d bit l = record { word = omega (arith, l); rest = omega (arith, l) }

has_spot : (width : Width) (first n : ℕ) (spot : Spot) → IsSpotAmong width first n spot → Has (spots width first n) spot
has_spot width first n spot among =
    let w : ℕ = width_bits width in
    let d : ℕ = spot.word - first in
    let k : ℕ = d * w + spot.bit in
    let f = among.word.from in
    let l = among.word.below in
    let q = divides width d spot.bit among.bit in
    let up : first + k / w ≡ spot.word = ap (λ (x : ℕ). first + x) q.word ∙ (let e : first + d ≡ spot.word = omega (arith, f) in e) in
    let is : spot_at width first k ≡ spot = ap (λ (x : ℕ). record { word = x; bit = k % w }) up ∙ ap (λ (x : ℕ). record { word = spot.word; bit = x }) q.rest in
    let below : k < n * w = number_below w first n spot.word spot.bit f l among.bit in
    subst (λ (s : Spot). Has (spots width first n) s) is (has_map (spot_at width first) (range_with_len 0 (n * w)) k (has_range 0 (n * w) k (omega arith) (omega (arith, below))))

quotient : (width : Width) (n k : ℕ) → k < n * width_bits width → (k / width_bits width < n) × (k % width_bits width < width_bits width)
quotient W8 n k l = (omega (arith, l), omega arith)
quotient W16 n k l = (omega (arith, l), omega arith)
quotient W32 n k l = (omega (arith, l), omega arith)
quotient W64 n k l = (omega (arith, l), omega arith)

of_spots : (width : Width) (first n : ℕ) (spot : Spot) → Has (spots width first n) spot → IsSpotAmong width first n spot
of_spots width first n spot h =
    let r = of_map (spot_at width first) (range_with_len 0 (n * width_bits width)) spot h in
    let l = (of_range 0 (n * width_bits width) r.0 r.1).1 in
    let below : r.0 < n * width_bits width = omega (arith, l) in
    let q = quotient width n r.0 below in
    let a = q.0 in
    subst (IsSpotAmong width first n) r.2 (record { word = record { from = omega arith; below = omega (arith, a) }; bit = q.1 })

-- ---- faults of one bit

of_bit : (width : Width) (first n : ℕ) (kind : OfBit) (vic : Spot) (f : Fault) → IsSpotAmong width first n vic → Has (on_bit kind vic) f → IsFaultOfSlice width first n f
of_bit width first n StuckAt vic f v (inl e) = subst (IsFaultOfSlice width first n) e (record { placed = record { inside = ((v.word.below, (v.bit, tt)), tt); apart = tt }; inside = (v.word, tt) })
of_bit width first n StuckAt vic f v (inr (inl e)) = subst (IsFaultOfSlice width first n) e (record { placed = record { inside = ((v.word.below, (v.bit, tt)), tt); apart = tt }; inside = (v.word, tt) })
of_bit width first n StuckAt vic f v (inr (inr h)) = absurd h
of_bit width first n CannotRise vic f v (inl e) = subst (IsFaultOfSlice width first n) e (record { placed = record { inside = ((v.word.below, (v.bit, tt)), tt); apart = tt }; inside = (v.word, tt) })
of_bit width first n CannotRise vic f v (inr h) = absurd h
of_bit width first n CannotFall vic f v (inl e) = subst (IsFaultOfSlice width first n) e (record { placed = record { inside = ((v.word.below, (v.bit, tt)), tt); apart = tt }; inside = (v.word, tt) })
of_bit width first n CannotFall vic f v (inr h) = absurd h

-- ---- faults of two bits

of_bits : (width : Width) (first n : ℕ) (kind : Coupling) (agg vic : Spot) (f : Fault) → IsSpotAmong width first n agg → IsSpotAmong width first n vic → agg.word ≢ vic.word
    → Has (on_bits kind agg vic) f → IsFaultOfSlice width first n f
of_bits width first n (Invert rise) agg vic f a v apart (inl e) =
    subst (IsFaultOfSlice width first n) e (record { placed = record { inside = ((a.word.below, (a.bit, tt)), ((v.word.below, (v.bit, tt)), tt)); apart = apart }; inside = (a.word, (v.word, tt)) })
of_bits width first n (Invert rise) agg vic f a v apart (inr h) = absurd h
of_bits width first n (Force rise) agg vic f a v apart (inl e) =
    subst (IsFaultOfSlice width first n) e (record { placed = record { inside = ((a.word.below, (a.bit, tt)), ((v.word.below, (v.bit, tt)), tt)); apart = apart }; inside = (a.word, (v.word, tt)) })
of_bits width first n (Force rise) agg vic f a v apart (inr (inl e)) =
    subst (IsFaultOfSlice width first n) e (record { placed = record { inside = ((a.word.below, (a.bit, tt)), ((v.word.below, (v.bit, tt)), tt)); apart = apart }; inside = (a.word, (v.word, tt)) })
of_bits width first n (Force rise) agg vic f a v apart (inr (inr h)) = absurd h
of_bits width first n (State holds) agg vic f a v apart (inl e) =
    subst (IsFaultOfSlice width first n) e (record { placed = record { inside = ((a.word.below, (a.bit, tt)), ((v.word.below, (v.bit, tt)), tt)); apart = apart }; inside = (a.word, (v.word, tt)) })
of_bits width first n (State holds) agg vic f a v apart (inr (inl e)) =
    subst (IsFaultOfSlice width first n) e (record { placed = record { inside = ((a.word.below, (a.bit, tt)), ((v.word.below, (v.bit, tt)), tt)); apart = apart }; inside = (a.word, (v.word, tt)) })
of_bits width first n (State holds) agg vic f a v apart (inr (inr h)) = absurd h

of_coupled : (width : Width) (first n : ℕ) (kind : Coupling) (agg vic : Spot) (f : Fault) → IsSpotAmong width first n agg → IsSpotAmong width first n vic → Has (coupled kind agg vic) f → IsFaultOfSlice width first n f
of_coupled width first n kind agg vic f a v h = elim (cases_eq vic.word agg.word) [
  | inl same ↦ absurd (subst (λ (b : Bool). Has (if b then [] else on_bits kind agg vic) f) (eq-eqb vic.word agg.word same) h)
  | inr apart ↦ of_bits width first n kind agg vic f a v (λ e. apart (sym e)) (subst (λ (b : Bool). Has (if b then [] else on_bits kind agg vic) f) (ne_eqb vic.word agg.word apart) h)
]

has_coupled : (kind : Coupling) (agg vic : Spot) (f : Fault) → agg.word ≢ vic.word → Has (on_bits kind agg vic) f → Has (coupled kind agg vic) f
has_coupled kind agg vic f apart h = subst (λ (b : Bool). Has (if b then [] else on_bits kind agg vic) f) (sym (ne_eqb vic.word agg.word (λ e. apart (sym e)))) h

-- ---- faults of two cells

of_cells : (width : Width) (first n : ℕ) (kind : OfCells) (addr other : ℕ) (f : Fault) → IsWithin first n addr → IsWithin first n other → addr ≢ other → Has (on_cells kind addr other) f → IsFaultOfSlice width first n f
of_cells width first n Also addr other f a o apart (inl e) =
    subst (IsFaultOfSlice width first n) e (record { placed = record { inside = ((a.below, tt), ((o.below, tt), tt)); apart = apart }; inside = (a, (o, tt)) })
of_cells width first n Also addr other f a o apart (inr (inl e)) =
    subst (IsFaultOfSlice width first n) e (record { placed = record { inside = ((a.below, tt), ((o.below, tt), tt)); apart = apart }; inside = (a, (o, tt)) })
of_cells width first n Also addr other f a o apart (inr (inr h)) = absurd h
of_cells width first n Instead addr other f a o apart (inl e) =
    subst (IsFaultOfSlice width first n) e (record { placed = record { inside = ((a.below, tt), ((o.below, tt), tt)); apart = apart }; inside = (a, (o, tt)) })
of_cells width first n Instead addr other f a o apart (inr h) = absurd h

of_crossed : (width : Width) (first n : ℕ) (kind : OfCells) (addr other : ℕ) (f : Fault) → IsWithin first n addr → IsWithin first n other → Has (crossed kind addr other) f → IsFaultOfSlice width first n f
of_crossed width first n kind addr other f a o h = elim (cases_eq other addr) [
  | inl same ↦ absurd (subst (λ (b : Bool). Has (if b then [] else on_cells kind addr other) f) (eq-eqb other addr same) h)
  | inr apart ↦ of_cells width first n kind addr other f a o (λ e. apart (sym e)) (subst (λ (b : Bool). Has (if b then [] else on_cells kind addr other) f) (ne_eqb other addr apart) h)
]

has_crossed : (kind : OfCells) (addr other : ℕ) (f : Fault) → addr ≢ other → Has (on_cells kind addr other) f → Has (crossed kind addr other) f
has_crossed kind addr other f apart h = subst (λ (b : Bool). Has (if b then [] else on_cells kind addr other) f) (sym (ne_eqb other addr (λ e. apart (sym e)))) h

within : (first n a : ℕ) → Has (range_with_len first n) a → IsWithin first n a
within first n a h = let r = of_range first n a h in record { from = r.0; below = r.1 }

has_word : (first n a : ℕ) → IsWithin first n a → Has (range_with_len first n) a
has_word first n a w = has_range first n a w.from w.below

-- ---- the whole list

-- what stands in the list of one kind is a fault of the slice
of_one : (width : Width) (first n : ℕ) (k : Kind) (f : Fault) → Has (of_kind width first n k) f → IsFaultOfSlice width first n f
unfolding of_kind
of_one width first n (kind.OfBit k) f h =
    let v = of_flat_map (on_bit k) (spots width first n) f h in
    of_bit width first n k v.0 f (of_spots width first n v.0 v.1) v.2
of_one width first n (kind.Coupling k) f h =
    let a = of_flat_map (λ agg. flat_map (coupled k agg) (spots width first n)) (spots width first n) f h in
    let v = of_flat_map (coupled k a.0) (spots width first n) f a.2 in
    of_coupled width first n k a.0 v.0 f (of_spots width first n a.0 a.1) (of_spots width first n v.0 v.1) v.2
of_one width first n kind.NoCell f h =
    let a = of_flat_map (all_seen width) (range_with_len first n) f h in
    let x = of_map (fault.NoCell a.0) (range_with_len 0 (2 ^ width_bits width)) f a.2 in
    let w = within first n a.0 a.1 in
    let l = (of_range 0 (2 ^ width_bits width) x.0 x.1).1 in
    let fits : x.0 < 2 ^ width_bits width = omega (arith, l) in
    subst (IsFaultOfSlice width first n) x.2 (record { placed = record { inside = ((w.below, tt), ((fits, tt), tt)); apart = tt }; inside = (w, tt) })
of_one width first n (kind.OfCells k) f h =
    let a = of_flat_map (λ addr. flat_map (crossed k addr) (range_with_len first n)) (range_with_len first n) f h in
    let o = of_flat_map (crossed k a.0) (range_with_len first n) f a.2 in
    of_crossed width first n k a.0 o.0 f (within first n a.0 a.1) (within first n o.0 o.1) o.2

abbrev whole : Width → ℕ → ℕ → List Fault
whole width first n = flat_map (of_kind width first n) kinds

-- the kind with a number among the kinds
listed : (width : Width) (first n i : ℕ) (k : Kind) (f : Fault) → i < 12 → get_or kinds i k ≡ k → Has (of_kind width first n k) f → Has (whole width first n) f
listed width first n i k f l at h = has_flat_map (of_kind width first n) kinds k f (has_from kinds k i l at) h

in_bit : (width : Width) (first n i : ℕ) (k : OfBit) (vic : Spot) (f : Fault) → i < 12 → get_or kinds i (kind.OfBit k) ≡ kind.OfBit k → IsSpotAmong width first n vic → Has (on_bit k vic) f → Has (whole width first n) f
unfolding of_kind
in_bit width first n i k vic f l at v h = listed width first n i (kind.OfBit k) f l at (has_flat_map (on_bit k) (spots width first n) vic f (has_spot width first n vic v) h)

in_coupling : (width : Width) (first n i : ℕ) (k : Coupling) (agg vic : Spot) (f : Fault) → i < 12 → get_or kinds i (kind.Coupling k) ≡ kind.Coupling k
    → IsSpotAmong width first n agg → IsSpotAmong width first n vic → agg.word ≢ vic.word → Has (on_bits k agg vic) f → Has (whole width first n) f
unfolding of_kind
in_coupling width first n i k agg vic f l at a v apart h =
    listed width first n i (kind.Coupling k) f l at
    (has_flat_map (λ s. flat_map (coupled k s) (spots width first n)) (spots width first n) agg f (has_spot width first n agg a)
    (has_flat_map (coupled k agg) (spots width first n) vic f (has_spot width first n vic v) (has_coupled k agg vic f apart h)))

in_crossing : (width : Width) (first n i : ℕ) (k : OfCells) (addr other : ℕ) (f : Fault) → i < 12 → get_or kinds i (kind.OfCells k) ≡ kind.OfCells k
    → IsWithin first n addr → IsWithin first n other → addr ≢ other → Has (on_cells k addr other) f → Has (whole width first n) f
unfolding of_kind
in_crossing width first n i k addr other f l at a o apart h =
    listed width first n i (kind.OfCells k) f l at
    (has_flat_map (λ x. flat_map (crossed k x) (range_with_len first n)) (range_with_len first n) addr f (has_word first n addr a)
    (has_flat_map (crossed k addr) (range_with_len first n) other f (has_word first n other o) (has_crossed k addr other f apart h)))

-- both values of a kind with two
both : {X : Type 0} (make : Bool → X) (value : Bool) → Has (make false ∷ make true ∷ []) (make value)
both make false = inl refl
both make true = inr (inl refl)

wired : (addr other : ℕ) (wired_and : Bool) → Has (on_cells Also addr other) (fault.Also addr other wired_and)
wired addr other true = inl refl
wired addr other false = inr (inl refl)

complete : (width : Width) (first n : ℕ) (f : Fault) → IsFaultOfSlice width first n f → Has (whole width first n) f
unfolding of_kind
complete width first n (fault.StuckAt vic value) p = in_bit width first n 0 StuckAt vic _ (omega arith) refl (record { word = p.inside.0; bit = p.placed.inside.0.1.0 }) (both (fault.StuckAt vic) value)
complete width first n (fault.CannotRise vic) p = in_bit width first n 1 CannotRise vic _ (omega arith) refl (record { word = p.inside.0; bit = p.placed.inside.0.1.0 }) (inl refl)
complete width first n (fault.CannotFall vic) p = in_bit width first n 2 CannotFall vic _ (omega arith) refl (record { word = p.inside.0; bit = p.placed.inside.0.1.0 }) (inl refl)
complete width first n (fault.Invert agg true vic) p =
    in_coupling width first n 3 (Invert true) agg vic _ (omega arith) refl (record { word = p.inside.0; bit = p.placed.inside.0.1.0 }) (record { word = p.inside.1.0; bit = p.placed.inside.1.0.1.0 }) p.placed.apart (inl refl)
complete width first n (fault.Invert agg false vic) p =
    in_coupling width first n 4 (Invert false) agg vic _ (omega arith) refl (record { word = p.inside.0; bit = p.placed.inside.0.1.0 }) (record { word = p.inside.1.0; bit = p.placed.inside.1.0.1.0 }) p.placed.apart (inl refl)
complete width first n (fault.Force agg true vic value) p =
    in_coupling width first n 5 (Force true) agg vic _ (omega arith) refl (record { word = p.inside.0; bit = p.placed.inside.0.1.0 }) (record { word = p.inside.1.0; bit = p.placed.inside.1.0.1.0 }) p.placed.apart (both (fault.Force agg true vic) value)
complete width first n (fault.Force agg false vic value) p =
    in_coupling width first n 6 (Force false) agg vic _ (omega arith) refl (record { word = p.inside.0; bit = p.placed.inside.0.1.0 }) (record { word = p.inside.1.0; bit = p.placed.inside.1.0.1.0 }) p.placed.apart (both (fault.Force agg false vic) value)
complete width first n (fault.State agg false vic value) p =
    in_coupling width first n 7 (State false) agg vic _ (omega arith) refl (record { word = p.inside.0; bit = p.placed.inside.0.1.0 }) (record { word = p.inside.1.0; bit = p.placed.inside.1.0.1.0 }) p.placed.apart (both (fault.State agg false vic) value)
complete width first n (fault.State agg true vic value) p =
    in_coupling width first n 8 (State true) agg vic _ (omega arith) refl (record { word = p.inside.0; bit = p.placed.inside.0.1.0 }) (record { word = p.inside.1.0; bit = p.placed.inside.1.0.1.0 }) p.placed.apart (both (fault.State agg true vic) value)
complete width first n (fault.NoCell addr seen) p =
    listed width first n 9 kind.NoCell _ (omega arith) refl
    (has_flat_map (all_seen width) (range_with_len first n) addr _ (has_word first n addr p.inside.0)
    (has_map (fault.NoCell addr) (range_with_len 0 (2 ^ width_bits width)) seen (has_range 0 (2 ^ width_bits width) seen (omega arith) (let l = p.placed.inside.1.0.0 in omega (arith, l)))))
complete width first n (fault.Also addr other wired_and) p = in_crossing width first n 10 Also addr other _ (omega arith) refl p.inside.0 p.inside.1.0 p.placed.apart (wired addr other wired_and)
complete width first n (fault.Instead addr other) p = in_crossing width first n 11 Instead addr other _ (omega arith) refl p.inside.0 p.inside.1.0 p.placed.apart (inl refl)

pub members : FaultsOfTheSliceAreListed
unfolding faults_of
members width first n f = (
  λ c. let k = of_flat_map (of_kind width first n) kinds f (has_from (whole width first n) f c.0 c.1 c.2) in of_one width first n k.0 f k.2,
  λ p. contains_from (whole width first n) f (complete width first n f p),
)
