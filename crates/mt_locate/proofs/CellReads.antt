-- Every algorithm reads each cell for each of the two words.
use Rattle.std.proofs.Common.{◌≡◌, ℕ, zero, suc, ◌<◌, Bool, true, false, not, List, [], ◌∷◌, ◌++◌, map, reverse, length, get_or, refl, sym, ap, subst, arith, inl, inr}
use Rattle.std.specs.Prelude.{◌⊎◌, ◌≢◌}
use Rattle.std.proofs.lemmas.Bool.{cases_eq}
use Rattle.std.specs.List.{flat_map}
use Rattle.std.proofs.lemmas.List.{reverse-append}
use Rattle.mt_fault.specs.Faulty.{is_odd}
use Rattle.mt_march.specs.declared.march.Order.{Order}
use Rattle.mt_march.specs.declared.march.Order.TheVariants.{Up, Down, Either}
use Rattle.mt_march.specs.declared.march.Op.{Op}
use Rattle.mt_march.specs.declared.march.Op.TheVariants.{R0, R1, W0, W1}
use Rattle.mt_march.specs.declared.march.Element.{Element}
use Rattle.mt_march.specs.Accepted.{operations, reads}
use Rattle.mt_plan.specs.declared.algorithm.Algorithm.{Algorithm}
use Rattle.mt_plan.specs.declared.algorithm.Algorithm.TheVariants.{Checkerboard, March as Marches, WalkPath, Galpat, TransparentGalpat}
use Rattle.mt_plan.specs.declared.algorithm.Step.{Step}
use Rattle.mt_plan.specs.Lists.{cells, step, act_of, in_order, ops_on, element_on, march_on, checkerboard_on, walk_base, walk_round, walk_on, galpat_base, galpat_round, galpat_on, read_act, write_act, others}
use Rattle.mt_plan.specs.Plan.{steps_of, IsAccepted}

-- an element of a list
abbrev pub Has : {X : Type 0} → List X → X → Type 0
Has [] x = ⊥
Has (y ∷ ys) x = (y ≡ x) ⊎ Has ys x

pub has_left : {X : Type 0} (xs ys : List X) (x : X) → Has xs x → Has (xs ++ ys) x
has_left [] ys x h = absurd h
has_left (y ∷ xs) ys x (inl e) = inl e
has_left (y ∷ xs) ys x (inr h) = inr (has_left xs ys x h)

pub has_right : {X : Type 0} (xs ys : List X) (x : X) → Has ys x → Has (xs ++ ys) x
has_right [] ys x h = h
has_right (y ∷ xs) ys x h = inr (has_right xs ys x h)

pub has_map : {X Y : Type 0} (f : X → Y) (xs : List X) (x : X) → Has xs x → Has (map f xs) (f x)
has_map f [] x h = absurd h
has_map f (y ∷ xs) x (inl e) = inl (ap f e)
has_map f (y ∷ xs) x (inr h) = inr (has_map f xs x h)

pub has_flat_map : {X Y : Type 0} (f : X → List Y) (xs : List X) (x : X) (y : Y) → Has xs x → Has (f x) y → Has (flat_map f xs) y
has_flat_map f [] x y h g = absurd h
has_flat_map f (z ∷ xs) x y (inl e) g = has_left (f z) (flat_map f xs) y (subst (λ (w : _). Has (f w) y) (sym e) g)
has_flat_map f (z ∷ xs) x y (inr h) g = has_right (f z) (flat_map f xs) y (has_flat_map f xs x y h g)

has_reverse : {X : Type 0} (xs : List X) (x : X) → Has xs x → Has (reverse xs) x
has_reverse [] x h = absurd h
has_reverse (y ∷ xs) x (inl e) = subst (λ (l : List _). Has l x) (sym (reverse-append (y ∷ []) xs)) (has_right (reverse xs) (y ∷ []) x (inl e))
has_reverse (y ∷ xs) x (inr h) = subst (λ (l : List _). Has l x) (sym (reverse-append (y ∷ []) xs)) (has_left (reverse xs) (y ∷ []) x (has_reverse xs x h))

has_cells : (n c : ℕ) → c < n → Has (cells n) c
has_cells zero c h = absurd (omega (arith, h))
has_cells (suc n) c h = elim (cases_eq c n) [
  | inl same ↦ has_right (cells n) (n ∷ []) c (inl (sym same))
  | inr apart ↦ has_left (cells n) (n ∷ []) c (has_cells n c (less n c h apart))
]
  where
    less : (n c : ℕ) → c < suc n → c ≢ n → c < n
    less n c h e = omega (arith, h, e)

-- where an element stands
pub has_at : {X : Type 0} (xs : List X) (x d : X) → Has xs x → (i : ℕ) × (i < length xs) × (get_or xs i d ≡ x)
has_at [] x d h = absurd h
has_at (y ∷ xs) x d (inl e) = (0, omega arith, e)
has_at (y ∷ xs) x d (inr h) = let r = has_at xs x d h in (suc r.0, (let l : r.0 < length xs = r.1 in omega (arith, l)), r.2)

-- ---- the algorithms

-- a read of a value stands in an operation's list
has_read : (value : Bool) (ops : List Op) → reads value ops ≡ true → (op : Op) × Has ops op × (act_of op ≡ read_act value)
has_read value [] e = absurd (cc)
has_read true (R0 ∷ ops) e = let r = has_read true ops e in (r.0, inr r.1, r.2)
has_read false (R0 ∷ ops) e = (R0, inl refl, refl)
has_read true (R1 ∷ ops) e = (R1, inl refl, refl)
has_read false (R1 ∷ ops) e = let r = has_read false ops e in (r.0, inr r.1, r.2)
has_read value (W0 ∷ ops) e = let r = has_read value ops e in (r.0, inr r.1, r.2)
has_read value (W1 ∷ ops) e = let r = has_read value ops e in (r.0, inr r.1, r.2)

-- an operation of a march is one of some element's
has_op : (elements : List Element) (op : Op) → Has (operations elements) op → (e : Element) × Has elements e × Has e.ops.items op
has_op [] op h = absurd h
has_op (e ∷ elements) op h = elim (split e.ops.items (operations elements) op h) [
  | inl here ↦ (e, inl refl, here)
  | inr later ↦ let r = has_op elements op later in (r.0, inr r.1, r.2)
]
  where
    split : (xs ys : List Op) (op : Op) → Has (xs ++ ys) op → Has xs op ⊎ Has ys op
    split [] ys op h = inr h
    split (x ∷ xs) ys op (inl e) = inl (inl e)
    split (x ∷ xs) ys op (inr h) = elim (split xs ys op h) [ inl a ↦ inl (inr a) | inr b ↦ inr b ]

has_in_order : (order : Order) (js : List ℕ) (j : ℕ) → Has js j → Has (in_order order js) j
has_in_order Up js j h = h
has_in_order Down js j h = has_reverse js j h
has_in_order Either js j h = h

march_reads : (elements : List Element) (js : List ℕ) (j : ℕ) (value : Bool) → Has js j → reads value (operations elements) ≡ true → Has (march_on js elements) (step j (read_act value))
march_reads elements js j value h e =
    let r = has_read value (operations elements) e in
    let o = has_op elements r.0 r.1 in
    has_flat_map (element_on js) elements o.0 (step j (read_act value)) o.1
    (has_flat_map (ops_on o.0.ops.items) (in_order o.0.order js) j (step j (read_act value)) (has_in_order o.0.order js j h)
    (subst (λ (a : _). Has (ops_on o.0.ops.items j) (step j a)) r.2 (has_map (λ op. step j (act_of op)) o.0.ops.items r.0 o.2)))

checkerboard_reads : (js : List ℕ) (j : ℕ) (value : Bool) → Has js j → Has (checkerboard_on js) (step j (read_act value))
checkerboard_reads js j value h = of (is_odd j) value refl
  where
    first : List Step
    first = map (λ k. step k (write_act (is_odd k))) js ++ map (λ k. step k (read_act (is_odd k))) js

    second : List Step
    second = map (λ k. step k (write_act (not (is_odd k)))) js ++ map (λ k. step k (read_act (not (is_odd k)))) js

    plainly : Has first (step j (read_act (is_odd j)))
    plainly = has_right (map (λ k. step k (write_act (is_odd k))) js) (map (λ k. step k (read_act (is_odd k))) js) (step j (read_act (is_odd j))) (has_map (λ k. step k (read_act (is_odd k))) js j h)

    flipped : Has second (step j (read_act (not (is_odd j))))
    flipped = has_right (map (λ k. step k (write_act (not (is_odd k)))) js) (map (λ k. step k (read_act (not (is_odd k)))) js) (step j (read_act (not (is_odd j)))) (has_map (λ k. step k (read_act (not (is_odd k)))) js j h)

    of : (odd value : Bool) → is_odd j ≡ odd → Has (first ++ second) (step j (read_act value))
    of true true e = has_left first second (step j (read_act true)) (subst (λ (b : Bool). Has first (step j (read_act b))) e plainly)
    of true false e = has_right first second (step j (read_act false)) (subst (λ (b : Bool). Has second (step j (read_act (not b)))) e flipped)
    of false true e = has_right first second (step j (read_act true)) (subst (λ (b : Bool). Has second (step j (read_act (not b)))) e flipped)
    of false false e = has_left first second (step j (read_act false)) (subst (λ (b : Bool). Has first (step j (read_act b))) e plainly)

-- the base is read in its own turn
walk_round_reads : (v : Bool) (js : List ℕ) (j : ℕ) → Has js j → Has (walk_round v js) (step j (read_act (not v)))
walk_round_reads v js j h =
    has_right (map (λ k. step k (write_act v)) js) (flat_map (walk_base v js) js) (step j (read_act (not v)))
    (has_flat_map (walk_base v js) js j (step j (read_act (not v))) h
    (has_right ((step j (write_act (not v)) ∷ []) ++ map (λ k. step k (read_act v)) (others j js)) (step j (read_act (not v)) ∷ step j (write_act v) ∷ []) (step j (read_act (not v))) (inl refl)))

galpat_round_reads : (v : Bool) (js : List ℕ) (j : ℕ) → Has js j → Has (galpat_round v js) (step j (read_act (not v)))
galpat_round_reads v js j h =
    has_right (map (λ k. step k (write_act v)) js) (flat_map (galpat_base v js) js) (step j (read_act (not v)))
    (has_flat_map (galpat_base v js) js j (step j (read_act (not v))) h (inr (inl refl)))

walk_reads : (js : List ℕ) (j : ℕ) (value : Bool) → Has js j → Has (walk_on js) (step j (read_act value))
walk_reads js j true h = has_left (walk_round false js) (walk_round true js) (step j (read_act true)) (walk_round_reads false js j h)
walk_reads js j false h = has_right (walk_round false js) (walk_round true js) (step j (read_act false)) (walk_round_reads true js j h)

galpat_reads : (js : List ℕ) (j : ℕ) (value : Bool) → Has js j → Has (galpat_on js) (step j (read_act value))
galpat_reads js j true h = has_left (galpat_round false js) (galpat_round true js) (step j (read_act true)) (galpat_round_reads false js j h)
galpat_reads js j false h = has_right (galpat_round false js) (galpat_round true js) (step j (read_act false)) (galpat_round_reads true js j h)

-- each cell is read for each of the two words
pub each_is_read : (algorithm : Algorithm) (n j : ℕ) (value : Bool) → IsAccepted algorithm → j < n → Has (steps_of algorithm n) (step j (read_act value))
unfolding steps_of
each_is_read Checkerboard n j value p l = checkerboard_reads (cells n) j value (has_cells n j l)
each_is_read (Marches march) n j true p l = march_reads march.elements.items (cells n) j true (has_cells n j l) p.ones
each_is_read (Marches march) n j false p l = march_reads march.elements.items (cells n) j false (has_cells n j l) p.zeros
each_is_read WalkPath n j value p l = walk_reads (cells n) j value (has_cells n j l)
each_is_read Galpat n j value p l = galpat_reads (cells n) j value (has_cells n j l)
each_is_read TransparentGalpat n j value p l = galpat_reads (cells n) j value (has_cells n j l)
