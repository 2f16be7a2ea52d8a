-- The accesses on the cells that a fault names, among all accesses of a sequence.
use Rattle.std.proofs.Common.{ℕ, zero, suc, ◌+◌, ◌<◌, ◌≡◌, ◌==◌, Bool, true, false, cond, List, [], ◌∷◌, ◌++◌, map, reverse, Option, refl, ap, sym, ◌∙◌, arith, inl, inr, append-nil}
use mathlib.Core.Bool.{not}
use Rattle.std.specs.Prelude.{All, slice_index}
use Rattle.std.specs.List.{filter, flat_map, list_any, range_with_len}
use Rattle.std.proofs.lemmas.Bool.{cases_Bool, cases_eq, eq-eqb, ne_eqb}
use Rattle.std.proofs.lemmas.List.{map-append, reverse-append}
use Rattle.std.proofs.lemmas.List.Elements.{filter-append, All-nil, All-cons, All-append, All-tail, All-filter}
use Rattle.mt_word.specs.declared.Width.{Width}
use Rattle.mt_fault.specs.declared.fault.Fault.{Fault}
use Rattle.mt_fault.specs.Faulty.{is_odd}
use Rattle.mt_fault.specs.Items.{Item, Look, Store, place}
use Rattle.mt_fault.specs.Projection.{cells_of_fault, is_of_fault}
use Rattle.mt_march.specs.declared.march.Element.{Element}
use Rattle.mt_march.specs.declared.march.Op.{Op}
use Rattle.mt_march.specs.declared.march.Order.{Order}
use Rattle.mt_march.specs.declared.march.Order.TheVariants.{Up, Down, Either}
use Rattle.mt_plan.specs.declared.algorithm.Act.{Act}
use Rattle.mt_plan.specs.declared.algorithm.Act.TheVariants.{WritePlain, WriteFlipped, ReadPlain, ReadFlipped}
use Rattle.mt_plan.specs.declared.algorithm.Algorithm.{Algorithm}
use Rattle.mt_plan.specs.declared.algorithm.Algorithm.TheVariants.{Checkerboard, March as Marches, WalkPath, Galpat, TransparentGalpat}
use Rattle.mt_plan.specs.declared.algorithm.Policy.{Policy}
use Rattle.mt_plan.specs.declared.algorithm.Policy.TheVariants.{NonDestructive}
use Rattle.mt_plan.specs.declared.algorithm.Step.{Step}
use Rattle.mt_plan.specs.Accesses.{item_of}
use Rattle.mt_plan.specs.Lists.{act_of, cells, element_on, galpat_base, galpat_round, in_order, march_on, ops_on, others, read_act, step, walk_base, walk_round, write_act}
use Rattle.mt_plan.specs.Plan.{steps_of}
use Rattle.mt_port.specs.Board.{Board}
use Rattle.mt_seq.specs.declared.own.Named.{Named}
use Rattle.mt_seq.specs.declared.sequence.Job.{Job}
use Rattle.mt_seq.specs.declared.sequence.Slice.{Slice}
use Rattle.mt_seq.specs.Inner.Ground.{operation}
use Rattle.mt_seq.specs.Inner.Own.{at_base, doing, named_cells, named_on, off_base, own_accesses, own_each, own_element, own_galpat_base, own_galpat_round, own_looks, own_march, own_ops, own_pair, own_pairs, own_steps, own_stores, own_walk_base, own_walk_round, turned}
use Rattle.mt_seq.specs.Sequence.{accesses_of, back_of, ending, last_of, saved_words, saving, sequence, testing}

-- ---- cells

range_more : (a n : ℕ) → range_with_len a (suc n) ≡ range_with_len a n ++ (a + n) ∷ []
range_more a zero = ap (λ (k : ℕ). k ∷ []) (let e : a ≡ a + 0 = omega arith in e)
range_more a (suc n) = ap (λ (l : List ℕ). a ∷ l) (range_more (a + 1) n) ∙ ap (λ (k : ℕ). a ∷ (range_with_len (a + 1) n ++ k ∷ [])) (let e : a + 1 + n ≡ a + suc n = omega arith in e)

pub cells_are : (n : ℕ) → cells n ≡ range_with_len 0 n
cells_are zero = refl
cells_are (suc n) = ap (λ (l : List ℕ). l ++ n ∷ []) (cells_are n) ∙ ap (λ (k : ℕ). range_with_len 0 n ++ k ∷ []) (let e : n ≡ 0 + n = omega arith in e) ∙ sym (range_more 0 n)

pub cells_low : (n : ℕ) → All (λ (c : ℕ). c < n) (cells n)
cells_low zero = All-nil (λ (c : ℕ). c < 0)
cells_low (suc n) = All-append (λ (c : ℕ). c < suc n) (cells n) (n ∷ []) (λ k d h. less n _ (cells_low n k d h)) (All-cons (λ (c : ℕ). c < suc n) n [] (omega arith) (All-nil (λ (c : ℕ). c < suc n)))
  where
    less : (n c : ℕ) → c < n → c < suc n
    less n c h = omega arith

-- a cell alone, among the cells
alone_none : (i n : ℕ) → n < suc i → filter (λ c. c == i) (cells n) ≡ []
alone_none i zero h = refl
alone_none i (suc n) h =
    let off : (n == i) ≡ false = ne_eqb n i (λ e. omega arith) in
    filter-append (λ c. c == i) (cells n) (n ∷ []) ∙ ap (λ (l : List ℕ). l ++ filter (λ c. c == i) (n ∷ [])) (alone_none i n (omega arith)) ∙ ap (λ (b : Bool). cond b (n ∷ []) []) off

alone : (i n : ℕ) → i < n → filter (λ c. c == i) (cells n) ≡ i ∷ []
alone i zero h = absurd (omega arith)
alone i (suc n) h = filter-append (λ c. c == i) (cells n) (n ∷ []) ∙ elim (cases_eq n i) [
  | inl e ↦ (let on : (n == i) ≡ true = eq-eqb n i e in
      ap (λ (l : List ℕ). l ++ filter (λ c. c == i) (n ∷ [])) (alone_none i n (omega arith)) ∙ ap (λ (b : Bool). cond b (n ∷ []) []) on ∙ ap (λ (k : ℕ). k ∷ []) e)
  | inr ne ↦ (let off : (n == i) ≡ false = ne_eqb n i ne in
      ap (λ (b : Bool). filter (λ c. c == i) (cells n) ++ cond b (n ∷ []) []) off ∙ append-nil _ ∙ alone i n (omega arith))
]

-- ---- lists

reverse_cons : {X : Type 0} (x : X) (xs : List X) → reverse (x ∷ xs) ≡ reverse xs ++ x ∷ []
reverse_cons x xs = reverse-append (x ∷ []) xs

pub filter-reverse : {X : Type 0} (p : X → Bool) (xs : List X) → filter p (reverse xs) ≡ reverse (filter p xs)
filter-reverse p [] = refl
filter-reverse {X = X} p (x ∷ xs) =
    ap (filter p) (reverse_cons x xs) ∙ filter-append p (reverse xs) (x ∷ []) ∙ ap (λ (l : List X). l ++ filter p (x ∷ [])) (filter-reverse p xs) ∙ last (p x) (filter p xs)
  where
    last : (b : Bool) (l : List X) → reverse l ++ cond b (x ∷ []) [] ≡ reverse (cond b (x ∷ l) l)
    last true l = sym (reverse_cons x l)
    last false l = append-nil (reverse l)

map-reverse : {X Y : Type 0} (f : X → Y) (xs : List X) → map f (reverse xs) ≡ reverse (map f xs)
map-reverse f [] = refl
map-reverse {Y = Y} f (x ∷ xs) =
    ap (map f) (reverse_cons x xs) ∙ map-append f (reverse xs) (x ∷ []) ∙ ap (λ (l : List Y). l ++ f x ∷ []) (map-reverse f xs) ∙ sym (reverse_cons (f x) (map f xs))

any_none : {X : Type 0} (p : X → Bool) (xs : List X) → filter p xs ≡ [] → list_any p xs ≡ false
any_none p [] e = refl
any_none p (x ∷ xs) e = elim (cases_Bool (p x)) [
  | inl t ↦ absurd (some (p x) x (filter p xs) t e)
  | inr f ↦ rw f (any_none p xs (sym (ap (λ (b : Bool). cond b (x ∷ filter p xs) (filter p xs)) f) ∙ e))
]
  where
    some : {X : Type 0} (b : Bool) (y : X) (l : List X) → b ≡ true → cond b (y ∷ l) l ≡ [] → ⊥
    some true y l t e = cc
    some false y l t e = cc

any_some : {X : Type 0} (p : X → Bool) (xs : List X) (y : X) (ys : List X) → filter p xs ≡ y ∷ ys → list_any p xs ≡ true
any_some p [] y ys e = cc
any_some p (x ∷ xs) y ys e = elim (cases_Bool (p x)) [
  | inl t ↦ rw t refl
  | inr f ↦ rw f (any_some p xs y ys (sym (ap (λ (b : Bool). cond b (x ∷ filter p xs) (filter p xs)) f) ∙ e))
]

-- ---- steps of an algorithm

module _ (width : Width) (first : ℕ) (back : ℕ → ℕ) (saved : List ℕ) (fault : Option Fault) where
  -- whether a cell is one that the fault names
  abbrev named : ℕ → Bool
  named c = is_of_fault fault (first + c)

  abbrev on : ℕ → Named
  on c = named_on width first back saved c

  abbrev these : List ℕ → List Named
  these cs = map on (filter named cs)

  abbrev keep : List Item → List Item
  keep items = filter (λ (item : Item). is_of_fault fault (place item)) items

  abbrev item : Step → Item
  item t = item_of width first back t

  placed : (c : ℕ) (act : Act) → place (item (step c act)) ≡ first + c
  placed c WritePlain = refl
  placed c WriteFlipped = refl
  placed c ReadPlain = refl
  placed c ReadFlipped = refl

  is_doing : (c : ℕ) (act : Act) → item (step c act) ≡ doing (on c).target act
  is_doing c WritePlain = refl
  is_doing c WriteFlipped = refl
  is_doing c ReadPlain = refl
  is_doing c ReadFlipped = refl

  choose : (p b : Bool) (x y : Item) (rest : List Item) → p ≡ b → x ≡ y → cond p (x ∷ rest) rest ≡ cond b (y ∷ []) [] ++ rest
  choose p true x y rest e f = ap (λ (t : Bool). cond t (x ∷ rest) rest) e ∙ ap (λ (z : Item). z ∷ rest) f
  choose p false x y rest e f = ap (λ (t : Bool). cond t (x ∷ rest) rest) e

  keep-append : (xs ys : List Step) → keep (map item (xs ++ ys)) ≡ keep (map item xs) ++ keep (map item ys)
  keep-append xs ys = ap keep (map-append item xs ys) ∙ filter-append (λ (x : Item). is_of_fault fault (place x)) (map item xs) (map item ys)

  one : (c : ℕ) (act : Act) (more : List Step) → keep (map item (step c act ∷ more)) ≡ cond (named c) (doing (on c).target act ∷ []) [] ++ keep (map item more)
  one c act more = choose (is_of_fault fault (place (item (step c act)))) (named c) (item (step c act)) (doing (on c).target act) (keep (map item more)) (ap (is_of_fault fault) (placed c act)) (is_doing c act)

  -- an act on each cell
  each : (act : ℕ → Act) (cs : List ℕ) → keep (map item (map (λ j. step j (act j)) cs)) ≡ own_each act (these cs)
  each act [] = refl
  each act (c ∷ cs) =
      one c (act c) (map (λ j. step j (act j)) cs) ∙ ap (λ (l : List Item). cond (named c) (doing (on c).target (act c) ∷ []) [] ++ l) (each act cs) ∙ pick (named c) c (filter named cs)
    where
      pick : (b : Bool) (c : ℕ) (js : List ℕ) → cond b (doing (on c).target (act c) ∷ []) [] ++ own_each act (map on js) ≡ own_each act (map on (cond b (c ∷ js) js))
      pick true c js = refl
      pick false c js = refl

  -- all operations on each cell
  ops : (c : ℕ) (os : List Op) → keep (map item (ops_on os c)) ≡ cond (named c) (map (operation (on c).target) os) []
  ops c [] = none (named c)
    where
      none : (b : Bool) → [] ≡ cond {A = List Item} b [] []
      none true = refl
      none false = refl
  ops c (o ∷ os) = one c (act_of o) (ops_on os c) ∙ ap (λ (l : List Item). cond (named c) (doing (on c).target (act_of o) ∷ []) [] ++ l) (ops c os) ∙ pick (named c)
    where
      pick : (b : Bool) → cond b (doing (on c).target (act_of o) ∷ []) [] ++ cond b (map (operation (on c).target) os) [] ≡ cond b (map (operation (on c).target) (o ∷ os)) []
      pick true = refl
      pick false = refl

  ops_each : (os : List Op) (cs : List ℕ) → keep (map item (flat_map (ops_on os) cs)) ≡ own_ops os (these cs)
  ops_each os [] = refl
  ops_each os (c ∷ cs) =
      keep-append (ops_on os c) (flat_map (ops_on os) cs) ∙ ap (λ (l : List Item). l ++ keep (map item (flat_map (ops_on os) cs))) (ops c os)
      ∙ ap (λ (l : List Item). cond (named c) (map (operation (on c).target) os) [] ++ l) (ops_each os cs) ∙ pick (named c) (filter named cs)
    where
      pick : (b : Bool) (js : List ℕ) → cond b (map (operation (on c).target) os) [] ++ own_ops os (map on js) ≡ own_ops os (map on (cond b (c ∷ js) js))
      pick true js = refl
      pick false js = refl

  in_turn : (o : Order) (cs : List ℕ) → these (in_order o cs) ≡ turned o (these cs)
  in_turn Up cs = refl
  in_turn Down cs = ap (map on) (filter-reverse named cs) ∙ map-reverse on (filter named cs)
  in_turn Either cs = refl

  march_of : (cs : List ℕ) (elements : List Element) → keep (map item (march_on cs elements)) ≡ own_march (these cs) elements
  march_of cs [] = refl
  march_of cs (e ∷ more) =
      keep-append (element_on cs e) (march_on cs more)
      ∙ ap (λ (l : List Item). l ++ keep (map item (march_on cs more))) (ops_each e.ops.items (in_order e.order cs) ∙ ap (own_ops e.ops.items) (in_turn e.order cs))
      ∙ ap (λ (l : List Item). own_element (these cs) e ++ l) (march_of cs more)

  -- ---- bases

  at_of : (i : ℕ) (cs : List ℕ) → at_base i (these cs) ≡ these (filter (λ c. c == i) cs)
  at_of i [] = refl
  at_of i (c ∷ cs) = elim (cases_Bool (named c)) [
    | inl t ↦ elim (cases_Bool (c == i)) [
      | inl u ↦ rw (t, u, t) (ap (λ (l : List Named). on c ∷ l) (at_of i cs))
      | inr u ↦ rw (t, u) (at_of i cs)
    ]
    | inr t ↦ elim (cases_Bool (c == i)) [
      | inl u ↦ rw (t, u, t) (at_of i cs)
      | inr u ↦ rw (t, u) (at_of i cs)
    ]
  ]

  off_of : (i : ℕ) (cs : List ℕ) → off_base i (these cs) ≡ these (others i cs)
  off_of i [] = refl
  off_of i (c ∷ cs) = elim (cases_Bool (named c)) [
    | inl t ↦ elim (cases_Bool (c == i)) [
      | inl u ↦ rw (t, u) (off_of i cs)
      | inr u ↦ rw (t, u, t) (ap (λ (l : List Named). on c ∷ l) (off_of i cs))
    ]
    | inr t ↦ elim (cases_Bool (c == i)) [
      | inl u ↦ rw (t, u) (off_of i cs)
      | inr u ↦ rw (t, u, t) (off_of i cs)
    ]
  ]

  at_one : (i n : ℕ) → i < n → at_base i (these (cells n)) ≡ these (i ∷ [])
  at_one i n h = at_of i (cells n) ∙ ap these (alone i n h)

  -- an act on one cell
  single : (n i : ℕ) (act : Act) → i < n → keep (map item (step i act ∷ [])) ≡ own_each (λ j. act) (at_base i (these (cells n)))
  single n i act h = each (λ j. act) (i ∷ []) ∙ ap (own_each (λ j. act)) (sym (at_one i n h))

  reads_off : (n i : ℕ) (act : Act) → keep (map item (map (λ j. step j act) (others i (cells n)))) ≡ own_each (λ j. act) (off_base i (these (cells n)))
  reads_off n i act = each (λ j. act) (others i (cells n)) ∙ ap (own_each (λ j. act)) (sym (off_of i (cells n)))

  two : (n i : ℕ) (x y : Act) → i < n → keep (map item (step i x ∷ step i y ∷ [])) ≡ own_each (λ j. x) (at_base i (these (cells n))) ++ own_each (λ j. y) (at_base i (these (cells n)))
  two n i x y h =
      keep-append (step i x ∷ []) (step i y ∷ []) ∙ ap (λ (l : List Item). l ++ keep (map item (step i y ∷ []))) (single n i x h)
      ∙ ap (λ (l : List Item). own_each (λ j. x) (at_base i (these (cells n))) ++ l) (single n i y h)

  join : (xs ys : List Step) (us vs : List Item) → keep (map item xs) ≡ us → keep (map item ys) ≡ vs → keep (map item (xs ++ ys)) ≡ us ++ vs
  join xs ys us vs e f = keep-append xs ys ∙ ap (λ (l : List Item). l ++ keep (map item ys)) e ∙ ap (λ (l : List Item). us ++ l) f

  walk_of : (v : Bool) (n i : ℕ) → i < n → keep (map item (walk_base v (cells n) i)) ≡ own_walk_base v (these (cells n)) i
  walk_of v n i h =
      join ((step i (write_act (not v)) ∷ []) ++ map (λ j. step j (read_act v)) (others i (cells n))) (step i (read_act (not v)) ∷ step i (write_act v) ∷ []) _ _
      (join (step i (write_act (not v)) ∷ []) (map (λ j. step j (read_act v)) (others i (cells n))) _ _ (single n i (write_act (not v)) h) (reads_off n i (read_act v)))
      (two n i (read_act (not v)) (write_act v) h)

  pieces : (n : ℕ) (f : ℕ → List Step) (g : ℕ → List Item) → ((i : ℕ) → i < n → keep (map item (f i)) ≡ g i) → (cs : List ℕ) → All (λ (c : ℕ). c < n) cs → keep (map item (flat_map f cs)) ≡ flat_map g cs
  pieces n f g each' [] all = refl
  pieces n f g each' (c ∷ cs) all = join (f c) (flat_map f cs) _ _ (each' c (all 0 c (omega arith))) (pieces n f g each' cs (All-tail (λ (k : ℕ). k < n) c cs all))

  walk_round_of : (v : Bool) (n : ℕ) → keep (map item (walk_round v (cells n))) ≡ own_walk_round v n (these (cells n))
  walk_round_of v n =
      join (map (λ j. step j (write_act v)) (cells n)) (flat_map (walk_base v (cells n)) (cells n)) _ _ (each (λ j. write_act v) (cells n))
      (pieces n (walk_base v (cells n)) (own_walk_base v (these (cells n))) (walk_of v n) (cells n) (cells_low n))

  -- the reads of Galpat at a base that is not named, and at one that is
  pairs_off : (v : Bool) (i : ℕ) → named i ≡ false → (cs : List ℕ) → keep (map item (flat_map (λ j. step j (read_act v) ∷ step i (read_act (not v)) ∷ []) cs)) ≡ keep (map item (map (λ j. step j (read_act v)) cs))
  pairs_off v i off [] = refl
  pairs_off v i off (c ∷ cs) =
      one c (read_act v) (step i (read_act (not v)) ∷ flat_map (λ j. step j (read_act v) ∷ step i (read_act (not v)) ∷ []) cs)
      ∙ ap (λ (l : List Item). cond (named c) (doing (on c).target (read_act v) ∷ []) [] ++ l)
      (one i (read_act (not v)) (flat_map (λ j. step j (read_act v) ∷ step i (read_act (not v)) ∷ []) cs)
      ∙ ap (λ (b : Bool). cond b (doing (on i).target (read_act (not v)) ∷ []) [] ++ keep (map item (flat_map (λ j. step j (read_act v) ∷ step i (read_act (not v)) ∷ []) cs))) off
      ∙ pairs_off v i off cs)
      ∙ sym (one c (read_act v) (map (λ j. step j (read_act v)) cs))

  pairs_on : (v : Bool) (n i : ℕ) → i < n → (cs : List ℕ) → All (λ (c : ℕ). c < n) cs
      → keep (map item (flat_map (λ j. step j (read_act v) ∷ step i (read_act (not v)) ∷ []) cs)) ≡ flat_map (own_pair v (these (cells n)) i) cs
  pairs_on v n i h cs all =
      pieces n (λ j. step j (read_act v) ∷ step i (read_act (not v)) ∷ []) (own_pair v (these (cells n)) i)
      (λ j g. join (step j (read_act v) ∷ []) (step i (read_act (not v)) ∷ []) _ _ (single n j (read_act v) g) (single n i (read_act (not v)) h)) cs all

  found : (n i : ℕ) → i < n → list_any (λ (m : Named). m.cell == i) (these (cells n)) ≡ named i
  found n i h = elim (cases_Bool (named i)) [
    | inl t ↦ any_some (λ (m : Named). m.cell == i) (these (cells n)) (on i) [] (at_one i n h ∙ ap (λ (b : Bool). map on (cond b (i ∷ []) [])) t) ∙ sym t
    | inr t ↦ any_none (λ (m : Named). m.cell == i) (these (cells n)) (at_one i n h ∙ ap (λ (b : Bool). map on (cond b (i ∷ []) [])) t) ∙ sym t
  ]

  pairs_of : (v : Bool) (n i : ℕ) → i < n → keep (map item (flat_map (λ j. step j (read_act v) ∷ step i (read_act (not v)) ∷ []) (others i (cells n)))) ≡ own_pairs v n (these (cells n)) i
  pairs_of v n i h = elim (cases_Bool (named i)) [
    | inl t ↦ rw (found n i h, t) (pairs_on v n i h (others i (cells n)) (All-filter (λ j. not (j == i)) (λ (c : ℕ). c < n) (cells n) (cells_low n)))
    | inr t ↦ rw (found n i h, t) (pairs_off v i t (others i (cells n)) ∙ reads_off n i (read_act v))
  ]

  galpat_of : (v : Bool) (n i : ℕ) → i < n → keep (map item (galpat_base v (cells n) i)) ≡ own_galpat_base v n (these (cells n)) i
  galpat_of v n i h =
      join ((step i (write_act (not v)) ∷ step i (read_act (not v)) ∷ []) ++ flat_map (λ j. step j (read_act v) ∷ step i (read_act (not v)) ∷ []) (others i (cells n))) (step i (write_act v) ∷ []) _ _
      (join (step i (write_act (not v)) ∷ step i (read_act (not v)) ∷ []) (flat_map (λ j. step j (read_act v) ∷ step i (read_act (not v)) ∷ []) (others i (cells n))) _ _
      (two n i (write_act (not v)) (read_act (not v)) h) (pairs_of v n i h))
      (single n i (write_act v) h)

  galpat_round_of : (v : Bool) (n : ℕ) → keep (map item (galpat_round v (cells n))) ≡ own_galpat_round v n (these (cells n))
  galpat_round_of v n =
      join (map (λ j. step j (write_act v)) (cells n)) (flat_map (galpat_base v (cells n)) (cells n)) _ _ (each (λ j. write_act v) (cells n))
      (pieces n (galpat_base v (cells n)) (own_galpat_base v n (these (cells n))) (galpat_of v n) (cells n) (cells_low n))

  pub steps_are : (alg : Algorithm) (n : ℕ) → keep (map item (steps_of alg n)) ≡ own_steps alg n (these (cells n))
  unfolding steps_of
  steps_are Checkerboard n =
      join _ _ _ _ (join _ _ _ _ (each (λ j. write_act (is_odd j)) (cells n)) (each (λ j. read_act (is_odd j)) (cells n)))
      (join _ _ _ _ (each (λ j. write_act (not (is_odd j))) (cells n)) (each (λ j. read_act (not (is_odd j))) (cells n)))
  steps_are (Marches march) n = march_of (cells n) march.elements.items
  steps_are WalkPath n = join _ _ _ _ (walk_round_of false n) (walk_round_of true n)
  steps_are Galpat n = join _ _ _ _ (galpat_round_of false n) (galpat_round_of true n)
  steps_are TransparentGalpat n = join _ _ _ _ (galpat_round_of false n) (galpat_round_of true n)

  -- the reads before them, and the writes after them
  looks_are : (cs : List ℕ) → keep (map (λ cell. Look (first + cell)) cs) ≡ own_looks first (filter named cs)
  looks_are [] = refl
  looks_are (c ∷ cs) = elim (cases_Bool (named c)) [
    | inl t ↦ rw t (ap (λ (l : List Item). Look (first + c) ∷ l) (looks_are cs))
    | inr t ↦ rw t (looks_are cs)
  ]

  stores_are : (cs : List ℕ) → keep (map (λ cell. Store (first + cell) (slice_index saved cell)) cs) ≡ own_stores (these cs)
  stores_are [] = refl
  stores_are (c ∷ cs) = elim (cases_Bool (named c)) [
    | inl t ↦ rw t (ap (λ (l : List Item). Store (first + c) (slice_index saved c) ∷ l) (stores_are cs))
    | inr t ↦ rw t (stores_are cs)
  ]

-- ---- the accesses of a sequence

pub own_is : (b : Board) (job : Job) (slice : Slice) → job.policy ≡ NonDestructive
    → filter (λ (item : Item). is_of_fault b.fault (place item)) (sequence b job slice) ≡ own_accesses b job slice
unfolding sequence accesses_of own_accesses
own_is b job slice keeps =
    let p : Item → Bool = λ item. is_of_fault b.fault (place item) in
    let saved : List ℕ = saved_words job.policy b.fault b.words slice in
    let back : ℕ → ℕ = back_of job saved in
    let looks : List Item = saving job.policy slice in
    let tests : List Item = testing b.shape.width job slice saved (steps_of job.alg slice.n) in
    let stores : List Item = ending job slice saved in
    let js = ap (filter (λ c. is_of_fault b.fault (slice.first + c))) (cells_are slice.n) in
    filter-append p (looks ++ tests) stores
    ∙ ap (λ (l : List Item). l ++ filter p stores) (filter-append p looks tests)
    ∙ ap (λ (l : List Item). (l ++ filter p tests) ++ filter p stores)
    (ap (λ (policy : Policy). filter p (saving policy slice)) keeps ∙ looks_are b.shape.width slice.first back saved b.fault (cells slice.n) ∙ ap (own_looks slice.first) js)
    ∙ ap (λ (l : List Item). (own_looks slice.first (cells_of_fault b.fault slice.first slice.n) ++ l) ++ filter p stores)
    (steps_are b.shape.width slice.first back saved b.fault job.alg slice.n ∙ ap (λ (cs : List ℕ). own_steps job.alg slice.n (map (named_on b.shape.width slice.first back saved) cs)) js)
    ∙ ap (λ (l : List Item). (own_looks slice.first (cells_of_fault b.fault slice.first slice.n) ++ own_steps job.alg slice.n (named_cells b job slice)) ++ l)
    (ap (λ (policy : Policy). filter p (map (λ (cell : ℕ). Store (slice.first + cell) (last_of policy job.fill saved cell)) (cells slice.n))) keeps
    ∙ stores_are b.shape.width slice.first back saved b.fault (cells slice.n) ∙ ap (λ (cs : List ℕ). own_stores (map (named_on b.shape.width slice.first back saved) cs)) js)
