-- The plans of the algorithms are steady.
use Rattle.std.proofs.Common.{ℕ, zero, suc, ◌<◌, ◌≤◌, ◌≡◌, ◌≢◌, ◌==◌, inl, inr, Bool, true, false, List, [], ◌∷◌, ◌++◌, map, reverse, refl, ap, sym, ◌∙◌, subst, arith, append_assoc, append-nil, Option, Some, None}
use Rattle.std.specs.Prelude.{All}
use Rattle.std.specs.List.{flat_map}
use mathlib.Core.Bool.{not, ◌&&◌}
use Rattle.std.proofs.lemmas.Bool.{eq-eqb, ne_eqb, cases_eq, cases_lt}
use Rattle.std.proofs.lemmas.List.{map-append, reverse-append}
use Rattle.std.proofs.lemmas.List.Concat.{flat_map-append}
use Rattle.std.proofs.lemmas.List.Elements.{All-nil, All-cons, All-append, All-map, All-tail, All-filter}
use Rattle.mt_march.specs.declared.march.Order.{Order}
use Rattle.mt_march.specs.declared.march.Order.TheVariants.{Up, Down, Either}
use Rattle.mt_march.specs.declared.march.Op.{Op}
use Rattle.mt_march.specs.declared.march.Op.TheVariants.{R0, R1, W0, W1}
use Rattle.mt_march.specs.declared.march.Element.{Element}
use Rattle.mt_march.specs.Accepted.{wrote, reads_agree, operations}
use Rattle.mt_plan.specs.declared.algorithm.Algorithm.TheVariants.{Checkerboard, March as Marches, WalkPath, Galpat, TransparentGalpat}
use Rattle.mt_plan.specs.declared.algorithm.Act.{Act}
use Rattle.mt_plan.specs.declared.algorithm.Step.{Step}
use Rattle.mt_fault.specs.Faulty.{is_odd}
use Rattle.mt_plan.specs.Lists.{act_of, ops_on, in_order, element_on, march_on, cells, step, others, write_act, read_act, walk_base, walk_round, walk_on, galpat_base, galpat_round, galpat_on, checkerboard_on}
use Rattle.mt_plan.specs.Plan.{steps_of}
use Rattle.mt_plan.specs.Steady.{steady, IsSteady, IsInside, IsSteadyOn, PlansAreSteady}

-- From one last write to a cell the steps are steady there, and leave another.
pub record Goes (cell : ℕ) (from to : Option Bool) (steps : List Step) : Type 0 where
  pub on : (more : List Step) → steady cell to more ≡ true → steady cell from (steps ++ more) ≡ true

pub Goes-nil : (j : ℕ) (u : Option Bool) → Goes j u u []
Goes-nil j u = record { on = λ more h. h }

pub Goes-append : (j : ℕ) (u v w : Option Bool) (xs ys : List Step) → Goes j u v xs → Goes j v w ys → Goes j u w (xs ++ ys)
Goes-append j u v w xs ys f g = record { on = λ more h. subst (λ (l : List Step). steady j u l ≡ true) (sym (append_assoc xs ys more)) (f.on (ys ++ more) (g.on more h)) }

-- one step at another cell
pub Goes-off : (j : ℕ) (u v : Option Bool) (t : Step) (xs : List Step) → t.cell ≢ j → Goes j u v xs → Goes j u v (t ∷ xs)
Goes-off j u v t xs ne g = let e : (t.cell == j) ≡ false = ne_eqb t.cell j ne in record { on = λ more h. rw e (g.on more h) }

pub Goes-write : (j : ℕ) (u v : Option Bool) (b : Bool) (xs : List Step) → Goes j (Some b) v xs → Goes j u v (step j (write_act b) ∷ xs)
Goes-write j u v true xs g = let e : (j == j) ≡ true = eq-eqb j j refl in record { on = λ more h. rw e (g.on more h) }
Goes-write j u v false xs g = let e : (j == j) ≡ true = eq-eqb j j refl in record { on = λ more h. rw e (g.on more h) }

pub Goes-read : (j : ℕ) (v : Option Bool) (b : Bool) (xs : List Step) → Goes j (Some b) v xs → Goes j (Some b) v (step j (read_act b) ∷ xs)
Goes-read j v true xs g = let e : (j == j) ≡ true = eq-eqb j j refl in record { on = λ more h. rw e (g.on more h) }
Goes-read j v false xs g = let e : (j == j) ≡ true = eq-eqb j j refl in record { on = λ more h. rw e (g.on more h) }

-- steps of other cells
pub Goes-others : (j : ℕ) (u : Option Bool) (xs : List Step) → All (λ (t : Step). t.cell ≢ j) xs → Goes j u u xs
Goes-others j u [] all = Goes-nil j u
Goes-others j u (t ∷ xs) all = Goes-off j u u t xs (all 0 t (omega arith)) (Goes-others j u xs (All-tail (λ (y : Step). y.cell ≢ j) t xs all))

-- reads that expect what each cell holds
pub Goes-looks : (j : ℕ) (w : ℕ → Bool) (ks : List ℕ) → Goes j (Some (w j)) (Some (w j)) (map (λ (k : ℕ). step k (read_act (w k))) ks)
Goes-looks j w [] = Goes-nil j (Some (w j))
Goes-looks j w (k ∷ ks) =
    elim (cases_eq k j) [
      | inl e ↦ subst (λ (i : ℕ). Goes j (Some (w j)) (Some (w j)) (step i (read_act (w i)) ∷ map (λ (k : ℕ). step k (read_act (w k))) ks)) (sym e) (Goes-read j (Some (w j)) (w j) _ (Goes-looks j w ks))
      | inr e ↦ Goes-off j (Some (w j)) (Some (w j)) (step k (read_act (w k))) _ e (Goes-looks j w ks)
    ]

-- pieces that each leave what they found
pub Goes-each : (j : ℕ) (u : Option Bool) (P : ℕ → Type 0) (f : ℕ → List Step) → ((k : ℕ) → P k → Goes j u u (f k)) → (ks : List ℕ) → All P ks → Goes j u u (flat_map f ks)
Goes-each j u P f h [] all = Goes-nil j u
Goes-each j u P f h (k ∷ ks) all = Goes-append j u u u (f k) (flat_map f ks) (h k (all 0 k (omega arith))) (Goes-each j u P f h ks (All-tail P k ks all))

cells_below : (n : ℕ) → All (λ (c : ℕ). c < n) (cells n)
cells_below zero = All-nil (λ (c : ℕ). c < 0)
cells_below (suc n) = All-append (λ (c : ℕ). c < suc n) (cells n) (n ∷ []) (λ k d h. less n _ (cells_below n k d h)) (All-cons (λ (c : ℕ). c < suc n) n [] (omega arith) (All-nil (λ (c : ℕ). c < suc n)))
  where
    less : (n c : ℕ) → c < n → c < suc n
    less n c h = omega arith

cells_off : (n j : ℕ) → n ≤ j → All (λ (c : ℕ). c ≢ j) (cells n)
cells_off n j h = λ k d i. apart n j _ h (cells_below n k d i)
  where
    apart : (n j c : ℕ) → n ≤ j → c < n → c ≢ j
    apart n j c h lt e = omega arith

-- each cell is written
pub Goes-fills : (j : ℕ) (u : Option Bool) (w : ℕ → Bool) (n : ℕ) → j < n → Goes j u (Some (w j)) (map (λ (k : ℕ). step k (write_act (w k))) (cells n))
Goes-fills j u w zero h = absurd (omega arith)
Goes-fills j u w (suc n) h =
    subst (λ (l : List Step). Goes j u (Some (w j)) l) (sym (map-append (λ (k : ℕ). step k (write_act (w k))) (cells n) (n ∷ [])))
    (elim (cases_eq n j) [
      | inl e ↦ Goes-append j u u (Some (w j)) _ _
          (Goes-others j u _ (All-map (λ (t : Step). t.cell ≢ j) (λ (k : ℕ). step k (write_act (w k))) (cells n) (cells_off n j (omega arith))))
          (subst (λ (i : ℕ). Goes j u (Some (w j)) (step i (write_act (w i)) ∷ [])) (sym e) (Goes-write j u (Some (w j)) (w j) [] (Goes-nil j (Some (w j)))))
      | inr e ↦ Goes-append j u (Some (w j)) (Some (w j)) _ _ (Goes-fills j u w n (omega arith)) (Goes-off j (Some (w j)) (Some (w j)) (step n (write_act (w n))) [] e (Goes-nil j (Some (w j))))
    ])

others_apart : (i : ℕ) (ks : List ℕ) → All (λ (k : ℕ). k ≢ i) (others i ks)
others_apart i [] = All-nil (λ (k : ℕ). k ≢ i)
others_apart i (k ∷ ks) =
    elim (cases_eq k i) [
      | inl e ↦ (let t : (k == i) ≡ true = eq-eqb k i e in rw t (others_apart i ks))
      | inr e ↦ (let t : (k == i) ≡ false = ne_eqb k i e in rw t (All-cons (λ (k : ℕ). k ≢ i) k (others i ks) e (others_apart i ks)))
    ]

-- ---- checkerboard
checkerboard_goes : (n j : ℕ) → j < n → Goes j None (Some (not (is_odd j))) (checkerboard_on (cells n))
checkerboard_goes n j h =
    Goes-append j None (Some (is_odd j)) (Some (not (is_odd j))) _ _
    (Goes-append j None (Some (is_odd j)) (Some (is_odd j)) _ _ (Goes-fills j None is_odd n h) (Goes-looks j is_odd (cells n)))
    (Goes-append j (Some (is_odd j)) (Some (not (is_odd j))) (Some (not (is_odd j))) _ _ (Goes-fills j (Some (is_odd j)) (λ (k : ℕ). not (is_odd k)) n h) (Goes-looks j (λ (k : ℕ). not (is_odd k)) (cells n)))

-- ---- walk path
walk_at : (v : Bool) (ks : List ℕ) (j : ℕ) → Goes j (Some v) (Some v) (walk_base v ks j)
walk_at v ks j =
    Goes-append j (Some v) (Some (not v)) (Some v) _ _
    (Goes-write j (Some v) (Some (not v)) (not v) _ (Goes-others j (Some (not v)) _ (All-map (λ (t : Step). t.cell ≢ j) (λ (k : ℕ). step k (read_act v)) (others j ks) (others_apart j ks))))
    (Goes-read j (Some v) (not v) _ (Goes-write j (Some (not v)) (Some v) v [] (Goes-nil j (Some v))))

walk_off : (v : Bool) (ks : List ℕ) (i j : ℕ) → i ≢ j → Goes j (Some v) (Some v) (walk_base v ks i)
walk_off v ks i j ne =
    Goes-append j (Some v) (Some v) (Some v) _ _
    (Goes-off j (Some v) (Some v) (step i (write_act (not v))) _ ne (Goes-looks j (λ (k : ℕ). v) (others i ks)))
    (Goes-off j (Some v) (Some v) (step i (read_act (not v))) _ ne (Goes-off j (Some v) (Some v) (step i (write_act v)) [] ne (Goes-nil j (Some v))))

walk_goes : (v : Bool) (ks : List ℕ) (i j : ℕ) → Goes j (Some v) (Some v) (walk_base v ks i)
walk_goes v ks i j =
    elim (cases_eq i j) [
      | inl e ↦ subst (λ (k : ℕ). Goes j (Some v) (Some v) (walk_base v ks k)) (sym e) (walk_at v ks j)
      | inr e ↦ walk_off v ks i j e
    ]

walk_round_goes : (v : Bool) (n j : ℕ) (u : Option Bool) → j < n → Goes j u (Some v) (walk_round v (cells n))
walk_round_goes v n j u h =
    Goes-append j u (Some v) (Some v) _ _ (Goes-fills j u (λ (k : ℕ). v) n h)
    (Goes-each j (Some v) (λ (k : ℕ). Unit {0}) (walk_base v (cells n)) (λ k t. walk_goes v (cells n) k j) (cells n) (λ k d t. tt))

-- ---- Galpat
galpat_at : (v : Bool) (ks : List ℕ) (j : ℕ) → Goes j (Some v) (Some v) (galpat_base v ks j)
galpat_at v ks j =
    Goes-append j (Some v) (Some (not v)) (Some v) _ _
    (Goes-append j (Some v) (Some (not v)) (Some (not v)) _ _
    (Goes-write j (Some v) (Some (not v)) (not v) _ (Goes-read j (Some (not v)) (not v) [] (Goes-nil j (Some (not v)))))
    (Goes-each j (Some (not v)) (λ (k : ℕ). k ≢ j) (λ (k : ℕ). step k (read_act v) ∷ step j (read_act (not v)) ∷ [])
    (λ k ne. Goes-off j (Some (not v)) (Some (not v)) (step k (read_act v)) _ ne (Goes-read j (Some (not v)) (not v) [] (Goes-nil j (Some (not v)))))
    (others j ks) (others_apart j ks)))
    (Goes-write j (Some (not v)) (Some v) v [] (Goes-nil j (Some v)))

galpat_off : (v : Bool) (ks : List ℕ) (i j : ℕ) → i ≢ j → Goes j (Some v) (Some v) (galpat_base v ks i)
galpat_off v ks i j ne =
    Goes-append j (Some v) (Some v) (Some v) _ _
    (Goes-append j (Some v) (Some v) (Some v) _ _
    (Goes-off j (Some v) (Some v) (step i (write_act (not v))) _ ne (Goes-off j (Some v) (Some v) (step i (read_act (not v))) [] ne (Goes-nil j (Some v))))
    (Goes-each j (Some v) (λ (k : ℕ). Unit {0}) (λ (k : ℕ). step k (read_act v) ∷ step i (read_act (not v)) ∷ [])
    (λ k t. Goes-append j (Some v) (Some v) (Some v) (step k (read_act v) ∷ []) (step i (read_act (not v)) ∷ []) (Goes-looks j (λ (m : ℕ). v) (k ∷ [])) (Goes-off j (Some v) (Some v) (step i (read_act (not v))) [] ne (Goes-nil j (Some v))))
    (others i ks) (λ k d t. tt)))
    (Goes-off j (Some v) (Some v) (step i (write_act v)) [] ne (Goes-nil j (Some v)))

galpat_goes : (v : Bool) (ks : List ℕ) (i j : ℕ) → Goes j (Some v) (Some v) (galpat_base v ks i)
galpat_goes v ks i j =
    elim (cases_eq i j) [
      | inl e ↦ subst (λ (k : ℕ). Goes j (Some v) (Some v) (galpat_base v ks k)) (sym e) (galpat_at v ks j)
      | inr e ↦ galpat_off v ks i j e
    ]

galpat_round_goes : (v : Bool) (n j : ℕ) (u : Option Bool) → j < n → Goes j u (Some v) (galpat_round v (cells n))
galpat_round_goes v n j u h =
    Goes-append j u (Some v) (Some v) _ _ (Goes-fills j u (λ (k : ℕ). v) n h)
    (Goes-each j (Some v) (λ (k : ℕ). Unit {0}) (galpat_base v (cells n)) (λ k t. galpat_goes v (cells n) k j) (cells n) (λ k d t. tt))

-- ---- steps stay on the cells
record Within (n : ℕ) (steps : List Step) : Type 0 where
  all : IsInside n steps

inside_map : (n : ℕ) (f : ℕ → Act) (ks : List ℕ) → All (λ (c : ℕ). c < n) ks → Within n (map (λ (k : ℕ). step k (f k)) ks)
inside_map n f ks all = record { all = All-map (λ (t : Step). t.cell < n) (λ (k : ℕ). step k (f k)) ks all }

inside_cons : (n : ℕ) (t : Step) (xs : List Step) → t.cell < n → Within n xs → Within n (t ∷ xs)
inside_cons n t xs h w = record { all = All-cons (λ (t : Step). t.cell < n) t xs h w.all }

inside_append : (n : ℕ) (xs ys : List Step) → Within n xs → Within n ys → Within n (xs ++ ys)
inside_append n xs ys f g = record { all = All-append (λ (t : Step). t.cell < n) xs ys f.all g.all }

inside_nil : (n : ℕ) → Within n []
inside_nil n = record { all = All-nil (λ (t : Step). t.cell < n) }

inside_flat : {X : Type 0} (n : ℕ) (P : X → Type 0) (f : X → List Step) → ((k : X) → P k → Within n (f k)) → (ks : List X) → All P ks → Within n (flat_map f ks)
inside_flat n P f h [] all = inside_nil n
inside_flat n P f h (k ∷ ks) all = inside_append n (f k) (flat_map f ks) (h k (all 0 k (omega arith))) (inside_flat n P f h ks (All-tail P k ks all))

others_below : (n i : ℕ) → All (λ (c : ℕ). c < n) (others i (cells n))
others_below n i = All-filter (λ (j : ℕ). not (j == i)) (λ (c : ℕ). c < n) (cells n) (cells_below n)

checkerboard_inside : (n : ℕ) → Within n (checkerboard_on (cells n))
checkerboard_inside n =
    inside_append n _ _
    (inside_append n _ _ (inside_map n (λ (j : ℕ). write_act (is_odd j)) (cells n) (cells_below n)) (inside_map n (λ (j : ℕ). read_act (is_odd j)) (cells n) (cells_below n)))
    (inside_append n _ _ (inside_map n (λ (j : ℕ). write_act (not (is_odd j))) (cells n) (cells_below n)) (inside_map n (λ (j : ℕ). read_act (not (is_odd j))) (cells n) (cells_below n)))

walk_round_inside : (v : Bool) (n : ℕ) → Within n (walk_round v (cells n))
walk_round_inside v n =
    inside_append n _ _ (inside_map n (λ (j : ℕ). write_act v) (cells n) (cells_below n))
    (inside_flat n (λ (c : ℕ). c < n) (walk_base v (cells n))
    (λ i h. inside_append n _ _ (inside_cons n _ _ h (inside_map n (λ (j : ℕ). read_act v) (others i (cells n)) (others_below n i))) (inside_cons n _ _ h (inside_cons n _ _ h (inside_nil n))))
    (cells n) (cells_below n))

galpat_round_inside : (v : Bool) (n : ℕ) → Within n (galpat_round v (cells n))
galpat_round_inside v n =
    inside_append n _ _ (inside_map n (λ (j : ℕ). write_act v) (cells n) (cells_below n))
    (inside_flat n (λ (c : ℕ). c < n) (galpat_base v (cells n))
    (λ i h. inside_append n _ _
    (inside_append n _ _ (inside_cons n _ _ h (inside_cons n _ _ h (inside_nil n)))
    (inside_flat n (λ (c : ℕ). c < n) (λ (j : ℕ). step j (read_act v) ∷ step i (read_act (not v)) ∷ []) (λ j l. inside_cons n _ _ l (inside_cons n _ _ h (inside_nil n))) (others i (cells n)) (others_below n i)))
    (inside_cons n _ _ h (inside_nil n)))
    (cells n) (cells_below n))

-- a plan on cells below n is steady where it is so at each of them
steady_if : (n : ℕ) (steps : List Step) → IsInside n steps → ((j : ℕ) → j < n → steady j None steps ≡ true) → IsSteady steps
steady_if n steps inside h j =
    elim (cases_lt j n) [
      | inl lt ↦ h j lt
      | inr le ↦ alone j steps (Goes-others j None steps (λ k d i. apart n j _ le (inside k d i)))
    ]
  where
    apart : (n j c : ℕ) → n ≤ j → c < n → c ≢ j
    apart n j c h lt e = omega arith

    alone : (j : ℕ) (steps : List Step) → Goes j None None steps → steady j None steps ≡ true
    alone j steps g = subst (λ (l : List Step). steady j None l ≡ true) (append-nil steps) (g.on [] refl)

whole : (j : ℕ) (v : Option Bool) (steps : List Step) → Goes j None v steps → steady j None steps ≡ true
whole j v steps g = subst (λ (l : List Step). steady j None l ≡ true) (append-nil steps) (g.on [] refl)

-- ---- marches
-- a list in which a cell stands once
record Once (j : ℕ) (ks : List ℕ) : Type 0 where
  front : List ℕ
  back : List ℕ
  split : ks ≡ front ++ j ∷ back
  before : All (λ (k : ℕ). k ≢ j) front
  behind : All (λ (k : ℕ). k ≢ j) back

once_cells : (n j : ℕ) → j < n → Once j (cells n)
once_cells zero j h = absurd (omega arith)
once_cells (suc n) j h =
    elim (cases_eq n j) [
      | inl e ↦ record { front = cells n; back = []; split = ap (λ (k : ℕ). cells n ++ k ∷ []) e; before = cells_off n j (omega arith); behind = All-nil (λ (k : ℕ). k ≢ j) }
      | inr e ↦ (let o : Once j (cells n) = once_cells n j (omega arith) in record {
        front = o.front;
        back = o.back ++ n ∷ [];
        split = ap (λ (l : List ℕ). l ++ n ∷ []) o.split ∙ append_assoc o.front (j ∷ o.back) (n ∷ []);
        before = o.before;
        behind = All-append (λ (k : ℕ). k ≢ j) o.back (n ∷ []) o.behind (All-cons (λ (k : ℕ). k ≢ j) n [] e (All-nil (λ (k : ℕ). k ≢ j)));
      })
    ]

all_reverse : (P : ℕ → Type 0) (xs : List ℕ) → All P xs → All P (reverse xs)
all_reverse P [] all = All-nil P
all_reverse P (x ∷ xs) all = subst (λ (l : List ℕ). All P l) (sym (reverse-append (x ∷ []) xs)) (All-append P (reverse xs) (x ∷ []) (all_reverse P xs (All-tail P x xs all)) (All-cons P x [] (all 0 x (omega arith)) (All-nil P)))

once_reverse : (j : ℕ) (ks : List ℕ) → Once j ks → Once j (reverse ks)
once_reverse j ks o = record {
  front = reverse o.back;
  back = reverse o.front;
  split = ap reverse o.split ∙ reverse-append o.front (j ∷ o.back) ∙ ap (λ (l : List ℕ). l ++ reverse o.front) (reverse-append (j ∷ []) o.back) ∙ append_assoc (reverse o.back) (j ∷ []) (reverse o.front);
  before = all_reverse (λ (k : ℕ). k ≢ j) o.back o.behind;
  behind = all_reverse (λ (k : ℕ). k ≢ j) o.front o.before;
}

once_order : (order : Order) (n j : ℕ) → j < n → Once j (in_order order (cells n))
once_order Up n j h = once_cells n j h
once_order Down n j h = once_reverse j (cells n) (once_cells n j h)
once_order Either n j h = once_cells n j h

ops_off : (j : ℕ) (u : Option Bool) (ops : List Op) (ks : List ℕ) → All (λ (k : ℕ). k ≢ j) ks → Goes j u u (flat_map (ops_on ops) ks)
ops_off j u ops ks all =
    Goes-each j u (λ (k : ℕ). k ≢ j) (ops_on ops)
    (λ k ne. Goes-others j u (ops_on ops k) (All-map (λ (t : Step). t.cell ≢ j) (λ (o : Op). step k (act_of o)) ops (λ i d h. ne))) ks all

-- what is steady behind some operations, after whatever they wrote
ops_here : (j : ℕ) (u : Option Bool) (ops later : List Op) (rest : List Step)
    → ((v : Option Bool) → reads_agree v later ≡ true → steady j v rest ≡ true)
    → reads_agree u (ops ++ later) ≡ true → steady j u (ops_on ops j ++ rest) ≡ true
ops_here j u [] later rest h e = h u e
ops_here j u (R0 ∷ ops) later rest h e = let t : (j == j) ≡ true = eq-eqb j j refl in rw t (both (wrote u false) _ _ e (λ k. ops_here j u ops later rest h k))
  where
    both : (p q r : Bool) → (p && q) ≡ true → (q ≡ true → r ≡ true) → (p && r) ≡ true
    both true q r e f = f e
    both false q r e f = e
ops_here j u (R1 ∷ ops) later rest h e = let t : (j == j) ≡ true = eq-eqb j j refl in rw t (both (wrote u true) _ _ e (λ k. ops_here j u ops later rest h k))
  where
    both : (p q r : Bool) → (p && q) ≡ true → (q ≡ true → r ≡ true) → (p && r) ≡ true
    both true q r e f = f e
    both false q r e f = e
ops_here j u (W0 ∷ ops) later rest h e = let t : (j == j) ≡ true = eq-eqb j j refl in rw t (ops_here j (Some false) ops later rest h e)
ops_here j u (W1 ∷ ops) later rest h e = let t : (j == j) ≡ true = eq-eqb j j refl in rw t (ops_here j (Some true) ops later rest h e)

march_steady : (n j : ℕ) (m : List Element) (u : Option Bool) → j < n → reads_agree u (operations m) ≡ true → steady j u (march_on (cells n) m) ≡ true
march_steady n j [] u h e = refl
march_steady n j (x ∷ m) u h e =
    let o : Once j (in_order x.order (cells n)) = once_order x.order n j h in
    let rest : List Step = march_on (cells n) m in
    let piece : flat_map (ops_on x.ops.items) (in_order x.order (cells n)) ≡ flat_map (ops_on x.ops.items) o.front ++ (ops_on x.ops.items j ++ flat_map (ops_on x.ops.items) o.back) = ap (flat_map (ops_on x.ops.items)) o.split ∙ flat_map-append (ops_on x.ops.items) o.front (j ∷ o.back) in
    let shape : flat_map (ops_on x.ops.items) (in_order x.order (cells n)) ++ rest ≡ flat_map (ops_on x.ops.items) o.front ++ (ops_on x.ops.items j ++ (flat_map (ops_on x.ops.items) o.back ++ rest)) =
    ap (λ (l : List Step). l ++ rest) piece ∙ append_assoc (flat_map (ops_on x.ops.items) o.front) (ops_on x.ops.items j ++ flat_map (ops_on x.ops.items) o.back) rest
    ∙ ap (λ (l : List Step). flat_map (ops_on x.ops.items) o.front ++ l) (append_assoc (ops_on x.ops.items j) (flat_map (ops_on x.ops.items) o.back) rest) in
    subst (λ (l : List Step). steady j u l ≡ true) (sym shape)
    ((ops_off j u x.ops.items o.front o.before).on _
    (ops_here j u x.ops.items (operations m) (flat_map (ops_on x.ops.items) o.back ++ rest)
    (λ v k. (ops_off j v x.ops.items o.back o.behind).on rest (march_steady n j m v h k)) e))

order_below : (order : Order) (n : ℕ) → All (λ (c : ℕ). c < n) (in_order order (cells n))
order_below Up n = cells_below n
order_below Down n = all_reverse (λ (c : ℕ). c < n) (cells n) (cells_below n)
order_below Either n = cells_below n

march_inside : (n : ℕ) (m : List Element) → Within n (march_on (cells n) m)
march_inside n m =
    inside_flat n (λ (e : Element). Unit {0}) (element_on (cells n))
    (λ e t. inside_flat n (λ (c : ℕ). c < n) (ops_on e.ops.items)
    (λ k h. record { all = All-map (λ (t : Step). t.cell < n) (λ (o : Op). step k (act_of o)) e.ops.items (λ i d l. h) }) (in_order e.order (cells n)) (order_below e.order n))
    m (λ k d t. tt)

both_rounds : (n : ℕ) (first second : List Step) → Within n first → Within n second
    → ((j : ℕ) (u : Option Bool) → j < n → Goes j u (Some false) first) → ((j : ℕ) (u : Option Bool) → j < n → Goes j u (Some true) second) → IsSteadyOn n (first ++ second)
both_rounds n first second f g p q =
    let inside : Within n (first ++ second) = inside_append n first second f g in record {
      steady = steady_if n _ inside.all (λ j h. whole j _ _ (Goes-append j None (Some false) (Some true) _ _ (p j None h) (q j (Some false) h)));
      inside = inside.all;
    }

walk_steady : (n : ℕ) → IsSteadyOn n (walk_on (cells n))
walk_steady n = both_rounds n _ _ (walk_round_inside false n) (walk_round_inside true n) (walk_round_goes false n) (walk_round_goes true n)

galpat_steady : (n : ℕ) → IsSteadyOn n (galpat_on (cells n))
galpat_steady n = both_rounds n _ _ (galpat_round_inside false n) (galpat_round_inside true n) (galpat_round_goes false n) (galpat_round_goes true n)

pub steady_plans : PlansAreSteady
unfolding steps_of
steady_plans Checkerboard n is = record { steady = steady_if n _ (checkerboard_inside n).all (λ j h. whole j _ _ (checkerboard_goes n j h)); inside = (checkerboard_inside n).all }
steady_plans (Marches march) n is = record {
  steady = steady_if n _ (march_inside n march.elements.items).all (λ j h. march_steady n j march.elements.items None h is.agree);
  inside = (march_inside n march.elements.items).all;
}
steady_plans WalkPath n is = walk_steady n
steady_plans Galpat n is = galpat_steady n
steady_plans TransparentGalpat n is = galpat_steady n
