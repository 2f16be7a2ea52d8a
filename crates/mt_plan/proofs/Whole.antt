-- The list of an algorithm is its parts and rows.
use Rattle.std.proofs.Common.{ℕ, ◌≡◌, ◌+◌, ◌-◌, ◌≤◌, zero, suc, Bool, true, false, List, [], ◌∷◌, ◌++◌, map, length, reverse, refl, arith, ap, sym, ◌∙◌, Some, append-nil, append_assoc, add-one, take, get_or}
use Rattle.std.specs.Prelude.{slice_get}
use Rattle.std.specs.List.{flat_map}
use Rattle.std.proofs.lemmas.List.{reverse-append, take_all}
use Rattle.std.proofs.lemmas.List.Concat.{flat_map-append}
use Rattle.std.proofs.lemmas.List.Folds.{flat_map-map}
use Rattle.std.proofs.lemmas.Option.{slice_get-get_or}
use Rattle.std.proofs.Math.Seq.{take-suc}
use Rattle.mt_march.specs.declared.march.Order.{Order}
use Rattle.mt_march.specs.declared.march.Order.TheVariants.{Up, Down, Either}
use Rattle.mt_march.specs.declared.march.Element.{Element}
use Rattle.mt_plan.specs.declared.algorithm.Algorithm.{Algorithm}
use Rattle.mt_plan.specs.declared.algorithm.Algorithm.TheVariants.{Checkerboard, March as Marches, WalkPath, Galpat, TransparentGalpat}
use Rattle.mt_plan.specs.declared.algorithm.Step.{Step}
use Rattle.mt_fault.specs.Faulty.{is_odd}
use Rattle.mt_plan.specs.Lists.{cells, step, write_act, ops_on, in_order, element_on, march_on, walk_base, galpat_base}
use Rattle.mt_plan.specs.Plan.{steps_of}
use Rattle.mt_plan.specs.Rows.{part_count, quarter_act, cell_at, element_row, round_row, rows_of, parts_of}
use Rattle.mt_plan.proofs.Items.{cells_front, one_more}

-- ---- checkerboard
quarter : (n part : ℕ) → rows_of Checkerboard n part 1 ≡ map (λ j. step j (quarter_act part (is_odd j))) (cells n)
quarter n part = append-nil (map (λ j. step j (quarter_act part (is_odd j))) (cells n))

whole_checkerboard : (n : ℕ) → steps_of Checkerboard n ≡ parts_of Checkerboard n 4
unfolding steps_of
whole_checkerboard n =
    rw (quarter n 0, quarter n 1, quarter n 2, quarter n 3, append-nil, append_assoc)

-- ---- rounds
round_whole : (v : Bool) (base : ℕ → List Step) (n : ℕ) → flat_map (round_row v base n) (cells (n + 1)) ≡ map (λ j. step j (write_act v)) (cells n) ++ flat_map base (cells n)
round_whole v base n =
    rw add-one (ap (flat_map (round_row v base n)) (cells_front n) ∙ ap (λ l. map (λ j. step j (write_act v)) (cells n) ++ l) (flat_map-map (round_row v base n) suc (cells n)))

whole_walk : (n : ℕ) → steps_of WalkPath n ≡ parts_of WalkPath n 2
unfolding steps_of
whole_walk n = rw (round_whole false (walk_base false (cells n)) n, round_whole true (walk_base true (cells n)) n, append-nil)

whole_galpat : (n : ℕ) → steps_of Galpat n ≡ parts_of Galpat n 2
unfolding steps_of
whole_galpat n = rw (round_whole false (galpat_base false (cells n)) n, round_whole true (galpat_base true (cells n)) n, append-nil)

whole_transparent : (n : ℕ) → steps_of TransparentGalpat n ≡ parts_of TransparentGalpat n 2
unfolding steps_of
whole_transparent n = rw (round_whole false (galpat_base false (cells n)) n, round_whole true (galpat_base true (cells n)) n, append-nil)

-- ---- marches
falling : {X : Type 0} (f : ℕ → List X) (n : ℕ) → flat_map f (reverse (cells n)) ≡ flat_map (λ p. f (n - 1 - p)) (cells n)
falling f zero = refl
falling f (suc n) =
    let e : suc n - 1 - 0 ≡ n = omega arith in
    let same : (p : ℕ) → suc n - 1 - suc p ≡ n - 1 - p = λ p. omega arith in
    ap (flat_map f) (reverse-append (cells n) (n ∷ []))
    ∙ ap (λ l. f n ++ l) (falling f n)
    ∙ sym (ap (flat_map (λ p. f (suc n - 1 - p))) (cells_front n) ∙ rw e (ap (λ l. f n ++ l) (flat_map-map (λ p. f (suc n - 1 - p)) suc (cells n) ∙ simp same)))

element_whole : (e : Element) (n : ℕ) → element_on (cells n) e ≡ flat_map (element_row (Some e) n) (cells n)
element_whole e n = by_order e.order
  where
    by_order : (o : Order) → flat_map (ops_on e.ops.items) (in_order o (cells n)) ≡ flat_map (λ p. ops_on e.ops.items (cell_at o n p)) (cells n)
    by_order Up = refl
    by_order Down = falling (ops_on e.ops.items) n
    by_order Either = refl

elements_whole : (es : List Element) (n k : ℕ) (d : Element) → k ≤ length es → march_on (cells n) (take k es) ≡ flat_map (λ part. flat_map (element_row (slice_get es part) n) (cells n)) (cells k)
elements_whole es n zero d h = refl
elements_whole es n (suc k) d h =
    ap (march_on (cells n)) (take-suc es k d (omega arith))
    ∙ flat_map-append (element_on (cells n)) (take k es) (get_or es k d ∷ [])
    ∙ ap (λ l. march_on (cells n) (take k es) ++ l) (append-nil (element_on (cells n) (get_or es k d)) ∙ element_whole (get_or es k d) n ∙ ap (λ o. flat_map (element_row o n) (cells n)) (sym (slice_get-get_or es k d (omega arith))))
    ∙ ap (λ l. l ++ flat_map (element_row (slice_get es k) n) (cells n)) (elements_whole es n k d (omega arith))
    ∙ sym (one_more (λ part. flat_map (element_row (slice_get es part) n) (cells n)) k)

pub whole_march : (es : List Element) (n : ℕ) → march_on (cells n) es ≡ flat_map (λ part. flat_map (element_row (slice_get es part) n) (cells n)) (cells (length es))
whole_march es n = ap (march_on (cells n)) (sym (take_all (length es) es (omega arith))) ∙ elements_whole es n (length es) (record { order = Up; ops = record { items = [] } }) (omega arith)

pub whole : (algorithm : Algorithm) (n : ℕ) → steps_of algorithm n ≡ parts_of algorithm n (part_count algorithm)
unfolding steps_of
whole Checkerboard n = whole_checkerboard n
whole (Marches march) n = whole_march march.elements.items n
whole WalkPath n = whole_walk n
whole Galpat n = whole_galpat n
whole TransparentGalpat n = whole_transparent n
