-- Walk path and Galpat on the cells of a fault.
use Rattle.std.proofs.Common.{ℕ, ◌≡◌, Bool, true, false, List, [], ◌∷◌, ◌++◌, map, refl, ap, sym, ◌∙◌, ⊎_elim, subst}
use mathlib.Core.List.{append-nil, map-append}
use Rattle.std.specs.Prelude.{◌==◌, not}
use Rattle.std.specs.List.{flat_map}
use Rattle.std.proofs.lemmas.Bool.{or_cases, or_left, or_right, eq-eqb, ne_eqb, cases_eq}
use Rattle.std.proofs.lemmas.List.Concat.{flat_map-append}
use Rattle.mt_plan.specs.declared.algorithm.Act.{Act}
use Rattle.mt_plan.specs.declared.algorithm.Step.{Step}
use Rattle.mt_plan.specs.Lists.{is_write, step, others, read_act, write_act, walk_base, walk_round, walk_on, galpat_base, galpat_round, galpat_on}
use Rattle.mt_decoder.specs.BitModel.{Rule, caught, agg_after, vic_after, part, project}
use Rattle.mt_cover.proofs.Cells.{part_cases, at_v, at_a, off}

-- the second list is the first with more reads
pub data MoreReads : List Step → List Step → Type 0 where
  none : MoreReads [] []
  kept : {t : Step} {l g : List Step} → MoreReads l g → MoreReads (t ∷ l) (t ∷ g)
  more : {t : Step} {l g : List Step} → is_write t.act ≡ false → MoreReads l g → MoreReads l (t ∷ g)

-- reads change nothing, so more of them catch no less
pub more-caught : (r : Rule) (ba bv a v : Bool) {l g : List Step} → MoreReads l g → caught r ba bv a v l ≡ true → caught r ba bv a v g ≡ true
more-caught r ba bv a v none c = c
more-caught r ba bv a v (kept {t = t} m) c =
    ⊎_elim (λ here. or_left _ _ here) (λ later. or_right _ _ (more-caught r ba bv (agg_after r ba bv a t) (vic_after r ba bv a v t) m later)) (or_cases _ _ c)
more-caught r ba bv a v (more {t = t} {g = g} is_read m) c =
    let later : caught r ba bv (agg_after r ba bv a t) (vic_after r ba bv a v t) g ≡ true = rw is_read (more-caught r ba bv a v m c) in
    or_right _ _ later

pub same : (l : List Step) → MoreReads l l
same [] = none
same (t ∷ l) = kept (same l)

pub joined : {l g l' g' : List Step} → MoreReads l g → MoreReads l' g' → MoreReads (l ++ l') (g ++ g')
joined none m = m
joined (kept k) m = kept (joined k m)
joined (more r k) m = more r (joined k m)

-- the other cells of a kept base are, at the kept cells, those of its part
part-apart : (a v i j d c : ℕ) → (j ≡ i → ⊥) → part a v i ≡ d ∷ [] → part a v j ≡ c ∷ [] → c ≡ d → ⊥
part-apart a v i j d c ne p q same =
    ⊎_elim
    (λ j_v. ne (⊎_elim
    (λ i_v. j_v ∙ sym i_v)
    (λ i_not. ⊎_elim
    (λ i_a. absurd (cc (at_v a v j j_v, at_a a v i i_not i_a)))
    (λ i_off. absurd (cc (off a v i i_not i_off)))
    (cases_eq i a))
    (cases_eq i v)))
    (λ j_not. ⊎_elim
    (λ j_a. ne (⊎_elim
    (λ i_v. absurd (cc (at_a a v j j_not j_a, at_v a v i i_v)))
    (λ i_not. ⊎_elim (λ i_a. j_a ∙ sym i_a) (λ i_off. absurd (cc (off a v i i_not i_off))) (cases_eq i a))
    (cases_eq i v)))
    (λ j_off. absurd (cc (off a v j j_not j_off)))
    (cases_eq j a))
    (cases_eq j v)

pub others_kept : (a v i d : ℕ) (js : List ℕ) → part a v i ≡ d ∷ [] → flat_map (part a v) (others i js) ≡ others d (flat_map (part a v) js)
others_kept a v i d [] p = refl
others_kept a v i d (j ∷ js) p =
    ⊎_elim
    (λ same. let e : (j == i) ≡ true = eq-eqb _ _ same in
    let q : part a v j ≡ d ∷ [] = ap (λ (x : ℕ). part a v x) same ∙ p in
    let f : (d == d) ≡ true = eq-eqb _ _ refl in
    rw (e, q, f) (others_kept a v i d js p))
    (λ ne. let e : (j == i) ≡ false = ne_eqb _ _ ne in
    ⊎_elim
    (λ q. let q' : part a v j ≡ [] = q in rw (e, q') (others_kept a v i d js p))
    (λ q. let f : (q.0 == d) ≡ false = ne_eqb _ _ (part-apart a v i j d q.0 ne p q.1) in
    rw (e, q.1, f) (ap (λ (z : List ℕ). q.0 ∷ z) (others_kept a v i d js p)))
    (part_cases a v j))
    (cases_eq j i)

project-map : (a v : ℕ) (act : Act) (js : List ℕ) → project a v (map (λ j. step j act) js) ≡ map (λ d. step d act) (flat_map (part a v) js)
project-map a v act [] = refl
project-map a v act (j ∷ js) = ap (λ (z : List Step). map (λ d. step d act) (part a v j) ++ z) (project-map a v act js) ∙ sym (map-append (λ d. step d act) (part a v j) (flat_map (part a v) js))

read-act : (b : Bool) → is_write (read_act b) ≡ false
read-act true = refl
read-act false = refl

-- reads alone
only_reads : (b : Bool) (js : List ℕ) → MoreReads [] (map (λ j. step j (read_act b)) js)
only_reads b [] = none
only_reads b (j ∷ js) = more (read-act b) (only_reads b js)

module _ (a v : ℕ) where
  bases : (F G : ℕ → List Step) (is : List ℕ) → ((i : ℕ) → MoreReads (flat_map F (part a v i)) (project a v (G i))) →
      MoreReads (flat_map F (flat_map (part a v) is)) (project a v (flat_map G is))
  bases F G [] h = none
  bases F G (i ∷ is) h =
      subst (λ x. MoreReads x (project a v (G i ++ flat_map G is))) (sym (flat_map-append F (part a v i) (flat_map (part a v) is)))
      (subst (λ y. MoreReads (flat_map F (part a v i) ++ flat_map F (flat_map (part a v) is)) y) (sym (flat_map-append _ (G i) (flat_map G is)))
      (joined (h i) (bases F G is h)))

  reads_none : (G : ℕ → List Step) (is : List ℕ) → ((i : ℕ) → MoreReads [] (project a v (G i))) → MoreReads [] (project a v (flat_map G is))
  reads_none G [] h = none
  reads_none G (i ∷ is) h =
      subst (λ y. MoreReads [] y) (sym (flat_map-append _ (G i) (flat_map G is))) (joined (h i) (reads_none G is h))

  walk_none : (b : Bool) (js : List ℕ) (i : ℕ) → part a v i ≡ [] → MoreReads [] (project a v (walk_base b js i))
  walk_none b js i p =
      let e : project a v (walk_base b js i) ≡ map (λ d. step d (read_act b)) (flat_map (part a v) (others i js)) =
      rw p (flat_map-append _ (map (λ j. step j (read_act b)) (others i js)) _ ∙ rw (p, append-nil) (project-map a v (read_act b) (others i js))) in
      subst (λ y. MoreReads [] y) (sym e) (only_reads b (flat_map (part a v) (others i js)))

  walk_one : (b : Bool) (js : List ℕ) (i d : ℕ) → part a v i ≡ d ∷ [] → project a v (walk_base b js i) ≡ walk_base b (flat_map (part a v) js) d
  walk_one b js i d p =
      rw p (ap (λ (z : List Step). step d (write_act (not b)) ∷ z)
      (flat_map-append _ (map (λ j. step j (read_act b)) (others i js)) _
      ∙ rw p (ap (λ (z : List Step). z ++ step d (read_act (not b)) ∷ step d (write_act b) ∷ [])
      (project-map a v (read_act b) (others i js) ∙ ap (λ (z : List ℕ). map (λ c. step c (read_act b)) z) (others_kept a v i d js p)))))

  walk-base : (b : Bool) (js : List ℕ) (i : ℕ) → MoreReads (flat_map (walk_base b (flat_map (part a v) js)) (part a v i)) (project a v (walk_base b js i))
  walk-base b js i =
      ⊎_elim
      (λ p. subst (λ x. MoreReads (flat_map (walk_base b (flat_map (part a v) js)) x) (project a v (walk_base b js i))) (sym p) (walk_none b js i p))
      (λ q. subst (λ x. MoreReads (flat_map (walk_base b (flat_map (part a v) js)) x) (project a v (walk_base b js i))) (sym q.1)
      (subst (λ y. MoreReads (walk_base b (flat_map (part a v) js) q.0 ++ []) y) (append-nil _ ∙ sym (walk_one b js i q.0 q.1)) (same _)))
      (part_cases a v i)

  rounds : (on : Bool → List ℕ → ℕ → List Step) (b : Bool) (js : List ℕ) →
      ((i : ℕ) → MoreReads (flat_map (on b (flat_map (part a v) js)) (part a v i)) (project a v (on b js i))) →
      MoreReads (map (λ d. step d (write_act b)) (flat_map (part a v) js) ++ flat_map (on b (flat_map (part a v) js)) (flat_map (part a v) js))
      (project a v (map (λ j. step j (write_act b)) js ++ flat_map (on b js) js))
  rounds on b js h =
      subst (λ y. MoreReads (map (λ d. step d (write_act b)) (flat_map (part a v) js) ++ flat_map (on b (flat_map (part a v) js)) (flat_map (part a v) js)) y)
      (sym (flat_map-append _ (map (λ j. step j (write_act b)) js) (flat_map (on b js) js)))
      (joined (subst (λ y. MoreReads (map (λ d. step d (write_act b)) (flat_map (part a v) js)) y) (sym (project-map a v (write_act b) js)) (same _))
      (bases (on b (flat_map (part a v) js)) (on b js) js h))

  pub walk-reads : (js : List ℕ) → MoreReads (walk_on (flat_map (part a v) js)) (project a v (walk_on js))
  walk-reads js =
      subst (λ y. MoreReads (walk_on (flat_map (part a v) js)) y) (sym (flat_map-append _ (walk_round false js) (walk_round true js)))
      (joined (rounds walk_base false js (walk-base false js)) (rounds walk_base true js (walk-base true js)))

  galpat_none : (b : Bool) (js : List ℕ) (i : ℕ) → part a v i ≡ [] → MoreReads [] (project a v (galpat_base b js i))
  galpat_none b js i p =
      let e : project a v (galpat_base b js i) ≡ project a v (flat_map (λ j. step j (read_act b) ∷ step i (read_act (not b)) ∷ []) (others i js)) =
      rw p (flat_map-append _ (flat_map (λ j. step j (read_act b) ∷ step i (read_act (not b)) ∷ []) (others i js)) _ ∙ rw (p, append-nil)) in
      subst (λ y. MoreReads [] y) (sym e)
      (reads_none (λ j. step j (read_act b) ∷ step i (read_act (not b)) ∷ []) (others i js)
      (λ j. rw (p, append-nil) (only_reads b (part a v j))))

  galpat_between : (b : Bool) (js : List ℕ) (i d : ℕ) → part a v i ≡ d ∷ [] → (j : ℕ) →
      MoreReads (flat_map (λ c. step c (read_act b) ∷ step d (read_act (not b)) ∷ []) (part a v j)) (project a v (step j (read_act b) ∷ step i (read_act (not b)) ∷ []))
  galpat_between b js i d p j =
      ⊎_elim
      (λ q. let q' : part a v j ≡ [] = q in rw (p, q') (more (read-act (not b)) none))
      (λ q. rw (p, q.1) (same _))
      (part_cases a v j)

  galpat_one : (b : Bool) (js : List ℕ) (i d : ℕ) → part a v i ≡ d ∷ [] → MoreReads (galpat_base b (flat_map (part a v) js) d) (project a v (galpat_base b js i))
  galpat_one b js i d p =
      let e : project a v (galpat_base b js i) ≡ step d (write_act (not b)) ∷ step d (read_act (not b)) ∷ (project a v (flat_map (λ j. step j (read_act b) ∷ step i (read_act (not b)) ∷ []) (others i js)) ++ step d (write_act b) ∷ []) =
      rw p (ap (λ (z : List Step). step d (write_act (not b)) ∷ step d (read_act (not b)) ∷ z)
      (flat_map-append _ (flat_map (λ j. step j (read_act b) ∷ step i (read_act (not b)) ∷ []) (others i js)) _ ∙ rw p)) in
      subst (λ y. MoreReads (galpat_base b (flat_map (part a v) js) d) y) (sym e)
      (kept (kept (joined
      (subst (λ x. MoreReads (flat_map (λ c. step c (read_act b) ∷ step d (read_act (not b)) ∷ []) x) (project a v (flat_map (λ j. step j (read_act b) ∷ step i (read_act (not b)) ∷ []) (others i js)))) (others_kept a v i d js p)
      (bases (λ c. step c (read_act b) ∷ step d (read_act (not b)) ∷ []) (λ j. step j (read_act b) ∷ step i (read_act (not b)) ∷ []) (others i js) (galpat_between b js i d p)))
      (same _))))

  galpat-base : (b : Bool) (js : List ℕ) (i : ℕ) → MoreReads (flat_map (galpat_base b (flat_map (part a v) js)) (part a v i)) (project a v (galpat_base b js i))
  galpat-base b js i =
      ⊎_elim
      (λ p. subst (λ x. MoreReads (flat_map (galpat_base b (flat_map (part a v) js)) x) (project a v (galpat_base b js i))) (sym p) (galpat_none b js i p))
      (λ q. subst (λ x. MoreReads (flat_map (galpat_base b (flat_map (part a v) js)) x) (project a v (galpat_base b js i))) (sym q.1)
      (subst (λ x. MoreReads x (project a v (galpat_base b js i))) (sym (append-nil _)) (galpat_one b js i q.0 q.1)))
      (part_cases a v i)

  pub galpat-reads : (js : List ℕ) → MoreReads (galpat_on (flat_map (part a v) js)) (project a v (galpat_on js))
  galpat-reads js =
      subst (λ y. MoreReads (galpat_on (flat_map (part a v) js)) y) (sym (flat_map-append _ (galpat_round false js) (galpat_round true js)))
      (joined (rounds galpat_base false js (galpat-base false js)) (rounds galpat_base true js (galpat-base true js)))
