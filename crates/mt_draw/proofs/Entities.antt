-- Text in a page is no markup, and is kept.
use Rattle.std.proofs.Common.{subst, ◌≡◌, ◌<◌, ◌==◌, ℕ, Bool, true, false, List, [], ◌∷◌, ◌++◌, length, drop, refl, sym, ap, ◌∙◌, inl, inr, arith, eqb-true}
use Rattle.std.specs.Prelude.{not, ◌&&◌, if◌then◌else◌, slice_index}
use Rattle.std.specs.List.{flat_map, AllByRecursion}
use Rattle.std.proofs.lemmas.Bool.{cases_Bool}
use Rattle.mt_draw.specs.Escaped.{entity, escaped}
use Rattle.mt_draw.specs.Laws.{IsPlain, TextIsKept, TextIsNoMarkup}

abbrev is_plain : ℕ → Bool
is_plain b = ((not (b == 60) && not (b == 62)) && not (b == 34)) && not (b == 39)

plain : (b : ℕ) → is_plain b ≡ true → IsPlain b
plain b h = record {
  no_tag = λ e. absurd (let f = subst (λ x. is_plain x ≡ true) e h in cc);
  no_end = λ e. absurd (let f = subst (λ x. is_plain x ≡ true) e h in cc);
  no_quote = λ e. absurd (let f = subst (λ x. is_plain x ≡ true) e h in cc);
  no_apostrophe = λ e. absurd (let f = subst (λ x. is_plain x ≡ true) e h in cc);
}

entity_plain : (b : ℕ) → AllByRecursion IsPlain (entity b)
unfolding entity
entity_plain b =
    elim (cases_Bool (b == 38)) [
      | inl e ↦ rw e (plain 38 refl, (plain 97 refl, (plain 109 refl, (plain 112 refl, (plain 59 refl, tt)))))
      | inr a ↦ elim (cases_Bool (b == 60)) [
        | inl e ↦ rw (a, e) (plain 38 refl, (plain 108 refl, (plain 116 refl, (plain 59 refl, tt))))
        | inr l ↦ elim (cases_Bool (b == 62)) [
          | inl e ↦ rw (a, l, e) (plain 38 refl, (plain 103 refl, (plain 116 refl, (plain 59 refl, tt))))
          | inr g ↦ elim (cases_Bool (b == 34)) [
            | inl e ↦ rw (a, l, g, e) (plain 38 refl, (plain 113 refl, (plain 117 refl, (plain 111 refl, (plain 116 refl, (plain 59 refl, tt))))))
            | inr q ↦ elim (cases_Bool (b == 39)) [
              | inl e ↦ rw (a, l, g, q, e) (plain 38 refl, (plain 35 refl, (plain 51 refl, (plain 57 refl, (plain 59 refl, tt)))))
              | inr s ↦ rw (a, l, g, q, s) (plain b (rw (l, g, q, s) refl), tt)
            ]
          ]
        ]
      ]
    ]

all_append : (xs ys : List ℕ) → AllByRecursion IsPlain xs → AllByRecursion IsPlain ys → AllByRecursion IsPlain (xs ++ ys)
all_append [] ys p q = q
all_append (x ∷ xs) ys p q = (p.0, all_append xs ys p.1 q)

pub no_markup : TextIsNoMarkup
no_markup [] = tt
no_markup (b ∷ bs) = all_append (entity b) (escaped bs) (entity_plain b) (no_markup bs)

-- ---- what is written is read back

-- the byte that is written first
abbrev second : ℕ → ℕ
second b = if b == 97 then 38 else (if b == 108 then 60 else (if b == 103 then 62 else (if b == 113 then 34 else 39)))

abbrev first : List ℕ → ℕ
first text = if slice_index text 0 == 38 then second (slice_index text 1) else slice_index text 0

-- how many bytes it is written in
abbrev length_by : ℕ → ℕ
length_by b = if b == 97 then 5 else (if b == 108 then 4 else (if b == 103 then 4 else (if b == 113 then 6 else 5)))

abbrev later : List ℕ → List ℕ
later text = drop (if slice_index text 0 == 38 then length_by (slice_index text 1) else 1) text

record Reads (b : ℕ) (xs text : List ℕ) : Type 0 where
  first_is : first text ≡ b
  later_is : later text ≡ xs
  some : 0 < length text

reads : (b : ℕ) (xs : List ℕ) → Reads b xs (entity b ++ xs)
unfolding entity
reads b xs =
    elim (cases_Bool (b == 38)) [
      | inl e ↦ rw e (record { first_is = sym (eqb-true b 38 e); later_is = refl; some = omega arith })
      | inr a ↦ elim (cases_Bool (b == 60)) [
        | inl e ↦ rw (a, e) (record { first_is = sym (eqb-true b 60 e); later_is = refl; some = omega arith })
        | inr l ↦ elim (cases_Bool (b == 62)) [
          | inl e ↦ rw (a, l, e) (record { first_is = sym (eqb-true b 62 e); later_is = refl; some = omega arith })
          | inr g ↦ elim (cases_Bool (b == 34)) [
            | inl e ↦ rw (a, l, g, e) (record { first_is = sym (eqb-true b 34 e); later_is = refl; some = omega arith })
            | inr q ↦ elim (cases_Bool (b == 39)) [
              | inl e ↦ rw (a, l, g, q, e) (record { first_is = sym (eqb-true b 39 e); later_is = refl; some = omega arith })
              | inr s ↦ rw (a, l, g, q, s) (record { first_is = rw a refl; later_is = rw a refl; some = omega arith })
            ]
          ]
        ]
      ]
    ]

pub kept : TextIsKept
kept [] [] h = refl
kept [] (y ∷ ys) h = absurd (let e = ap length h in omega (arith, e, (reads y (escaped ys)).some))
kept (x ∷ xs) [] h = absurd (let e = ap length h in omega (arith, e, (reads x (escaped xs)).some))
kept (x ∷ xs) (y ∷ ys) h =
    let one : x ≡ y = sym (reads x (escaped xs)).first_is ∙ (ap first h ∙ (reads y (escaped ys)).first_is) in
    let more : escaped xs ≡ escaped ys = sym (reads x (escaped xs)).later_is ∙ (ap later h ∙ (reads y (escaped ys)).later_is) in
    rw (one, kept xs ys more) refl
