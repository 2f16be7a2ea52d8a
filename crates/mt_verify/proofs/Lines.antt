-- The lines of a text with one byte more in front, and the first other line of two such texts.
use Rattle.std.proofs.Common.{ℕ, ◌+◌, ◌<◌, ◌≡◌, ◌≢◌, ◌==◌, inl, inr, Bool, false, cond, ◌&&◌, List, [], ◌∷◌, ◌++◌, length, Some, None, option_map, bytes_eq, refl, sym, ap, ap₂, ◌∙◌, subst, arith}
use Rattle.std.specs.List.{onto_first}
use Rattle.std.proofs.lemmas.Bool.{ne_eqb, eq-eqb, cases_eq}
use Rattle.std.proofs.lemmas.Slice.Eq.{bytes_eq-Decides}
use Rattle.std.proofs.lemmas.List.Sums.{sum_by-cons}
use Rattle.mt_verify.specs.Lines.{feeds, lines, first_other, first_other_line}

-- ---- lines

pub lines-nil : lines [] ≡ []
unfolding lines
lines-nil = refl

pub lines-feed : (text : List ℕ) → lines (10 ∷ text) ≡ [] ∷ lines text
unfolding lines
lines-feed text = refl

pub lines-byte : (x : ℕ) (text : List ℕ) → x ≢ 10 → lines (x ∷ text) ≡ onto_first x (lines text)
unfolding lines
lines-byte x text other = ap (λ (b : Bool). cond b ([] ∷ lines text) (onto_first x (lines text))) (ne_eqb x 10 other)

-- a text with a byte has a first line
pub record Lined (text : List ℕ) : Type 0 where
  pub first : List ℕ
  pub more : List (List ℕ)
  pub is : lines text ≡ first ∷ more

onto : (x : ℕ) (text : List ℕ) (parts : List (List ℕ)) → lines (x ∷ text) ≡ onto_first x parts → Lined (x ∷ text)
onto x text [] e = record { first = x ∷ []; more = []; is = e }
onto x text (part ∷ parts) e = record { first = x ∷ part; more = parts; is = e }

pub lined : (x : ℕ) (text : List ℕ) → Lined (x ∷ text)
lined x text = elim (cases_eq x 10) [
  | inl e ↦ record { first = []; more = lines text; is = ap (λ (b : ℕ). lines (b ∷ text)) e ∙ lines-feed text }
  | inr other ↦ onto x text (lines text) (lines-byte x text other)
]

pub lined_some : (text : List ℕ) → 0 < length text → Lined text
lined_some [] some = absurd (omega (arith, some))
lined_some (x ∷ text) some = lined x text

-- a text that begins with a byte that is no line feed
pub record BeginsWith (x : ℕ) (text : List ℕ) : Type 0 where
  pub rest : List ℕ
  pub more : List (List ℕ)
  pub is : lines (x ∷ text) ≡ (x ∷ rest) ∷ more

begun : (x : ℕ) (text : List ℕ) (parts : List (List ℕ)) → lines (x ∷ text) ≡ onto_first x parts → BeginsWith x text
begun x text [] e = record { rest = []; more = []; is = e }
begun x text (part ∷ parts) e = record { rest = part; more = parts; is = e }

pub begins_with : (x : ℕ) (text : List ℕ) → x ≢ 10 → BeginsWith x text
begins_with x text other = begun x text (lines text) (lines-byte x text other)

pub longer : (front behind : List ℕ) (x : ℕ) → 0 < length (front ++ x ∷ behind)
longer [] behind x = omega arith
longer (y ∷ front) behind x = omega arith

-- ---- line feeds

pub feeds-feed : (text : List ℕ) → feeds (10 ∷ text) ≡ feeds text + 1
feeds-feed text = let e : 1 + feeds text ≡ feeds text + 1 = omega arith in sum_by-cons (λ (b : ℕ). cond (b == 10) 1 0) 10 text ∙ e

pub feeds-byte : (x : ℕ) (text : List ℕ) → x ≢ 10 → feeds (x ∷ text) ≡ feeds text
feeds-byte x text other =
    let e : 0 + feeds text ≡ feeds text = omega arith in
    sum_by-cons (λ (b : ℕ). cond (b == 10) 1 0) x text ∙ ap (λ (b : Bool). cond b 1 0 + feeds text) (ne_eqb x 10 other) ∙ e

-- ---- first other lines

abbrev pub next : ℕ → ℕ
next i = i + 1

pub other-none : first_other [] [] ≡ None
unfolding first_other
other-none = refl

pub other-more : (y : List ℕ) (ys : List (List ℕ)) → first_other [] (y ∷ ys) ≡ Some 1
unfolding first_other
other-more y ys = refl

pub other-fewer : (x : List ℕ) (xs : List (List ℕ)) → first_other (x ∷ xs) [] ≡ Some 1
unfolding first_other
other-fewer x xs = refl

pub other-same : (x : List ℕ) (xs ys : List (List ℕ)) → first_other (x ∷ xs) (x ∷ ys) ≡ option_map next (first_other xs ys)
unfolding first_other
other-same x xs ys = ap (λ (b : Bool). cond b (option_map next (first_other xs ys)) (Some 1)) ((bytes_eq-Decides x x).1 refl)

pub other-here : (x y : List ℕ) (xs ys : List (List ℕ)) → bytes_eq x y ≡ false → first_other (x ∷ xs) (y ∷ ys) ≡ Some 1
unfolding first_other
other-here x y xs ys e = ap (λ (b : Bool). cond b (option_map next (first_other xs ys)) (Some 1)) e

other-byte : (b : ℕ) (x y : List ℕ) (xs ys : List (List ℕ)) → first_other ((b ∷ x) ∷ xs) ((b ∷ y) ∷ ys) ≡ first_other (x ∷ xs) (y ∷ ys)
unfolding first_other
other-byte b x y xs ys = ap (λ (t : Bool). cond (t && bytes_eq x y) (option_map next (first_other xs ys)) (Some 1)) (eq-eqb b b refl)

-- a line feed more in front
pub feed_before : (s t : List ℕ) → first_other_line (10 ∷ s) (10 ∷ t) ≡ option_map next (first_other_line s t)
feed_before s t = ap₂ first_other (lines-feed s) (lines-feed t) ∙ other-same [] (lines s) (lines t)

-- another byte more in front
pub byte_before : (x : ℕ) (s t : List ℕ) → x ≢ 10 → 0 < length s → 0 < length t → first_other_line (x ∷ s) (x ∷ t) ≡ first_other_line s t
byte_before x s t other some_s some_t =
    let a = lined_some s some_s in
    let b = lined_some t some_t in
    ap₂ first_other (lines-byte x s other ∙ ap (onto_first x) a.is) (lines-byte x t other ∙ ap (onto_first x) b.is)
    ∙ other-byte x a.first b.first a.more b.more
    ∙ sym (ap₂ first_other a.is b.is)

-- a byte more in front of what two texts share
pub grown : (x : ℕ) (shared s t : List ℕ) (k : ℕ) → 0 < length s → 0 < length t → first_other_line s t ≡ Some (feeds shared + k)
    → first_other_line (x ∷ s) (x ∷ t) ≡ Some (feeds (x ∷ shared) + k)
grown x shared s t k some_s some_t known = elim (cases_eq x 10) [
  | inl e ↦
      let moved : feeds shared + k + 1 ≡ feeds (10 ∷ shared) + k = omega (arith, feeds-feed shared) in
      subst (λ (b : ℕ). first_other_line (b ∷ s) (b ∷ t) ≡ Some (feeds (b ∷ shared) + k)) (sym e)
      (feed_before s t ∙ ap (option_map next) known ∙ ap (λ (n : ℕ). Some n) moved)
  | inr other ↦ byte_before x s t other some_s some_t ∙ known ∙ ap (λ (n : ℕ). Some (n + k)) (sym (feeds-byte x shared other))
]
