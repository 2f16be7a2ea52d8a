-- What the judgement of a token says of the rules of its place.
use Rattle.std.proofs.Common.{◌≡◌, ◌≢◌, ℕ, ◌≤◌, nat_le, ◌&&◌, not, is_none, Bool, true, false, List, [], ◌∷◌, Option, Some, None, Result, Ok, Err, refl, ap, subst, inl, inr, arith}
use Rattle.std.proofs.lemmas.Bool.{cases_Bool}
use Rattle.std.proofs.lemmas.Bool.Decides.{nat_tests}
use Rattle.std.specs.Option.{option_map}
use Rattle.mt_text.specs.declared.line.LineKind.{LineKind}
use Rattle.mt_text.specs.declared.line.LineKind.TheVariants.{Spelling, Number}
use Rattle.mt_text.specs.Values.{Rule, holds, first_broken, told, judged}
use Rattle.mt_text.specs.Forms.{mapped_ok}
use Rattle.mt_text.specs.TokenRules.{kind_number}
use Rattle.mt_text.proofs.Numbers.{both}

-- ---- a token that is taken

-- none of the rules is broken
abbrev pub Unbroken : List Rule → Type 0
Unbroken [] = Unit {0}
Unbroken (rule ∷ rules) = (rule.1 ≡ false) × Unbroken rules

none_broken : (rules : List Rule) → first_broken rules ≡ None → Unbroken rules
none_broken [] h = tt
none_broken (rule ∷ rules) h = elim (cases_Bool rule.1) [ inl t ↦ absurd (let q = rw t at h in cc) | inr f ↦ (f, none_broken rules (rw f at h)) ]

told_ok : {A : Type 0} (broken : Option LineKind) (spelled : Option A) (x : A) → told broken spelled ≡ Ok x → (broken ≡ None) × (spelled ≡ Some x)
told_ok None None x h = absurd cc
told_ok None (Some y) x h = (refl, cc)
told_ok (Some kind) spelled x h = absurd cc

-- no rule is broken, and that is what is spelled
pub judged_ok : {A : Type 0} (rules : List Rule) (spelled : Option A) (x : A) → judged rules spelled ≡ Ok x → Unbroken rules × (spelled ≡ Some x)
judged_ok rules spelled x h = let m = told_ok (first_broken rules) spelled x h in (none_broken rules m.0, m.1)

pub passed : {A : Type 0} (test : A → Bool) (spelled : Option A) (x : A) → holds test spelled ≡ false → spelled ≡ Some x → test x ≡ false
passed test None x h e = absurd cc
passed {A} test (Some y) x h e = let same : y ≡ x = cc in subst (λ (z : A). test z ≡ false) same h

pub is_first : (begins : Bool) → not begins ≡ false → begins ≡ true
is_first true h = refl
is_first false h = absurd cc

pub after_option_map : {A B : Type 0} (f : A → B) (o : Option A) (y : B) → option_map f o ≡ Some y → (x : A) × (o ≡ Some x) × (f x ≡ y)
after_option_map f None y h = absurd cc
after_option_map f (Some x) y h = (x, refl, cc)

pub after_mapped : {A B : Type 0} (f : A → B) (r : Result A LineKind) (y : B) → mapped_ok f r ≡ Ok y → (x : A) × (r ≡ Ok x) × (f x ≡ y)
after_mapped f (Ok x) y h = (x, refl, cc)
after_mapped f (Err kind) y h = absurd cc

-- ---- a token that is refused

-- the rule that is told
abbrev pub refusal : {A : Type 0} → Result A LineKind → Option LineKind
refusal (Ok x) = None
refusal (Err kind) = Some kind

refusal_told : {A : Type 0} (broken : Option LineKind) (x : A) → refusal (told broken (Some x)) ≡ broken
refusal_told None x = refl
refusal_told (Some kind) x = refl

-- of rules that begin so the first broken one is told
pub first_told : {A : Type 0} (test : Bool) (spelled : Option A) (later : List Rule) → refusal (judged ((Spelling, test) ∷ (Number, is_none spelled) ∷ later) spelled) ≡ first_broken ((Spelling, test) ∷ (Number, is_none spelled) ∷ later)
first_told true spelled later = refl
first_told false None later = refl
first_told false (Some x) later = refusal_told (first_broken later) x

-- no number of theirs is below n
abbrev pub are_from : ℕ → List Rule → Bool
are_from n [] = true
are_from n (rule ∷ rules) = nat_le n (kind_number rule.0) && are_from n rules

pub first_from : (n : ℕ) (rules : List Rule) (kind : LineKind) → are_from n rules ≡ true → first_broken rules ≡ Some kind → n ≤ kind_number kind
first_from n [] kind f h = absurd cc
first_from n (rule ∷ rules) kind f h =
    let m = both (nat_le n (kind_number rule.0)) (are_from n rules) f in
    elim (cases_Bool rule.1) [
      | inl t ↦ let q = rw t at h in let same : rule.0 ≡ kind = cc in let least = m.0 in subst (λ (k : LineKind). n ≤ kind_number k) same (grind (arith, nat_tests))
      | inr e ↦ first_from n rules kind m.1 (rw e at h)
    ]

later_told : {A : Type 0} (broken : Option LineKind) (spelled : Option A) → (broken ≡ Some Spelling → ⊥) → told broken spelled ≢ Err Spelling
later_told None None l h = cc
later_told None (Some x) l h = cc
later_told (Some kind) spelled l h = l (let same : kind ≡ Spelling = cc in ap (λ (k : LineKind). Some k) same)

-- rule 1 is told where the token does not begin so
pub spelling_told : {A : Type 0} (begins : Bool) (later : List Rule) (spelled : Option A) → are_from 2 later ≡ true → judged ((Spelling, not begins) ∷ later) spelled ≡ Err Spelling → begins ≡ false
spelling_told false later spelled l h = refl
spelling_told true later spelled l h = absurd (later_told (first_broken later) spelled (λ e. let two : 2 ≤ 1 = first_from 2 later Spelling l e in omega arith) h)
