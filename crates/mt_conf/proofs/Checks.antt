-- What the checks of a table know.
use Rattle.std.proofs.Common.{◌≡◌, ℕ, ◌≤◌, ◌∷◌, false, length, Option, Some, None, ap, ◌∙◌, arith}
use Rattle.std.specs.Prelude.{codes, not}
use Rattle.std.proofs.lemmas.Bool.{or_parts}
use Rattle.std.proofs.lemmas.Bool.Decides.{nat_tests}
use Rattle.toml.specs.Data.{Members}
use Rattle.mt_conf.specs.declared.config.ConfigRefusal.{ConfigRefusal}
use Rattle.mt_conf.specs.Lookup.{array_at}
use Rattle.mt_conf.specs.Rules.{is_count, wrong_count}
use Rattle.mt_conf.specs.Outcome.{first_some, first_of, first_broken, rules_before_march, rules_after_march, refused_march}
use Rattle.mt_conf.proofs.Least.{first_append, none_by, holds}

pub before_march : (t : Members) (e : ConfigRefusal) → first_of (rules_before_march t) ≡ Some e → first_broken t ≡ Some e
unfolding first_broken
before_march t e h = first_append (rules_before_march t) (refused_march t ∷ rules_after_march t) ∙ ap (λ (r : Option ConfigRefusal). first_some r (first_of (refused_march t ∷ rules_after_march t))) h

pub at_march : (t : Members) (e : ConfigRefusal) → first_of (rules_before_march t) ≡ None → refused_march t ≡ Some e → first_broken t ≡ Some e
unfolding first_broken
at_march t e none h =
    first_append (rules_before_march t) (refused_march t ∷ rules_after_march t) ∙ ap (λ (r : Option ConfigRefusal). first_some r (first_of (refused_march t ∷ rules_after_march t))) none
    ∙ ap (λ (r : Option ConfigRefusal). first_some r (first_of (rules_after_march t))) h

pub after_march : (t : Members) (r : Option ConfigRefusal) → first_of (rules_before_march t) ≡ None → refused_march t ≡ None → first_of (rules_after_march t) ≡ r → first_broken t ≡ r
unfolding first_broken
after_march t r none good h =
    first_append (rules_before_march t) (refused_march t ∷ rules_after_march t) ∙ ap (λ (x : Option ConfigRefusal). first_some x (first_of (refused_march t ∷ rules_after_march t))) none
    ∙ ap (λ (x : Option ConfigRefusal). first_some x (first_of (rules_after_march t))) good ∙ h

count_few : (most n : ℕ) → not (is_count most n) ≡ false → n ≤ most
count_few most n h = grind (arith, nat_tests, h)

pub few_sets_of : (t : Members) → wrong_count t ≡ false → length (array_at (codes "set") t) ≤ 16
unfolding wrong_count
few_sets_of t h = count_few 16 (length (array_at (codes "set") t)) (or_parts _ _ (or_parts _ _ h).0).0

pub few_sets : (t : Members) → first_of (rules_before_march t) ≡ None → length (array_at (codes "set") t) ≤ 16
few_sets t h = few_sets_of t (holds _ _ (none_by (rules_before_march t) h).1.1.1.1.1.1.1.0)
