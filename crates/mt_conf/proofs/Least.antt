-- The refusal is that of the least rule that is broken.
use Rattle.std.proofs.Common.{◌≡◌, Bool, true, false, List, [], ◌∷◌, ◌++◌, All, Option, Some, None, refl, sym, ap, ◌∙◌, rules}
use Rattle.std.specs.List.{AllByRecursion}
use Rattle.std.proofs.lemmas.List.Elements.{All-from_recursion}
use Rattle.mt_conf.specs.declared.config.ConfigRefusal.{ConfigRefusal}
use Rattle.mt_conf.specs.Outcome.{first_some, first_of, broken}
use Rattle.mt_conf.specs.Laws.{IsFirst}

-- the same, by recursion
abbrev IsFirstBy : List (Option ConfigRefusal) → ConfigRefusal → Type 0
IsFirstBy rules refusal = (before after : List (Option ConfigRefusal)) × (rules ≡ before ++ Some refusal ∷ after) × AllByRecursion (λ rule. rule ≡ None) before

broken_here : (r : Option ConfigRefusal) (e : ConfigRefusal) (rules : List (Option ConfigRefusal)) → (first_of rules ≡ Some e → IsFirstBy rules e) → first_some r (first_of rules) ≡ Some e → IsFirstBy (r ∷ rules) e
broken_here (Some r) e rules later h = ([], rules, ap (λ (x : Option ConfigRefusal). x ∷ rules) h, tt)
broken_here None e rules later h = let m = later h in (None ∷ m.0, m.1, ap (λ (rs : List (Option ConfigRefusal)). None ∷ rs) m.2, (refl, m.3))

first_by : (rules : List (Option ConfigRefusal)) (e : ConfigRefusal) → first_of rules ≡ Some e → IsFirstBy rules e
first_by [] e h = absurd cc
first_by (rule ∷ rules) e h = broken_here rule e rules (first_by rules e) h

pub first_is : (rules : List (Option ConfigRefusal)) (e : ConfigRefusal) → first_of rules ≡ Some e → IsFirst rules e
first_is rules e h = let m = first_by rules e h in (m.0, m.1, m.2, All-from_recursion _ m.0 m.3)

none_here : (r later : Option ConfigRefusal) → first_some r later ≡ None → (r ≡ None) × (later ≡ None)
none_here (Some r) later h = absurd cc
none_here None later h = (refl, h)

pub none_by : (rules : List (Option ConfigRefusal)) → first_of rules ≡ None → AllByRecursion (λ rule. rule ≡ None) rules
none_by [] h = tt
none_by (rule ∷ rules) h = let m = none_here rule (first_of rules) h in (m.0, none_by rules m.1)

pub none_is : (rules : List (Option ConfigRefusal)) → first_of rules ≡ None → All (λ rule. rule ≡ None) rules
none_is rules h = All-from_recursion _ rules (none_by rules h)

-- the first of some rules and of one more and of others
some_more : (r a b : Option ConfigRefusal) → first_some (first_some r a) b ≡ first_some r (first_some a b)
some_more None a b = refl
some_more (Some r) a b = refl

pub first_append : (rules more : List (Option ConfigRefusal)) → first_of (rules ++ more) ≡ first_some (first_of rules) (first_of more)
first_append [] more = refl
first_append (rule ∷ rules) more = ap (first_some rule) (first_append rules more) ∙ sym (some_more rule (first_of rules) (first_of more))

pub holds : (b : Bool) (e : ConfigRefusal) → broken b e ≡ None → b ≡ false
holds true e h = absurd cc
holds false e h = refl
