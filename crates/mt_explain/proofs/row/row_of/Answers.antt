use Rattle.std.proofs.Common.{◌≡◌, Bool, true, false, cond, List, [], ◌∷◌, map, find, Option, Some, None, option_map, Bor, refl, ap, ◌∙◌}
use Rattle.std.specs.Option.{option_copied}
use Rattle.mt_explain.specs.Rows.{same_rule, rule_in}
use Rattle.mt_explain.proofs.row.row_of.Goals as goal

found : {A B : Type 0} (f : A → B) (x : A) (b : Bool) (o : Option A) (p : Option B) → option_map f o ≡ p → option_map f (cond b (Some x) o) ≡ cond b (Some (f x)) p
found f x true o p e = refl
found f x false o p e = e

-- the first place of a test among what a function makes
find-map : {A B : Type 0} (f : A → B) (test : B → Bool) (xs : List A) → option_map f (find (λ x. test (f x)) xs) ≡ find test (map f xs)
find-map f test [] = refl
find-map f test (x ∷ xs) = found f x (test (f x)) _ _ (find-map f test xs)

copied : {A B : Type 0} (f : A → B) (o : Option (Bor A)) → option_map (λ r. f r.now) o ≡ option_map f (option_copied o)
copied f None = refl
copied f (Some r) = refl

pub returns : goal.returns
returns c =
    copied rule_in c.row_in.result
    ∙ ap (option_map rule_in) c.row_in.ensures
    ∙ find-map rule_in (same_rule c.args.rule) c.rows.result.now
    ∙ ap (find (same_rule c.args.rule)) c.rows.ensures
