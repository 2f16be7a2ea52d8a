-- The refusal has the least number of those that are broken.
use Rattle.std.proofs.Common.{◌≡◌, ℕ, ◌+◌, ◌≤◌, Bool, true, false, List, [], ◌∷◌, Option, Some, None, sym, ap, inl, inr, arith}
use Rattle.std.specs.Prelude.{codes, option_map, if◌then◌else◌}
use Rattle.toml.specs.Data.{Data, Members}
use Rattle.mt_march.specs.declared.march.MarchRefusal.{MarchRefusal}
use Rattle.mt_march.specs.Reading.{march_refusal}
use Rattle.mt_conf.specs.declared.config.ConfigRefusal.{ConfigRefusal}
use Rattle.mt_conf.specs.Lookup.{has_key, text_at, array_at, fields}
use Rattle.mt_conf.specs.Outcome.{broken, first_some, first_of, first_broken, march_of_set, number_of, refused_in_set, refused_from, refused_march, rules_of}
use Rattle.mt_conf.specs.Laws.{IsBroken, RefusalHasLeastNumber}

-- the rules have the numbers from k on, one after another
abbrev Numbered : ℕ → List (Option ConfigRefusal) → Type 0
Numbered k [] = Unit {0}
Numbered k (rule ∷ rules) = ((e : ConfigRefusal) → rule ≡ Some e → number_of e ≡ k) × Numbered (k + 1) rules

at_least : (k : ℕ) (rules : List (Option ConfigRefusal)) (e : ConfigRefusal) → Numbered k rules → IsBroken rules e → k ≤ number_of e
at_least k [] e ns h = absurd h
at_least k (rule ∷ rules) e ns (inl here) = omega (arith, ns.0 e here)
at_least k (rule ∷ rules) e ns (inr later) = omega (arith, at_least (k + 1) rules e ns.1 later)

same_refusal : (r e : ConfigRefusal) (k : ℕ) → ((x : ConfigRefusal) → Some r ≡ Some x → number_of x ≡ k) → Some r ≡ Some e → number_of e ≡ k
same_refusal r e k ns h = ns e h

least_by : (k : ℕ) (rules : List (Option ConfigRefusal)) (e other : ConfigRefusal) → Numbered k rules → first_of rules ≡ Some e → IsBroken rules other → number_of e ≤ number_of other
least_by k [] e other ns h b = absurd b
least_by k (Some r ∷ rules) e other ns h b =
    let own : number_of e ≡ k = ns.0 e h in
    let low : k ≤ number_of other = at_least k (Some r ∷ rules) other ns b in
    omega arith
least_by k (None ∷ rules) e other ns h (inl here) = absurd cc
least_by k (None ∷ rules) e other ns h (inr later) = least_by (k + 1) rules e other ns.1 h later

of_rule : (b : Bool) (r e : ConfigRefusal) → broken b r ≡ Some e → number_of e ≡ number_of r
of_rule true r e h = let same : r ≡ e = cc in sym (ap number_of same)
of_rule false r e h = absurd cc

of_some : (i : ℕ) (o : Option MarchRefusal) (e : ConfigRefusal) → option_map (march_of_set i) o ≡ Some e → number_of e ≡ 11
of_some i None e h = absurd cc
of_some i (Some r) e h = let same : march_of_set i r ≡ e = cc in sym (ap number_of same)

of_set : (i : ℕ) (b : Bool) (o : Option MarchRefusal) (e : ConfigRefusal) → (if b then option_map (march_of_set i) o else None) ≡ Some e → number_of e ≡ 11
of_set i true o e h = of_some i o e h
of_set i false o e h = absurd cc

of_first : (a b : Option ConfigRefusal) (e : ConfigRefusal) → (a ≡ Some e → number_of e ≡ 11) → (b ≡ Some e → number_of e ≡ 11) → first_some a b ≡ Some e → number_of e ≡ 11
of_first None b e p q h = q h
of_first (Some r) b e p q h = p h

of_march : (i : ℕ) (ds : List Data) (e : ConfigRefusal) → refused_from i ds ≡ Some e → number_of e ≡ 11
unfolding refused_in_set
of_march i [] e h = absurd cc
of_march i (d ∷ ds) e h =
    of_first (refused_in_set i (fields d)) (refused_from (i + 1) ds) e (of_set i (has_key (codes "march") (fields d)) (march_refusal (text_at (codes "march") (fields d))) e) (of_march (i + 1) ds e) h

numbered : (t : Members) → Numbered 2 (rules_of t)
unfolding refused_march
numbered t = (
  of_rule _ _,
  (
    of_rule _ _,
    (
      of_rule _ _,
      (
        of_rule _ _,
        (
          of_rule _ _,
          (
            of_rule _ _,
            (
              of_rule _ _,
              (
                of_rule _ _,
                (
                  of_rule _ _,
                  (of_march 0 (array_at (codes "set") t), (of_rule _ _, (of_rule _ _, (of_rule _ _, (of_rule _ _, (of_rule _ _, (of_rule _ _, tt))))))),
                ),
              ),
            ),
          ),
        ),
      ),
    ),
  ),
)

pub least_number : RefusalHasLeastNumber
unfolding first_broken
least_number t e other h b = least_by 2 (rules_of t) e other (numbered t) h b
