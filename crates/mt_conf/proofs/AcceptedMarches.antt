-- The marches of a configuration that the modules take are refused by nothing.
use Rattle.std.proofs.Common.{◌≡◌, ℕ, ◌+◌, true, false, List, [], ◌∷◌, Option, Some, None, refl, ap, ◌∙◌, subst, inl, inr}
use Rattle.std.specs.Prelude.{◌&&◌, codes}
use Rattle.std.specs.List.{AllByRecursion}
use Rattle.toml.specs.Data.{Data, string, Members, get_member}
use Rattle.mt_march.specs.declared.march.Element.{Element}
use Rattle.mt_march.specs.declared.march.MarchKind.{MarchKind}
use Rattle.mt_march.specs.declared.march.MarchKind.TheVariants as kinds
use Rattle.mt_march.specs.declared.march.MarchRefusal.{MarchRefusal}
use Rattle.mt_march.specs.Accepted.{IsAcceptedMarch, operations, reads}
use Rattle.mt_march.specs.Broken as march
use Rattle.mt_march.specs.Grammar.{SpellsMarch}
use Rattle.mt_march.specs.Laws.{RefusalIsLeast, RefusalIsOfText, SpellsOne}
use Rattle.mt_march.specs.Reading.{march_refusal}
use Rattle.mt_plan.specs.declared.algorithm.Algorithm.{Algorithm}
use Rattle.mt_plan.specs.declared.algorithm.Algorithm.TheVariants.{Checkerboard, March as Marches, WalkPath, Galpat, TransparentGalpat}
use Rattle.mt_plan.specs.Plan.{IsAccepted}
use Rattle.mt_blocks.specs.declared.config.ParamSet.{ParamSet}
use Rattle.mt_blocks.specs.Accepted.{IsAcceptedSet}
use Rattle.mt_conf.specs.declared.config.Config.{Config}
use Rattle.mt_conf.specs.declared.config.ConfigRefusal.{ConfigRefusal}
use Rattle.mt_conf.specs.Accepted.{IsAcceptedConfig}
use Rattle.mt_conf.specs.Lookup.{array_at, fields}
use Rattle.mt_conf.specs.Outcome.{first_some, refused_from, refused_in_set, refused_march}
use Rattle.mt_conf.specs.Fields.{AreTables, HasMarch, IsSet, IsOfTable}
use Rattle.mt_conf.proofs.AcceptedValues.{sets_are, sets_fit}

module _ (one : SpellsOne) (refused : RefusalIsOfText) (least : RefusalIsLeast) where
  keeps_rules : (kind : MarchKind) (m : List Element) → IsAcceptedMarch m → march.BreaksRule kind m → ⊥
  keeps_rules kinds.Spelling m is h = h
  keeps_rules kinds.TooLong m is h = h (record { few = is.few; short = λ k d lt. (is.short k d lt).1 })
  keeps_rules kinds.ReadBeforeWrite m is h = cc (is.written, h)
  keeps_rules kinds.WrongExpectation m is h = cc (is.agree, h)
  keeps_rules kinds.OneValueOnly m is h = let both : (reads false (operations m) && reads true (operations m)) ≡ true = rw (is.zeros, is.ones) in cc

  spells_none : (kind : MarchKind) (text : List ℕ) (m : List Element) → SpellsMarch text m → IsAcceptedMarch m → march.SpellsBreaking kind text → ⊥
  spells_none kind text m spells is h = keeps_rules kind m is (subst (march.BreaksRule kind) (one text h.0 m h.1 spells) h.2)

  breaks_none : (kind : MarchKind) (text : List ℕ) (m : List Element) → SpellsMarch text m → IsAcceptedMarch m → march.Breaks kind text → ⊥
  breaks_none kinds.Spelling text m spells is h = h (m, spells)
  breaks_none kinds.TooLong text m spells is h = spells_none kinds.TooLong text m spells is h
  breaks_none kinds.ReadBeforeWrite text m spells is h = spells_none kinds.ReadBeforeWrite text m spells is h
  breaks_none kinds.WrongExpectation text m spells is h = spells_none kinds.WrongExpectation text m spells is h
  breaks_none kinds.OneValueOnly text m spells is h = spells_none kinds.OneValueOnly text m spells is h

  not_refused : (text : List ℕ) (m : List Element) → SpellsMarch text m → IsAcceptedMarch m → march_refusal text ≡ None
  not_refused text m spells is =
      elim (march_refusal text) as (λ (r : Option MarchRefusal). march_refusal text ≡ r → r ≡ None) [
        | None ↦ λ e. refl
        | Some r ↦ λ e. absurd (breaks_none r.kind text m spells is (least text r ((refused text r).1 e)).0)
      ] refl

  in_set : (i : ℕ) (s : Members) (alg : Algorithm) → HasMarch s alg → IsAccepted alg → refused_in_set i s ≡ None
  unfolding refused_in_set
  in_set i s (Marches m) (inl (d, there, (text, same, spells))) is =
      let e : get_member (codes "march") s ≡ Some (string text) = there ∙ ap Some same in rw (e, not_refused text m.elements.items spells is)
  in_set i s (Marches m) (inr (none, default)) is = rw none
  in_set i s Checkerboard none is = rw none
  in_set i s WalkPath none is = rw none
  in_set i s Galpat none is = rw none
  in_set i s TransparentGalpat none is = rw none

  both_none : (a b : Option ConfigRefusal) → a ≡ None → b ≡ None → first_some a b ≡ None
  both_none None b e f = f
  both_none (Some r) b e f = absurd cc

  from_none : (config : Config) (i : ℕ) (ds : List Data) (sets : List ParamSet) → AreTables (IsSet config.shape.width) ds sets → AllByRecursion (IsAcceptedSet config.shape) sets → refused_from i ds ≡ None
  from_none config i [] [] h fit = refl
  from_none config i [] (set ∷ sets) h fit = absurd h
  from_none config i (d ∷ ds) [] h fit = absurd h
  from_none config i (d ∷ ds) (set ∷ sets) h fit =
      both_none (refused_in_set i (fields d)) (refused_from (i + 1) ds)
      (ap (λ (x : Data). refused_in_set i (fields x)) h.0.1 ∙ in_set i h.0.0 set.alg h.0.2.march fit.0.accepted) (from_none config (i + 1) ds sets h.1 fit.1)

  pub marches_fit : (t : Members) (config : Config) → IsOfTable t config → IsAcceptedConfig config → refused_march t ≡ None
  unfolding refused_march
  marches_fit t config is accepted = from_none config 0 (array_at (codes "set") t) config.ram_tst.sets (sets_are t config is accepted) (sets_fit t config is accepted)
