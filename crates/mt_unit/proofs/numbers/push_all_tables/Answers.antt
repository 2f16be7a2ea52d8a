use Rattle.std.proofs.Common.{ℕ, ◌++◌, ◌∷◌, [], List, take, ap, sym, ◌∙◌}
use Rattle.std.specs.List.{flat_map}
use Rattle.std.proofs.lemmas.List.{flat_map_more}
use Rattle.mt_blocks.specs.declared.config.ParamSet.{ParamSet}
use Rattle.mt_unit.specs.Tables.{set_tables}
use Rattle.mt_unit.proofs.Checksums.{one_number}
use Rattle.mt_unit.proofs.numbers.push_all_tables.Goals as goal

pub loop-set-preserved : goal.loop-set-preserved
loop-set-preserved c =
    let sets : List ParamSet = c.args.sets.now in
    let i : ℕ = c.loop-set.set-index in
    let set : ParamSet = c.set-item.result in
    c.in_ok-push_tables.ensures
    ∙ ap (λ (o : List ℕ). o ++ set_tables set) c.loop-set.invariant
    ∙ flat_map_more set_tables c.args.out.now.items (take i sets) set
    ∙ ap (λ (x : ParamSet). c.args.out.now.items ++ flat_map set_tables (take i sets ++ x ∷ [])) c.set-item.is
    ∙ ap (λ (l : List ParamSet). c.args.out.now.items ++ flat_map set_tables l) (sym (one_number sets i set c.loop-set-test.true))
