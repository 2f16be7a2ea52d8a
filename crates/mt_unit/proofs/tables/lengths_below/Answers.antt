use Rattle.std.proofs.Common.{ℕ, ◌++◌, ◌∷◌, [], List, ap, ◌∙◌, arith}
use Rattle.std.specs.Prelude.{filter}
use Rattle.mt_unit.specs.Tables.{is_needed}
use Rattle.mt_unit.proofs.Ranges.{filter_more}
use Rattle.mt_unit.proofs.tables.lengths_below.Goals as goal

pub loop-length-preserved : goal.loop-length-preserved
loop-length-preserved c = record {
  items =
      c.push_if_needed.ensures.items
      ∙ ap (λ (l : List ℕ). l ++ filter (is_needed c.args.set.now) (c.loop-length.length ∷ [])) c.loop-length.invariant.items
      ∙ filter_more (is_needed c.args.set.now) c.loop-length.length c.loop-length.invariant.from;
  from = omega (arith, c.loop-length.invariant.from);
  short = omega (arith, c.push_if_needed.ensures.short, c.loop-length.invariant.short);
}
