use Rattle.std.proofs.Common.{◌≡◌, ◌+◌, ◌*◌, [], length, map}
use Rattle.std.specs.List.{flat_map}
use Rattle.mt_plan.specs.Lists.{cells, ops_on}
use Rattle.mt_plan.specs.Rows.{cell_at}
use Rattle.mt_seq.specs.Inner.Ground.{item_on}
use Rattle.mt_seq.specs.Makes.{Makes}
use Rattle.mt_seq.proofs.span.on_cells.Given as goal

abbrev pub invariant-loop-place : goal.invariant-loop-place
invariant-loop-place g l = record {
  made : (g.P.Port.state l.port).count ≡ (g.P.Port.state l.initial.port).count + l.place * length l.element.ops.items;
  does : Makes (map (item_on l.ground []) (flat_map (λ place. ops_on l.element.ops.items (cell_at l.element.order l.ground.n place)) (cells l.place)))
      (g.P.Port.state l.initial.port) (g.P.Port.state l.port) (g.P.Port.tape l.initial.port) (g.P.Port.tape l.port) l.good;
}
