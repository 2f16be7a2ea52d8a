use Rattle.std.proofs.Common.{◌≡◌, ◌+◌, map}
use Rattle.std.specs.Prelude.{if◌then◌else◌}
use Rattle.mt_fault.specs.Faulty.{is_odd}
use Rattle.mt_plan.specs.Lists.{cells, step}
use Rattle.mt_seq.specs.Inner.Ground.{item_on}
use Rattle.mt_seq.specs.Makes.{Makes}
use Rattle.mt_seq.proofs.span.each_cell.Given as goal

abbrev pub invariant-loop-cell : goal.invariant-loop-cell
invariant-loop-cell g l = record {
  made : (g.P.Port.state l.port).count ≡ (g.P.Port.state l.initial.port).count + l.cell;
  does : Makes (map (item_on l.ground l.saved) (map (λ j. step j (if is_odd j then l.odd else l.even)) (cells l.cell)))
      (g.P.Port.state l.initial.port) (g.P.Port.state l.port) (g.P.Port.tape l.initial.port) (g.P.Port.tape l.port) l.good;
}
