use Rattle.std.proofs.Common.{◌≡◌, ◌+◌, map, true}
use Rattle.mt_plan.specs.Lists.{cells}
use Rattle.mt_fault.specs.Items.{Store}
use Rattle.mt_seq.specs.Makes.{Makes}
use Rattle.mt_seq.proofs.attempt.fill.Given as goal

abbrev pub invariant-loop-cell : goal.invariant-loop-cell
invariant-loop-cell g l = record {
  made : (g.P.Port.state l.port).count ≡ (g.P.Port.state l.initial.port).count + l.cell;
  does : Makes (map (λ cell. Store (l.slice.first + cell) l.word) (cells l.cell)) (g.P.Port.state l.initial.port) (g.P.Port.state l.port) (g.P.Port.tape l.initial.port) (g.P.Port.tape l.port) true;
}
