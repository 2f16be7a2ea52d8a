use Rattle.std.proofs.Common.{◌<◌, arith}
use Rattle.std.proofs.lemmas.Option.{slice_get-get_or}
use Rattle.mt_plan.proofs.Lines.{each_long, walk_long, galpat_long, ops_long, odd_at, even_at, op_at}
use Rattle.mt_plan.proofs.line.Line.step.Goals as goal

pub walk_base_step-requires-clause-at : goal.walk_base_step-requires-clause-at
walk_base_step-requires-clause-at c = omega (arith, walk_long c.args.element.now c.args.n c.args.self c.in-WalkBase.flipped c.in-WalkBase.base c.in-WalkBase.is c.requires.on, c.requires.at)

pub galpat_base_step-requires-clause-at : goal.galpat_base_step-requires-clause-at
galpat_base_step-requires-clause-at c = omega (arith, galpat_long c.args.element.now c.args.n c.args.self c.in-GalpatBase.flipped c.in-GalpatBase.base c.in-GalpatBase.is c.requires.on, c.requires.at)

pub overflow_cast-result : goal.overflow_cast-result
overflow_cast-result c = omega (arith, each_long c.args.element.now c.args.n c.args.self c.in-EachCell.even c.in-EachCell.odd c.in-EachCell.is, c.requires.at, c.requires.small)

pub returns-then-at-eq1-clause-step : goal.returns-then-at-eq1-clause-step
returns-then-at-eq1-clause-step c =
    let within : c.args.at < c.args.n = omega (arith, each_long c.args.element.now c.args.n c.args.self c.in-EachCell.even c.in-EachCell.odd c.in-EachCell.is, c.requires.at) in
    odd_at c.args.element.now c.args.n c.args.at c.args.self c.in-EachCell.even c.in-EachCell.odd c.in-EachCell.is within c.if-at-eq1.true

pub returns-then-at-eq1-clause-inside : goal.returns-then-at-eq1-clause-inside
returns-then-at-eq1-clause-inside c = omega (arith, each_long c.args.element.now c.args.n c.args.self c.in-EachCell.even c.in-EachCell.odd c.in-EachCell.is, c.requires.at)

pub returns-else-at-eq1-clause-step : goal.returns-else-at-eq1-clause-step
returns-else-at-eq1-clause-step c =
    let within : c.args.at < c.args.n = omega (arith, each_long c.args.element.now c.args.n c.args.self c.in-EachCell.even c.in-EachCell.odd c.in-EachCell.is, c.requires.at) in
    even_at c.args.element.now c.args.n c.args.at c.args.self c.in-EachCell.even c.in-EachCell.odd c.in-EachCell.is within c.if-at-eq1.false

pub returns-else-at-eq1-clause-inside : goal.returns-else-at-eq1-clause-inside
returns-else-at-eq1-clause-inside c = omega (arith, each_long c.args.element.now c.args.n c.args.self c.in-EachCell.even c.in-EachCell.odd c.in-EachCell.is, c.requires.at)

pub returns-in-OnCell-clause-step : goal.returns-in-OnCell-clause-step
returns-in-OnCell-clause-step c =
    rw c.act_of.ensures (op_at c.args.element.now c.args.n c.args.at c.in-OnCell.cell c.args.self _ c.in-OnCell.is
    (rw c.as_slice.ensures.value (slice_get-get_or c.args.element.now.ops.items c.args.at _ (omega (arith, ops_long c.args.element.now c.args.n c.args.self c.in-OnCell.cell c.in-OnCell.is, c.requires.at)))))
