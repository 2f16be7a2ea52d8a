use Rattle.std.proofs.Common.{sym}
use Rattle.mt_plan.proofs.Lines.{each_long, walk_long, galpat_long}
use Rattle.mt_plan.proofs.line.Line.len.Goals as goal

pub returns-in-EachCell-clause-len : goal.returns-in-EachCell-clause-len
returns-in-EachCell-clause-len c = sym (each_long c.args.element.now c.args.n c.args.self c.in-EachCell.even c.in-EachCell.odd c.in-EachCell.is)

pub returns-in-WalkBase-clause-len : goal.returns-in-WalkBase-clause-len
returns-in-WalkBase-clause-len c = sym (walk_long c.args.element.now c.args.n c.args.self c.in-WalkBase.flipped c.in-WalkBase.base c.in-WalkBase.is c.requires.on)

pub returns-in-GalpatBase-clause-len : goal.returns-in-GalpatBase-clause-len
returns-in-GalpatBase-clause-len c = sym (galpat_long c.args.element.now c.args.n c.args.self c.in-GalpatBase.flipped c.in-GalpatBase.base c.in-GalpatBase.is c.requires.on)
