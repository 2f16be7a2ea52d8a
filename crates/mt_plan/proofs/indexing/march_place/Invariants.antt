use Rattle.std.proofs.Common.{◌≡◌, ◌+◌, length}
use Rattle.mt_plan.specs.declared.algorithm.Algorithm.TheVariants.{March as Marches}
use Rattle.mt_plan.specs.Rows.{parts_of}
use Rattle.mt_plan.proofs.indexing.march_place.Given as goal

abbrev pub invariant-loop-part : goal.invariant-loop-part
invariant-loop-part l = length (parts_of (Marches l.march) l.n l.part) + l.left ≡ l.i
