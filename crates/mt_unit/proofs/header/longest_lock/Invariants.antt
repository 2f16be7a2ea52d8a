use Rattle.std.proofs.Common.{◌≡◌, drop, map}
use Rattle.mt_unit.specs.Tables.{greatest_from, lock_of}
use Rattle.mt_unit.proofs.header.longest_lock.Given as goal

abbrev pub invariant-loop-block : goal.invariant-loop-block
invariant-loop-block l =
    greatest_from l.longest (map (lock_of l.set.alg l.set.atomic) (drop l.block-index l.set.blocks)) ≡ greatest_from 0 (map (lock_of l.set.alg l.set.atomic) l.set.blocks)
