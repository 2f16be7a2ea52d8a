use Rattle.std.proofs.Common.{◌≡◌, ◌-◌}
use Rattle.mt_unit.specs.Checksums.{shifted_by, taken_in}
use Rattle.mt_unit.proofs.crc.taken_in.Given as goal

abbrev pub invariant-loop-index : goal.invariant-loop-index
invariant-loop-index l = shifted_by (8 - l._index) l.left ≡ taken_in l.register l.byte
