use Rattle.std.proofs.Common.{◌≡◌, ◌-◌}
use Rattle.mt_unit.specs.Checksums.{all_taken_in, in_bytes}
use Rattle.mt_unit.proofs.crc.number_taken_in.Given as goal

abbrev pub invariant-loop-index : goal.invariant-loop-index
invariant-loop-index l = all_taken_in l.reached (in_bytes (l.size - l._index) l.left) ≡ all_taken_in l.register (in_bytes l.size l.number)
