use Rattle.std.proofs.Common.{◌≡◌, take}
use Rattle.std.specs.List.{flat_map}
use Rattle.mt_unit.specs.Checksums.{all_taken_in, in_bytes}
use Rattle.mt_unit.proofs.crc.checksum.Given as goal

abbrev pub invariant-loop-number : goal.invariant-loop-number
invariant-loop-number l = l.register ≡ all_taken_in 4294967295 (flat_map (in_bytes l.size) (take l.number-index l.numbers))
