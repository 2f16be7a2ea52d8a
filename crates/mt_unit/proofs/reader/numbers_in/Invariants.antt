use Rattle.std.proofs.Common.{◌≡◌, ◌++◌, drop}
use Rattle.mt_unit.specs.Reading.{numbers_from}
use Rattle.mt_unit.specs.declared.reader.Place.TheVariants.{Between}
use Rattle.mt_unit.proofs.reader.numbers_in.Given as goal

abbrev pub invariant-loop-byte : goal.invariant-loop-byte
invariant-loop-byte l = l.numbers.items ++ numbers_from l.place (drop l.byte-index l.text) ≡ numbers_from Between l.text
