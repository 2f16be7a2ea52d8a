use Rattle.std.proofs.Common.{◌≡◌, ◌++◌, take}
use Rattle.std.specs.List.{flat_map}
use Rattle.mt_unit.specs.Tables.{set_tables}
use Rattle.mt_unit.proofs.numbers.push_all_tables.Given as goal

abbrev pub invariant-loop-set : goal.invariant-loop-set
invariant-loop-set l = l.out.items ≡ l.initial.out.items ++ flat_map set_tables (take l.set-index l.sets)
