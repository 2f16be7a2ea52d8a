use Rattle.std.proofs.Common.{◌≡◌, ◌++◌, take}
use Rattle.std.specs.List.{flat_map}
use Rattle.mt_unit.specs.StateTables.{fls_row_numbers}
use Rattle.mt_unit.proofs.state_tables.push_fls_rows.Given as goal

abbrev pub invariant-loop-row : goal.invariant-loop-row
invariant-loop-row l = l.out.items ≡ l.initial.out.items ++ flat_map fls_row_numbers (take l.row-index l.rows)
