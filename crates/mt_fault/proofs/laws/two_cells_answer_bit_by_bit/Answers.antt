use Rattle.mt_fault.specs.Faulty.{stored_under}
use Rattle.mt_fault.specs.declared.fault.Fault.TheVariants.{Also}
use Rattle.std.proofs.Common.{true, false}
use Rattle.mt_fault.proofs.Wired.{wired_and, wired_or}
use Rattle.mt_fault.proofs.laws.two_cells_answer_bit_by_bit.Goals as goal

pub returns : goal.returns
returns c = record {
  wired_and = λ addr other first h bit. wired_and addr other (stored_under (Also addr other true) first h) bit;
  wired_or = λ addr other first h bit. wired_or addr other (stored_under (Also addr other false) first h) bit;
}
