use Rattle.std.proofs.Common.{◌≡◌, length}
use Rattle.mt_word.specs.declared.Width.TheVariants.{W8}
use Rattle.mt_fault.proofs.tests.play.Given as goal

abbrev pub invariant-loop-step : goal.invariant-loop-step
invariant-loop-step g l = record { width : l.cells.width ≡ W8; size : length l.cells.words ≡ 4 }
