use Rattle.std.proofs.Common.{arith}
use Rattle.mt_verify.specs.Lines.{lines}
use Rattle.mt_verify.proofs.tests.first_other_lines.Goals as goal

pub first_other-requires-clause-full : goal.first_other-requires-clause-full
unfolding lines
first_other-requires-clause-full g c = (omega arith, (omega arith, (omega arith, tt)))
