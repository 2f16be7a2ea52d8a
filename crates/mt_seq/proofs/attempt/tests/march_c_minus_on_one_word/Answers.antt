use Rattle.std.proofs.Common.{rules, ◌≡◌, arith}
use Rattle.mt_plan.specs.declared.algorithm.Algorithm.TheVariants.{March}
use Rattle.mt_plan.specs.declared.algorithm.Policy.TheVariants.{NonDestructive}
use Rattle.mt_port.specs.Board.{powered_up}
use Rattle.mt_seq.proofs.Lengths.{holds_are_short}
use Rattle.mt_seq.proofs.attempt.tests.march_c_minus_on_one_word.Goals as goal

pub run_slice-verdict-requires-clause-room : goal.run_slice-verdict-requires-clause-room
unfolding powered_up
run_slice-verdict-requires-clause-room g c =
    let count : c.in_ok-board.board.count ≡ 0 = search rules in
    omega (arith, count, holds_are_short (record { alg = March c.march_c_minus.result; policy = NonDestructive; background = 0; fill = 0 }) 1 c.march_c_minus.ensures.accepted (omega arith))
