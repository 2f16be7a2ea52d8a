use Rattle.std.proofs.Common.{rules, ◌≡◌, arith}
use Rattle.mt_plan.specs.declared.algorithm.Algorithm.TheVariants.{Checkerboard}
use Rattle.mt_plan.specs.declared.algorithm.Policy.TheVariants.{NonDestructive}
use Rattle.mt_port.specs.Board.{powered_up}
use Rattle.mt_seq.proofs.Lengths.{holds_are_short}
use Rattle.mt_seq.proofs.attempt.tests.an_attempt_without_requests_is_whole.Goals as goal

pub try_slice-verdict-requires-clause-room : goal.try_slice-verdict-requires-clause-room
unfolding powered_up
try_slice-verdict-requires-clause-room g c =
    let count : c.in_ok-board.board.count ≡ 0 = search rules in
    omega (arith, count, holds_are_short (record { alg = Checkerboard; policy = NonDestructive; background = 0; fill = 0 }) 3 tt (omega arith))
