use Rattle.std.proofs.Common.{◌≡◌, ◌+◌, ◌*◌, ◌/◌, ◌%◌, ◌∙◌, ◌<◌, arith}
use Rattle.std.proofs.Math.Nat.{div-lt_iff_lt-mul}
use Rattle.mt_plan.proofs.Standing.{checkerboard_index, length-quarter}
use Rattle.mt_plan.proofs.indexing.checkerboard_place.Goals as goal

pub returns-clause-place : goal.returns-clause-place
returns-clause-place c =
    let some : 0 < c.args.n = omega arith in
    let part : c.args.i / c.args.n < 4 = (div-lt_iff_lt-mul some).1 c.requires.within in
    record { part = part; row = omega arith; at = omega (arith, length-quarter c.args.n (c.args.i / c.args.n) 0) }

pub returns-clause-index : goal.returns-clause-index
returns-clause-index c =
    let back : c.args.i / c.args.n * c.args.n + c.args.i % c.args.n ≡ c.args.i = omega arith in
    checkerboard_index c.args.n (c.args.i / c.args.n) (c.args.i % c.args.n) ∙ back
