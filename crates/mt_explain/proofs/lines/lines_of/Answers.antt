use Rattle.std.proofs.Common.{◌≡◌, length, arith}
use Rattle.std.proofs.lemmas.Bool.Decides.{nat_tests}
use Rattle.mt_explain.proofs.LineLemmas.{lines_end}
use Rattle.mt_explain.proofs.lines.lines_of.Goals as goal

pub returns : goal.returns
returns c =
    let none : length c.loop-rest.rest.now ≡ 0 = grind (arith, nat_tests) in
    lines_end c.loop-rest.rest.now none _ _ c.loop-rest.invariant
