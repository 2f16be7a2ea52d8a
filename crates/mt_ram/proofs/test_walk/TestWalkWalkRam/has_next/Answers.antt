use Rattle.std.proofs.Common.{◌≡◌, ◌∙◌, Option, Some, None, List, length, refl, sym, ap, arith}
use Rattle.std.specs.Prelude.{nat_lt, is_some}
use Rattle.std.proofs.lemmas.Bool.{lt-ltb}
use Rattle.mt_blocks.specs.declared.pass.Position.{Position}
use Rattle.mt_blocks.specs.Slices.{Piece, test_rest}
use Rattle.mt_blocks.specs.Laws.{PassesGoOn}
use Rattle.mt_ram.specs.declared.test_walk.TestWalk.{TestWalk}
use Rattle.mt_ram.specs.State.{RamTst, set_of, spans_in}
use Rattle.mt_ram.specs.TestWalks.{IsTestWalk, left_in_test, is_whole}
use Rattle.mt_ram.proofs.Walks.{next_of_test}
use Rattle.mt_ram.proofs.test_walk.TestWalkWalkRam.has_next.Goals as goal

some_left : (w : TestWalk) (r : RamTst) (next : Option Position) → PassesGoOn → IsTestWalk w r → w.next ≡ next → is_some next ≡ nat_lt 0 (length (left_in_test w r))
some_left w r None go f e = ap (λ (o : Option Position). nat_lt 0 (length (test_rest (is_whole w.name) (set_of r).atomic (spans_in r) o))) (sym e)
some_left w r (Some at) go f e =
    let n = next_of_test w r at go f e in
    sym (lt-ltb 0 (length (left_in_test w r)) (omega (arith, ap (λ (l : List Piece). length l) n.split)))

pub returns : goal.returns
returns c = c.is_some.ensures ∙ some_left c.args.self.now c.args._callee.now c.args.self.now.next c.passes_go_on.ensures c.requires refl
