use Rattle.std.proofs.Common.{◌∙◌, false, ap, arith}
use Rattle.mt_blocks.specs.Slices.{Piece, test_rest}
use Rattle.mt_blocks.specs.Laws.{word_count}
use Rattle.mt_fls.specs.State.{FlsTst, fgnd_spans}
use Rattle.mt_fls.specs.Event.{compared}
use Rattle.mt_fls.proofs.Walks.{next_of_block, first_is, rest_is, hold_is, block_taken}
use Rattle.mt_fls.proofs.block_walk.BlockWalkWalkFls.take.Goals as goal

pub returns-clause-fits : goal.returns-clause-fits
returns-clause-fits c =
    let f = c.args.callee.now in
    let n = next_of_block c.passes_go_on.ensures c.args.self.now f c.in-Some.at c.requires.fits c.in-Some.is in
    block_taken c.args.self.now f c.in-Some.at c.requires.fits n c.args.verdict c.next_of_block-self.result c.if-self.self c.take_fgnd.new.self c.next_of_block-self.ensures c.take_fgnd.ensures

pub returns-clause-left : goal.returns-clause-left
returns-clause-left c = λ x more s.
    let f = c.args.callee.now in
    let n = next_of_block c.passes_go_on.ensures c.args.self.now f c.in-Some.at c.requires.fits c.in-Some.is in
    ap (λ (z : FlsTst). test_rest false z.setting.config.atomic (fgnd_spans z) c.next_of_block-self.result) c.take_fgnd.ensures
    ∙ ap (test_rest false f.setting.config.atomic (fgnd_spans f)) c.next_of_block-self.ensures
    ∙ rest_is _ x _ more _ n.split s

pub returns-clause-callee : goal.returns-clause-callee
returns-clause-callee c = λ x more s.
    let f = c.args.callee.now in
    let n = next_of_block c.passes_go_on.ensures c.args.self.now f c.in-Some.at c.requires.fits c.in-Some.is in
    c.take_fgnd.ensures ∙ ap (λ (p : Piece). compared f p c.args.verdict c.args.self.now.failed) (first_is _ x _ more _ n.split s)

pub returns-clause-most : goal.returns-clause-most
returns-clause-most c = λ x more s.
    let rest = returns-clause-left c x more s in
    omega (arith, ap word_count rest, ap word_count s, hold_is x.slice.n)
