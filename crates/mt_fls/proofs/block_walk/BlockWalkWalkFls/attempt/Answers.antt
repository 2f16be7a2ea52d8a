use Rattle.std.proofs.Common.{◌∙◌, ap, subst, arith}
use Rattle.mt_port.specs.Board.{Logs}
use Rattle.mt_window.specs.Slices.{attempted}
use Rattle.mt_blocks.specs.Slices.{Piece}
use Rattle.mt_blocks.specs.Laws.{word_count}
use Rattle.mt_seq.specs.Compare.{compare_hold}
use Rattle.mt_fls.specs.State.{fgnd_spans}
use Rattle.mt_fls.specs.Event.{attempt_at}
use Rattle.mt_fls.proofs.Walks.{next_of_block, first_is, hold_is, hold_small}
use Rattle.mt_fls.proofs.block_walk.BlockWalkWalkFls.attempt.Goals as goal

pub compare_fgnd-requires-clause-room : goal.compare_fgnd-requires-clause-room
compare_fgnd-requires-clause-room g c =
    let n = next_of_block c.passes_go_on.ensures c.args.self.now c.args.callee.now c.in-Some.at c.requires.fits c.in-Some.is in
    omega (arith, c.requires.room, ap word_count n.split, hold_is)

pub returns-clause-verdict : goal.returns-clause-verdict
returns-clause-verdict g c = λ x more s.
    let f = c.args.callee.now in
    let b = g.P.Port.state c.args.port.now in
    let n = next_of_block c.passes_go_on.ensures c.args.self.now f c.in-Some.at c.requires.fits c.in-Some.is in
    c.compare_fgnd.ensures.verdict ∙ ap (λ (p : Piece). (attempt_at f.setting.config.fgnd p b).verdict) (first_is _ x _ more _ n.split s)

pub returns-clause-state : goal.returns-clause-state
returns-clause-state g c = λ x more s.
    let f = c.args.callee.now in
    let b = g.P.Port.state c.args.port.now in
    let n = next_of_block c.passes_go_on.ensures c.args.self.now f c.in-Some.at c.requires.fits c.in-Some.is in
    c.compare_fgnd.ensures.state ∙ ap (λ (p : Piece). attempted (attempt_at f.setting.config.fgnd p b) b) (first_is _ x _ more _ n.split s)

pub returns-clause-tape : goal.returns-clause-tape
returns-clause-tape g c = λ x more s.
    let f = c.args.callee.now in
    let b = g.P.Port.state c.args.port.now in
    let n = next_of_block c.passes_go_on.ensures c.args.self.now f c.in-Some.at c.requires.fits c.in-Some.is in
    subst (λ (p : Piece). Logs (g.P.Port.tape c.args.port.now) (g.P.Port.tape c.compare_fgnd.new.port) (attempt_at f.setting.config.fgnd p b).touches)
    (first_is _ x _ more _ n.split s) c.compare_fgnd.ensures.tape

pub returns-clause-longest : goal.returns-clause-longest
returns-clause-longest g c = λ x more s.
    let f = c.args.callee.now in
    let n = next_of_block c.passes_go_on.ensures c.args.self.now f c.in-Some.at c.requires.fits c.in-Some.is in
    omega (arith, ap (λ (p : Piece). compare_hold p.slice.n) (first_is _ x _ more _ n.split s), hold_small f.setting.config.atomic (fgnd_spans f) c.in-Some.at c.requires.fits.spans)
