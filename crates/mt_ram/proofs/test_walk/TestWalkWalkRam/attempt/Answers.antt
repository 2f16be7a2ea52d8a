use Rattle.std.proofs.Common.{◌∙◌, ◌≤◌, ◌*◌, ap, subst, arith}
use Rattle.mt_port.specs.Board.{Logs}
use Rattle.mt_seq.specs.Sequence.{sequence_hold}
use Rattle.mt_window.specs.Slices.{attempted}
use Rattle.mt_blocks.specs.Slices.{Piece}
use Rattle.mt_blocks.specs.Laws.{word_count}
use Rattle.mt_ram.specs.Event.{attempt_at, job_of}
use Rattle.mt_ram.proofs.Walks.{next_of_test, first_is, hold_of_piece}
use Rattle.mt_ram.proofs.test_walk.TestWalkWalkRam.attempt.Goals as goal

pub attempt-requires-clause-room : goal.attempt-requires-clause-room
attempt-requires-clause-room g c =
    let r = c.args.callee.now in
    let n = next_of_test c.args.self.now r c.in-Some.at c.passes_go_on.ensures c.requires.fits c.in-Some.is in
    omega (arith, hold_of_piece c.sequences_are_short.ensures r c.in-Some.at c.requires.fits.accepted, ap word_count n.split, c.requires.room)

pub returns-clause-verdict : goal.returns-clause-verdict
returns-clause-verdict g c = λ x more s.
    let r = c.args.callee.now in
    let n = next_of_test c.args.self.now r c.in-Some.at c.passes_go_on.ensures c.requires.fits c.in-Some.is in
    c.attempt.ensures.verdict ∙ ap (λ (p : Piece). (attempt_at c.args.may r p (g.P.Port.state c.args.port.now)).verdict) (first_is _ x _ more _ n.split s)

pub returns-clause-state : goal.returns-clause-state
returns-clause-state g c = λ x more s.
    let r = c.args.callee.now in
    let b = g.P.Port.state c.args.port.now in
    let n = next_of_test c.args.self.now r c.in-Some.at c.passes_go_on.ensures c.requires.fits c.in-Some.is in
    c.attempt.ensures.state ∙ ap (λ (p : Piece). attempted (attempt_at c.args.may r p b) b) (first_is _ x _ more _ n.split s)

pub returns-clause-tape : goal.returns-clause-tape
returns-clause-tape g c = λ x more s.
    let r = c.args.callee.now in
    let b = g.P.Port.state c.args.port.now in
    let n = next_of_test c.args.self.now r c.in-Some.at c.passes_go_on.ensures c.requires.fits c.in-Some.is in
    subst (λ (p : Piece). Logs (g.P.Port.tape c.args.port.now) (g.P.Port.tape c.attempt.new.port) (attempt_at c.args.may r p b).touches) (first_is _ x _ more _ n.split s) c.attempt.ensures.tape

pub returns-clause-short : goal.returns-clause-short
returns-clause-short g c = λ x more s.
    let r = c.args.callee.now in
    let b = g.P.Port.state c.args.port.now in
    let n = next_of_test c.args.self.now r c.in-Some.at c.passes_go_on.ensures c.requires.fits c.in-Some.is in
    subst (λ (p : Piece). (attempt_at c.args.may r p b).count ≤ sequence_hold (job_of r p) p.slice.n) (first_is _ x _ more _ n.split s) c.attempt.ensures.short

pub returns-clause-longest : goal.returns-clause-longest
returns-clause-longest g c = λ x more s.
    let r = c.args.callee.now in
    let n = next_of_test c.args.self.now r c.in-Some.at c.passes_go_on.ensures c.requires.fits c.in-Some.is in
    subst (λ (p : Piece). sequence_hold (job_of r p) p.slice.n ≤ 262 * 64) (first_is _ x _ more _ n.split s) c.attempt.ensures.hold
