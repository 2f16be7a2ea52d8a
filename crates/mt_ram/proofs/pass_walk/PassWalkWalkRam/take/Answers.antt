use Rattle.std.proofs.Common.{◌∙◌, ◌-◌, ◌≤◌, sym, ap, subst, arith, length, take}
use Rattle.mt_port.specs.Board.{IsWithinLimits}
use Rattle.mt_seq.specs.Sequence.{sequence_hold}
use Rattle.mt_blocks.specs.declared.pass.Position.{Position}
use Rattle.mt_blocks.specs.Slices.{Piece, IsValid, from_place}
use Rattle.mt_blocks.specs.Accepted.{IsAcceptedSet}
use Rattle.mt_ram.specs.State.{RamTst, set_of, spans_in}
use Rattle.mt_ram.specs.Event.{passed, job_of}
use Rattle.mt_ram.proofs.Walks.{next_of_pass, first_is, rest_is, hold_of_piece}
use Rattle.mt_ram.proofs.pass_walk.PassWalkWalkRam.take.Goals as goal

pub returns-clause-fits : goal.returns-clause-fits
returns-clause-fits c =
    let r = c.args.callee.now in
    let w = c.args.self.now in
    let f = c.requires.fits in
    let n = next_of_pass w r c.passes_go_on.ensures f c.requires.some in
    let e = c.take_verdict.ensures in
    record {
      limits = subst (λ (y : RamTst). IsWithinLimits y.setting.shape) (sym e) f.limits;
      accepted = subst (λ (y : RamTst). IsAcceptedSet y.setting.shape (set_of y)) (sym e) f.accepted;
      valid = λ some. subst (λ (y : RamTst). IsValid (set_of y).atomic (spans_in y) c.place_after-self.result) (sym e) c.place_after-self.ensures.valid;
      few = subst (λ (y : RamTst). w.len - 1 ≤ length (from_place (set_of y).atomic (spans_in y) c.place_after-self.result)) (sym e)
          (subst (λ (p : Position). w.len - 1 ≤ length (from_place (set_of r).atomic (spans_in r) p)) (sym c.place_after-self.ensures.place) n.few);
    }

pub returns-clause-left : goal.returns-clause-left
returns-clause-left c = λ x more s.
    let r = c.args.callee.now in
    let w = c.args.self.now in
    let n = next_of_pass w r c.passes_go_on.ensures c.requires.fits c.requires.some in
    ap (λ (z : RamTst). take (w.len - 1) (from_place (set_of z).atomic (spans_in z) c.place_after-self.result)) c.take_verdict.ensures
    ∙ ap (λ (p : Position). take (w.len - 1) (from_place (set_of r).atomic (spans_in r) p)) c.place_after-self.ensures.place
    ∙ rest_is _ x _ more _ n.split s

pub returns-clause-callee : goal.returns-clause-callee
returns-clause-callee c = λ x more s.
    let r = c.args.callee.now in
    let n = next_of_pass c.args.self.now r c.passes_go_on.ensures c.requires.fits c.requires.some in
    c.take_verdict.ensures ∙ ap (λ (p : Piece). passed r p c.args.verdict) (first_is _ x _ more _ n.split s)

pub returns-clause-most : goal.returns-clause-most
returns-clause-most c = λ x more s.
    let r = c.args.callee.now in
    let w = c.args.self.now in
    let n = next_of_pass w r c.passes_go_on.ensures c.requires.fits c.requires.some in
    omega (arith, hold_of_piece c.sequences_are_short.ensures r w.at c.requires.fits.accepted, c.requires.fits.accepted.atomic_small, n.some, ap (λ (p : Piece). sequence_hold (job_of r p) p.slice.n) (first_is _ x _ more _ n.split s))
