use Rattle.std.proofs.Common.{◌≡◌, ◌∙◌, Bool, Option, sym, ap, subst, arith}
use Rattle.mt_port.specs.Board.{IsWithinLimits}
use Rattle.mt_seq.specs.Sequence.{sequence_hold}
use Rattle.mt_blocks.specs.declared.pass.Position.{Position}
use Rattle.mt_blocks.specs.Slices.{Piece, IsValid, test_rest, next_in}
use Rattle.mt_blocks.specs.Laws.{word_count}
use Rattle.mt_blocks.specs.Accepted.{IsAcceptedSet}
use Rattle.mt_ram.specs.State.{RamTst, set_of, spans_in}
use Rattle.mt_ram.specs.Event.{with_result, of_test, job_of}
use Rattle.mt_ram.specs.Results.{failed_after}
use Rattle.mt_ram.specs.TestWalks.{CanGoBack, is_whole}
use Rattle.mt_ram.proofs.Walks.{next_of_test, first_is, rest_is, hold_of_piece}
use Rattle.mt_ram.proofs.test_walk.TestWalkWalkRam.take.Goals as goal

pub returns-clause-fits : goal.returns-clause-fits
returns-clause-fits c =
    let r = c.args.callee.now in
    let w = c.args.self.now in
    let f = c.requires.fits in
    let at = c.in-Some.at in
    let n = next_of_test w r at c.passes_go_on.ensures f c.in-Some.is in
    let e = c.take_result-last.ensures.leaves in
    let next : c.next_of_test-self.result ≡ next_in (is_whole w.name) (set_of r).atomic (spans_in r) at =
    c.next_of_test-self.ensures ∙ ap (λ (b : Bool). next_in b (set_of r).atomic (spans_in r) at) c.is_whole.ensures in
    record {
      limits = subst (λ (y : RamTst). IsWithinLimits y.setting.shape) (sym e) f.limits;
      accepted = subst (λ (y : RamTst). IsAcceptedSet y.setting.shape (set_of y)) (sym e) f.accepted;
      valid = λ p h. subst (λ (y : RamTst). IsValid (set_of y).atomic (spans_in y) p) (sym e) (n.goes.next (is_whole w.name) p (sym next ∙ h));
      back = λ s h. let k = f.back s h in subst (λ (y : RamTst). CanGoBack y s) (sym e) (record { inside = k.inside; place = k.place; failure = k.failure });
    }

pub returns-clause-left : goal.returns-clause-left
returns-clause-left c = λ x more s.
    let r = c.args.callee.now in
    let w = c.args.self.now in
    let at = c.in-Some.at in
    let n = next_of_test w r at c.passes_go_on.ensures c.requires.fits c.in-Some.is in
    let next : c.next_of_test-self.result ≡ next_in (is_whole w.name) (set_of r).atomic (spans_in r) at =
    c.next_of_test-self.ensures ∙ ap (λ (b : Bool). next_in b (set_of r).atomic (spans_in r) at) c.is_whole.ensures in
    ap (λ (z : RamTst). test_rest (is_whole w.name) (set_of z).atomic (spans_in z) c.next_of_test-self.result) c.take_result-last.ensures.leaves
    ∙ ap (λ (o : Option Position). test_rest (is_whole w.name) (set_of r).atomic (spans_in r) o) next
    ∙ rest_is _ x _ more _ n.split s

pub returns-clause-failed : goal.returns-clause-failed
returns-clause-failed c = λ x more s.
    let r = c.args.callee.now in
    let w = c.args.self.now in
    let n = next_of_test w r c.in-Some.at c.passes_go_on.ensures c.requires.fits c.in-Some.is in
    c.keep_failed-self.ensures ∙ ap (λ (b : Bool). failed_after c.args.verdict w.failed b) c.take_result-last.ensures.last ∙ ap (λ (p : Piece). of_test.failed p c.args.verdict w.failed) (first_is _ x _ more _ n.split s)

pub returns-clause-callee : goal.returns-clause-callee
returns-clause-callee c = λ x more s.
    let r = c.args.callee.now in
    let w = c.args.self.now in
    let n = next_of_test w r c.in-Some.at c.passes_go_on.ensures c.requires.fits c.in-Some.is in
    c.take_result-last.ensures.leaves ∙ ap (λ (p : Piece). with_result r p c.args.verdict w.failed) (first_is _ x _ more _ n.split s)

pub returns-clause-most : goal.returns-clause-most
returns-clause-most c = λ x more s.
    let r = c.args.callee.now in
    let w = c.args.self.now in
    let at = c.in-Some.at in
    let n = next_of_test w r at c.passes_go_on.ensures c.requires.fits c.in-Some.is in
    omega (
      arith,
      hold_of_piece c.sequences_are_short.ensures r at c.requires.fits.accepted,
      ap (λ (p : Piece). sequence_hold (job_of r p) p.slice.n) (first_is _ x _ more _ n.split s),
      ap word_count n.split,
      ap word_count (rest_is _ x _ more _ n.split s),
      ap word_count (returns-clause-left c x more s),
    )
