use Rattle.std.proofs.Common.{◌++◌, ◌∙◌, length, arith, ap, sym, subst, length-drop}
use Rattle.std.proofs.lemmas.List.{take_rest}
use Rattle.std.specs.Io.KnownBytes.{prepend_known}
use Rattle.mt_replay.specs.declared.comparing.State.{State}
use Rattle.mt_replay.specs.Inner.Comparing.{StandsBy}
use Rattle.mt_verify.specs.Lines.{feeds}
use Rattle.mt_replay.proofs.Comparisons.{matched, so_far, stands_ended, stands_failed, stands_differs, begun_on, tally_on, few_counted, stands_whole, some_bytes, feeds-parts}
use Rattle.mt_replay.proofs.comparing.Comparison.compare_bytes.Goals as goal

pub returns-in-Ok-false-clause-stands : goal.returns-in-Ok-false-clause-stands
returns-in-Ok-false-clause-stands g c = λ expected given h.
    let inv = c.loop-done.invariant in
    let text = c.args.text.now in
    let done = c.loop-done.done in
    let first = matched c.args.self.now.state c.args.self.now.tally expected given _ c.requires.matching h in
    let far = so_far c.args.self.now.tally c.loop-done.self.tally done text expected given _ _ inv.tally first (inv.begun expected given) in
    stands_ended c.given_ends.ensures.answer c.ended-self.result c.loop-done.self.tally done text _ expected given _ _ (take_rest text done) far (rw c.in-Ok-false.field-0-test at c.in-Ok-false.ensures.ok) c.ended-self.ensures

pub returns-in-Err-clause-stands : goal.returns-in-Err-clause-stands
returns-in-Err-clause-stands g c = λ expected given h.
    let first = matched c.args.self.now.state c.args.self.now.tally expected given _ c.requires.matching h in
    stands_failed c.loop-done.self.tally c.loop-done.done c.args.text.now expected given _ _ (c.loop-done.invariant.begun expected given first.begun) c.in-Err.ensures.err

pub share-same-requires-clause-few : goal.share-same-requires-clause-few
share-same-requires-clause-few g c =
    let text = c.args.text.now in
    let done = c.loop-done.done in
    let tally = c.loop-done.invariant.tally in
    let few = c.requires.few in
    omega (arith, tally, few, feeds-parts done text, ap feeds (take_rest text done))

pub returns-then-not-is_empty-clause-stands : goal.returns-then-not-is_empty-clause-stands
returns-then-not-is_empty-clause-stands g c = λ expected given h.
    let inv = c.loop-done.invariant in
    let text = c.args.text.now in
    let done = c.loop-done.done in
    let first = matched c.args.self.now.state c.args.self.now.tally expected given _ c.requires.matching h in
    let far = so_far c.args.self.now.tally c.loop-done.self.tally done text expected given _ _ inv.tally first (inv.begun expected given) in
    stands_differs c.mismatches.ensures c.share-same.result c.loop-done.self.tally c.share-same.new.self.tally done c.other_line.result text _ _ c.share-same.new.input expected given _ (g.S.Source.left c.fill.new.source)
    (take_rest text done) far (rw c.in-Ok-true.field-0-test at c.in-Ok-true.ensures.ok) c.share-same.ensures.shares
    (let more = c.if-done-text.true in omega (arith, more, ap length (take_rest text done), length-drop done text))
    (omega (arith, some_bytes c.held.result.now c.if-not-is_empty.ensures, ap length c.held.ensures)) c.other_line.ensures.line

pub returns-then-not-is_empty-clause-few : goal.returns-then-not-is_empty-clause-few
returns-then-not-is_empty-clause-few g c =
    let text = c.args.text.now in
    let done = c.loop-done.done in
    few_counted _ c.args.self.now.tally c.share-same.new.self.tally text
    (tally_on c.share-same.result done c.args.self.now.tally c.loop-done.self.tally c.share-same.new.self.tally text _ _ _ (take_rest text done) c.loop-done.invariant.tally c.share-same.ensures.shares)

pub loop-done-preserved : goal.loop-done-preserved
loop-done-preserved g c =
    let inv = c.loop-done.invariant in
    let text = c.args.text.now in
    let done = c.loop-done.done in
    let shares = c.share-same.ensures.shares in
    record {
      within = let most = shares.within in omega (arith, most, inv.within, ap length (take_rest text done), length-drop done text);
      matching = c.share-same.ensures.state ∙ inv.matching;
      tally = tally_on c.share-same.result done c.args.self.now.tally c.loop-done.self.tally c.share-same.new.self.tally text _ _ _ (take_rest text done) inv.tally shares;
      begun = λ expected given p.
          begun_on c.share-same.result done c.loop-done.self.tally c.share-same.new.self.tally text _ _ c.share-same.new.input expected given _ (g.S.Source.left c.fill.new.source) (take_rest text done)
          (inv.begun expected given p) (rw c.in-Ok-true.field-0-test at c.in-Ok-true.ensures.ok) shares;
      faults = c.in-Ok-true.ensures.cause.kept ∙ inv.faults;
    }

pub returns-clause-stands : goal.returns-clause-stands
returns-clause-stands g c = λ expected given h.
    let inv = c.loop-done.invariant in
    let text = c.args.text.now in
    let done = c.loop-done.done in
    let first = matched c.args.self.now.state c.args.self.now.tally expected given _ c.requires.matching h in
    let far = so_far c.args.self.now.tally c.loop-done.self.tally done text expected given _ _ inv.tally first (inv.begun expected given) in
    subst (λ (s : State). StandsBy s c.loop-done.self.tally (expected ++ text) given (prepend_known c.loop-done.input (g.S.Source.left c.loop-done.source))) (sym inv.matching)
    (stands_whole c.loop-done.self.tally done text expected given _ c.loop-done-test.false far)
