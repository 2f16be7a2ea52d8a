use Rattle.std.proofs.Common.{ℕ, ◌+◌, ◌<◌, ◌≡◌, Some, length, take, slice_index, sym, ap, ◌∙◌, arith}
use Rattle.mt_verify.specs.Lines.{feeds, line_at_end}
use Rattle.mt_verify.proofs.Pieces.{apart, both_ended, feed_left, more_left}
use Rattle.mt_verify.proofs.texts.first_other.Goals.{else-next-eq10-via-then-next-eq10+else-same-expected-2, else-next-eq10-via-else-next-eq10}
use Rattle.mt_verify.proofs.texts.first_other.Goals as goal

pub returns-then-same-given : goal.returns-then-same-given
returns-then-same-given c =
    let found = apart c.args.expected.now c.args.given.now c.common-same.result c.requires.whole c.if-same-given.true c.common-same.ensures.prefix c.common-same.ensures.longest in
    let line : c.other_line.result ≡ feeds (take c.common-same.result c.args.expected.now) + 1 = omega (arith, c.other_line.ensures.line, c.take.ensures, c.new-tally.ensures) in
    ap (λ (n : ℕ). Some n) line ∙ sym found

pub returns-then-same-expected : goal.returns-then-same-expected
returns-then-same-expected c =
    sym (both_ended c.args.expected.now c.args.given.now c.common-same.result (omega (arith, c.if-same-expected.true)) c.if-same-given.false c.common-same.ensures.prefix)

pub returns-then-same-expected-2 : goal.returns-then-same-expected-2
returns-then-same-expected-2 c =
    sym (feed_left c.args.expected.now c.args.given.now c.common-same.result c.requires.full
    (omega (arith, c.if-same-expected.false, c.common-same.ensures.expected)) (omega (arith, c.if-same-expected-2.true)) c.if-same-given.false c.common-same.ensures.prefix
    c.if-next-eq10.true)

pub returns : goal.returns
returns c =
    let more : c.common-same.result < length c.args.expected.now = omega (arith, c.if-same-expected.false, c.common-same.ensures.expected) in
    let some : slice_index c.args.expected.now c.common-same.result ≡ 10 → c.common-same.result + 1 < length c.args.expected.now =
    λ feed. elim c.else-next-eq10.branch [
      | else-next-eq10-via-then-next-eq10+else-same-expected-2 w ↦ omega (arith, more, w.if-same-expected-2.false)
      | else-next-eq10-via-else-next-eq10 w ↦ absurd (w.if-next-eq10.false feed)
    ] in
    let found = more_left c.args.expected.now c.args.given.now c.common-same.result c.requires.full more c.if-same-given.false c.common-same.ensures.prefix some in
    let tally : c.take.new.self ≡ feeds (take c.common-same.result c.args.expected.now) = omega (arith, c.take.ensures, c.new-tally.ensures) in
    let line : c.ended_line.result ≡ line_at_end (feeds (take c.common-same.result c.args.expected.now)) (slice_index c.args.expected.now c.common-same.result) =
    c.ended_line.ensures.line ∙ ap (λ (n : ℕ). line_at_end n (slice_index c.args.expected.now c.common-same.result)) tally in
    ap (λ (n : ℕ). Some n) line ∙ sym found
