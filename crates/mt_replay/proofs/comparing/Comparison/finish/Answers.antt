use Rattle.mt_replay.proofs.Comparisons.{matched, verdict_further, verdict_same, verdict_other, verdict_lacking, verdict_broken, breaks_behind}
use Rattle.mt_replay.proofs.comparing.Comparison.finish.Goals as goal

pub returns-in-Ok-true-clause-gives : goal.returns-in-Ok-true-clause-gives
returns-in-Ok-true-clause-gives g c = λ expected given whole full h.
    let far = matched c.args.self.state c.args.self.tally expected given _ c.in-Matching.is h in
    verdict_further c.expected_ends.ensures c.args.self.tally c.other_line.result expected _ given _ (g.S.Source.left c.fill.new.source) whole far (rw c.in-Ok-true.field-0-test at c.in-Ok-true.ensures.ok)
    (c.in-Ok-true.ensures.some c.in-Ok-true.field-0-test) c.other_line.ensures.line

pub returns-in-Ok-false-clause-gives : goal.returns-in-Ok-false-clause-gives
returns-in-Ok-false-clause-gives g c = λ expected given whole full h.
    let far = matched c.args.self.state c.args.self.tally expected given _ c.in-Matching.is h in
    verdict_same (record { equal = c.equal_texts.ensures.equal; lacking = c.equal_texts.ensures.feed; closed = c.feeds_end_open_lines.ensures; counts = c.line_counts.ensures }) c.args.self.tally c.other_line-in-Ok-false.result expected given _ _ whole far (rw c.in-Ok-false.field-0-test at c.in-Ok-false.ensures.ok) c.other_line-in-Ok-false.ensures.line

pub returns-in-Err-clause-gives : goal.returns-in-Err-clause-gives
returns-in-Err-clause-gives g c = λ expected given whole full h.
    let far = matched c.args.self.state c.args.self.tally expected given _ c.in-Matching.is h in
    breaks_behind given _ _ expected far.begun c.in-Err.ensures.err

pub returns-in-Other-clause-gives : goal.returns-in-Other-clause-gives
returns-in-Other-clause-gives g c = λ expected given whole full h. verdict_other c.args.self.state c.in-Other.line c.args.self.tally expected given _ c.in-Other.is full h

pub returns-in-Lacking-clause-gives : goal.returns-in-Lacking-clause-gives
returns-in-Lacking-clause-gives g c = λ expected given whole full h.
    verdict_lacking (record { equal = c.equal_texts.ensures.equal; lacking = c.equal_texts.ensures.feed; closed = c.feeds_end_open_lines.ensures; counts = c.line_counts.ensures }) c.args.self.state c.in-Lacking.field-0 c.args.self.tally c.other_line-in-Lacking.result expected given _ c.in-Lacking.is whole full h c.other_line-in-Lacking.ensures.line

pub returns-in-Broken-clause-gives : goal.returns-in-Broken-clause-gives
returns-in-Broken-clause-gives g c = λ expected given whole full h. verdict_broken c.args.self.state c.args.self.tally _ expected given _ c.in-Broken.is h
