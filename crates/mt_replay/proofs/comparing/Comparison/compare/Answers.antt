use Rattle.mt_replay.proofs.Comparisons.{stands_lacking, some_bytes}
use Rattle.mt_replay.proofs.comparing.Comparison.compare.Goals as goal

pub returns-else-is_empty-clause-stands : goal.returns-else-is_empty-clause-stands
returns-else-is_empty-clause-stands g c = λ expected given h.
    stands_lacking c.given_ends.ensures.answer c.args.self.now.state c.in-Lacking.line c.args.self.now.tally given _ expected c.args.text.now c.in-Lacking.is (some_bytes c.args.text.now c.if-is_empty.ensures) h
