use Rattle.std.proofs.Common.{List, ℕ, subst}
use Rattle.std.specs.Io.KnownBytes.{prepend_known}
use Rattle.mt_port.specs.Streams.{WhereTold}
use Rattle.mt_replay.specs.declared.job.Found.TheVariants as found
use Rattle.mt_replay.specs.Inner.Jobs.{FoundGives, HeadFails}
use Rattle.mt_replay.specs.Verify.{verifying, verifying_by}
use Rattle.mt_replay.proofs.Jobs.{refused_job, headless_job, told_unheld}
use Rattle.mt_replay.proofs.Verifies.{verifying-judged}
use Rattle.mt_replay.proofs.verify.verify_job.Goals as goal

pub returns-in-Ok-Refused-clause-gives : goal.returns-in-Ok-Refused-clause-gives
returns-in-Ok-Refused-clause-gives g c =
    let why = c.in-Ok-Refused.why in
    let board = g.B.Port.state c.args.board.now in
    let before = g.S.Source.left c.args.source.now in
    let after = prepend_known c.find.new.input (g.S.Source.left c.find.new.source) in
    let gives = rw c.in-Ok-Refused.field-0-is at c.in-Ok-Refused.ensures.ok in
    let found = told_unheld before after (FoundGives (found.Refused why)) (subst (λ (held : List ℕ). WhereTold (prepend_known held before) after (FoundGives (found.Refused why))) c.new-input.ensures gives) in
    refused_job c.tell_refused.result why (verifying board.defect) (verifying_by board.defect) board c.find.new.input before (g.S.Source.left c.find.new.source) _ _ (g.B.Port.tape c.args.board.now) _ _ _ _
    (verifying-judged board.defect) c.tell_refused.ensures c.in-Ok-Refused.ensures.cause.kept found

pub returns-clause-gives : goal.returns-clause-gives
returns-clause-gives g c =
    let board = g.B.Port.state c.args.board.now in
    let before = g.S.Source.left c.args.source.now in
    let after = prepend_known c.find.new.input (g.S.Source.left c.find.new.source) in
    let fails = told_unheld before after HeadFails (subst (λ (held : List ℕ). WhereTold (prepend_known held before) after HeadFails) c.new-input.ensures c.in-Err.ensures.err) in
    headless_job c.tell.result (verifying board.defect) (verifying_by board.defect) board c.find.new.input before (g.S.Source.left c.find.new.source) _ _ (g.B.Port.tape c.args.board.now) _ _ _ _
    (verifying-judged board.defect) c.tell.ensures c.in-Err.ensures.none c.in-Err.ensures.cause.failed fails
