use Rattle.std.proofs.Common.{List, ℕ, subst}
use Rattle.std.specs.Io.KnownBytes.{prepend_known}
use Rattle.mt_port.specs.Streams.{WhereTold}
use Rattle.mt_replay.specs.declared.job.Found.TheVariants as found
use Rattle.mt_replay.specs.Inner.Jobs.{FoundGives, HeadFails}
use Rattle.mt_replay.specs.Locate.{locating, locating_by}
use Rattle.mt_replay.proofs.Jobs.{refused_job, headless_job, told_unheld}
use Rattle.mt_replay.proofs.Locates.{locating-judged}
use Rattle.mt_replay.proofs.locate.locate_job.Goals as goal

pub returns-in-Ok-Refused-clause-gives : goal.returns-in-Ok-Refused-clause-gives
returns-in-Ok-Refused-clause-gives g c = λ board tape.
    let why = c.in-Ok-Refused.why in
    let before = g.S.Source.left c.args.source.now in
    let after = prepend_known c.find.new.input (g.S.Source.left c.find.new.source) in
    let gives = rw c.in-Ok-Refused.field-0-is at c.in-Ok-Refused.ensures.ok in
    let found = told_unheld before after (FoundGives (found.Refused why)) (subst (λ (held : List ℕ). WhereTold (prepend_known held before) after (FoundGives (found.Refused why))) c.new-input.ensures gives) in
    refused_job c.tell_refused.result why locating locating_by board c.find.new.input before (g.S.Source.left c.find.new.source) _ _ tape _ _ _ _
    locating-judged c.tell_refused.ensures c.in-Ok-Refused.ensures.cause.kept found

pub returns-clause-gives : goal.returns-clause-gives
returns-clause-gives g c = λ board tape.
    let before = g.S.Source.left c.args.source.now in
    let after = prepend_known c.find.new.input (g.S.Source.left c.find.new.source) in
    let fails = told_unheld before after HeadFails (subst (λ (held : List ℕ). WhereTold (prepend_known held before) after HeadFails) c.new-input.ensures c.in-Err.ensures.err) in
    headless_job c.tell.result locating locating_by board c.find.new.input before (g.S.Source.left c.find.new.source) _ _ tape _ _ _ _
    locating-judged c.tell.ensures c.in-Err.ensures.none c.in-Err.ensures.cause.failed fails
