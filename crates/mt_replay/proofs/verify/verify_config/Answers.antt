use Rattle.std.proofs.Common.{refl, subst}
use Rattle.std.specs.Io.KnownBytes.{prepend_known}
use Rattle.mt_port.specs.Streams.{WhereTold}
use Rattle.mt_replay.specs.declared.job.Found.TheVariants as found
use Rattle.mt_replay.specs.declared.job.Follows.{Follows}
use Rattle.mt_replay.specs.declared.run.End.TheVariants as end
use Rattle.mt_replay.specs.Inner.Jobs.{FoundGives}
use Rattle.mt_replay.specs.Verify.{verifying}
use Rattle.mt_replay.proofs.Locates.{stop_job}
use Rattle.mt_replay.proofs.Verifies.{empty_at}
use Rattle.mt_replay.proofs.verify.verify_config.Goals as goal

pub returns-in-Nothing-clause-gives : goal.returns-in-Nothing-clause-gives
returns-in-Nothing-clause-gives g c = λ a begins.
    let board = g.B.Port.state c.args.board.now in
    let left = g.S.Source.left c.args.source.now in
    let empty = subst (λ (f : Follows). WhereTold a (prepend_known c.args.input.now left) (FoundGives (found.Config c.args.config f))) c.in-Nothing.is begins in
    stop_job (end.Refused 1 17 1) c.tell_end.result (verifying board.defect) board (g.B.Port.tape c.args.board.now) a left _ _ _ _ _ _ (empty_at board.defect c.args.config c.args.input.now a left empty) refl c.tell_end.ensures
