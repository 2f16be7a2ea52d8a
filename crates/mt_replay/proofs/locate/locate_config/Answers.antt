use Rattle.std.proofs.Common.{refl, subst}
use Rattle.std.specs.Io.KnownBytes.{prepend_known}
use Rattle.mt_port.specs.Streams.{WhereTold}
use Rattle.mt_replay.specs.declared.job.Found.TheVariants as found
use Rattle.mt_replay.specs.declared.job.Follows.{Follows}
use Rattle.mt_replay.specs.declared.run.End.TheVariants as end
use Rattle.mt_replay.specs.Inner.Jobs.{FoundGives}
use Rattle.mt_replay.specs.Locate.{locating}
use Rattle.mt_replay.proofs.Locates.{empty_at, stop_job}
use Rattle.mt_replay.proofs.locate.locate_config.Goals as goal

pub returns-clause-gives : goal.returns-clause-gives
returns-clause-gives g c = λ a board tape begins.
    let left = g.S.Source.left c.args.source.now in
    let empty = subst (λ (f : Follows). WhereTold a (prepend_known c.args.input.now left) (FoundGives (found.Config c.args.config f))) c.in-Nothing.is begins in
    stop_job (end.Refused 1 1 1) c.tell_end.result locating board tape a left _ _ _ _ _ _ (empty_at c.args.config c.args.input.now a left empty) refl c.tell_end.ensures
