use Rattle.std.proofs.Common.{sym, subst, Some}
use Rattle.mt_replay.specs.declared.form.Asked.{Asked}
use Rattle.mt_replay.specs.Replay.{outcomes, Completes}
use Rattle.mt_replay.specs.Locate.{locating}
use Rattle.mt_replay.specs.Verify.{verifying}
use Rattle.mt_replay.proofs.Jobs.{completes}
use Rattle.mt_replay.proofs.Soaks.{soak_caused, soak_completes}
use Rattle.mt_replay.proofs.top.answer.Goals as goal

pub returns-in-Job-clause-complete : goal.returns-in-Job-clause-complete
returns-in-Job-clause-complete g c =
    let job = c.replay_job.ensures in
    subst (λ (asked : Asked). Completes (Some asked) c.replay_job.result (g.B.Port.state c.args.board.now).defect (g.S.Source.left c.args.source.now) (g.S.Source.faults c.args.source.now) (g.S.Source.faults c.replay_job.new.source) (g.K.Sink.faults c.args.sink.now) (g.K.Sink.faults c.replay_job.new.sink))
    (sym c.in-Job.is)
    (completes c.replay_job.result (outcomes c.in-Job.form (g.B.Port.state c.args.board.now).defect) _ _ _ _ _ _ _ job.gives job.cause)

pub returns-in-Locate-clause-complete : goal.returns-in-Locate-clause-complete
returns-in-Locate-clause-complete g c =
    let located = c.locate_job.ensures in
    let board = g.B.Port.state c.args.board.now in
    subst (λ (asked : Asked). Completes (Some asked) c.locate_job.result board.defect (g.S.Source.left c.args.source.now) (g.S.Source.faults c.args.source.now) (g.S.Source.faults c.locate_job.new.source) (g.K.Sink.faults c.args.sink.now) (g.K.Sink.faults c.locate_job.new.sink))
    (sym c.in-Locate.is)
    (completes c.locate_job.result locating board board _ _ _ _ _ (located.gives board (g.B.Port.tape c.args.board.now)) located.cause)

pub returns-in-Verify-clause-complete : goal.returns-in-Verify-clause-complete
returns-in-Verify-clause-complete g c =
    let job = c.verify_job.ensures in
    subst (λ (asked : Asked). Completes (Some asked) c.verify_job.result (g.B.Port.state c.args.board.now).defect (g.S.Source.left c.args.source.now) (g.S.Source.faults c.args.source.now) (g.S.Source.faults c.verify_job.new.source) (g.K.Sink.faults c.args.sink.now) (g.K.Sink.faults c.verify_job.new.sink))
    (sym c.in-Verify.is)
    (completes c.verify_job.result (verifying (g.B.Port.state c.args.board.now).defect) _ _ _ _ _ _ _ job.gives job.cause)

pub returns-in-Soak-clause-complete : goal.returns-in-Soak-clause-complete
returns-in-Soak-clause-complete g c =
    let board = g.B.Port.state c.args.board.now in
    let source = g.S.Source.faults c.args.source.now in
    subst (λ (asked : Asked). Completes (Some asked) c.soak_job.result board.defect (g.S.Source.left c.args.source.now) source source (g.K.Sink.faults c.args.sink.now) (g.K.Sink.faults c.soak_job.new.sink))
    (sym c.in-Soak.is)
    (soak_completes c.soak_job.result c.in-Soak.number board.defect board _ _ _ _ c.soak_job.ensures.gives)

pub returns-in-Soak-clause-cause : goal.returns-in-Soak-clause-cause
returns-in-Soak-clause-cause g c =
    let board = g.B.Port.state c.args.board.now in
    soak_caused c.soak_job.result c.in-Soak.number board.defect board _ _ _ _ _ c.soak_job.ensures.gives
