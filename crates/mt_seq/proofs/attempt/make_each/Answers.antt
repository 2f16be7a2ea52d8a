use Rattle.std.proofs.Common.{◌≡◌, refl, arith, ap, sym, ◌∙◌}
use Rattle.std.specs.Prelude.{not}
use Rattle.mt_seq.specs.Sequence.{sequence_hold}
use Rattle.mt_seq.specs.Stepping.{job_of}
use Rattle.mt_seq.proofs.Attempts.{begin_ready, course_end, hold_count, made_from, made_whole}
use Rattle.mt_seq.proofs.Makes.{Makes-same}
use Rattle.mt_seq.proofs.attempt.make_each.Goals as goal

pub run-requires-clause-ready : goal.run-requires-clause-ready
run-requires-clause-ready g c =
    let hold : c.hold_of-hold.result ≡ sequence_hold (job_of c.args.alg.now c.args.frame) c.args.slice.n = c.hold_of-hold.ensures.hold ∙ hold_count c.args.alg.now c.args.frame c.args.slice.n c.from.result c.from.ensures in
    begin_ready (g.P.Port.state c.args.port.now) c.args.alg.now c.args.frame c.args.slice c.new-course.result _ c.requires.held c.requires.job c.requires.slice c.new-course.ensures.view
    (omega (arith, hold, c.requires.room))

pub run-requires-clause-to : goal.run-requires-clause-to
run-requires-clause-to g c =
    let hold : c.hold_of-hold.result ≡ sequence_hold (job_of c.args.alg.now c.args.frame) c.args.slice.n = c.hold_of-hold.ensures.hold ∙ hold_count c.args.alg.now c.args.frame c.args.slice.n c.from.result c.from.ensures in
    omega (arith, hold, course_end (job_of c.args.alg.now c.args.frame) c.args.slice c.new-course.result c.new-course.ensures.course c.new-course.ensures.view)

pub returns : goal.returns
returns g c =
    let job = job_of c.args.alg.now c.args.frame in
    let hold : c.hold_of-hold.result ≡ sequence_hold job c.args.slice.n = c.hold_of-hold.ensures.hold ∙ hold_count c.args.alg.now c.args.frame c.args.slice.n c.from.result c.from.ensures in
    Makes-same refl (ap not (sym c.differs.ensures))
    (made_whole job c.args.slice c.hold_of-hold.result c.run.new.self _ _ _ _
    (made_from job c.args.slice c.hold_of-hold.result c.new-course.result c.run.new.self _ _ _ _ (g.met.P.Port.sound c.args.port.now) c.new-course.ensures.view c.run.ensures.runs c.run.ensures.made) hold)
