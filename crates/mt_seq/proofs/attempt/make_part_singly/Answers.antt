use Rattle.std.proofs.Common.{length, arith, ap, sym, subst, ◌∙◌}
use Rattle.std.specs.Prelude.{All}
use Rattle.std.proofs.lemmas.List.Elements.{All-nil}
use Rattle.mt_word.specs.Word.{Fits}
use Rattle.mt_port.specs.declared.board.Shape.{Shape}
use Rattle.mt_seq.specs.Stepping.{Stepping, job_of}
use Rattle.mt_seq.proofs.Attempts.{begin_ready, course_end, keeping_hold, made_from, part_early, part_late, saved_all}
use Rattle.mt_seq.proofs.attempt.make_part_singly.Goals as goal

pub run-requires-clause-ready : goal.run-requires-clause-ready
run-requires-clause-ready g c =
    begin_ready (g.P.Port.state c.args.port.now) c.args.alg.now c.args.frame c.args.slice c.new-course.result _ c.requires.held c.requires.job c.requires.slice c.new-course.ensures.view
    (omega (arith, keeping_hold (job_of c.args.alg.now c.args.frame) c.args.slice.n c.requires.keeps, c.requires.until, c.requires.room))

pub run-requires-clause-to : goal.run-requires-clause-to
run-requires-clause-to g c =
    omega (
      arith,
      keeping_hold (job_of c.args.alg.now c.args.frame) c.args.slice.n c.requires.keeps,
      c.requires.until,
      course_end (job_of c.args.alg.now c.args.frame) c.args.slice c.new-course.result c.new-course.ensures.course c.new-course.ensures.view,
    )

pub restore-requires-clause-held : goal.restore-requires-clause-held
restore-requires-clause-held g c = c.run.ensures.runs.held ∙ c.requires.held

pub restore-requires-clause-inside : goal.restore-requires-clause-inside
restore-requires-clause-inside g c = omega (arith, c.requires.slice.inside, ap (λ (s : Shape). s.ram) c.run.ensures.runs.shape)

pub restore-requires-clause-all : goal.restore-requires-clause-all
restore-requires-clause-all g c =
    let job = job_of c.args.alg.now c.args.frame in
    ap length c.saved.ensures
    ∙ (saved_all job c.args.slice c.args.until c.run.new.self _ _ _ _
    (made_from job c.args.slice c.args.until c.new-course.result c.run.new.self _ _ _ _ (g.met.P.Port.sound c.args.port.now) c.new-course.ensures.view c.run.ensures.runs c.run.ensures.made)
    c.requires.keeps (omega (arith, c.from.ensures, c.if-until-from.true))).1

pub restore-requires-clause-fit : goal.restore-requires-clause-fit
restore-requires-clause-fit g c =
    subst (λ (s : Shape). All (Fits s.width) c.saved.result.now) (sym c.run.ensures.runs.shape)
    (rw c.saved.ensures (c.run.ensures.runs.fit (rw (ap (λ (s : Stepping). s.saved) c.new-course.ensures.view) (All-nil (Fits (g.P.Port.state c.args.port.now).shape.width)))))

pub restore-requires-clause-room : goal.restore-requires-clause-room
restore-requires-clause-room g c =
    omega (arith, c.run.ensures.runs.count, c.run.ensures.made, ap (λ (s : Stepping). s.made) c.new-course.ensures.view, keeping_hold (job_of c.args.alg.now c.args.frame) c.args.slice.n c.requires.keeps, c.requires.until, c.requires.room)

pub returns-then-until-from : goal.returns-then-until-from
returns-then-until-from g c =
    let job = job_of c.args.alg.now c.args.frame in
    part_late job c.args.slice c.args.until c.run.new.self c.saved.result.now _ _ _ _ _ _ (g.met.P.Port.sound c.args.port.now)
    (made_from job c.args.slice c.args.until c.new-course.result c.run.new.self _ _ _ _ (g.met.P.Port.sound c.args.port.now) c.new-course.ensures.view c.run.ensures.runs c.run.ensures.made)
    c.requires.keeps (omega (arith, c.from.ensures, c.if-until-from.true)) c.saved.ensures c.restore.ensures

pub returns-else-until-from : goal.returns-else-until-from
returns-else-until-from g c =
    let job = job_of c.args.alg.now c.args.frame in
    part_early job c.args.slice c.args.until c.run.new.self _ _ _ _
    (made_from job c.args.slice c.args.until c.new-course.result c.run.new.self _ _ _ _ (g.met.P.Port.sound c.args.port.now) c.new-course.ensures.view c.run.ensures.runs c.run.ensures.made)
    (omega (arith, c.from.ensures, c.if-until-from.false))
