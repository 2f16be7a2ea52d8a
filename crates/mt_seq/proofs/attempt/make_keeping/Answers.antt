use Rattle.std.proofs.Common.{ℕ, ◌≡◌, true, arith, ◌∙◌, subst}
use Rattle.mt_port.specs.Tape.{is_over}
use Rattle.mt_seq.specs.Sequence.{sequence_hold}
use Rattle.mt_seq.specs.Stepping.{job_of}
use Rattle.mt_seq.proofs.Attempts.{hold_count}
use Rattle.mt_seq.proofs.attempt.make_keeping.Goals as goal

pub make_decided-requires-clause-over : goal.make_decided-requires-clause-over
make_decided-requires-clause-over g c =
    let hold : c.hold_of-hold.result ≡ sequence_hold (job_of c.args.alg.now c.args.frame) c.args.slice.n = c.hold_of-hold.ensures.hold ∙ hold_count c.args.alg.now c.args.frame c.args.slice.n c.from.result c.from.ensures in
    subst (λ (n : ℕ). is_over g.P.Port.keeps (g.P.Port.tape c.args.port.now) n ≡ true) hold c.in-Some.ensures.over

pub count_whole-requires-clause-hold : goal.count_whole-requires-clause-hold
count_whole-requires-clause-hold g c = c.hold_of-hold.ensures.hold ∙ hold_count c.args.alg.now c.args.frame c.args.slice.n c.from.result c.from.ensures

pub count_whole-requires-clause-room : goal.count_whole-requires-clause-room
count_whole-requires-clause-room g c =
    omega (arith, c.hold_of-hold.ensures.hold ∙ hold_count c.args.alg.now c.args.frame c.args.slice.n c.from.result c.from.ensures, c.requires.room)
