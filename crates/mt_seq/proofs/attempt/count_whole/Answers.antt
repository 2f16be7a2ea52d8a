use Rattle.std.proofs.Common.{ℕ, ◌≡◌, ◌+◌, arith, ap, ◌∙◌}
use Rattle.mt_port.specs.Board.{Board}
use Rattle.mt_seq.specs.Sequence.{sequence_hold}
use Rattle.mt_seq.specs.Stepping.{job_of}
use Rattle.mt_seq.proofs.Apart.{Makes-spared, spares_all}
use Rattle.mt_seq.proofs.attempt.count_whole.Goals as goal

pub returns : goal.returns
returns g c =
    let b : Board = g.P.Port.state c.args.port.now in
    let job = job_of c.args._alg.now c.args._frame in
    let end : c.made.result + c.args.hold ≡ b.count + sequence_hold job c.args.slice.n = omega (arith, c.requires.hold, c.made.ensures) in
    Makes-spared job c.args.slice b (g.P.Port.state c.count_up_to.new.self) (g.P.Port.tape c.args.port.now) (g.P.Port.tape c.count_up_to.new.self)
    (g.met.P.Port.sound c.args.port.now) c.requires.job.accepted c.requires.keeps c.requires.slice (spares_all b.fault c.args.slice c.requires.spared)
    (c.count_up_to.ensures.state ∙ ap (λ (n : ℕ). record b { count = n }) end) c.count_up_to.ensures.tape
