use Rattle.std.proofs.Common.{ℕ, Bool, true, false, ◌≡◌, ◌+◌, ◌≤◌, length, arith, ap, ◌∙◌}
use Rattle.std.specs.Prelude.{nat_lt, if◌then◌else◌}
use Rattle.mt_port.specs.Board.{Board}
use Rattle.mt_seq.specs.declared.sequence.Job.{Job}
use Rattle.mt_seq.specs.Attempts.{backed_out, part_length}
use Rattle.mt_seq.specs.Stepping.{job_of}
use Rattle.mt_seq.proofs.Apart.{Makes-part, spares_all}
use Rattle.mt_seq.proofs.Attempts.{keeping_hold}
use Rattle.mt_seq.proofs.Lengths.{holds_are_short}
use Rattle.mt_seq.proofs.Urgent.{backed_out_long}
use Rattle.mt_seq.proofs.attempt.count_part.Goals as goal

part_fits : (n i : ℕ) → part_length n i ≤ i + n
part_fits n i = pick (nat_lt n i)
  where
    pick : (b : Bool) → (if b then i + n else i) ≤ i + n
    pick true = omega arith
    pick false = omega arith

pub part_length-requires : goal.part_length-requires
part_length-requires g c =
    omega (arith, c.requires.until, c.requires.slice.small, keeping_hold (job_of c.args._alg.now c.args._frame) c.args.slice.n c.requires.keeps, holds_are_short (job_of c.args._alg.now c.args._frame) c.args.slice.n c.requires.job.accepted c.requires.slice.small)

pub overflow_add-end : goal.overflow_add-end
overflow_add-end g c =
    omega (arith, c.made.ensures, c.part_length.ensures, part_fits c.args.slice.n c.args.until, c.requires.until, keeping_hold (job_of c.args._alg.now c.args._frame) c.args.slice.n c.requires.keeps, c.requires.room)

pub returns : goal.returns
returns g c =
    let b : Board = g.P.Port.state c.args.port.now in
    let job : Job = job_of c.args._alg.now c.args._frame in
    let hold = keeping_hold job c.args.slice.n c.requires.keeps in
    let long : length (backed_out b job c.args.slice c.args.until) ≡ part_length c.args.slice.n c.args.until = backed_out_long b job c.args.slice c.args.until (omega (arith, hold, c.requires.until)) in
    let end : c.made.result + c.part_length.result ≡ b.count + length (backed_out b job c.args.slice c.args.until) = omega (arith, long, c.made.ensures, c.part_length.ensures) in
    Makes-part job c.args.slice c.args.until b (g.P.Port.state c.count_up_to.new.self) (g.P.Port.tape c.args.port.now) (g.P.Port.tape c.count_up_to.new.self)
    (g.met.P.Port.sound c.args.port.now) c.requires.job.accepted c.requires.keeps c.requires.slice (spares_all b.fault c.args.slice c.requires.spared)
    (c.count_up_to.ensures.state ∙ ap (λ (n : ℕ). record b { count = n }) end) c.count_up_to.ensures.tape
