use Rattle.std.proofs.Common.{arith}
use Rattle.mt_seq.specs.Stepping.{job_of}
use Rattle.mt_seq.proofs.Attempts.{keeping_hold}
use Rattle.mt_seq.proofs.Lengths.{holds_are_short}
use Rattle.mt_seq.proofs.attempt.make_part.Goals as goal

pub part_length-requires : goal.part_length-requires
part_length-requires g c =
    omega (arith, c.requires.until, c.requires.slice.small, keeping_hold (job_of c.args.alg.now c.args.frame) c.args.slice.n c.requires.keeps, holds_are_short (job_of c.args.alg.now c.args.frame) c.args.slice.n c.requires.job.accepted c.requires.slice.small)
