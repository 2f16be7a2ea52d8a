use Rattle.std.proofs.Common.{ℕ, ◌≡◌, ◌+◌, map, refl, arith, ap, sym, ◌∙◌}
use Rattle.std.proofs.lemmas.List.{length-map}
use Rattle.mt_port.specs.Board.{Board}
use Rattle.mt_seq.specs.Inner.Own.{own_accesses}
use Rattle.mt_seq.specs.Sequence.{sequence_hold}
use Rattle.mt_seq.specs.Stepping.{job_of}
use Rattle.mt_seq.specs.Tape.{touch_of}
use Rattle.mt_seq.proofs.Apart.{Makes-own}
use Rattle.mt_seq.proofs.Attempts.{hold_count}
use Rattle.mt_seq.proofs.Makes.{Makes-same}
use Rattle.mt_seq.proofs.NamedCells.{over_later, own_long}
use Rattle.mt_seq.proofs.NamedLists.{own_is}
use Rattle.mt_seq.proofs.attempt.make_decided.Goals as goal

pub overflow_add-end : goal.overflow_add-end
overflow_add-end g c =
    let hold : c.hold_of.result ≡ sequence_hold (job_of c.args.alg.now c.args.frame) c.args.slice.n = c.hold_of.ensures.hold ∙ hold_count c.args.alg.now c.args.frame c.args.slice.n c.from.result c.from.ensures in
    omega (arith, hold, c.made.ensures, c.requires.room)

pub count_up_to-requires-clause-ahead : goal.count_up_to-requires-clause-ahead
count_up_to-requires-clause-ahead g c =
    let job = job_of c.args.alg.now c.args.frame in
    let hold : c.hold_of.result ≡ sequence_hold job c.args.slice.n = c.hold_of.ensures.hold ∙ hold_count c.args.alg.now c.args.frame c.args.slice.n c.from.result c.from.ensures in
    omega (arith, hold, c.made.ensures, c.make_own-good.ensures.count, own_long (g.P.Port.state c.args.port.now) job c.args.slice c.requires.keeps)

pub count_up_to-requires-clause-over : goal.count_up_to-requires-clause-over
count_up_to-requires-clause-over g c =
    let b : Board = g.P.Port.state c.args.port.now in
    let job = job_of c.args.alg.now c.args.frame in
    let hold : c.hold_of.result ≡ sequence_hold job c.args.slice.n = c.hold_of.ensures.hold ∙ hold_count c.args.alg.now c.args.frame c.args.slice.n c.from.result c.from.ensures in
    over_later g.P.Port.keeps (g.P.Port.tape c.args.port.now) (g.P.Port.tape c.make_own-good.new.port) (map touch_of (own_accesses b job c.args.slice)) (sequence_hold job c.args.slice.n) _ c.requires.over c.make_own-good.ensures.tape
    (omega (arith, hold, c.made.ensures, length-map (own_accesses b job c.args.slice) touch_of, c.make_own-good.ensures.count, own_long b job c.args.slice c.requires.keeps))

pub returns : goal.returns
returns g c =
    let b : Board = g.P.Port.state c.args.port.now in
    let job = job_of c.args.alg.now c.args.frame in
    let hold : c.hold_of.result ≡ sequence_hold job c.args.slice.n = c.hold_of.ensures.hold ∙ hold_count c.args.alg.now c.args.frame c.args.slice.n c.from.result c.from.ensures in
    let end : c.made.result + c.hold_of.result ≡ b.count + sequence_hold job c.args.slice.n = omega (arith, hold, c.made.ensures) in
    Makes-own job c.args.slice b (g.P.Port.state c.make_own-good.new.port) (g.P.Port.state c.count_up_to.new.self) (g.P.Port.tape c.args.port.now) (g.P.Port.tape c.make_own-good.new.port) (g.P.Port.tape c.count_up_to.new.self) c.make_own-good.result
    (g.met.P.Port.sound c.args.port.now) c.requires.job.accepted c.requires.keeps c.requires.slice (Makes-same (sym (own_is b job c.args.slice c.requires.keeps)) refl c.make_own-good.ensures)
    (c.count_up_to.ensures.state ∙ ap (λ (n : ℕ). record (g.P.Port.state c.make_own-good.new.port) { count = n }) end) c.count_up_to.ensures.tape
