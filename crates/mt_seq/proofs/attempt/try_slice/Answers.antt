use Rattle.std.proofs.Common.{◌≡◌, ◌+◌, ◌∙◌, ap, sym, refl, arith, ℕ, length, Option, Some, None, []}
use Rattle.mt_fault.specs.Faulty.{words_after}
use Rattle.mt_fault.specs.Items.{history, passes}
use Rattle.mt_seq.specs.Attempts.{attempt, attempt_to, attempt_length, attempt_touches, attempt_verdict, attempt_words, backed_out, verdict_to, dropped_at}
use Rattle.mt_seq.specs.Sequence.{verdict_of, sequence, sequence_verdict}
use Rattle.mt_seq.specs.Stepping.{job_of}
use Rattle.mt_seq.proofs.Makes.{Makes-same}
use Rattle.mt_seq.proofs.Attempts.{Ran, ran, held_sequence, held_part, dropped}
use Rattle.mt_seq.proofs.attempt.try_slice.Given.{Over}
use Rattle.mt_seq.proofs.attempt.try_slice.Goals as goal

whole : (g : Over) (c : goal.After-verdict_from g)
    → Ran (sequence (g.P.Port.state c.args.port.now) (job_of c.args.alg.now c.args.frame) c.args.slice) (g.P.Port.state c.args.port.now) (g.P.Port.state c.release.new.self) (g.P.Port.tape c.args.port.now) (g.P.Port.tape c.release.new.self) c.make_whole-pass.result
whole g c =
    let a = g.P.Port.state c.args.port.now in
    let b = g.P.Port.state c.hold.new.self in
    let job = job_of c.args.alg.now c.args.frame in
    ran (sequence a job c.args.slice) c.requires.free c.hold.ensures.state c.hold.ensures.tape (Makes-same (held_sequence a b job c.args.slice c.hold.ensures.state) refl c.make_whole-pass.ensures) c.release.ensures.state c.release.ensures.tape

pub returns-in-None-clause-verdict : goal.returns-in-None-clause-verdict
unfolding attempt_verdict sequence_verdict
returns-in-None-clause-verdict g c =
    let a = g.P.Port.state c.args.port.now in
    let job = job_of c.args.alg.now c.args.frame in
    let none : dropped_at c.args.may a job c.args.slice ≡ None = sym c.dropped_at.ensures ∙ c.in-None.is in
    ap Some (c.verdict_from.ensures ∙ ap verdict_of (whole g c).pass) ∙ ap (verdict_to a job c.args.slice) (sym none)

pub returns-in-None-clause-state : goal.returns-in-None-clause-state
unfolding attempt attempt_words attempt_length
returns-in-None-clause-state g c =
    let a = g.P.Port.state c.args.port.now in
    let job = job_of c.args.alg.now c.args.frame in
    let none : dropped_at c.args.may a job c.args.slice ≡ None = sym c.dropped_at.ensures ∙ c.in-None.is in
    (whole g c).state ∙ ap (λ (o : Option ℕ). record a { words = words_after a.fault a.words (history (attempt_to a job c.args.slice o)); count = a.count + length (attempt_to a job c.args.slice o); since = a.count }) (sym none)

pub returns-in-None-clause-tape : goal.returns-in-None-clause-tape
unfolding attempt attempt_touches
returns-in-None-clause-tape g c =
    let a = g.P.Port.state c.args.port.now in
    let job = job_of c.args.alg.now c.args.frame in
    let none : dropped_at c.args.may a job c.args.slice ≡ None = sym c.dropped_at.ensures ∙ c.in-None.is in
    rw none (whole g c).tape

pub make_part-requires-clause-keeps : goal.make_part-requires-clause-keeps
make_part-requires-clause-keeps g c = (dropped c.args.may (g.P.Port.state c.args.port.now) (job_of c.args.alg.now c.args.frame) c.args.slice c.in-Some.until (sym c.dropped_at.ensures ∙ c.in-Some.is)).keeps

pub make_part-requires-clause-until : goal.make_part-requires-clause-until
make_part-requires-clause-until g c =
    let is = dropped c.args.may (g.P.Port.state c.args.port.now) (job_of c.args.alg.now c.args.frame) c.args.slice c.in-Some.until (sym c.dropped_at.ensures ∙ c.in-Some.is) in
    omega (arith, is.first.to, c.requires.slice.some)

part : (g : Over) (c : goal.After-release-in-Some g)
    → Ran (backed_out (g.P.Port.state c.args.port.now) (job_of c.args.alg.now c.args.frame) c.args.slice c.in-Some.until) (g.P.Port.state c.args.port.now) (g.P.Port.state c.release-in-Some.new.self) (g.P.Port.tape c.args.port.now) (g.P.Port.tape c.release-in-Some.new.self)
    (passes (g.P.Port.state c.hold-in-Some.new.self).fault (g.P.Port.state c.hold-in-Some.new.self).words [] (backed_out (g.P.Port.state c.hold-in-Some.new.self) (job_of c.args.alg.now c.args.frame) c.args.slice c.in-Some.until))
part g c =
    let a = g.P.Port.state c.args.port.now in
    let b = g.P.Port.state c.hold-in-Some.new.self in
    let job = job_of c.args.alg.now c.args.frame in
    ran (backed_out a job c.args.slice c.in-Some.until) c.requires.free c.hold-in-Some.ensures.state c.hold-in-Some.ensures.tape
    (Makes-same (held_part a b job c.args.slice c.in-Some.until c.hold-in-Some.ensures.state) refl c.make_part.ensures) c.release-in-Some.ensures.state c.release-in-Some.ensures.tape

pub returns-in-Some-clause-verdict : goal.returns-in-Some-clause-verdict
unfolding attempt_verdict
returns-in-Some-clause-verdict g c =
    let a = g.P.Port.state c.args.port.now in
    let job = job_of c.args.alg.now c.args.frame in
    let some : dropped_at c.args.may a job c.args.slice ≡ Some c.in-Some.until = sym c.dropped_at.ensures ∙ c.in-Some.is in
    ap (verdict_to a job c.args.slice) (sym some)

pub returns-in-Some-clause-state : goal.returns-in-Some-clause-state
unfolding attempt attempt_words attempt_length
returns-in-Some-clause-state g c =
    let a = g.P.Port.state c.args.port.now in
    let job = job_of c.args.alg.now c.args.frame in
    let some : dropped_at c.args.may a job c.args.slice ≡ Some c.in-Some.until = sym c.dropped_at.ensures ∙ c.in-Some.is in
    (part g c).state ∙ ap (λ (o : Option ℕ). record a { words = words_after a.fault a.words (history (attempt_to a job c.args.slice o)); count = a.count + length (attempt_to a job c.args.slice o); since = a.count }) (sym some)

pub returns-in-Some-clause-tape : goal.returns-in-Some-clause-tape
unfolding attempt attempt_touches
returns-in-Some-clause-tape g c =
    let a = g.P.Port.state c.args.port.now in
    let job = job_of c.args.alg.now c.args.frame in
    let some : dropped_at c.args.may a job c.args.slice ≡ Some c.in-Some.until = sym c.dropped_at.ensures ∙ c.in-Some.is in
    rw some (part g c).tape
