use Rattle.std.proofs.Common.{◌≡◌, ◌+◌, ◌∙◌, ap, sym, refl, ℕ}
use Rattle.mt_port.specs.Board.{Board}
use Rattle.mt_seq.specs.declared.sequence.Job.{Job}
use Rattle.mt_seq.specs.Sequence.{verdict_of, sequence, sequence_verdict, sequence_words, sequence_touches}
use Rattle.mt_seq.specs.Stepping.{job_of}
use Rattle.mt_seq.proofs.Makes.{Makes-same}
use Rattle.mt_seq.proofs.Attempts.{Ran, ran, held_sequence, hold_length}
use Rattle.mt_seq.proofs.Sound.{sound_passes, sound_stays}
use Rattle.mt_seq.proofs.attempt.run_slice.Given.{Over}
use Rattle.mt_seq.proofs.attempt.run_slice.Goals as goal

done : (g : Over) (c : goal.After-verdict_from g)
    → Ran (sequence (g.P.Port.state c.args.port.now) c.args.job.now c.args.slice) (g.P.Port.state c.args.port.now) (g.P.Port.state c.release.new.self) (g.P.Port.tape c.args.port.now) (g.P.Port.tape c.release.new.self) c.make_whole-pass.result
done g c =
    let a = g.P.Port.state c.args.port.now in
    let b = g.P.Port.state c.hold.new.self in
    let items : sequence b (job_of c.args.job.now.alg c.frame.result) c.args.slice ≡ sequence a c.args.job.now c.args.slice =
    ap (λ (j : Job). sequence b j c.args.slice) (sym c.frame.ensures) ∙ held_sequence a b c.args.job.now c.args.slice c.hold.ensures.state in
    ran (sequence a c.args.job.now c.args.slice) c.requires.free c.hold.ensures.state c.hold.ensures.tape (Makes-same items refl c.make_whole-pass.ensures) c.release.ensures.state c.release.ensures.tape

pub returns-clause-verdict : goal.returns-clause-verdict
unfolding sequence_verdict
returns-clause-verdict g c = c.verdict_from.ensures ∙ ap verdict_of (done g c).pass

pub returns-clause-state : goal.returns-clause-state
unfolding sequence_words
returns-clause-state g c =
    let a : Board = g.P.Port.state c.args.port.now in
    (done g c).state ∙ ap (λ (k : ℕ). record a { words = sequence_words a c.args.job.now c.args.slice; count = a.count + k; since = a.count }) (hold_length a c.args.job.now c.args.slice)

pub returns-clause-tape : goal.returns-clause-tape
unfolding sequence_touches
returns-clause-tape g c = (done g c).tape

pub returns-clause-passes : goal.returns-clause-passes
returns-clause-passes g c = λ none. returns-clause-verdict g c ∙ sound_passes (g.P.Port.state c.args.port.now) c.args.job.now c.args.slice none c.requires.job.accepted

pub returns-clause-stays : goal.returns-clause-stays
returns-clause-stays g c = λ none. ap (λ (b : Board). b.words) (returns-clause-state g c) ∙ sound_stays _ c.args.job.now c.args.slice none c.requires.job.accepted
