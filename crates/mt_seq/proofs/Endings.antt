-- Whether accesses are left.
use Rattle.std.proofs.Common.{ℕ, zero, suc, ◌≡◌, ◌+◌, ◌-◌, ◌<◌, ◌≤◌, length, arith, refl, ap, sym, ◌∙◌}
use Rattle.std.specs.Prelude.{not, take}
use Rattle.std.proofs.lemmas.List.{take_all}
use Rattle.mt_seq.specs.Makes.{Makes}
use Rattle.mt_seq.specs.Laws.{SequencesEnd}
use Rattle.mt_seq.proofs.Makes.{Makes-same}
use Rattle.mt_plan.specs.Plan.{steps_of}
use Rattle.mt_seq.specs.declared.course.Course.{Course}
use Rattle.mt_seq.specs.declared.sequence.Job.{Job}
use Rattle.mt_seq.specs.declared.sequence.Verdict.{Verdict}
use Rattle.mt_seq.specs.declared.stepper.Progress.TheVariants.{More, Ended}
use Rattle.mt_seq.specs.Sequence.{sequence, sequence_hold, sequence_verdict, verdict_of}
use Rattle.mt_seq.specs.Stepping.{Stepping, progress_of, view_of, IsCourse}
use Rattle.mt_seq.proofs.Lengths.{hold_is}
use Rattle.mt_seq.proofs.Attempts.{hold_is_long, hold_length}

left_more : (k : ℕ) (s : Stepping) → 0 < k → progress_of k s ≡ More
left_more zero s h = absurd (omega arith)
left_more (suc k) s h = refl

pub course_hold : (job : Job) (c : Course) → IsCourse job c → c.ending_from + c.slice.n ≡ sequence_hold job c.slice.n
course_hold job c is = omega (arith, is.to, is.from, hold_is job.policy c.slice (length (steps_of job.alg c.slice.n)), hold_is_long job c.slice.n)

pub more_left : (job : Job) (c : Course) → IsCourse job c → c.made < c.ending_from + c.slice.n → More ≡ progress_of (sequence_hold job c.slice.n - c.made) (view_of job c)
more_left job c is h = sym (left_more (sequence_hold job c.slice.n - c.made) (view_of job c) (omega (arith, course_hold job c is)))

pub none_left : (job : Job) (c : Course) (verdict : Verdict) → IsCourse job c → c.ending_from + c.slice.n ≤ c.made → verdict ≡ verdict_of (not c.differs)
    → Ended verdict ≡ progress_of (sequence_hold job c.slice.n - c.made) (view_of job c)
none_left job c verdict is h e =
    let none : sequence_hold job c.slice.n - c.made ≡ 0 = omega (arith, course_hold job c is) in
    ap Ended e ∙ sym (ap (λ (k : ℕ). progress_of k (view_of job c)) none)

-- a stepper's accesses are left where its course's are
pub left_in : (s : Stepping) (job : Job) (c : Course) → IsCourse job c → view_of job c ≡ s → s.made < sequence_hold s.job s.slice.n → c.made < c.ending_from + c.slice.n
left_in s job c is e h =
    omega (arith, ap (λ (x : Stepping). x.made) e, ap (λ (x : Stepping). sequence_hold x.job x.slice.n) e, course_hold job c is)

-- ---- the last step

pub sequences_end : SequencesEnd
unfolding sequence_verdict
sequences_end b told s a tape is all =
    let whole : take s.made (sequence b s.job s.slice) ≡ sequence b s.job s.slice = take_all s.made (sequence b s.job s.slice) (omega (arith, hold_length b s.job s.slice)) in
    let makes : Makes (sequence b s.job s.slice) b a told tape (not s.differs) = Makes-same whole refl is.makes in
    (makes, ap verdict_of makes.pass)

pub to_in : (s : Stepping) (job : Job) (c : Course) (until : ℕ) → IsCourse job c → view_of job c ≡ s → until ≤ sequence_hold s.job s.slice.n → until ≤ c.ending_from + c.slice.n
to_in s job c until is e h = omega (arith, ap (λ (x : Stepping). sequence_hold x.job x.slice.n) e, course_hold job c is)
