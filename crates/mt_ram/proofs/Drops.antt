-- Attempts are dropped in time.
use Rattle.std.proofs.Common.{ℕ, ◌+◌, ◌≤◌, ◌≡◌, Bool, true, false, All, Some, refl, subst}
use Rattle.mt_plan.specs.declared.algorithm.Policy.{Policy}
use Rattle.mt_plan.specs.declared.algorithm.Policy.TheVariants.{NonDestructive, Destructive}
use Rattle.mt_port.specs.declared.request.Request.{Request}
use Rattle.mt_port.specs.Board.{Board}
use Rattle.std.specs.Prelude.{is_some}
use Rattle.mt_seq.specs.Attempts.{attempt_length, attempt_verdict, dropped_at}
use Rattle.mt_seq.specs.declared.sequence.Job.{Job}
use Rattle.mt_seq.specs.declared.sequence.Slice.{Slice}
use Rattle.mt_seq.specs.Laws.{UrgentWaitsAreShort}
use Rattle.mt_seq.specs.declared.sequence.Verdict.{Verdict}
use Rattle.mt_window.specs.Waits.{DropsInTime}
use Rattle.mt_blocks.specs.Slices.{Piece}
use Rattle.mt_ram.specs.State.{RamTst}
use Rattle.mt_ram.specs.Results.{failed_after}
use Rattle.mt_ram.specs.Event.{attempting, job_of, restored, of_pass, of_test, passed, with_result}

-- of slices that are tested by attempts, whatever stops them and whatever their end leaves
drops_in_time : UrgentWaitsAreShort → (stops : RamTst → Bool) (taken : RamTst → Piece → Verdict → Bool → RamTst) (failed : Piece → Verdict → Bool → Bool) → DropsInTime (attempting stops taken failed)
drops_in_time law stops taken failed c x b n may ahead = of (job_of c x).policy refl may
  where
    of : (policy : Policy) → (job_of c x).policy ≡ policy → restored policy x.slice.n ≡ Some n
        → All (λ (q : Request). q.urgent ≡ true → b.count + attempt_length true b (job_of c x) x.slice ≤ q.offset + n) b.left
    of NonDestructive is some =
        let same : x.slice.n ≡ n = cc in
        subst (λ (m : ℕ). All (λ (q : Request). q.urgent ≡ true → b.count + attempt_length true b (job_of c x) x.slice ≤ q.offset + m) b.left) same
        (law b (job_of c x) x.slice is (λ k d h u. ahead k d h))
    of Destructive is some = absurd cc

pub pass_drops_in_time : UrgentWaitsAreShort → DropsInTime of_pass
pass_drops_in_time law = drops_in_time law (λ r. r.mark) (λ r p v failed. passed r p v) (λ p v failed. failed)

pub test_drops_in_time : UrgentWaitsAreShort → DropsInTime of_test
test_drops_in_time law = drops_in_time law (λ r. false) with_result (λ p v failed. failed_after v failed p.last)

-- an attempt that may not be dropped has a verdict
pub whole : (may : Bool) (b : Board) (job : Job) (slice : Slice) → may ≡ false → is_some (attempt_verdict may b job slice) ≡ true
unfolding attempt_verdict dropped_at
whole true b job slice h = absurd cc
whole false b job slice h = refl
