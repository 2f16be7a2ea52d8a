-- On sound memory sequences leave no trace.
use Rattle.std.proofs.Common.{ℕ, Bool, ◌≡◌, List, Option, Some, None, refl, ap, sym, subst}
use Rattle.mt_port.specs.Board.{Board}
use Rattle.mt_seq.specs.declared.sequence.Verdict.{Verdict}
use Rattle.mt_seq.specs.Attempts.{attempt_words, attempt_verdict}
use Rattle.mt_seq.specs.Laws.{DroppedAttemptsStay, WholeAttemptsPass}
use Rattle.mt_window.specs.Slices.{Tried}
use Rattle.mt_window.specs.Kept.{IsInvariant, EntersSound, ran-alike, event-alike}
use Rattle.mt_blocks.specs.Slices.{Piece}
use Rattle.mt_ram.specs.State.{RamTst}
use Rattle.mt_ram.specs.Table.{Service}
use Rattle.mt_ram.specs.Event.{job_of, attempt_at, running, of_pass, of_test}
use Rattle.mt_ram.specs.Kept.{cell_leaves, handlers_leave_setting}
use Rattle.mt_ram.specs.Plain.{left_by, untouching, HasAcceptedMarches, LeavesNoTrace}

-- what holds of a module by its setting alone
abbrev Marches : RamTst → Type 0
Marches r = HasAcceptedMarches r.setting

same_attempt : DroppedAttemptsStay → WholeAttemptsPass → (may : Bool) (r : RamTst) (p : Piece) (b : Board) → Marches r → b.fault ≡ None → attempt_at may r p b ≡ untouching may r p b
same_attempt stays passes may r p b marches sound =
    ap (λ (words : List ℕ). let t : Tried Verdict = record (attempt_at may r p b) { words = words } in t) (of (attempt_verdict may b (job_of r p) p.slice) refl)
  where
    of : (v : Option Verdict) → attempt_verdict may b (job_of r p) p.slice ≡ v → attempt_words may b (job_of r p) p.slice ≡ left_by v b.words (job_of r p) p.slice
    of None e = stays may b (job_of r p) p.slice sound (marches r.selected) e
    of (Some v) e = (passes may b (job_of r p) p.slice v sound (marches r.selected) e).1

pass_kept : IsInvariant of_pass Marches
pass_kept = record { taken = λ r p v failed h. h; row = λ r call h. subst HasAcceptedMarches (sym (handlers_leave_setting r call)) h }

test_kept : IsInvariant of_test Marches
test_kept = record { taken = λ r p v failed h. h; row = λ r call h. subst HasAcceptedMarches (sym (handlers_leave_setting r call)) h }

pass_enters : (service : Service) → EntersSound (running of_pass service) Marches
pass_enters service = record { tests = pass_kept; cleared = λ r h. h; inside = λ r h. subst HasAcceptedMarches (sym ((cell_leaves r service r.state).1 r).0) h }

test_enters : (service : Service) → EntersSound (running of_test service) Marches
test_enters service = record { tests = test_kept; cleared = λ r h. h; inside = λ r h. subst HasAcceptedMarches (sym ((cell_leaves r service r.state).1 r).0) h }

pub pass_leaves_no_trace : DroppedAttemptsStay → WholeAttemptsPass → (service : Service) → LeavesNoTrace (running of_pass service)
pass_leaves_no_trace stays passes service = record {
  boundaries = λ s sound marches. ran-alike (running of_pass service) untouching Marches (pass_enters service) (same_attempt stays passes) s (record { fault = sound; callee = marches });
  event = λ s sound marches. event-alike (running of_pass service) untouching Marches (pass_enters service) (same_attempt stays passes) s (record { fault = sound; callee = marches });
}

pub test_leaves_no_trace : DroppedAttemptsStay → WholeAttemptsPass → (service : Service) → LeavesNoTrace (running of_test service)
test_leaves_no_trace stays passes service = record {
  boundaries = λ s sound marches. ran-alike (running of_test service) untouching Marches (test_enters service) (same_attempt stays passes) s (record { fault = sound; callee = marches });
  event = λ s sound marches. event-alike (running of_test service) untouching Marches (test_enters service) (same_attempt stays passes) s (record { fault = sound; callee = marches });
}
