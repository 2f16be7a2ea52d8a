-- What `verify` gives, by what came of the script and of the comparison.
use Rattle.std.proofs.Common.{ℕ, ◌≡◌, Bool, true, cond, inl, inr, List, [], ◌++◌, length, Option, Some, None, Result, Ok, Err, refl, sym, ap, ◌∙◌, subst, append_assoc}
use Rattle.std.specs.Prelude.{OnErr}
use Rattle.std.specs.Io.KnownBytes.{prepend_known, Appends}
use Rattle.mt_port.specs.Streams.{WhereTold}
use Rattle.mt_port.specs.Board.{Board, Logs}
use Rattle.mt_port.specs.declared.board.Touch.{Touch}
use Rattle.mt_port.specs.declared.board.Shape.{Shape}
use Rattle.mt_port.specs.declared.stream.Failed.{Failed as StreamFailed}
use Rattle.mt_port.specs.Inner.Streams.{WhereTold-then}
use Rattle.mt_fault.specs.declared.fault.Fault.{Fault}
use Rattle.mt_text.specs.declared.line.Line.{Line}
use Rattle.mt_verify.specs.Lines.{lines as lines_of, first_other_line}
use Rattle.mt_conf.specs.declared.config.Config.{Config}
use Rattle.mt_replay.specs.declared.comparing.Comparison.{Comparison}
use Rattle.mt_replay.specs.declared.comparing.Verdict.{Verdict}
use Rattle.mt_replay.specs.declared.comparing.Verdict.TheVariants as verdict
use Rattle.mt_replay.specs.declared.job.Follows.{Follows}
use Rattle.mt_replay.specs.declared.job.Follows.TheVariants as follows
use Rattle.mt_replay.specs.declared.locating.Stop.{Stop}
use Rattle.mt_replay.specs.declared.locating.Stop.TheVariants as stop
use Rattle.mt_replay.specs.declared.run.End.{End}
use Rattle.mt_replay.specs.declared.run.End.TheVariants as end
use Rattle.mt_replay.specs.declared.status.Status.{Status}
use Rattle.mt_replay.specs.declared.verifying.Kept.{Kept}
use Rattle.mt_replay.specs.Input.{Ending, Finished, Failed, cut, job_of}
use Rattle.mt_machine.specs.Machine.{Machine, started, played}
use Rattle.mt_replay.specs.Outcome.{Outcome, said, judged_job, steps_touches}
use Rattle.mt_replay.specs.Changes.{change}
use Rattle.mt_replay.specs.Locate.{stop_text, stop_status}
use Rattle.mt_replay.specs.Verify.{is_front, replayed, telling, judged_by, compared, claim_gives, claimed, verifying_by, verifying}
use Rattle.mt_replay.specs.Inner.Runs.{EndCaused}
use Rattle.mt_replay.specs.Inner.Jobs.{Begins, BeginsEmpty}
use Rattle.mt_replay.specs.Inner.Locating.{IsAll, EndsBy, StopCause}
use Rattle.mt_replay.specs.Inner.Locates.{StopTold}
use Rattle.mt_replay.specs.Inner.Verifying.{first_mark, claim, claim_at, Claims, ClaimsBehind, Keeps, KeptGives}
use Rattle.mt_replay.specs.Inner.Comparing.{Stands, VerdictGives, VerdictCaused}
use Rattle.mt_replay.specs.Inner.Replaying.{PlayedWhole}
use Rattle.mt_replay.specs.Inner.Verifies.{verdict_said, verdict_how, trace_of, Judges}
use Rattle.mt_replay.specs.Replay.{BoardIs, JobGives, Told}
use Rattle.mt_replay.proofs.Jobs.{AreJudged, GivesAt, told_through, told_behind, nothing_behind, whole_job, cut_job, cut_after}
use Rattle.mt_replay.proofs.Locates.{stop_job, none_job}

verifying-is : (defect : Option Fault) (ending : Ending) (bytes : List ℕ) → verifying defect ending bytes ≡ judged_job (verifying_by defect ending) ending (job_of ending bytes)
unfolding verifying
verifying-is defect ending bytes = refl

pub verifying-judged : (defect : Option Fault) → AreJudged (verifying defect) (verifying_by defect)
verifying-judged defect = record { is = verifying-is defect; refusals = λ ending refusal behind. refl }

begins-verifying : (defect : Option Fault) (c : Config) (x y : List ℕ) (t : Begins c x y) (ending : Ending) (rest : List ℕ)
    → verifying defect ending (t.front ++ rest) ≡ claim_gives c defect ending (claimed c.shape ending (cut rest))
begins-verifying defect c x y t ending rest = verifying-is defect ending (t.front ++ rest) ∙ t.is (verifying_by defect ending) ending rest

-- ---- no script

-- the script is refused, or the source failed in it
stop_at : (e : End) (defect : Option Fault) (c : Config) (held : List ℕ) (a b left : Option (List ℕ)) → (e ≡ end.Broken → held ≡ []) → WhereTold a b (Begins c)
    → WhereTold b (prepend_known held left) (EndsBy e (claim_at c.shape first_mark)) → WhereTold a left (GivesAt e (verifying defect) (said (stop_text e) (stop_status e)))
stop_at (end.Whole count) defect c held a b left none p q = told_through a b held left _ p q (λ x y z t h. absurd h)
stop_at (end.Refused line code at) defect c held a b left none p q =
    told_through a b held left _ p q (λ x y z t h. ap (verifying defect Finished) t.taken ∙ begins-verifying defect c x y t Finished y ∙ ap (claim_gives c defect Finished) h)
stop_at end.Broken defect c held a b left none p q =
    told_through a b held left _ p q (λ x y z t h. record {
      front = t.front ++ h.front;
      taken = t.taken ∙ ap (λ (l : List ℕ). t.front ++ l) (h.taken ∙ ap (λ (l : List ℕ). h.front ++ (l ++ z)) (none refl)) ∙ sym (append_assoc t.front h.front z);
      is = begins-verifying defect c x y t Failed h.front ∙ ap (claim_gives c defect Failed) h.read;
    })

-- nothing follows the configuration
pub empty_at : (defect : Option Fault) (c : Config) (held : List ℕ) (a left : Option (List ℕ)) → WhereTold a (prepend_known held left) (BeginsEmpty c)
    → WhereTold a left (GivesAt (end.Refused 1 17 1) (verifying defect) (said (stop_text (end.Refused 1 17 1)) (stop_status (end.Refused 1 17 1))))
empty_at defect c held a left p = told_behind a held left _ p (λ x z t. verifying-is defect Finished x ∙ t.is (verifying_by defect Finished))

-- all ends of a script that is not taken
pub stopped_gives : (s : Stop) (defect : Option Fault) (c : Config) (bytes : List ℕ) (result : Status) (board : Board) (tape : Option (List Touch)) (held : List ℕ) (a b left h h' : Option (List ℕ)) (source source' sink sink' : ℕ)
    → (s ≡ stop.Ended end.Broken → held ≡ []) → WhereTold a b (Begins c) → KeptGives (Err s) c.shape bytes b (prepend_known held left) → StopCause s source source'
    → StopTold s result h h' sink sink' → JobGives result (verifying defect) board board source source' (change a left h h' tape tape)
stopped_gives (stop.Ended e) defect c bytes result board tape held a b left h h' source source' sink sink' none p q cause told =
    stop_job e result (verifying defect) board tape a left h h' source source' sink sink' (stop_at e defect c held a b left (λ is. none (ap stop.Ended is)) p q) cause told
stopped_gives stop.NoMemory defect c bytes result board tape held a b left h h' source source' sink sink' none p q cause told =
    none_job result (verifying defect) board tape a left h h' source source' sink sink' told

-- ---- a replay that is compared

-- the whole of the expected text was compared
pub judged_whole : (v : Result Verdict StreamFailed) (shape : Shape) (lines : List Line) (m m' : Machine) (old new : Comparison) (left between left' : Option (List ℕ)) (tape tape' : Option (List Touch))
    → ((given : Option (List ℕ)) → Stands old [] given given) → PlayedWhole shape lines m m' old new left between tape tape'
    → (Stands new (trace_of shape m lines) left between → VerdictGives v (trace_of shape m lines) left left') → Judges v shape lines m m' left left' tape tape'
judged_whole v shape lines m m' old new left between left' tape tape' fresh p finish =
    record { compares = finish (p.compares [] left (fresh left)); taped = p.taped; after = p.after }

-- how the comparison ends, as an end of lines
abbrev pub end_of : Result Verdict StreamFailed → End
end_of (Ok (verdict.Same count)) = end.Whole 0
end_of (Ok (verdict.Differs line)) = end.Refused 0 0 0
end_of (Err failed) = end.Broken

-- a replay of which this is told
abbrev pub judged_so : Result Verdict StreamFailed → Outcome → Outcome
judged_so v replay = telling replay (verdict_said v) (verdict_how v)

same_is : (count : ℕ) (replay : Outcome) (other : Option ℕ) → count ≡ length (lines_of replay.text) → other ≡ None → judged_by replay other ≡ judged_so (Ok (verdict.Same count)) replay
same_is count replay other e none = ap (judged_by replay) none ∙ ap (λ (n : ℕ). judged_so (Ok (verdict.Same n)) replay) (sym e)

broken_is : (failed : StreamFailed) (replay : Outcome) (given : List ℕ) → is_front given replay.text ≡ true → compared Failed replay given ≡ judged_so (Err failed) replay
broken_is failed replay given front =
    ap (λ (b : Bool). cond b (judged_so (Err failed) replay) (judged_by replay (first_other_line replay.text given))) front

-- A configuration and a script were taken, and what follows is compared with the trace.
record Opens (defect : Option Fault) (c : Config) (lines : List Line) (before after : List ℕ) : Type 0 where
  front : List ℕ
  taken : before ≡ front ++ after
  is : (ending : Ending) (rest : List ℕ) → verifying defect ending (front ++ rest) ≡ compared ending (replayed c defect lines) rest

opens : (defect : Option Fault) (c : Config) (lines : List Line) (x y z : List ℕ) → Begins c x y → Claims c.shape first_mark lines y z → Opens defect c lines x z
opens defect c lines x y z t u = record {
  front = t.front ++ u.front;
  taken = t.taken ∙ ap (λ (l : List ℕ). t.front ++ l) u.taken ∙ sym (append_assoc t.front u.front z);
  is = λ ending rest.
      ap (verifying defect ending) (append_assoc t.front u.front rest) ∙ begins-verifying defect c x y t ending (u.front ++ rest) ∙ ap (claim_gives c defect ending) (u.read ending rest);
}

judged_at : (v : Result Verdict StreamFailed) (defect : Option Fault) (c : Config) (lines : List Line) (held : List ℕ) (a d left : Option (List ℕ)) → OnErr v (held ≡ [])
    → WhereTold a d (Opens defect c lines) → VerdictGives v (replayed c defect lines).text d (prepend_known held left)
    → WhereTold a left (GivesAt (end_of v) (verifying defect) (judged_so v (replayed c defect lines)))
judged_at (Ok (verdict.Same count)) defect c lines held a d left none p q =
    told_through a d held left _ p q.1 (λ x y z t h. (
      ap (verifying defect Finished) t.taken ∙ t.is Finished y ∙ same_is count (replayed c defect lines) (first_other_line (replayed c defect lines).text y) q.0 h.0,
      nothing_behind held z h.1,
    ))
judged_at (Ok (verdict.Differs line)) defect c lines held a d left none p q =
    told_through a d held left _ p q (λ x y z t h. ap (verifying defect Finished) t.taken ∙ t.is Finished y ∙ ap (judged_by (replayed c defect lines)) h)
judged_at (Err failed) defect c lines held a d left none p q =
    told_through a d held left _ p q (λ x y z t h. record {
      front = t.front ++ h.front;
      taken = t.taken ∙ ap (λ (l : List ℕ). t.front ++ l) (h.taken ∙ ap (λ (l : List ℕ). h.front ++ (l ++ z)) none) ∙ sym (append_assoc t.front h.front z);
      is = t.is Failed h.front ∙ broken_is failed (replayed c defect lines) h.front h.is;
    })

-- a text behind the script was compared
pub text_at : (v : Result Verdict StreamFailed) (defect : Option Fault) (c : Config) (lines : List Line) (held : List ℕ) (a b d left : Option (List ℕ)) → OnErr v (held ≡ [])
    → WhereTold a b (Begins c) → WhereTold b d (Claims c.shape first_mark lines) → VerdictGives v (trace_of c.shape (started c defect) lines) d (prepend_known held left)
    → WhereTold a left (GivesAt (end_of v) (verifying defect) (judged_so v (replayed c defect lines)))
text_at v defect c lines held a b d left none p q r =
    judged_at v defect c lines held a d left none (WhereTold-then a b d p q (λ x y z t u. opens defect c lines x y z t u)) r

-- the input ended with the script's separator
pub nothing_at : (v : Verdict) (defect : Option Fault) (c : Config) (lines : List Line) (held : List ℕ) (a b left : Option (List ℕ)) → WhereTold a b (Begins c)
    → WhereTold b (prepend_known held left) (IsAll (claim_at c.shape first_mark) (claim lines [])) → VerdictGives (Ok v) (trace_of c.shape (started c defect) lines) (Some []) (Some [])
    → WhereTold a left (GivesAt (end_of (Ok v)) (verifying defect) (judged_so (Ok v) (replayed c defect lines)))
nothing_at (verdict.Same count) defect c lines held a b left p q r =
    told_through a b held left _ p q (λ x y z t h. (
      ap (verifying defect Finished) t.taken ∙ begins-verifying defect c x y t Finished y ∙ ap (claim_gives c defect Finished) h.read
          ∙ same_is count (replayed c defect lines) (first_other_line (replayed c defect lines).text []) r.0 r.1.0,
      nothing_behind held z h.all,
    ))
nothing_at (verdict.Differs line) defect c lines held a b left p q r =
    told_through a b held left _ p q (λ x y z t h.
    ap (verifying defect Finished) t.taken ∙ begins-verifying defect c x y t Finished y ∙ ap (claim_gives c defect Finished) h.read ∙ ap (judged_by (replayed c defect lines)) r)

-- ---- how it is told

sure_caused : (v : Verdict) (source source' : ℕ) → source' ≡ source → VerdictCaused (Ok v) source source'
sure_caused v source source' same = same

caused_end : (v : Result Verdict StreamFailed) (source source' : ℕ) → VerdictCaused v source source' → EndCaused (end_of v) source source'
caused_end (Ok (verdict.Same count)) source source' cause = cause
caused_end (Ok (verdict.Differs line)) source source' cause = cause
caused_end (Err failed) source source' cause = cause

-- it was told whole
whole_verdict : (v : Result Verdict StreamFailed) (defect : Option Fault) (replay : Outcome) (old new : Board) (a left h h' : Option (List ℕ)) (was tape' : Option (List Touch)) (source source' : ℕ)
    → WhereTold a left (GivesAt (end_of v) (verifying defect) (judged_so v replay)) → Appends h h' (verdict_said v) → BoardIs replay.after old new was tape'
    → JobGives (verdict_how v) (verifying defect) old new source source' (change a left h h' was tape')
whole_verdict (Ok (verdict.Same count)) defect replay old new a left h h' was tape' source source' is written board =
    whole_job (end.Whole 0) (verifying defect) (judged_so (Ok (verdict.Same count)) replay) old new source source' a left h h' was tape' refl is written board
whole_verdict (Ok (verdict.Differs line)) defect replay old new a left h h' was tape' source source' is written board =
    record { outcome = judged_so (Ok (verdict.Differs line)) replay; status = refl; written = written; is = is; board = board }
whole_verdict (Err failed) defect replay old new a left h h' was tape' source source' is written board =
    whole_job end.Broken (verifying defect) (judged_so (Err failed) replay) old new source source' a left h h' was tape' refl is written board

-- the board is that behind the replay
board_at : (v : Result Verdict StreamFailed) (defect : Option Fault) (c : Config) (lines : List Line) (m m' : Machine) (left left' : Option (List ℕ)) (old : Board) (was tape tape' : Option (List Touch))
    → m ≡ started c defect → tape ≡ Some [] → Judges v c.shape lines m m' left left' tape tape' → BoardIs (replayed c defect lines).after old m'.board was tape'
board_at v defect c lines m m' left left' old was tape tape' e t judges =
    let here = subst (λ (n : Machine). Judges v c.shape lines n m' left left' tape tape') e judges in
    (ap (λ (n : Machine). n.board) here.after, subst (λ (z : Option (List Touch)). Logs z tape' (steps_touches (played (started c defect) lines).steps)) t here.taped)

-- what came of a replay that was compared
verdict_job : (v : Result Verdict StreamFailed) (result : Status) (defect : Option Fault) (replay : Outcome) (old new : Board) (a left h h' : Option (List ℕ)) (was tape' : Option (List Touch)) (source source' sink sink' : ℕ)
    → WhereTold a left (GivesAt (end_of v) (verifying defect) (judged_so v replay)) → BoardIs replay.after old new was tape' → VerdictCaused v source source'
    → Told result (verdict_how v) (verdict_said v) h h' sink sink' → JobGives result (verifying defect) old new source source' (change a left h h' was tape')
verdict_job v result defect replay old new a left h h' was tape' source source' sink sink' is board cause (inl t) =
    subst (λ (s : Status). JobGives s (verifying defect) old new source source' (change a left h h' was tape')) (sym t.0)
    (whole_verdict v defect replay old new a left h h' was tape' source source' is t.1.written board)
verdict_job v result defect replay old new a left h h' was tape' source source' sink sink' is board cause (inr t) =
    subst (λ (s : Status). JobGives s (verifying defect) old new source source' (change a left h h' was tape')) (sym t.0)
    (cut_job (end_of v) (verifying defect) (judged_so v replay) old new source source' a left h h' was tape' is (caused_end v source source' cause) t.1.written
    (cut_after (judged_so v replay) old new a left h h' was tape' (verdict_said v) refl t.1.written board))

trace_at : (v : Result Verdict StreamFailed) (shape : Shape) (lines : List Line) (m m' n : Machine) (left left' : Option (List ℕ)) (tape tape' : Option (List Touch)) → m ≡ n → Judges v shape lines m m' left left' tape tape'
    → VerdictGives v (trace_of shape n lines) left left'
trace_at v shape lines m m' n left left' tape tape' e judges = subst (λ (k : Machine). VerdictGives v (trace_of shape k lines) left left') e judges.compares

-- a text behind the script was compared with its trace
pub text_gives : (v : Result Verdict StreamFailed) (result : Status) (defect : Option Fault) (c : Config) (kept : Kept) (bytes : List ℕ) (m m' : Machine) (held : List ℕ) (a b d left h h' : Option (List ℕ)) (old : Board)
    (was tape tape' : Option (List Touch)) (source source' sink sink' : ℕ) → kept.follows ≡ follows.Lines → m ≡ started c defect → tape ≡ Some [] → OnErr v (held ≡ []) → WhereTold a b (Begins c)
    → (keeps : Keeps c.shape kept bytes b d) → Judges v c.shape keeps.lines m m' d (prepend_known held left) tape tape' → VerdictCaused v source source' → Told result (verdict_how v) (verdict_said v) h h' sink sink'
    → JobGives result (verifying defect) old m'.board source source' (change a left h h' was tape')
text_gives v result defect c kept bytes m m' held a b d left h h' old was tape tape' source source' sink sink' f e t none p keeps judges cause told =
    let lines = keeps.lines in
    let claims = subst (λ (k : Follows). WhereTold b d (ClaimsBehind k c.shape first_mark lines)) f keeps.claim in
    verdict_job v result defect (replayed c defect lines) old m'.board a left h h' was tape' source source' sink sink'
    (text_at v defect c lines held a b d left none p claims (trace_at v c.shape lines m m' (started c defect) d (prepend_known held left) tape tape' e judges))
    (board_at v defect c lines m m' d (prepend_known held left) old was tape tape' e t judges) cause told

-- no text follows the script
pub nothing_gives : (v : Verdict) (result : Status) (defect : Option Fault) (c : Config) (kept : Kept) (bytes : List ℕ) (m m' : Machine) (held : List ℕ) (a b left h h' : Option (List ℕ)) (old : Board)
    (was tape tape' : Option (List Touch)) (source source' sink sink' : ℕ) → kept.follows ≡ follows.Nothing → m ≡ started c defect → tape ≡ Some [] → WhereTold a b (Begins c)
    → (keeps : Keeps c.shape kept bytes b (prepend_known held left)) → Judges (Ok v) c.shape keeps.lines m m' (Some []) (Some []) tape tape' → source' ≡ source
    → Told result (verdict_how (Ok v)) (verdict_said (Ok v)) h h' sink sink' → JobGives result (verifying defect) old m'.board source source' (change a left h h' was tape')
nothing_gives v result defect c kept bytes m m' held a b left h h' old was tape tape' source source' sink sink' f e t p keeps judges same told =
    let lines = keeps.lines in
    let claims = subst (λ (k : Follows). WhereTold b (prepend_known held left) (ClaimsBehind k c.shape first_mark lines)) f keeps.claim in
    verdict_job (Ok v) result defect (replayed c defect lines) old m'.board a left h h' was tape' source source' sink sink'
    (nothing_at v defect c lines held a b left p claims (trace_at (Ok v) c.shape lines m m' (started c defect) (Some []) (Some []) tape tape' e judges))
    (board_at (Ok v) defect c lines m m' (Some []) (Some []) old was tape tape' e t judges) (sure_caused v source source' same) told
