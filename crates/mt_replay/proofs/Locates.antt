-- What `locate` gives, by what came of its lines.
use Rattle.std.proofs.Common.{ℕ, zero, suc, ◌≡◌, ◌<◌, arith, Bool, true, cond, inl, inr, List, [], ◌∷◌, ◌++◌, length, Option, Result, Ok, Err, refl, sym, ap, ◌∙◌, subst, append_assoc}
use Rattle.std.proofs.lemmas.List.Elements.{All-contains, All-filter, All-contains_itself, filter_passes}
use Rattle.std.proofs.lemmas.List.Kept.{AllPairs-filter}
use Rattle.std.specs.Prelude.{AllPairs, ◌≢◌, Contains, ◌↔◌, filter, slice_index_or}
use Rattle.mt_window.specs.Kept.{cond_case}
use Rattle.std.specs.Io.KnownBytes.{prepend_known}
use Rattle.mt_port.specs.Streams.{WhereTold}
use Rattle.mt_port.specs.Board.{Board}
use Rattle.mt_port.specs.declared.board.Touch.{Touch}
use Rattle.mt_port.specs.declared.board.Shape.{Shape}
use Rattle.mt_conf.specs.declared.config.Config.{Config}
use Rattle.mt_replay.specs.declared.locating.Stop.{Stop}
use Rattle.mt_replay.specs.declared.locating.Stop.TheVariants as stop
use Rattle.mt_replay.specs.declared.run.End.{End}
use Rattle.mt_replay.specs.declared.run.End.TheVariants as end
use Rattle.mt_replay.specs.declared.status.Status.{Status}
use Rattle.mt_replay.specs.Input.{Ending, Finished, Failed, cut, job_of}
use Rattle.mt_replay.specs.Locating.{Located, located}
use Rattle.mt_replay.specs.Locate.{found_faults, LocatingIsExact, stop_text, stop_status, lines_give, locating_by, locating}
use Rattle.mt_replay.specs.declared.refused.Refused.TheVariants as because
use Rattle.mt_fault.specs.declared.fault.Fault.{Fault}
use Rattle.mt_locate.specs.Moved.{IsFaultOfSlice}
use Rattle.mt_locate.specs.Explanations.{Explains}
use Rattle.mt_locate.specs.Listed.{faults_of, explains, explaining, FaultsOfTheSliceAreListed, FaultsAreListedOnce, ExplainsIsTested}
use Rattle.mt_conf.specs.Outcome.{outcome as config_of}
use Rattle.mt_conf.specs.declared.config.ConfigRefusal.{ConfigRefusal}
use Rattle.mt_replay.specs.Outcome.{Outcome, said, bad_config, judged_job}
use Rattle.mt_replay.specs.Changes.{change}
use Rattle.mt_replay.specs.Inner.Jobs.{Begins, BeginsEmpty}
use Rattle.mt_replay.specs.Inner.Locating.{Reader, IsAll, EndsBy, LocatedGives, EndCause, StopCause}
use Rattle.mt_replay.specs.Inner.Locates.{HasNone, StopTold, ListTold}
use Rattle.mt_replay.specs.Replay.{Outcomes, JobGives, StatusCaused, Told}
use Rattle.mt_replay.proofs.Accepted.{small}
use Rattle.mt_replay.proofs.Jobs.{AreJudged, GivesAt, told_through, told_behind, nothing_behind, whole_job, cut_job}

locating-is : (ending : Ending) (bytes : List ℕ) → locating ending bytes ≡ judged_job (locating_by ending) ending (job_of ending bytes)
unfolding locating
locating-is ending bytes = refl

pub locating-judged : AreJudged locating locating_by
locating-judged = record { is = locating-is; refusals = λ ending refusal behind. refl }

-- how the lines behind a configuration are read
abbrev pub reader_of : Config → Reader Located
reader_of c = located c.shape c.initial c.ram_tst.sets

begins-locating : (c : Config) (x y : List ℕ) (t : Begins c x y) (ending : Ending) (rest : List ℕ) → locating ending (t.front ++ rest) ≡ lines_give c.shape (reader_of c ending (cut rest))
begins-locating c x y t ending rest = locating-is ending (t.front ++ rest) ∙ t.is (locating_by ending) ending rest

-- all lines were taken
pub all_at : (c : Config) (l : Located) (held : List ℕ) (a b left : Option (List ℕ)) → WhereTold a b (Begins c) → WhereTold b (prepend_known held left) (IsAll (reader_of c) l)
    → WhereTold a left (GivesAt (end.Whole 0) locating (lines_give c.shape (Ok l)))
all_at c l held a b left p q =
    told_through a b held left _ p q (λ x y z t h. (
      ap (locating Finished) t.taken ∙ begins-locating c x y t Finished y ∙ ap (lines_give c.shape) h.read,
      nothing_behind held z h.all,
    ))

-- not all were taken
pub stop_at : (e : End) (c : Config) (held : List ℕ) (a b left : Option (List ℕ)) → (e ≡ end.Broken → held ≡ []) → WhereTold a b (Begins c) → WhereTold b (prepend_known held left) (EndsBy e (reader_of c))
    → WhereTold a left (GivesAt e locating (lines_give c.shape (Err e)))
stop_at (end.Whole count) c held a b left none p q = told_through a b held left _ p q (λ x y z t h. absurd h)
stop_at (end.Refused line code at) c held a b left none p q =
    told_through a b held left _ p q (λ x y z t h. ap (locating Finished) t.taken ∙ begins-locating c x y t Finished y ∙ ap (lines_give c.shape) h)
stop_at end.Broken c held a b left none p q =
    told_through a b held left _ p q (λ x y z t h. record {
      front = t.front ++ h.front;
      taken = t.taken ∙ ap (λ (l : List ℕ). t.front ++ l) (h.taken ∙ ap (λ (l : List ℕ). h.front ++ (l ++ z)) (none refl)) ∙ sym (append_assoc t.front h.front z);
      is = begins-locating c x y t Failed h.front ∙ ap (lines_give c.shape) h.read;
    })

-- no line follows the configuration
pub empty_at : (c : Config) (held : List ℕ) (a left : Option (List ℕ)) → WhereTold a (prepend_known held left) (BeginsEmpty c)
    → WhereTold a left (GivesAt (end.Refused 1 1 1) locating (lines_give c.shape (Err (end.Refused 1 1 1))))
empty_at c held a left p = told_behind a held left _ p (λ x z t. locating-is Finished x ∙ t.is (locating_by Finished))

-- ---- how it is told

pub stop_job : (e : End) (result : Status) (given : Outcomes) (board : Board) (tape : Option (List Touch)) (a left h h' : Option (List ℕ)) (source source' sink sink' : ℕ)
    → WhereTold a left (GivesAt e given (said (stop_text e) (stop_status e))) → EndCause e source source' → Told result (stop_status e) (stop_text e) h h' sink sink'
    → JobGives result given board board source source' (change a left h h' tape tape)
stop_job (end.Whole count) result given board tape a left h h' source source' sink sink' is cause told = absurd cause
stop_job (end.Refused line code at) result given board tape a left h h' source source' sink sink' is cause (inl t) =
    subst (λ (s : Status). JobGives s given board board source source' (change a left h h' tape tape)) (sym t.0)
    (whole_job (end.Refused line code at) given (said (stop_text (end.Refused line code at)) (stop_status (end.Refused line code at))) board board source source' a left h h' tape tape refl is t.1.written (refl, refl))
stop_job (end.Refused line code at) result given board tape a left h h' source source' sink sink' is cause (inr t) =
    subst (λ (s : Status). JobGives s given board board source source' (change a left h h' tape tape)) (sym t.0)
    (cut_job (end.Refused line code at) given (said (stop_text (end.Refused line code at)) (stop_status (end.Refused line code at))) board board source source' a left h h' tape tape is cause t.1.written (inl (refl, refl)))
stop_job end.Broken result given board tape a left h h' source source' sink sink' is cause (inl t) =
    subst (λ (s : Status). JobGives s given board board source source' (change a left h h' tape tape)) (sym t.0)
    (whole_job end.Broken given (said (stop_text end.Broken) (stop_status end.Broken)) board board source source' a left h h' tape tape refl is t.1.written (refl, refl))
stop_job end.Broken result given board tape a left h h' source source' sink sink' is cause (inr t) =
    subst (λ (s : Status). JobGives s given board board source source' (change a left h h' tape tape)) (sym t.0)
    (cut_job end.Broken given (said (stop_text end.Broken) (stop_status end.Broken)) board board source source' a left h h' tape tape is cause t.1.written (inl (refl, refl)))

-- nothing was told, for want of memory
pub none_job : (result : Status) (given : Outcomes) (board : Board) (tape : Option (List Touch)) (a left h h' : Option (List ℕ)) (source source' sink sink' : ℕ)
    → HasNone result h h' sink sink' → JobGives result given board board source source' (change a left h h' tape tape)
none_job result given board tape a left h h' source source' sink sink' n =
    subst (λ (s : Status). JobGives s given board board source source' (change a left h h' tape tape)) (sym n.none) (n.same, refl, refl)

pub list_job : (result : Status) (shape : Shape) (l : Located) (board : Board) (tape : Option (List Touch)) (a left h h' : Option (List ℕ)) (source source' sink sink' : ℕ)
    → WhereTold a left (GivesAt (end.Whole 0) locating (lines_give shape (Ok l))) → source' ≡ source → ListTold shape l result h h' sink sink'
    → JobGives result locating board board source source' (change a left h h' tape tape)
list_job result shape l board tape a left h h' source source' sink sink' is same (inl (inl t)) =
    subst (λ (s : Status). JobGives s locating board board source source' (change a left h h' tape tape)) (sym t.0)
    (whole_job (end.Whole 0) locating (lines_give shape (Ok l)) board board source source' a left h h' tape tape refl is t.1.written (refl, refl))
list_job result shape l board tape a left h h' source source' sink sink' is same (inl (inr t)) =
    subst (λ (s : Status). JobGives s locating board board source source' (change a left h h' tape tape)) (sym t.0)
    (cut_job (end.Whole 0) locating (lines_give shape (Ok l)) board board source source' a left h h' tape tape is same t.1.written (inl (refl, refl)))
list_job result shape l board tape a left h h' source source' sink sink' is same (inr n) = none_job result locating board tape a left h h' source source' sink sink' n

-- ---- causes

none-caused : (result : Status) (h h' : Option (List ℕ)) (source source' sink sink' : ℕ) → source' ≡ source → HasNone result h h' sink sink' → StatusCaused result source source' sink sink'
none-caused result h h' source source' sink sink' same n = subst (λ (s : Status). StatusCaused s source source' sink sink') (sym n.none) (same, n.count)

pub list_caused : (result : Status) (shape : Shape) (l : Located) (h h' : Option (List ℕ)) (source source' sink sink' : ℕ) → source' ≡ source → ListTold shape l result h h' sink sink'
    → StatusCaused result source source' sink sink'
list_caused result shape l h h' source source' sink sink' same (inl (inl t)) = subst (λ (s : Status). StatusCaused s source source' sink sink') (sym t.0) (same, t.1.same)
list_caused result shape l h h' source source' sink sink' same (inl (inr t)) = subst (λ (s : Status). StatusCaused s source source' sink sink') (sym t.0) (t.1.cause, inl same)
list_caused result shape l h h' source source' sink sink' same (inr n) = none-caused result h h' source source' sink sink' same n

pub end_caused : (e : End) (result : Status) (h h' : Option (List ℕ)) (source source' sink sink' : ℕ) → EndCause e source source' → Told result (stop_status e) (stop_text e) h h' sink sink'
    → StatusCaused result source source' sink sink'
end_caused (end.Whole count) result h h' source source' sink sink' cause told = absurd cause
end_caused (end.Refused line code at) result h h' source source' sink sink' cause (inl t) = subst (λ (s : Status). StatusCaused s source source' sink sink') (sym t.0) (cause, t.1.same)
end_caused (end.Refused line code at) result h h' source source' sink sink' cause (inr t) = subst (λ (s : Status). StatusCaused s source source' sink sink') (sym t.0) (t.1.cause, inl cause)
end_caused end.Broken result h h' source source' sink sink' cause (inl t) = subst (λ (s : Status). StatusCaused s source source' sink sink') (sym t.0) (cause, t.1.same)
end_caused end.Broken result h h' source source' sink sink' cause (inr t) = subst (λ (s : Status). StatusCaused s source source' sink sink') (sym t.0) (t.1.cause, inr cause)

pub stop_caused : (s : Stop) (result : Status) (h h' : Option (List ℕ)) (source source' sink sink' : ℕ) → StopCause s source source' → StopTold s result h h' sink sink' → StatusCaused result source source' sink sink'
stop_caused (stop.Ended e) result h h' source source' sink sink' cause told = end_caused e result h h' source source' sink sink' cause told
stop_caused stop.NoMemory result h h' source source' sink sink' cause told = none-caused result h h' source source' sink sink' cause told

-- all ends of the lines behind a configuration
pub stopped_gives : (s : Stop) (c : Config) (misses : List _) (result : Status) (board : Board) (tape : Option (List Touch)) (held : List ℕ) (a b left h h' : Option (List ℕ)) (source source' sink sink' : ℕ)
    → (s ≡ stop.Ended end.Broken → held ≡ []) → WhereTold a b (Begins c) → WhereTold b (prepend_known held left) (LocatedGives (Err s) (reader_of c) misses) → StopCause s source source'
    → StopTold s result h h' sink sink' → JobGives result locating board board source source' (change a left h h' tape tape)
stopped_gives (stop.Ended e) c misses result board tape held a b left h h' source source' sink sink' none p q cause told =
    stop_job e result locating board tape a left h h' source source' sink sink' (stop_at e c held a b left (λ is. none (ap stop.Ended is)) p q) cause told
stopped_gives stop.NoMemory c misses result board tape held a b left h h' source source' sink sink' none p q cause told = none_job result locating board tape a left h h' source source' sink sink' told

-- ---- exactness

-- an element that passes stays
filtered : {X : Type 0} (p : X → Bool) (xs : List X) (x : X) (k : ℕ) → k < length xs → slice_index_or xs k x ≡ x → p x ≡ true → Contains (filter p xs) x
filtered p [] x k lt e t = absurd (omega (arith, lt))
filtered {X} p (y ∷ xs) x zero lt e t =
    let passes : p y ≡ true = ap p e ∙ t in
    subst (λ (b : Bool). Contains (cond b (y ∷ filter p xs) (filter p xs)) x) (sym passes) (0, omega arith, e)
filtered {X} p (y ∷ xs) x (suc k) lt e t =
    let h = filtered p xs x k (omega (arith, lt)) e t in
    cond_case (λ (l : List X). Contains l x) (p y) (y ∷ filter p xs) (filter p xs) (suc h.0, (let low = h.1 in omega (arith, low)), h.2) h

-- a fault is among those that explain exactly where it is in the slice and explains
found-exact : FaultsOfTheSliceAreListed → ExplainsIsTested → (l : Located) (fault : Fault)
    → Contains (found_faults l) fault ↔ (IsFaultOfSlice l.probe.width l.probe.first l.probe.n fault × Explains l.probe l.misses fault)
unfolding explaining
found-exact listed tested l fault =
    let all = faults_of l.probe.width l.probe.first l.probe.n in
    let test = explains l.probe l.misses in (
      λ h. (
        (listed l.probe.width l.probe.first l.probe.n fault).0 (All-contains (Contains all) (filter test all) fault (All-filter test (Contains all) all (All-contains_itself all)) h),
        (tested l.probe l.misses fault).0 (All-contains (λ f. test f ≡ true) (filter test all) fault (filter_passes test all) h),
      ),
      λ h. let m = (listed l.probe.width l.probe.first l.probe.n fault).1 h.0 in filtered test all fault m.0 m.1 m.2 ((tested l.probe l.misses fault).1 h.1),
    )

found-once : FaultsAreListedOnce → (l : Located) → AllPairs ◌≢◌ (found_faults l)
unfolding explaining
found-once once l = AllPairs-filter ◌≢◌ (explains l.probe l.misses) (faults_of l.probe.width l.probe.first l.probe.n) (once l.probe.width l.probe.first l.probe.n)

pub locating-exact : FaultsOfTheSliceAreListed → ExplainsIsTested → FaultsAreListedOnce → LocatingIsExact
locating-exact listed tested once bytes text behind c l job is short read = (
  ap (λ (o : Outcome). o.text)
      (locating-is Finished bytes ∙ ap (judged_job (locating_by Finished) Finished) job
      ∙ ap (λ (b : Bool). cond b (bad_config (because.Rule 18)) (locating_by Finished (config_of text) behind)) (small (length text) short)
      ∙ ap (λ (r : Result Config ConfigRefusal). locating_by Finished r behind) is ∙ ap (lines_give c.shape) read),
  found-exact listed tested l,
  found-once once l,
)
