-- How long attempts are, and what is due at their end.
use Rattle.std.proofs.Common.{ℕ, zero, suc, ◌≡◌, ◌+◌, ◌-◌, ◌<◌, ◌≤◌, ◌⊎◌, Bool, true, false, List, [], ◌∷◌, take, length, get_or, length-append, append-nil, refl, arith, ap, sym, ◌∙◌, subst, Option, Some, None, inl, inr}
use Rattle.std.specs.Prelude.{All, nat_lt, nat_le, if◌then◌else◌, ◌&&◌, find}
use Rattle.std.specs.List.{range_with_len}
use Rattle.std.proofs.lemmas.Bool.{cases_lt, lt-ltb, le-ltb, le-leb, lt-leb}
use Rattle.std.proofs.lemmas.List.{length-map, length-take}
use Rattle.mt_plan.specs.Plan.{hold_of, steps_of}
use Rattle.mt_plan.specs.declared.algorithm.Policy.{Policy}
use Rattle.mt_plan.specs.declared.algorithm.Policy.TheVariants.{NonDestructive, Destructive}
use Rattle.mt_port.specs.declared.request.Request.{Request}
use Rattle.mt_port.specs.Board.{Board, is_urgent_due}
use Rattle.mt_seq.specs.declared.sequence.Slice.{Slice}
use Rattle.mt_seq.specs.declared.sequence.Job.{Job}
use Rattle.mt_seq.specs.Attempts.{attempt, attempt_to, attempt_length, attempt_touches, attempt_verdict, backed_out, dropped_at, keeps_words, verdict_to}
use Rattle.mt_seq.specs.Tape.{touch_of}
use Rattle.mt_seq.specs.Laws.{length_to, AttemptsAreCounted, AttemptsAreShort, AttemptsAreTold, NoAttemptIsEmpty, DroppedAttemptsServe, UrgentWaitsAreShort}
use Rattle.mt_seq.specs.Sequence.{saved_words, ending, sequence, sequence_hold}
use Rattle.mt_seq.proofs.Attempts.{IsDropped, dropped, hold_length, keeping_hold, urgent}
use Rattle.mt_seq.proofs.Lengths.{length-ending}
use Rattle.mt_seq.proofs.Moments.{not_found}

pub backed_out_long : (b : Board) (job : Job) (slice : Slice) (i : ℕ) → i ≤ sequence_hold job slice.n → length (backed_out b job slice i) ≡ (if nat_lt slice.n i then i + slice.n else i)
backed_out_long b job slice i h =
    let saved : List ℕ = saved_words job.policy b.fault b.words slice in
    let front : length (take i (sequence b job slice)) ≡ i = omega (arith, length-take i (sequence b job slice), hold_length b job slice) in
    elim (cases_lt slice.n i) [
      | inl many ↦ (let yes' : nat_lt slice.n i ≡ true = lt-ltb _ _ many in rw yes' (omega (arith, length-append (take i (sequence b job slice)) (ending job slice saved), length-ending job slice saved)))
      | inr few ↦ (let no' : nat_lt slice.n i ≡ false = le-ltb _ _ few in rw no' (ap length (append-nil (take i (sequence b job slice))) ∙ front))
    ]

short : (may : Bool) (b : Board) (job : Job) (slice : Slice) (i : ℕ) → IsDropped may b job slice i → i + slice.n ≤ sequence_hold job slice.n
short may b job slice i is = omega (arith, is.first.to, is.first.from, keeping_hold job slice.n is.keeps)

pub attempts_are_counted : AttemptsAreCounted
unfolding attempt_length attempt
attempts_are_counted may b job slice = by_drop (dropped_at may b job slice) refl
  where
    by_drop : (o : Option ℕ) → dropped_at may b job slice ≡ o → length (attempt_to b job slice o) ≡ length_to job slice.n o
    by_drop None e = hold_length b job slice
    by_drop (Some i) e = backed_out_long b job slice i (omega (arith, short may b job slice i (dropped may b job slice i e)))

-- the length between two bounds
bounds : (n i : ℕ) → (i ≤ (if nat_lt n i then i + n else i)) × ((if nat_lt n i then i + n else i) ≤ i + n)
bounds n i =
    elim (cases_lt n i) [
      | inl many ↦ (let yes' : nat_lt n i ≡ true = lt-ltb _ _ many in rw yes' (omega arith, omega arith))
      | inr few ↦ (let no' : nat_lt n i ≡ false = le-ltb _ _ few in rw no' (omega arith, omega arith))
    ]

pub attempts_are_short : AttemptsAreShort
attempts_are_short may b job slice = subst (λ (k : ℕ). k ≤ sequence_hold job slice.n) (sym (attempts_are_counted may b job slice)) (by_drop (dropped_at may b job slice) refl)
  where
    by_drop : (o : Option ℕ) → dropped_at may b job slice ≡ o → length_to job slice.n o ≤ sequence_hold job slice.n
    by_drop None e = omega arith
    by_drop (Some i) e = omega (arith, short may b job slice i (dropped may b job slice i e), (bounds slice.n i).1)

pub hold_some : (job : Job) (n : ℕ) → n ≤ sequence_hold job n
unfolding sequence_hold
hold_some job n = by_policy job.policy
  where
    by_policy : (p : Policy) → n ≤ hold_of job.alg p n
    by_policy NonDestructive = omega arith
    by_policy Destructive = omega arith

pub no_attempt_is_empty : NoAttemptIsEmpty
no_attempt_is_empty may b job slice some = subst (λ (k : ℕ). 1 ≤ k) (sym (attempts_are_counted may b job slice)) (by_drop (dropped_at may b job slice) refl)
  where
    by_drop : (o : Option ℕ) → dropped_at may b job slice ≡ o → 1 ≤ length_to job slice.n o
    by_drop None e = omega (arith, hold_some job slice.n, some)
    by_drop (Some i) e = omega (arith, (dropped may b job slice i e).first.from, (bounds slice.n i).0)

pub attempts_are_told : AttemptsAreTold
unfolding attempt_length attempt_touches
attempts_are_told may b job slice = length-map (attempt may b job slice) touch_of

-- ---- what is due stays due

due_later : (u : Bool) (offset c d : ℕ) → c ≤ d → (u && nat_le offset c) ≡ true → (u && nat_le offset d) ≡ true
due_later false offset c d h e = e
due_later true offset c d h e =
    elim (cases_lt c offset) [
      | inl late ↦ (let no' : nat_le offset c ≡ false = lt-leb _ _ late in let bad : false ≡ true = sym no' ∙ e in cc)
      | inr at ↦ le-leb offset d (omega arith)
    ]

either : (b : Bool) → (b ≡ true) ⊎ (b ≡ false)
either true = inl refl
either false = inr refl

any_later : (left : List Request) (c d : ℕ) → c ≤ d → is_urgent_due c left ≡ true → is_urgent_due d left ≡ true
any_later [] c d h e = e
any_later (r ∷ rs) c d h e =
    elim (either (r.urgent && nat_le r.offset c)) [
      | inl here ↦ (let now' : (r.urgent && nat_le r.offset d) ≡ true = due_later r.urgent r.offset c d h here in rw now' refl)
      | inr none ↦ (let more : is_urgent_due d rs ≡ true = any_later rs c d h (rw none at e) in
          elim (either (r.urgent && nat_le r.offset d)) [
            | inl yes' ↦ rw yes' refl
            | inr no' ↦ rw no' more
          ])
    ]

pub dropped_serve : DroppedAttemptsServe
unfolding attempt_verdict
dropped_serve may b job slice verdict =
    subst (λ (k : ℕ). is_urgent_due (b.count + k) b.left ≡ true) (sym (attempts_are_counted may b job slice)) (by_drop (dropped_at may b job slice) refl verdict)
  where
    by_drop : (o : Option ℕ) → dropped_at may b job slice ≡ o → verdict_to b job slice o ≡ None → is_urgent_due (b.count + length_to job slice.n o) b.left ≡ true
    by_drop None e v = cc
    by_drop (Some i) e v = any_later b.left (b.count + i) (b.count + length_to job slice.n (Some i)) (omega (arith, (bounds slice.n i).0)) (dropped may b job slice i e).first.here

-- ---- an urgent request waits shortly

not_due : (u : Bool) (offset c : ℕ) → (u && nat_le offset c) ≡ false → u ≡ true → c < offset
not_due false offset c e f = cc
not_due true offset c e f =
    elim (cases_lt c offset) [ inl lt ↦ lt | inr le ↦ (let yes' : nat_le offset c ≡ true = le-leb _ _ le in let bad : true ≡ false = sym yes' ∙ e in cc) ]

none_due : (left : List Request) (c : ℕ) → is_urgent_due c left ≡ false → All (λ (r : Request). r.urgent ≡ true → c < r.offset) left
none_due [] c e k d h = absurd (omega arith)
none_due (r ∷ rs) c e zero d h =
    elim (either (r.urgent && nat_le r.offset c)) [
      | inl yes' ↦ (let bad : true ≡ false = rw yes' at e in cc)
      | inr no' ↦ not_due r.urgent r.offset c no'
    ]
none_due (r ∷ rs) c e (suc k) d h =
    elim (either (r.urgent && nat_le r.offset c)) [
      | inl yes' ↦ (let bad : true ≡ false = rw yes' at e in cc)
      | inr no' ↦ none_due rs c (rw no' at e) k d (omega arith)
    ]

not_dropped : (b : Board) (job : Job) (slice : Slice) → job.policy ≡ NonDestructive → dropped_at true b job slice ≡ None → find (urgent b) (range_with_len 1 (slice.n + length (steps_of job.alg slice.n) - 1)) ≡ None
unfolding dropped_at
not_dropped b job slice keeps e =
    sym (ap (λ (p : Policy). if true && keeps_words p then find (urgent b) (range_with_len 1 (slice.n + length (steps_of job.alg slice.n) - 1)) else None) keeps) ∙ e

pub urgent_waits_are_short : UrgentWaitsAreShort
urgent_waits_are_short b job slice keeps above k d h = λ is.
    subst (λ (m : ℕ). b.count + m ≤ (get_or b.left k d).offset + slice.n) (sym (attempts_are_counted true b job slice)) (by_drop (dropped_at true b job slice) refl is)
  where
    by_drop : (o : Option ℕ) → dropped_at true b job slice ≡ o → (get_or b.left k d).urgent ≡ true → b.count + length_to job slice.n o ≤ (get_or b.left k d).offset + slice.n
    by_drop None e is =
        let last : ℕ = slice.n + length (steps_of job.alg slice.n) - 1 in
        let first : b.count < (get_or b.left k d).offset = above k d h is in
        let hold = keeping_hold job slice.n keeps in
        elim (cases_lt 0 last) [
          | inl some ↦ (let late : b.count + last < (get_or b.left k d).offset =
              none_due b.left (b.count + last) (not_found (urgent b) 1 last (not_dropped b job slice keeps e) last some (omega arith)) k d h is in omega arith)
          | inr none ↦ omega arith
        ]
    by_drop (Some i) e is =
        let drop = dropped true b job slice i e in
        let first : b.count < (get_or b.left k d).offset = above k d h is in
        elim (cases_lt 1 i) [
          | inl later ↦ (let late : b.count + (i - 1) < (get_or b.left k d).offset =
              none_due b.left (b.count + (i - 1)) (drop.first.before (i - 1) (omega arith) (omega arith)) k d h is in omega (arith, (bounds slice.n i).1))
          | inr once ↦ omega (arith, drop.first.from, (bounds slice.n i).1)
        ]
