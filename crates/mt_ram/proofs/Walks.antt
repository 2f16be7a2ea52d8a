-- The next slice of a walk, and the begin of a test.
use Rattle.std.proofs.Common.{ℕ, Bool, suc, ◌*◌, ◌-◌, ◌<◌, ◌≤◌, ◌≡◌, List, [], ◌∷◌, take, length, Option, Some, None, refl, sym, ap, ◌∙◌, subst, arith}
use Rattle.std.proofs.lemmas.List.{length-take-le}
use Rattle.mt_port.specs.Board.{IsWithinLimits}
use Rattle.mt_plan.specs.Plan.{IsAccepted}
use Rattle.mt_seq.specs.Laws.{SequencesAreShort}
use Rattle.mt_seq.specs.Sequence.{sequence_hold}
use Rattle.mt_window.specs.declared.reply.Refusal.{Refusal}
use Rattle.mt_window.specs.Rows.{Refuses, Runs, work_in, inside_of, back_from, reply_in}
use Rattle.mt_blocks.specs.declared.span.Span.{Span}
use Rattle.mt_blocks.specs.declared.pass.Position.{Position}
use Rattle.mt_blocks.specs.declared.config.ParamSet.{ParamSet}
use Rattle.mt_blocks.specs.Slices.{Piece, IsValid, from_place, from_next, piece_at, next_of, or_start, test_from, test_rest, next_in}
use Rattle.mt_blocks.specs.Laws.{GoesOn, PassesGoOn, word_count}
use Rattle.mt_blocks.specs.Accepted.{IsAcceptedSet}
use Rattle.mt_ram.specs.declared.state.State.{State}
use Rattle.mt_ram.specs.declared.state.State.TheVariants.{Partial}
use Rattle.mt_ram.specs.declared.test_walk.Test.{Test}
use Rattle.mt_ram.specs.declared.test_walk.TestWalk.{TestWalk}
use Rattle.mt_ram.specs.declared.pass_walk.PassWalk.{PassWalk}
use Rattle.mt_ram.specs.State.{RamTst, IsPlace, IsFailureOfPass, set_of, spans_in, piece_in}
use Rattle.mt_ram.specs.Table.{RamCell, row, in_state}
use Rattle.mt_ram.specs.Event.{job_of}
use Rattle.mt_ram.specs.PassWalks.{IsPassWalk, left_in_pass}
use Rattle.mt_ram.specs.TestWalks.{IsTestWalk, CanGoBack, Enters, service_of, is_whole, left_in_test, refused_walk, begun_walk, state_behind}
use Rattle.mt_ram.proofs.Sets.{accepted_spans}

-- the front of a pass is the slice at its position, and then the front from the next one on
record Fronts (K : ℕ) (spans : List Span) (p : Position) (len : ℕ) : Type 0 where
  split : take len (from_place K spans p) ≡ piece_at K spans p ∷ take (len - 1) (from_place K spans (or_start (next_of K spans p)))
  few : len - 1 ≤ length (from_place K spans (or_start (next_of K spans p)))

record Rests (K : ℕ) (spans : List Span) (m : ℕ) (next : Option Position) : Type 0 where
  same : take m (from_next K spans next) ≡ take m (from_place K spans (or_start next))
  few : m ≤ length (from_place K spans (or_start next))

rests : (K : ℕ) (spans : List Span) (m : ℕ) (next : Option Position) → m ≤ length (from_next K spans next) → Rests K spans m next
rests K spans m None h =
    let none : m ≡ 0 = omega arith in
    record {
      same = ap (λ (k : ℕ). take k []) none ∙ sym (ap (λ (k : ℕ). take k (from_place K spans (or_start None))) none);
      few = omega arith;
    }
rests K spans m (Some p) h = record { same = refl; few = h }

fronts : (K : ℕ) (spans : List Span) (p : Position) (len : ℕ) → GoesOn K spans p → 0 < len → len ≤ length (from_place K spans p) → Fronts K spans p len
fronts K spans p len goes some few =
    let m = len - 1 in
    let one : len ≡ suc m = omega arith in
    let rest = from_next K spans (next_of K spans p) in
    let long : length (from_place K spans p) ≡ suc (length rest) = ap (λ (l : List Piece). length l) goes.pass in
    let r = rests K spans m (next_of K spans p) (omega (arith, long)) in
    record {
      split = ap (λ (l : List Piece). take len l) goes.pass ∙ ap (λ (k : ℕ). take k (piece_at K spans p ∷ rest)) one ∙ ap (λ (l : List Piece). piece_at K spans p ∷ l) r.same;
      few = r.few;
    }

-- the next slice of a tick
pub record NextOfPass (w : PassWalk) (r : RamTst) : Type 0 where
  pub some : 0 < w.len
  pub valid : IsValid (set_of r).atomic (spans_in r) w.at
  pub split : left_in_pass w r ≡ piece_in r w.at ∷ take (w.len - 1) (from_place (set_of r).atomic (spans_in r) (or_start (next_of (set_of r).atomic (spans_in r) w.at)))
  pub few : w.len - 1 ≤ length (from_place (set_of r).atomic (spans_in r) (or_start (next_of (set_of r).atomic (spans_in r) w.at)))

pub next_of_pass : (w : PassWalk) (r : RamTst) → PassesGoOn → IsPassWalk w r → 0 < length (left_in_pass w r) → NextOfPass w r
next_of_pass w r go f some =
    let K = (set_of r).atomic in
    let spans = spans_in r in
    let any : 0 < w.len = omega (arith, length-take-le w.len (from_place K spans w.at) f.few, some) in
    let valid = f.valid any in
    let front = fronts K spans w.at w.len (go K spans w.at (accepted_spans r.setting.shape (set_of r) f.limits f.accepted) valid) any f.few in
    record { some = any; valid = valid; split = front.split; few = front.few }

-- a slice's accesses
pub hold_of_piece : SequencesAreShort → (r : RamTst) (at : Position) → IsAcceptedSet r.setting.shape (set_of r)
    → sequence_hold (job_of r (piece_in r at)) (piece_in r at).slice.n ≤ 262 * (piece_in r at).slice.n
hold_of_piece short r at ok =
    let accepted : IsAccepted (job_of r (piece_in r at)).alg = ok.accepted in
    short (job_of r (piece_in r at)) (piece_in r at).slice.n accepted (omega (arith, ok.atomic_small))

-- the next slice of a test
pub record NextOfTest (w : TestWalk) (r : RamTst) (at : Position) : Type 0 where
  pub valid : IsValid (set_of r).atomic (spans_in r) at
  pub goes : GoesOn (set_of r).atomic (spans_in r) at
  pub split : left_in_test w r ≡ piece_in r at ∷ test_rest (is_whole w.name) (set_of r).atomic (spans_in r) (next_in (is_whole w.name) (set_of r).atomic (spans_in r) at)

pub next_of_test : (w : TestWalk) (r : RamTst) (at : Position) → PassesGoOn → IsTestWalk w r → w.next ≡ Some at → NextOfTest w r at
next_of_test w r at go f is =
    let K = (set_of r).atomic in
    let spans = spans_in r in
    let valid = f.valid at is in
    let goes = go K spans at (accepted_spans r.setting.shape (set_of r) f.limits f.accepted) valid in
    record { valid = valid; goes = goes; split = ap (test_rest (is_whole w.name) K spans) is ∙ goes.test (is_whole w.name) }

pub first_is : (x y : Piece) (l m : List Piece) (k : List Piece) → k ≡ x ∷ l → k ≡ y ∷ m → x ≡ y
first_is x y l m k p q = cc

pub rest_is : (x y : Piece) (l m : List Piece) (k : List Piece) → k ≡ x ∷ l → k ≡ y ∷ m → l ≡ m
rest_is x y l m k p q = cc

-- a test that is refused
pub enters_refused : (name : Test) (r : RamTst) (why : Refusal) → IsWithinLimits r.setting.shape → IsAcceptedSet r.setting.shape (set_of r) → row r (service_of name) ≡ Refuses why
    → Enters name r r (refused_walk name why)
enters_refused name r why limits accepted e = record {
  callee = sym (ap (λ (c : RamCell). inside_of c r) e);
  setting = refl;
  named = refl;
  fits = record { limits = limits; accepted = accepted; valid = λ p h. cc; back = λ s h. cc };
  left = sym (ap (λ (c : RamCell). work_in c) e);
  failed = refl;
  few = omega arith;
  by = record { reply = λ made. sym (ap (λ (c : RamCell). reply_in c made) e); back = λ x. sym (ap (λ (c : RamCell). back_from c x) e) };
}

-- a test that begins
pub enters_begun : (name : Test) (r : RamTst) (from : Position) (inside back : State) (L : List Piece) → IsWithinLimits r.setting.shape → IsAcceptedSet r.setting.shape (set_of r)
    → row r (service_of name) ≡ Runs L (in_state inside) (in_state back) → IsValid (set_of r).atomic (spans_in r) from → test_from (is_whole name) (set_of r).atomic (spans_in r) from ≡ L
    → word_count L ≤ 65536 * 64 → CanGoBack (in_state inside r) back → Enters name r (in_state inside r) (begun_walk name from back)
enters_begun name r from inside back L limits accepted e valid all few place = record {
  callee = sym (ap (λ (c : RamCell). inside_of c r) e);
  setting = refl;
  named = refl;
  fits = record {
    limits = limits;
    accepted = accepted;
    valid = λ p h. subst (IsValid (set_of r).atomic (spans_in r)) (let same : from ≡ p = cc in same) valid;
    back = λ s h. subst (CanGoBack (in_state inside r)) (let same : back ≡ s = cc in same) place;
  };
  left = all ∙ sym (ap (λ (c : RamCell). work_in c) e);
  failed = refl;
  few = omega (arith, few, ap word_count all);
  by = record { reply = λ made. sym (ap (λ (c : RamCell). reply_in c made) e); back = λ x. sym (ap (λ (c : RamCell). back_from c x) e) };
}

-- the state after a partial test has the place of the suspended pass
pub place_behind : (set : ParamSet) (back : Option Position) → IsPlace set (Partial back) → IsPlace set (state_behind back)
place_behind set None h = tt
place_behind set (Some p) h = h

pub failure_behind : (back : Option Position) (failed : Bool) → IsFailureOfPass (Partial back) failed → IsFailureOfPass (state_behind back) failed
failure_behind None failed h = h
failure_behind (Some p) failed h = h
