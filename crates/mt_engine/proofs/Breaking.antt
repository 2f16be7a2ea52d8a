-- A test that is broken off.
use Rattle.std.proofs.Common.{ℕ, ◌≡◌, ◌+◌, ◌<◌, ◌≤◌, Bool, true, false, List, take, length, length-take-le, refl, arith, ap, sym, ◌∙◌}
use Rattle.std.specs.Prelude.{not, ◌&&◌, ◌||◌, nat_le, nat_lt, min, if◌then◌else◌}
use Rattle.std.proofs.lemmas.Bool.{and_parts, le-leb, lt-ltb, le-ltb, ltb-true}
use Rattle.mt_plan.specs.declared.algorithm.Policy.{Policy}
use Rattle.mt_plan.specs.declared.algorithm.Policy.TheVariants.{NonDestructive, Destructive}
use Rattle.mt_plan.specs.Plan.{steps_of}
use Rattle.mt_seq.specs.Attempts.{keeps_words}
use Rattle.mt_engine.specs.declared.plan.Plan.{Plan}
use Rattle.mt_engine.specs.declared.test.Moment.{Moment}
use Rattle.mt_engine.specs.Testing.{Testing, testing, broken_off, ending_from, may_break_off, saved_count}

pub keeps : (policy : Policy) → keeps_words policy ≡ true → policy ≡ NonDestructive
keeps NonDestructive h = refl
keeps Destructive h = cc

-- a test that may be broken off keeps the words, and the writes that end it have not begun
pub may_keeps : (t : Testing) → may_break_off t ≡ true → t.known.job.policy ≡ NonDestructive
unfolding may_break_off
may_keeps t may = keeps t.known.job.policy (and_parts (not t.broken) (keeps_words t.known.job.policy) (and_parts _ _ may).0).1

pub may_early : (t : Testing) → may_break_off t ≡ true → t.known.made < ending_from t.known
unfolding may_break_off
may_early t may = ltb-true t.known.made (ending_from t.known) (and_parts _ _ may).1

-- all words are saved on both sides
pub count_stays : (policy : Policy) (n a b : ℕ) → n ≤ a → n ≤ b → saved_count policy n a ≡ saved_count policy n b
count_stays NonDestructive n a b h g = omega arith
count_stays Destructive n a b h g = refl

-- the moment at which it goes on
pub moved : (plan : Plan) (at : Moment) (to : ℕ) (places : List ℕ) → plan.slice.n < at.made → to ≡ plan.slice.n + length (steps_of plan.job.alg plan.slice.n)
    → testing plan (record { made = to; differs = at.differs; broken = true }) places ≡ broken_off (testing plan at places)
moved plan at to places later e =
    let place : (if nat_lt plan.slice.n at.made then plan.slice.n + length (steps_of plan.job.alg plan.slice.n) else at.made) ≡ to =
    ap (λ (b : Bool). if b then plan.slice.n + length (steps_of plan.job.alg plan.slice.n) else at.made) (lt-ltb plan.slice.n at.made later) ∙ sym e in
    ap (λ (k : ℕ). let t : Testing = testing plan (record { made = to; differs = at.differs; broken = true }) places in
    record t { known = record t.known { saved = take k places } }) (count_stays plan.job.policy plan.slice.n to at.made (omega arith) (omega arith))
    ∙ ap (λ (m : ℕ). let t : Testing = testing plan at places in record t { broken = true; known = record t.known { made = m } }) (sym place)

pub stayed : (plan : Plan) (at : Moment) (places : List ℕ) → at.made ≤ plan.slice.n
    → testing plan (record { made = at.made; differs = at.differs; broken = true }) places ≡ broken_off (testing plan at places)
stayed plan at places early =
    ap (λ (m : ℕ). let t : Testing = testing plan at places in record t { broken = true; known = record t.known { made = m } })
    (sym (ap (λ (b : Bool). if b then plan.slice.n + length (steps_of plan.job.alg plan.slice.n) else at.made) (le-ltb plan.slice.n at.made early)))

pub placed : (policy : Policy) (to n from : ℕ) (early : Bool) → policy ≡ NonDestructive → nat_le from to ≡ true → (keeps_words policy && (early || nat_le from to)) ≡ true
placed NonDestructive to n from true keeps late = refl
placed NonDestructive to n from false keeps late = late
placed Destructive to n from early keeps late = cc

pub placed_early : (policy : Policy) (made n : ℕ) (late : Bool) → policy ≡ NonDestructive → made ≤ n → (keeps_words policy && (nat_le made n || late)) ≡ true
placed_early NonDestructive made n late keeps h = ap (λ (b : Bool). b || late) (le-leb made n h)
placed_early Destructive made n late keeps h = cc

pub saved_long : (policy : Policy) (n made : ℕ) (places : List ℕ) → n ≤ length places → length (take (saved_count policy n made) places) ≡ saved_count policy n made
saved_long NonDestructive n made places h = length-take-le (min made n) places (omega arith)
saved_long Destructive n made places h = grind arith

pub unbroken : (b : Bool) → not b ≡ false → b ≡ true
unbroken true h = refl
unbroken false h = cc
