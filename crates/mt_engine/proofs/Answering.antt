-- What an answer adds to a test.
use Rattle.std.proofs.Common.{ℕ, ◌≡◌, ◌≢◌, ◌+◌, ◌^◌, ◌<◌, ◌≤◌, Bool, true, false, List, [], ◌∷◌, ◌++◌, take, length, refl, arith, ap, sym, ◌∙◌, subst, inl, inr, Some}
use Rattle.std.specs.Prelude.{not, ◌&&◌, ◌||◌, ◌==◌, nat_le, nat_lt, min, if◌then◌else◌, All, slice_set}
use Rattle.std.proofs.lemmas.Bool.{cases_lt, eqb-false, lt-ltb, le-ltb, le-leb, ltb-true, leb-true}
use Rattle.std.proofs.lemmas.List.{take_more_set}
use Rattle.std.proofs.lemmas.List.Elements.{All-push}
use Rattle.mt_word.specs.declared.Width.{Width}
use Rattle.mt_word.specs.Word.{Fits, width_bits}
use Rattle.mt_fault.specs.Items.{Item, Look, Check, Store}
use Rattle.mt_plan.specs.declared.algorithm.Policy.{Policy}
use Rattle.mt_plan.specs.declared.algorithm.Policy.TheVariants.{NonDestructive, Destructive}
use Rattle.mt_plan.specs.Plan.{steps_of}
use Rattle.mt_seq.specs.Attempts.{keeps_words}
use Rattle.mt_seq.specs.Sequence.{sequence_hold}
use Rattle.mt_seq.specs.Stepping.{item_at, stepped, saved_after, agreed, IsNoLook}
use Rattle.mt_seq.specs.Told.{known_after}
use Rattle.mt_engine.specs.declared.plan.Plan.{Plan}
use Rattle.mt_engine.specs.declared.test.Due.TheVariants.{Ended}
use Rattle.mt_engine.specs.declared.test.Moment.{Moment}
use Rattle.mt_engine.specs.Setup.{is_word}
use Rattle.mt_engine.specs.Testing.{Testing, IsTest, answered, asked, due, ending_of, is_no_answer, is_over, saved_count, saved_places, testing}
use Rattle.mt_engine.proofs.Breaking.{saved_long}

-- ---- what is due

pub over_due : (t : Testing) → is_over t ≡ true → due t ≡ Ended (ending_of t)
unfolding due
over_due t over = ap (λ (b : Bool). if b then Ended (ending_of t) else asked (item_at t.width t.known)) over

pub left_due : (t : Testing) (item : Item) → is_over t ≡ false → item_at t.width t.known ≡ Some item → due t ≡ asked (Some item)
unfolding due
left_due t item left at = ap (λ (b : Bool). if b then Ended (ending_of t) else asked (item_at t.width t.known)) left ∙ ap asked at

pub over_answered : (t : Testing) (word : ℕ) → is_over t ≡ true → t ≡ answered t word
unfolding answered
over_answered t word over = sym (ap (λ (b : Bool). if b then t else record t { known = known_after t.known (item_at t.width t.known) word }) over)

pub left_answered : (t : Testing) (item : Item) (word : ℕ) → is_over t ≡ false → item_at t.width t.known ≡ Some item → answered t word ≡ record t { known = stepped t.known item word }
unfolding answered
left_answered t item word left at =
    ap (λ (b : Bool). if b then t else record t { known = known_after t.known (item_at t.width t.known) word }) left
    ∙ ap (λ (o : Rattle.std.specs.Prelude.Option Item). record t { known = known_after t.known o word }) at

-- ---- the saved words

-- which accesses of a sequence are saving reads
pub record IsKind (policy : Policy) (n made addr : ℕ) (item : Item) : Type 0 where
  pub saving : policy ≡ NonDestructive → made < n → item ≡ Look addr
  pub behind : n ≤ made → IsNoLook item
  pub filling : policy ≡ Destructive → IsNoLook item

stays : (item : Item) (saved : List ℕ) (word : ℕ) → IsNoLook item → saved ≡ saved_after saved item word
stays (Look addr) saved word none = absurd none
stays (Check addr expected) saved word none = refl
stays (Store addr stored) saved word none = refl

pub saved_next : (policy : Policy) (n made addr : ℕ) (item : Item) (places : List ℕ) (word : ℕ) → n ≤ length places → IsKind policy n made addr item
    → take (saved_count policy n (made + 1)) (saved_places policy n made places word) ≡ saved_after (take (saved_count policy n made) places) item word
saved_next Destructive n made addr item places word room kind = stays item (take 0 places) word (kind.filling refl)
saved_next NonDestructive n made addr item places word room kind =
    elim (cases_lt made n) [
      | inl lt ↦ (
          let now : min made n ≡ made = omega arith in
          let next : min (made + 1) n ≡ made + 1 = omega arith in
          ap (λ (b : Bool). take (min (made + 1) n) (if b then slice_set places made word else places)) (lt-ltb made n lt)
          ∙ ap (λ (k : ℕ). take k (slice_set places made word)) next
          ∙ take_more_set places made word (omega arith)
          ∙ ap (λ (k : ℕ). take k places ++ word ∷ []) (sym now)
          ∙ ap (λ (i : Item). saved_after (take (min made n) places) i word) (sym (kind.saving refl lt)))
      | inr le ↦ (
          let same : min (made + 1) n ≡ min made n = omega arith in
          ap (λ (b : Bool). take (min (made + 1) n) (if b then slice_set places made word else places)) (le-ltb made n le)
          ∙ ap (λ (k : ℕ). take k places) same
          ∙ stays item (take (min made n) places) word (kind.behind le))
    ]

pub places_long : (policy : Policy) (n made : ℕ) (places : List ℕ) (word : ℕ) → length (saved_places policy n made places word) ≡ length places
places_long Destructive n made places word = refl
places_long NonDestructive n made places word = set_long (nat_lt made n)
  where
    set_long : (b : Bool) → length (if b then slice_set places made word else places) ≡ length places
    set_long true = grind (arith, Rattle.std.proofs.lemmas.Grind.common_steps)
    set_long false = refl

saved_fit : (width : Width) (item : Item) (saved : List ℕ) (word : ℕ) → All (Fits width) saved → is_no_answer (asked (Some item)) width word ≡ false → All (Fits width) (saved_after saved item word)
saved_fit width (Look addr) saved word fit answers = All-push (Fits width) saved word fit (ltb-true word (2 ^ width_bits width) (word_of (is_word width word) answers))
  where
    word_of : (b : Bool) → not b ≡ false → b ≡ true
    word_of true e = refl
    word_of false e = cc
saved_fit width (Check addr expected) saved word fit answers = fit
saved_fit width (Store addr stored) saved word fit answers = fit

-- ---- the moment behind an answer

-- the moment behind an answer of a plan's test
abbrev pub next_moment : Moment → Bool → Moment
next_moment at good = record { made = at.made + 1; differs = at.differs || not good; broken = at.broken }

pub moment_next : (plan : Plan) (at : Moment) (places : List ℕ) (word addr : ℕ) (item : Item) (good : Bool) → plan.slice.n ≤ length places
    → IsKind plan.job.policy plan.slice.n at.made addr item → good ≡ agreed item word
    → testing plan (next_moment at good) (saved_places plan.job.policy plan.slice.n at.made places word)
    ≡ record (testing plan at places) { known = stepped (testing plan at places).known item word }
moment_next plan at places word addr item good room kind agrees =
    ap (λ (l : List ℕ). let t : Testing = testing plan (next_moment at good) places in record t { known = record t.known { saved = l } })
    (saved_next plan.job.policy plan.slice.n at.made addr item places word room kind)
    ∙ ap (λ (g : Bool). let t : Testing = testing plan at places in record t {
      known = record t.known {
        made = at.made + 1;
        saved = saved_after t.known.saved item word;
        differs = at.differs || not g;
      };
    }) agrees

or_parts : (a b : Bool) → (a || b) ≡ false → (a ≡ false) × (b ≡ false)
or_parts true b h = cc
or_parts false b h = (refl, h)

-- a broken test with an access left stands at the writes that end it
later : (policy : Policy) (early late : Bool) → (keeps_words policy && (early || late)) ≡ true → early ≡ false → (keeps_words policy ≡ true) × (late ≡ true)
later NonDestructive true late h e = cc
later NonDestructive false late h e = (refl, h)
later Destructive early late h e = cc

pub test_next : (plan : Plan) (at : Moment) (places : List ℕ) (word addr : ℕ) (item : Item) (good : Bool) → plan.slice.n ≤ length places
    → IsKind plan.job.policy plan.slice.n at.made addr item → is_no_answer (asked (Some item)) plan.width word ≡ false
    → IsTest (testing plan at places) → is_over (testing plan at places) ≡ false
    → IsTest (testing plan (next_moment at good) (saved_places plan.job.policy plan.slice.n at.made places word))
test_next plan at places word addr item good room kind answers is left =
    let n : ℕ = plan.slice.n in
    let from : ℕ = n + length (steps_of plan.job.alg n) in
    let parts = or_parts (at.broken && nat_le at.made n) (at.made == sequence_hold plan.job n) left in
    let more : at.made ≢ sequence_hold plan.job n = eqb-false at.made (sequence_hold plan.job n) parts.1 in
    record {
      job = is.job;
      slice = is.slice;
      made = omega (arith, is.made, more);
      fit = subst (All (Fits plan.width)) (sym (saved_next plan.job.policy n at.made addr item places word room kind))
          (saved_fit plan.width item (take (saved_count plan.job.policy n at.made) places) word is.fit answers);
      saved = saved_long plan.job.policy n (at.made + 1) (saved_places plan.job.policy n at.made places word) (omega (arith, places_long plan.job.policy n at.made places word));
      broken = λ b.
          let early : nat_le at.made n ≡ false = ap (λ (x : Bool). x && nat_le at.made n) (sym b) ∙ parts.0 in
          let late = later plan.job.policy (nat_le at.made n) (nat_le from at.made) (is.broken b) early in
          keeps_late plan.job.policy (nat_le (at.made + 1) n) (nat_le from (at.made + 1)) late.0 (le-leb from (at.made + 1) (omega (arith, leb-true from at.made late.1)));
    }
  where
    keeps_late : (policy : Policy) (early late : Bool) → keeps_words policy ≡ true → late ≡ true → (keeps_words policy && (early || late)) ≡ true
    keeps_late NonDestructive true late k l = refl
    keeps_late NonDestructive false late k l = l
    keeps_late Destructive early late k l = cc
