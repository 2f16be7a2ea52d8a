-- What a replay over a source that does not fail, and a sink that begins empty, gives.
use Rattle.std.proofs.Common.{ℕ, ◌+◌, ◌-◌, ◌^◌, ◌<◌, ◌≤◌, ◌≡◌, ◌⊎◌, inl, inr, List, [], ◌∷◌, ◌++◌, length, take, min, Option, Some, None, refl, sym, ap, ◌∙◌, subst, arith, append-nil, length-append}
use Rattle.std.proofs.lemmas.List.{take-append-le}
use Rattle.std.specs.Io.KnownBytes.{Appends}
use Rattle.mt_fault.specs.declared.fault.Fault.{Fault}
use Rattle.mt_port.specs.Causes.{Rose}
use Rattle.mt_port.specs.Streams.{AppendsFront, WhereTold}
use Rattle.mt_port.specs.Board.{Board}
use Rattle.mt_port.specs.declared.board.Touch.{Touch}
use Rattle.mt_replay.specs.declared.form.Asked.{Asked}
use Rattle.mt_replay.specs.declared.form.Asked.TheVariants as asks
use Rattle.mt_replay.specs.declared.status.Status.{Status}
use Rattle.mt_replay.specs.declared.status.Status.TheVariants as status
use Rattle.mt_replay.specs.Input.{Ending, Finished, Failed}
use Rattle.mt_replay.specs.Outcome.{Outcome}
use Rattle.mt_replay.specs.Changes.{Change, change}
use Rattle.mt_replay.specs.Replay.{Replays, Outcomes, outcomes, JobGives, Concluded, Broken, Cutting, Told, SoakGives, IsDefined, StatusCaused, usage_text}
use Rattle.mt_replay.specs.Locate.{locating}
use Rattle.mt_replay.specs.Verify.{verifying}
use Rattle.mt_replay.specs.Soak.{soaked}
use Rattle.mt_page.specs.Answers.{given, Gives}

-- the streams before and after: all of a job was there, and nothing was written
abbrev over : (job rest text : List ℕ) (tape tape' : Option (List Touch)) → Change
over job rest text tape tape' = change (Some job) (Some rest) (Some []) (Some text) tape tape'

Some-inj : {xs ys : List ℕ} → Some xs ≡ Some ys → xs ≡ ys
Some-inj e = cc

never : Rose 0 0 → {A : Type 0} → A
never rose = absurd (omega (arith, rose))

-- ---- a job that is read to its end

whole : (all : Outcomes) (job rest text : List ℕ) (how : Status) (old new : Board) (tape tape' : Option (List Touch))
    → Concluded all how old new (over job rest text tape tape') → (how ≡ (all Finished job).status) × (text ≡ (all Finished job).text)
whole all job rest text how old new tape tape' c =
    (sym c.status ∙ sym (ap (λ (o : Outcome). o.status) c.is), c.written ∙ sym (ap (λ (o : Outcome). o.text) c.is))

front : (wanted text more : List ℕ) → AppendsFront (Some []) (Some text) wanted → (all : List ℕ) → all ≡ wanted ++ more
    → (count : ℕ) × (count < length all) × (text ≡ take count all)
front wanted text more a all e =
    let short : a.count < length (wanted ++ more) = grind (arith, a.proper, length-append wanted more) in (
      a.count,
      subst (λ (xs : List ℕ). a.count < length xs) (sym e) short,
      a.front ∙ sym (take-append-le a.count wanted more (omega (arith, a.proper))) ∙ ap (take a.count) (sym e),
    )

cut : (all : Outcomes) (job rest text : List ℕ) (old new : Board) (tape tape' : Option (List Touch))
    → Cutting all 0 0 old new (over job rest text tape tape') → (count : ℕ) × (count < length (all Finished job).text) × (text ≡ take count (all Finished job).text)
cut all job rest text old new tape tape' c = elim c.defined [
  | inl (same, e) ↦ front c.outcome.text text [] c.written _ (ap (λ (o : Outcome). o.text) e ∙ sym (append-nil c.outcome.text))
  | inr (rose, _, _, _) ↦ never rose
]

-- what a job's outcomes give, by the status
job_gives : (all : Outcomes) (how : Status) (job rest text : List ℕ) (sink sink' : ℕ) (old new : Board) (tape tape' : Option (List Touch))
    → JobGives how all old new 0 0 (over job rest text tape tape') → StatusCaused how 0 0 sink sink' → Gives how (all Finished job) text
job_gives all status.Done job rest text sink sink' old new tape tape' g caused = whole all job rest text _ old new tape tape' g.0
job_gives all (status.BadConfig code) job rest text sink sink' old new tape tape' g caused = whole all job rest text _ old new tape tape' g
job_gives all (status.BadScript line code place) job rest text sink sink' old new tape tape' g caused = whole all job rest text _ old new tape tape' g
job_gives all (status.Differs line) job rest text sink sink' old new tape tape' g caused = whole all job rest text _ old new tape tape' g
job_gives all status.ReadFault job rest text sink sink' old new tape tape' g caused = never caused.0
job_gives all status.WriteFault job rest text sink sink' old new tape tape' g caused = cut all job rest text old new tape tape' g
job_gives all status.NoMemory job rest text sink sink' old new tape tape' g caused = Some-inj g.0
job_gives all status.Usage job rest text sink sink' old new tape tape' g caused = absurd g

-- ---- the forms

-- one text alone, with a status that is no failure
told_done : (result : Status) (wanted text : List ℕ) (sink sink' : ℕ) (o : Outcome) → o.text ≡ wanted → o.status ≡ status.Done
    → Told result status.Done wanted (Some []) (Some text) sink sink' → Gives result o text
told_done result wanted text sink sink' o is how t = elim t [
  | inl (e, w) ↦ subst (λ (r : Status). Gives r o text) (sym e) (sym how, w.written ∙ sym is)
  | inr (e, f) ↦ subst (λ (r : Status). Gives r o text) (sym e) (front wanted text [] f.written o.text (is ∙ sym (append-nil wanted)))
]

told_usage : (result : Status) (text : List ℕ) (sink sink' : ℕ) (job : List ℕ)
    → Told result status.Usage usage_text (Some []) (Some text) sink sink' → Gives result (given None job) text
told_usage result text sink sink' job t = elim t [
  | inl (e, w) ↦ subst (λ (r : Status). Gives r (given None job) text) (sym e) (refl, w.written)
  | inr (e, f) ↦ subst (λ (r : Status). Gives r (given None job) text) (sym e) (front usage_text text [] f.written usage_text (sym (append-nil usage_text)))
]

soak_status : (number : ℕ) → (soaked number None).status ≡ status.Done
unfolding soaked
soak_status number = refl

soak_gives : (number : ℕ) (result : Status) (job rest text : List ℕ) (sink sink' : ℕ) (old new : Board) (tape tape' : Option (List Touch))
    → SoakGives result number None old new sink sink' (over job rest text tape tape') → Gives result (soaked number None) text
soak_gives number result job rest text sink sink' old new tape tape' g = elim g [
  | inl (t, _) ↦ told_done result (soaked number None).text text sink sink' (soaked number None) refl (soak_status number) t
  | inr l ↦ subst (λ (r : Status). Gives r (soaked number None) text) (sym l.none) (Some-inj l.written)
]

of_form : (asked : Option Asked) (how : Status) (job rest text : List ℕ) (sink sink' : ℕ) (old new : Board) (tape tape' : Option (List Touch))
    → Replays asked how None old new 0 0 sink sink' (over job rest text tape tape') → StatusCaused how 0 0 sink sink' → Gives how (given asked job) text
of_form (Some (asks.Job form)) how job rest text sink sink' old new tape tape' g caused = job_gives (outcomes form None) how job rest text sink sink' old new tape tape' g caused
of_form (Some asks.Locate) how job rest text sink sink' old new tape tape' g caused = job_gives locating how job rest text sink sink' old new tape tape' g caused
of_form (Some asks.Verify) how job rest text sink sink' old new tape tape' g caused = job_gives (verifying None) how job rest text sink sink' old new tape tape' g caused
of_form (Some (asks.Soak number)) how job rest text sink sink' old new tape tape' g caused = soak_gives number how job rest text sink sink' old new tape tape' g.0
of_form None how job rest text sink sink' old new tape tape' g caused = told_usage how text sink sink' job g.0

pub gives : (asked : Option Asked) (how : Status) (defect : Option Fault) (left rest held text : List ℕ) (sink sink' : ℕ) (old new : Board) (tape tape' : Option (List Touch)) (job : List ℕ)
    → defect ≡ None → left ≡ job → held ≡ []
    → Replays asked how defect old new 0 0 sink sink' (change (Some left) (Some rest) (Some held) (Some text) tape tape')
    → StatusCaused how 0 0 sink sink' → Gives how (given asked job) text
gives asked how defect left rest held text sink sink' old new tape tape' job d l h g caused =
    let sound = subst (λ (x : Option Fault). Replays asked how x old new 0 0 sink sink' (change (Some left) (Some rest) (Some held) (Some text) tape tape')) d g in
    let full = subst (λ (x : List ℕ). Replays asked how None old new 0 0 sink sink' (change (Some x) (Some rest) (Some held) (Some text) tape tape')) l sound in
    let empty = subst (λ (x : List ℕ). Replays asked how None old new 0 0 sink sink' (change (Some job) (Some rest) (Some x) (Some text) tape tape')) h full in
    of_form asked how job rest text sink sink' old new tape tape' empty caused
