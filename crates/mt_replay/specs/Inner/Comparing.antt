-- What the calls do that compare a given text with an expected one.
use Rattle.std.specs.Prelude.{ℕ, ◌+◌, ◌<◌, ◌≤◌, ◌≡◌, ◌≢◌, true, List, [], ◌∷◌, ◌++◌, length, take, drop, Option, None, Some, Result, Ok, Err}
use Rattle.mt_port.specs.Causes.{Rose}
use Rattle.mt_port.specs.Streams.{WhereTold}
use Rattle.mt_port.specs.declared.stream.Failed.{Failed}
use Rattle.mt_verify.specs.Lines.{feeds, lines, first_other_line, line_at_end}
use Rattle.mt_verify.specs.Laws.{HasNoEmptyLine}
use Rattle.mt_replay.specs.declared.comparing.State.{State}
use Rattle.mt_replay.specs.declared.comparing.State.TheVariants as state
use Rattle.mt_replay.specs.declared.comparing.Verdict.{Verdict}
use Rattle.mt_replay.specs.declared.comparing.Verdict.TheVariants as verdict
use Rattle.mt_replay.specs.declared.comparing.Comparison.{Comparison}
use Rattle.mt_replay.specs.Verify.{is_front}

-- The source failed behind bytes that begin the expected text.
pub record BreaksWithin (expected before after : List ℕ) : Type 0 where
  pub front : List ℕ
  pub more : List ℕ
  pub taken : before ≡ front ++ after
  pub is : expected ≡ front ++ more

-- What is known of the bytes that are given, where this text is expected first. Another line is so whatever is expected behind it.
abbrev pub Told : State → (expected before after : List ℕ) → Type 0
Told state.Matching expected before after = before ≡ expected ++ after
Told (state.Other line) expected before after = (more : List ℕ) → HasNoEmptyLine (expected ++ more) → first_other_line (expected ++ more) before ≡ Some line
Told (state.Lacking line) expected before after = (expected ≡ before ++ 10 ∷ []) × (line ≡ feeds before + 2) × (after ≡ [])
Told state.Broken expected before after = BreaksWithin expected before after

-- how the line feeds are counted
abbrev pub IsTally : State → ℕ → List ℕ → Type 0
IsTally state.Matching tally expected = tally ≡ feeds expected
IsTally (state.Other line) tally expected = Unit {0}
IsTally (state.Lacking line) tally expected = tally + 1 ≡ feeds expected
IsTally state.Broken tally expected = Unit {0}

abbrev pub StandsBy : State → ℕ → (expected : List ℕ) → (given given' : Option (List ℕ)) → Type 0
StandsBy state tally expected given given' = IsTally state tally expected × WhereTold given given' (Told state expected)

-- how the comparison stands behind this text
abbrev pub Stands : Comparison → (expected : List ℕ) → (given given' : Option (List ℕ)) → Type 0
Stands c expected given given' = StandsBy c.state c.tally expected given given'

-- the count of faults has risen only where the source failed
abbrev pub CausedBy : State → (faults faults' : ℕ) → Type 0
CausedBy state.Matching faults faults' = faults' ≡ faults
CausedBy (state.Other line) faults faults' = faults' ≡ faults
CausedBy (state.Lacking line) faults faults' = faults' ≡ faults
CausedBy state.Broken faults faults' = Rose faults faults'

abbrev pub Caused : Comparison → (faults faults' : ℕ) → Type 0
Caused c faults faults' = CausedBy c.state faults faults'

-- A text was compared, whatever was compared before it.
abbrev pub Compares : (old new : Comparison) → (text : List ℕ) → (left left' : Option (List ℕ)) → Type 0
Compares old new text left left' = (expected : List ℕ) (given : Option (List ℕ)) → Stands old expected given left → Stands new (expected ++ text) given left'

abbrev pub KeepsCause : (old new : Comparison) → (faults faults' : ℕ) → Type 0
KeepsCause old new faults faults' = (first : ℕ) → Caused old first faults → Caused new first faults'

-- no byte is held where the source failed
abbrev pub IsDrainedBy : State → List ℕ → Type 0
IsDrainedBy state.Matching held = Unit {0}
IsDrainedBy (state.Other line) held = Unit {0}
IsDrainedBy (state.Lacking line) held = Unit {0}
IsDrainedBy state.Broken held = held ≡ []

abbrev pub IsDrained : Comparison → List ℕ → Type 0
IsDrained c held = IsDrainedBy c.state held

-- More is expected than a last line feed.
pub record GoesOn (tally line : ℕ) (rest : List ℕ) : Type 0 where
  pub next : ℕ
  pub more : List ℕ
  pub is : rest ≡ next ∷ more
  pub some : next ≡ 10 → more ≢ []
  pub line_is : line ≡ line_at_end tally next

-- what is known where the given text ended before these bytes
abbrev pub EndsBefore : State → ℕ → List ℕ → Type 0
EndsBefore state.Matching tally rest = ⊥
EndsBefore (state.Other line) tally rest = GoesOn tally line rest
EndsBefore (state.Lacking line) tally rest = (rest ≡ 10 ∷ []) × (line ≡ tally + 2)
EndsBefore state.Broken tally rest = ⊥

-- two texts do not begin with the same byte
abbrev pub Differ : List ℕ → List ℕ → Type 0
Differ [] given = Unit {0}
Differ (x ∷ expected) [] = Unit {0}
Differ (x ∷ expected) (y ∷ given) = x ≢ y

-- So many bytes are expected and given, and not one more.
pub record Shares (count tally tally' : ℕ) (rest held held' : List ℕ) : Type 0 where
  pub within : count ≤ length rest
  pub taken : held ≡ take count rest ++ held'
  pub tally_is : tally' ≡ tally + feeds (take count rest)
  pub next : count < length rest → Differ (drop count rest) held'

-- The source failed behind bytes that are a front of the text.
pub record BreaksBefore (expected before after : List ℕ) : Type 0 where
  pub front : List ℕ
  pub taken : before ≡ front ++ after
  pub is : is_front front expected ≡ true

-- how the texts compare
abbrev pub VerdictGives : Result Verdict Failed → (expected : List ℕ) → (given given' : Option (List ℕ)) → Type 0
VerdictGives (Ok (verdict.Same count)) expected given given' =
    (count ≡ length (lines expected)) × WhereTold given given' (λ before after. (first_other_line expected before ≡ None) × (after ≡ []))
VerdictGives (Ok (verdict.Differs line)) expected given given' = WhereTold given given' (λ before after. first_other_line expected before ≡ Some line)
VerdictGives (Err failed) expected given given' = WhereTold given given' (BreaksBefore expected)

abbrev pub VerdictCaused : Result Verdict Failed → (faults faults' : ℕ) → Type 0
VerdictCaused (Ok verdict) faults faults' = faults' ≡ faults
VerdictCaused (Err failed) faults faults' = Rose faults faults'
