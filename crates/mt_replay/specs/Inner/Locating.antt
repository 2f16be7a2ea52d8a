-- What the calls that read the lines of a fault location do.
use Rattle.std.specs.Prelude.{ℕ, ◌+◌, ◌≡◌, List, [], ◌∷◌, ◌++◌, Option, None, Some, Result, Ok, Err}
use Rattle.mt_port.specs.Causes.{Rose}
use Rattle.mt_locate.specs.declared.probe.Probe.{Probe}
use Rattle.mt_locate.specs.declared.probe.Miss.{Miss}
use Rattle.mt_replay.specs.declared.input.Line.TheVariants as line
use Rattle.mt_replay.specs.declared.job.Follows.{Follows}
use Rattle.mt_replay.specs.declared.job.Follows.TheVariants as follows
use Rattle.mt_replay.specs.declared.run.End.{End}
use Rattle.mt_replay.specs.declared.run.End.TheVariants as end
use Rattle.mt_replay.specs.declared.locating.Stop.{Stop}
use Rattle.mt_replay.specs.declared.locating.Stop.TheVariants as stop
use Rattle.mt_replay.specs.declared.locating.Opening.{Opening}
use Rattle.mt_replay.specs.declared.locating.NextMiss.{NextMiss}
use Rattle.mt_replay.specs.Input.{Ending, Finished, Failed, Cut, cut}
use Rattle.mt_replay.specs.Locating.{◌>>=◌, Located, missed, with_misses}
use Rattle.mt_replay.specs.Inner.Reading.{TakesLine, BreaksOff}

-- how bytes are read, before a way of ending
abbrev pub Reader : Type 0 → Type 0
Reader A = Ending → Cut → Result A End

-- The bytes that were left are all taken, and are this.
pub record IsAll {A : Type 0} (reader : Reader A) (x : A) (before after : List ℕ) : Type 0 where
  pub read : reader Finished (cut before) ≡ Ok x
  pub all : after ≡ []

-- Some bytes were taken, and then the source failed.
pub record Breaks {A : Type 0} (reader : Reader A) (before after : List ℕ) : Type 0 where
  pub front : List ℕ
  pub taken : before ≡ front ++ after
  pub read : reader Failed (cut front) ≡ Err end.Broken

-- not all lines are taken: one is refused, or the source failed
abbrev pub EndsBy : {A : Type 0} → End → Reader A → (before after : List ℕ) → Type 0
EndsBy (end.Whole count) reader before after = ⊥
EndsBy (end.Refused line code at) reader before after = reader Finished (cut before) ≡ Err (end.Refused line code at)
EndsBy end.Broken reader before after = Breaks reader before after

-- The bytes between here and there are read so, whatever follows them.
pub record Takes {A B : Type 0} (reader : Reader A) (more : Reader B) (with : Result B End → Result A End) (before after : List ℕ) : Type 0 where
  pub front : List ℕ
  pub taken : before ≡ front ++ after
  pub read : (ending : Ending) (rest : List ℕ) → reader ending (cut (front ++ rest)) ≡ with (more ending (cut rest))

-- misses in front of others
abbrev pub led_by : List Miss → Result (List Miss) End → Result (List Miss) End
led_by misses read = read >>= λ others. Ok (misses ++ others)

-- what came of reading the text of a line
abbrev pub TextGives : Result (Option Follows) End → ℕ → (text before after : List ℕ) → Type 0
TextGives (Ok None) number text before after = TakesLine line.End text before after
TextGives (Ok (Some follows.Lines)) number text before after = TakesLine line.Whole text before after
TextGives (Ok (Some follows.Nothing)) number text before after = TakesLine line.Last text before after
TextGives (Err (end.Whole count)) number text before after = ⊥
TextGives (Err (end.Refused n code at)) number text before after = (end.Refused n code at ≡ end.Refused number 10 1025) × TakesLine line.TooLong text before after
TextGives (Err end.Broken) number text before after = BreaksOff text before after

-- what came of the first line
abbrev pub SliceGives : Follows → Probe → Reader Located → (before after : List ℕ) → Type 0
SliceGives follows.Lines probe reader before after = Takes reader (missed probe 2 None) (with_misses probe) before after
SliceGives follows.Nothing probe reader before after = IsAll reader (record { probe = probe; misses = [] }) before after

abbrev pub OpeningGives : Result Opening End → Reader Located → (before after : List ℕ) → Type 0
OpeningGives (Ok opening) reader before after = SliceGives opening.follows opening.probe reader before after
OpeningGives (Err end) reader before after = EndsBy end reader before after

-- what came of a later line
abbrev pub LineGives : Follows → Miss → Probe → ℕ → Option ℕ → (before after : List ℕ) → Type 0
LineGives follows.Lines miss probe number last before after =
    Takes (missed probe number last) (missed probe (number + 1) (Some miss.index)) (led_by (miss ∷ [])) before after
LineGives follows.Nothing miss probe number last before after = IsAll (missed probe number last) (miss ∷ []) before after

abbrev pub NextGives : Result (Option NextMiss) End → Probe → ℕ → Option ℕ → (before after : List ℕ) → Type 0
NextGives (Ok None) probe number last before after = IsAll (missed probe number last) [] before after
NextGives (Ok (Some next)) probe number last before after = LineGives next.follows next.miss probe number last before after
NextGives (Err end) probe number last before after = EndsBy end (missed probe number last) before after

-- what came behind the last line that may be
abbrev pub PastGives : Result (Unit {0}) End → Probe → Option ℕ → (before after : List ℕ) → Type 0
PastGives (Ok done) probe last before after = IsAll (missed probe 1000001 last) [] before after
PastGives (Err end) probe last before after = EndsBy end (missed probe 1000001 last) before after

-- what came of all misses; of those for which no memory was found nothing is said
abbrev pub MissesGive : Result (Unit {0}) Stop → Probe → List Miss → (before after : List ℕ) → Type 0
MissesGive (Ok done) probe misses before after = IsAll (missed probe 2 None) misses before after
MissesGive (Err (stop.Ended end)) probe misses before after = EndsBy end (missed probe 2 None) before after
MissesGive (Err stop.NoMemory) probe misses before after = Unit {0}

-- what came of all lines
abbrev pub LocatedGives : Result Probe Stop → Reader Located → List Miss → (before after : List ℕ) → Type 0
LocatedGives (Ok probe) reader misses before after = IsAll reader (record { probe = probe; misses = misses }) before after
LocatedGives (Err (stop.Ended end)) reader misses before after = EndsBy end reader before after
LocatedGives (Err stop.NoMemory) reader misses before after = Unit {0}

-- the count of faults has risen only where the source failed; no stop is a whole end
abbrev pub EndCause : End → (faults faults' : ℕ) → Type 0
EndCause (end.Whole count) faults faults' = ⊥
EndCause (end.Refused line code at) faults faults' = faults' ≡ faults
EndCause end.Broken faults faults' = Rose faults faults'

abbrev pub StopCause : Stop → (faults faults' : ℕ) → Type 0
StopCause (stop.Ended end) faults faults' = EndCause end faults faults'
StopCause stop.NoMemory faults faults' = faults' ≡ faults
