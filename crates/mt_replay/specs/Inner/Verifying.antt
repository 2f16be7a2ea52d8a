-- What the calls do that read a script with a trace behind it.
use Rattle.std.specs.Prelude.{ℕ, ◌+◌, ◌<◌, ◌≤◌, ◌≡◌, true, false, List, [], ◌∷◌, ◌++◌, length, Option, None, Some, Result, Ok, Err}
use Rattle.std.specs.Str.{bytes_eq}
use Rattle.mt_port.specs.Streams.{WhereTold}
use Rattle.mt_port.specs.declared.board.Shape.{Shape}
use Rattle.mt_text.specs.declared.line.Line.{Line}
use Rattle.mt_text.specs.Lines.{line_of}
use Rattle.mt_replay.specs.declared.input.Line.TheVariants as line
use Rattle.mt_replay.specs.declared.job.Follows.{Follows}
use Rattle.mt_replay.specs.declared.job.Follows.TheVariants as follows
use Rattle.mt_replay.specs.declared.run.End.{End}
use Rattle.mt_replay.specs.declared.locating.Stop.{Stop}
use Rattle.mt_replay.specs.declared.locating.Stop.TheVariants as stop
use Rattle.mt_replay.specs.declared.verifying.Mark.{Mark}
use Rattle.mt_replay.specs.declared.verifying.Kept.{Kept}
use Rattle.mt_replay.specs.declared.verifying.Taken.{Taken}
use Rattle.mt_replay.specs.declared.verifying.Taken.TheVariants as taken
use Rattle.mt_replay.specs.Input.{Ending, Finished, cut, separator}
use Rattle.mt_replay.specs.Script.{script_from}
use Rattle.mt_replay.specs.Locating.{◌>>=◌}
use Rattle.mt_replay.specs.Verify.{Claim, script_limit, line_said, last_claimed, claimed_from, whole_script}
use Rattle.mt_replay.specs.Inner.Reading.{HasNoFeed, TakesLine}
use Rattle.mt_replay.specs.Inner.Runs.{IsRefusal}
use Rattle.mt_replay.specs.Inner.Locating.{Reader, IsAll, Breaks, EndsBy, Takes}

-- a line is within the limits
abbrev pub fine : Result (Unit {0}) End
fine = Ok tt

-- the script and what is given behind it, from a line on
abbrev pub claim_at : Shape → Mark → Reader Claim
claim_at shape mark ending behind = claimed_from shape ending mark.number mark.size behind.lines behind.rest

-- the first line, and the line behind one
abbrev pub first_mark : Mark
first_mark = record { number = 1; size = 0 }

abbrev pub mark_behind : Mark → List ℕ → Mark
mark_behind mark text = record { number = mark.number + 1; size = mark.size + (length text + 1) }

-- lines of a script, and what is given behind them
abbrev pub claim : List Line → List ℕ → Claim
claim lines given = record { lines = lines; given = given }

-- lines in front of others
abbrev pub led_by_lines : List Line → Result Claim End → Result Claim End
led_by_lines lines read = read >>= λ more. Ok (claim (lines ++ more.lines) more.given)

-- The lines and the separator behind them were taken, and what follows it is given, whatever it is.
pub record Claims (shape : Shape) (mark : Mark) (lines : List Line) (before after : List ℕ) : Type 0 where
  pub front : List ℕ
  pub taken : before ≡ front ++ after
  pub read : (ending : Ending) (rest : List ℕ) → claim_at shape mark ending (cut (front ++ rest)) ≡ Ok (claim lines rest)

-- the same, where the input may have ended with the separator
abbrev pub ClaimsBehind : Follows → Shape → Mark → List Line → (before after : List ℕ) → Type 0
ClaimsBehind follows.Lines shape mark lines before after = Claims shape mark lines before after
ClaimsBehind follows.Nothing shape mark lines before after = IsAll (claim_at shape mark) (claim lines []) before after

-- A line is refused.
pub record IsRefused (end : End) (shape : Shape) (mark : Mark) (before : List ℕ) : Type 0 where
  pub refusal : IsRefusal end
  pub read : claim_at shape mark Finished (cut before) ≡ Err end

-- what came of reading the text of a line
abbrev pub TakenGives : Taken → Shape → Mark → (text before after : List ℕ) → Type 0
TakenGives taken.Whole shape mark text before after = TakesLine line.Whole text before after
TakenGives taken.Last shape mark text before after = TakesLine line.Last text before after
TakenGives taken.Missing shape mark text before after = TakesLine line.End text before after
TakenGives (taken.Refused end) shape mark text before after = IsRefused end shape mark before

-- what is known of it, whatever the source tells
abbrev pub TextIs : Taken → List ℕ → Type 0
TextIs taken.Whole text = HasNoFeed text
TextIs taken.Last text = Unit {0}
TextIs taken.Missing text = Unit {0}
TextIs (taken.Refused end) text = IsRefusal end

abbrev pub TextBreaks : Shape → Mark → (before after : List ℕ) → Type 0
TextBreaks shape mark before after = Breaks (claim_at shape mark) before after

-- how a last line is read
abbrev pub LastIs : Result Claim End → Shape → Mark → List ℕ → Type 0
LastIs read shape mark text = 0 < length text → last_claimed shape Finished mark.number mark.size text ≡ read

-- what came of a last line
abbrev pub LastGives : Result (Option Follows) End → Shape → Mark → List ℕ → Type 0
LastGives (Ok None) shape mark text = ⊥
LastGives (Ok (Some follows.Lines)) shape mark text = ⊥
LastGives (Ok (Some follows.Nothing)) shape mark text = LastIs (Ok (claim [] [])) shape mark text
LastGives (Err end) shape mark text = IsRefusal end × LastIs (Err end) shape mark text

-- A whole line is no separator, and says this.
pub record Says (said : Result Line End) (shape : Shape) (mark : Mark) (text : List ℕ) : Type 0 where
  pub other : bytes_eq text separator ≡ false
  pub is : line_said shape mark.number mark.size (length text + 1) text ≡ said

-- A line was taken that a script may have.
pub record IsLine (shape : Shape) (mark : Mark) (text : List ℕ) (line : Line) : Type 0 where
  pub is : line_of shape text ≡ Ok line
  pub number : mark.number ≤ 1000000
  pub size : mark.size + (length text + 1) ≤ script_limit

-- what came of a whole line
abbrev pub WholeGives : Result (Option Follows) End → Shape → Mark → List ℕ → Line → Type 0
WholeGives (Ok None) shape mark text line = Says (Ok line) shape mark text × IsLine shape mark text line
WholeGives (Ok (Some follows.Lines)) shape mark text line = bytes_eq text separator ≡ true
WholeGives (Ok (Some follows.Nothing)) shape mark text line = ⊥
WholeGives (Err end) shape mark text line = IsRefusal end × Says (Err end) shape mark text

-- what came of the next line
abbrev pub NextGives : Result (Option Follows) End → Shape → Mark → List ℕ → Line → (before after : List ℕ) → Type 0
NextGives (Ok None) shape mark text line before after =
    Takes (claim_at shape mark) (claim_at shape (mark_behind mark text)) (led_by_lines (line ∷ [])) before after
NextGives (Ok (Some follows)) shape mark text line before after = ClaimsBehind follows shape mark [] before after
NextGives (Err end) shape mark text line before after = EndsBy end (claim_at shape mark) before after

-- a line that was taken, whatever the source tells
abbrev pub LineGives : Result (Option Follows) End → Shape → Mark → List ℕ → Line → Type 0
LineGives (Ok None) shape mark text line = HasNoFeed text × IsLine shape mark text line
LineGives (Ok (Some follows)) shape mark text line = Unit {0}
LineGives (Err end) shape mark text line = Unit {0}

-- The lines of a script were kept, and these bytes are their lines too.
pub record Keeps (shape : Shape) (kept : Kept) (bytes : List ℕ) (left left' : Option (List ℕ)) : Type 0 where
  pub lines : List Line
  pub count : kept.lines ≡ length lines
  pub script : script_from shape Finished 1 (cut bytes) ≡ whole_script lines
  pub claim : WhereTold left left' (ClaimsBehind kept.follows shape first_mark lines)

-- what came of a script; of one for which no memory was found nothing is said
abbrev pub KeptGives : Result Kept Stop → Shape → List ℕ → (left left' : Option (List ℕ)) → Type 0
KeptGives (Ok kept) shape bytes left left' = Keeps shape kept bytes left left'
KeptGives (Err (stop.Ended end)) shape bytes left left' = WhereTold left left' (EndsBy end (claim_at shape first_mark))
KeptGives (Err stop.NoMemory) shape bytes left left' = Unit {0}
