-- The lines of a script are accepted, and not too many.
use Rattle.std.proofs.Common.{ℕ, ◌+◌, ◌-◌, ◌≤◌, ◌≡◌, Bool, true, false, cond, List, [], ◌∷◌, length, Result, Ok, Err, refl, arith}
use Rattle.std.specs.Prelude.{◌↔◌, nat_lt, IfOk}
use Rattle.mt_port.specs.declared.board.Shape.{Shape}
use Rattle.mt_text.specs.declared.line.Line.{Line}
use Rattle.mt_text.specs.declared.line.LineRefusal.{LineRefusal}
use Rattle.mt_text.specs.Lines.{line_of, Spells}
use Rattle.mt_text.specs.Accepted.{IsAccepted}
use Rattle.mt_replay.specs.declared.run.End.TheVariants as end
use Rattle.mt_replay.specs.Input.{Ending, Finished, Failed}
use Rattle.mt_replay.specs.Script.{Script, ended, taken, judged, last_judged, lines_from}

-- what is known of lines that are read
pub record ReadingLaws : Type 0 where
  pub spelled : (shape : Shape) (text : List ℕ) (line : Line) → (line_of shape text ≡ Ok line) ↔ Spells shape text line
  pub accepted : (shape : Shape) (text : List ℕ) (line : Line) → Spells shape text line → IsAccepted shape line

pub read_accepted : ReadingLaws → (shape : Shape) (text : List ℕ) (r : Result Line LineRefusal) → line_of shape text ≡ r → IfOk r (λ line. IsAccepted shape line)
read_accepted laws shape text (Ok line) is = laws.accepted shape text line ((laws.spelled shape text line).0 is)
read_accepted laws shape text (Err e) is = tt

-- The first line is accepted, and has a number that may be; so do those behind it.
pub record Takes (shape : Shape) (n : ℕ) (line : Line) (Behind : Type 0) : Type 0 where
  pub accepted : IsAccepted shape line
  pub early : nat_lt 1000000 n ≡ false
  pub more : Behind

abbrev pub AreTaken : Shape → ℕ → List Line → Type 0
AreTaken shape n [] = Unit {0}
AreTaken shape n (line ∷ more) = Takes shape n line (AreTaken shape (n + 1) more)

of_read : (shape : Shape) (r : Result Line LineRefusal) (n : ℕ) (more : Script) → nat_lt 1000000 n ≡ false → IfOk r (λ line. IsAccepted shape line) → AreTaken shape (n + 1) more.lines
    → AreTaken shape n (taken r n more).lines
of_read shape (Err e) n more early ok h = tt
of_read shape (Ok line) n more early ok h = record { accepted = ok; early = early; more = h }

judged-taken : ReadingLaws → (shape : Shape) (n : ℕ) (text : List ℕ) (more : Script) → AreTaken shape (n + 1) more.lines → AreTaken shape n (judged shape n text more).lines
judged-taken laws shape n text more h = of (nat_lt 1000000 n) (nat_lt 1024 (length text)) refl
  where
    of : (late long : Bool) → nat_lt 1000000 n ≡ late
        → AreTaken shape n ((cond late (ended (end.Refused n 11 1)) (cond long (ended (end.Refused n 10 1025)) (taken (line_of shape text) n more))).lines)
    of true long e = tt
    of false true e = tt
    of false false e = of_read shape (line_of shape text) n more e (read_accepted laws shape text (line_of shape text) refl) h

last-taken : ReadingLaws → (shape : Shape) (ending : Ending) (n : ℕ) (rest : List ℕ) → AreTaken shape n (last_judged shape ending n rest).lines
last-taken laws shape Finished n [] = tt
last-taken laws shape Finished n (byte ∷ bytes) = judged-taken laws shape n (byte ∷ bytes) (ended (end.Whole n)) tt
last-taken laws shape Failed n [] = tt
last-taken laws shape Failed n (byte ∷ bytes) = of (nat_lt 1000000 n) (nat_lt 1024 (length (byte ∷ bytes)))
  where
    of : (late long : Bool) → AreTaken shape n ((cond late (ended (end.Refused n 11 1)) (cond long (ended (end.Refused n 10 1025)) (ended end.Broken))).lines)
    of true long = tt
    of false true = tt
    of false false = tt

pub lines-taken : ReadingLaws → (shape : Shape) (ending : Ending) (n : ℕ) (lines : List (List ℕ)) (rest : List ℕ) → AreTaken shape n (lines_from shape ending n lines rest).lines
lines-taken laws shape ending n [] rest = last-taken laws shape ending n rest
lines-taken laws shape ending n (line ∷ more) rest = judged-taken laws shape n line (lines_from shape ending (n + 1) more rest) (lines-taken laws shape ending (n + 1) more rest)

-- ---- how many they are

-- an end of a whole script counts its lines
abbrev Counts : ℕ → Script → Type 0
Counts n s = (count : ℕ) → s.end ≡ end.Whole count → count ≡ (n - 1) + length s.lines

whole-is : (a b : ℕ) → end.Whole a ≡ end.Whole b → a ≡ b
whole-is a b e = cc

taken-counts : (r : Result Line LineRefusal) (n : ℕ) (more : Script) → 1 ≤ n → Counts (n + 1) more → Counts n (taken r n more)
taken-counts (Err e) n more some h count is = cc
taken-counts (Ok line) n more some h count is = let e = h count is in omega (arith, e)

judged-counts : (shape : Shape) (n : ℕ) (text : List ℕ) (more : Script) → 1 ≤ n → Counts (n + 1) more → Counts n (judged shape n text more)
judged-counts shape n text more some h = of (nat_lt 1000000 n) (nat_lt 1024 (length text))
  where
    of : (late long : Bool) → Counts n (cond late (ended (end.Refused n 11 1)) (cond long (ended (end.Refused n 10 1025)) (taken (line_of shape text) n more)))
    of true long count is = cc
    of false true count is = cc
    of false false count is = taken-counts (line_of shape text) n more some h count is

pub lines-count : (shape : Shape) (n : ℕ) (lines : List (List ℕ)) (rest : List ℕ) → 1 ≤ n → Counts n (lines_from shape Finished n lines rest)
lines-count shape n [] [] some = λ count is. let e = whole-is (n - 1) count is in omega (arith, e)
lines-count shape n [] (byte ∷ bytes) some = judged-counts shape n (byte ∷ bytes) (ended (end.Whole n)) some (λ count is. let e = whole-is n count is in omega (arith, e))
lines-count shape n (line ∷ more) rest some = judged-counts shape n line (lines_from shape Finished (n + 1) more rest) some (lines-count shape (n + 1) more rest (omega arith))
