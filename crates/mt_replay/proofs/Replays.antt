-- The lines of a kept script, which are replayed one after another.
use Rattle.std.proofs.Common.{ℕ, ◌+◌, ◌-◌, ◌<◌, ◌≤◌, ◌≡◌, Bool, true, false, cond, List, [], ◌∷◌, ◌++◌, length, Option, Result, Ok, Err, refl, sym, ap, subst, ◌∙◌, arith, append_assoc, append-nil, length-append}
use Rattle.std.specs.Prelude.{nat_lt}
use Rattle.std.proofs.lemmas.Bool.{lt-ltb}
use Rattle.mt_port.specs.Board.{Logs}
use Rattle.mt_port.specs.declared.board.Shape.{Shape}
use Rattle.mt_port.specs.declared.board.Touch.{Touch}
use Rattle.mt_port.specs.Inner.Streams.{Logs-nil, Logs-append}
use Rattle.mt_text.specs.declared.line.Line.{Line}
use Rattle.mt_text.specs.declared.line.LineRefusal.{LineRefusal}
use Rattle.mt_text.specs.Lines.{line_of}
use Rattle.mt_text.specs.TokenRules.{kind_number}
use Rattle.mt_replay.specs.declared.comparing.Comparison.{Comparison}
use Rattle.mt_replay.specs.declared.form.Form.TheVariants as forms
use Rattle.mt_replay.specs.declared.input.Line.{Line as Reading}
use Rattle.mt_replay.specs.declared.input.Line.TheVariants as reading
use Rattle.mt_replay.specs.declared.run.End.{End}
use Rattle.mt_replay.specs.declared.run.End.TheVariants as end
use Rattle.mt_replay.specs.Input.{Finished, cut}
use Rattle.mt_machine.specs.Machine.{Machine, Play, played}
use Rattle.mt_replay.specs.Script.{Script, ended, led_by, taken, judged, lines_from, script_from}
use Rattle.mt_replay.specs.Outcome.{steps_text, steps_touches, done_text}
use Rattle.mt_replay.specs.Verify.{whole_script}
use Rattle.mt_replay.specs.Inner.Comparing.{Compares}
use Rattle.mt_replay.specs.Inner.Reading.{BeginsTooLong, TakesLine}
use Rattle.mt_replay.specs.Inner.Replaying.{Played, IsScript, PlayedWhole, HasLine, TakesFirst}
use Rattle.mt_replay.proofs.Lines.{cut-line}
use Rattle.mt_replay.proofs.Plays.{played-append, touches-append, lines_text-append}
use Rattle.mt_replay.proofs.Runs.{last-from}
use Rattle.mt_replay.proofs.Traces.{compares-then, compares-none}

-- ---- the first line of a script

-- a script that has ended has none
not_led : (e : End) (first : Line) (more : Script) → ended e ≡ led_by (first ∷ []) more → ⊥
not_led e first more is = let lines : [] ≡ first ∷ more.lines = ap (λ (s : Script). s.lines) is in cc

same_led : (line first : Line) (next more : Script) → led_by (line ∷ []) next ≡ led_by (first ∷ []) more → (line ≡ first) × (next ≡ more)
same_led line first next more is =
    let lines : line ∷ next.lines ≡ first ∷ more.lines = ap (λ (s : Script). s.lines) is in
    let same : line ≡ first = cc in
    let rest : next.lines ≡ more.lines = cc in
    let end : next.end ≡ more.end = ap (λ (s : Script). s.end) is in
    (same, ap (λ (l : List Line). let s : Script = record { lines = l; end = next.end } in s) rest ∙ ap (λ (e : End). let s : Script = record { lines = more.lines; end = e } in s) end)

-- a line that is judged, where it is known whether it is too long, and what it says
abbrev by_length : ℕ → Bool → Result Line LineRefusal → Script → Script
by_length n long read next = cond (nat_lt 1000000 n) (ended (end.Refused n 11 1)) (cond long (ended (end.Refused n 10 1025)) (taken read n next))

-- the text of a line that was accepted is the first line
judged_first : (shape : Shape) (n : ℕ) (text : List ℕ) (line first : Line) (next more : Script) → line_of shape text ≡ Ok line → judged shape n text next ≡ led_by (first ∷ []) more
    → (line ≡ first) × (next ≡ more)
judged_first shape n text line first next more h is = of (nat_lt 1000000 n) (nat_lt 1024 (length text)) (ap (λ (r : Result Line LineRefusal). by_length n (nat_lt 1024 (length text)) r next) (sym h) ∙ is)
  where
    of : (late long : Bool) → cond late (ended (end.Refused n 11 1)) (cond long (ended (end.Refused n 10 1025)) (led_by (line ∷ []) next)) ≡ led_by (first ∷ []) more → (line ≡ first) × (next ≡ more)
    of true long e = absurd (not_led (end.Refused n 11 1) first more e)
    of false true e = absurd (not_led (end.Refused n 10 1025) first more e)
    of false false e = same_led line first next more e

-- a line that is refused, or too long, is none
judged_refused : (shape : Shape) (n : ℕ) (text : List ℕ) (refusal : LineRefusal) (first : Line) (next more : Script) → line_of shape text ≡ Err refusal → judged shape n text next ≡ led_by (first ∷ []) more → ⊥
judged_refused shape n text refusal first next more h is = of (nat_lt 1000000 n) (nat_lt 1024 (length text)) (ap (λ (r : Result Line LineRefusal). by_length n (nat_lt 1024 (length text)) r next) (sym h) ∙ is)
  where
    of : (late long : Bool) → cond late (ended (end.Refused n 11 1)) (cond long (ended (end.Refused n 10 1025)) (ended (end.Refused n (kind_number refusal.kind) refusal.place))) ≡ led_by (first ∷ []) more → ⊥
    of true long e = not_led (end.Refused n 11 1) first more e
    of false true e = not_led (end.Refused n 10 1025) first more e
    of false false e = not_led (end.Refused n (kind_number refusal.kind) refusal.place) first more e

judged_long : (shape : Shape) (n : ℕ) (text : List ℕ) (first : Line) (next more : Script) → 1024 < length text → judged shape n text next ≡ led_by (first ∷ []) more → ⊥
judged_long shape n text first next more long is = of (nat_lt 1000000 n) (ap (λ (b : Bool). by_length n b (line_of shape text) next) (sym (lt-ltb _ _ long)) ∙ is)
  where
    of : (late : Bool) → cond late (ended (end.Refused n 11 1)) (ended (end.Refused n 10 1025)) ≡ led_by (first ∷ []) more → ⊥
    of true e = not_led (end.Refused n 11 1) first more e
    of false e = not_led (end.Refused n 10 1025) first more e

from_long : (shape : Shape) (n : ℕ) (lines : List (List ℕ)) (rest : List ℕ) (first : Line) (more : Script) → BeginsTooLong lines rest → lines_from shape Finished n lines rest ≡ led_by (first ∷ []) more → ⊥
from_long shape n [] [] first more long is = omega (arith, long)
from_long shape n [] (byte ∷ bytes) first more long is = judged_long shape n (byte ∷ bytes) first (ended (end.Whole n)) more long is
from_long shape n (text ∷ texts) rest first more long is = judged_long shape n text first (lines_from shape Finished (n + 1) texts rest) more long is

-- what was read is the text of the first line, and what follows it is left
judged_there : (r : Reading) (shape : Shape) (n : ℕ) (text before after : List ℕ) (first : Line) (more : Script) → TakesLine r text before after → script_from shape Finished n (cut before) ≡ led_by (first ∷ []) more
    → judged shape n text (script_from shape Finished (n + 1) (cut after)) ≡ led_by (first ∷ []) more
judged_there reading.Whole shape n text before after first more t is =
    sym (ap (λ (l : List ℕ). script_from shape Finished n (cut l)) t.0 ∙ ap (script_from shape Finished n) (cut-line text after t.1)) ∙ is
judged_there reading.Last shape n text before after first more t is =
    let number : (n + 1) - 1 ≡ n = omega arith in
    let none : script_from shape Finished (n + 1) (cut after) ≡ ended (end.Whole n) = ap (λ (l : List ℕ). script_from shape Finished (n + 1) (cut l)) t.3 ∙ ap (λ (k : ℕ). ended (end.Whole k)) number in
    ap (judged shape n text) none ∙ sym (last-from shape n text before after t) ∙ is
judged_there reading.End shape n text before after first more t is = absurd (not_led (end.Whole (n - 1)) first more (sym (ap (λ (l : List ℕ). script_from shape Finished n (cut l)) t.0) ∙ is))
judged_there reading.TooLong shape n text before after first more t is = absurd (from_long shape n (cut before).lines (cut before).rest first more t is)

pub takes_first : (r : Reading) (shape : Shape) (text before after : List ℕ) (line : Line) → TakesLine r text before after → line_of shape text ≡ Ok line → TakesFirst shape line before after
takes_first r shape text before after line t h = λ number first more is. judged_first shape number text line first _ more h (judged_there r shape number text before after first more t is)

pub not_refused : (r : Reading) (shape : Shape) (text before after : List ℕ) (refusal : LineRefusal) → TakesLine r text before after → line_of shape text ≡ Err refusal → HasLine shape before → ⊥
not_refused r shape text before after refusal t h has =
    judged_refused shape has.number text refusal has.first _ has.more h (judged_there r shape has.number text before after has.first has.more t has.script)

-- ---- lines that are replayed one after another

Played-none : (shape : Shape) (n : ℕ) (m : Machine) (a : Comparison) (x : Option (List ℕ)) (tape : Option (List Touch)) → Played shape n m m [] a a x x tape tape
Played-none shape n m a x tape = record { compared = compares-none a x; taped = Logs-nil tape; after = refl }

Played-then : (shape : Shape) (n : ℕ) (m m' m'' : Machine) (a b : List Line) (c c' c'' : Comparison) (x y z : Option (List ℕ)) (tape tape' tape'' : Option (List Touch))
    → Played shape n m m' a c c' x y tape tape' → Played shape (n + length a) m' m'' b c' c'' y z tape' tape'' → Played shape n m m'' (a ++ b) c c'' x z tape tape''
Played-then shape n m m' m'' a b c c' c'' x y z tape tape' tape'' p q =
    let mid = (played m a).after in
    let second = subst (λ (k : Machine). Played shape (n + length a) k m'' b c' c'' y z tape' tape'') p.after q in
    record {
      compared = subst (λ (l : List ℕ). Compares c c'' l x z) (sym (lines_text-append forms.Run shape m n a b))
          (compares-then c c' c'' (steps_text shape n (played m a).steps) (steps_text shape (n + length a) (played mid b).steps) x y z p.compared second.compared);
      taped = subst (Logs tape tape'') (sym (ap (λ (play : Play). steps_touches play.steps) (played-append m a b) ∙ touches-append (played m a).steps (played mid b).steps))
          (Logs-append tape tape' tape'' (steps_touches (played m a).steps) (steps_touches (played mid b).steps) p.taped second.taped);
      after = second.after ∙ sym (ap (λ (play : Play). play.after) (played-append m a b));
    }

-- The lines before one were replayed, and the rest of the script is left.
pub record Replaying (shape : Shape) (count n : ℕ) (bytes left : List ℕ) (m m' : Machine) (old new : Comparison) (x y : Option (List ℕ)) (tape tape' : Option (List Touch)) : Type 0 where
  pub done : List Line
  pub rest : List Line
  pub all : script_from shape Finished 1 (cut bytes) ≡ whole_script (done ++ rest)
  pub count_is : count ≡ length (done ++ rest)
  pub number : n ≡ length done + 1
  pub script : script_from shape Finished n (cut left) ≡ record { lines = rest; end = end.Whole (length (done ++ rest)) }
  pub played : Played shape 1 m m' done old new x y tape tape'

-- none is replayed yet
pub Replaying-none : (shape : Shape) (count : ℕ) (bytes left : List ℕ) (m : Machine) (a : Comparison) (x : Option (List ℕ)) (tape : Option (List Touch)) → IsScript shape count bytes → left ≡ bytes
    → Replaying shape count 1 bytes left m m a a x x tape tape
Replaying-none shape count bytes left m a x tape h same = record {
  done = [];
  rest = h.lines;
  all = h.script;
  count_is = h.number;
  number = refl;
  script = ap (λ (l : List ℕ). script_from shape Finished 1 (cut l)) same ∙ h.script;
  played = Played-none shape 1 m a x tape;
}

has_rest : (count n : ℕ) (done rest : List Line) → count ≡ length (done ++ rest) → n ≡ length done + 1 → n ≤ count → 0 < length rest
has_rest count n done rest all number few = omega (arith, all, number, few, length-append done rest)

-- a line is left where not all were replayed
pub replaying_has : (shape : Shape) (count n : ℕ) (bytes left : List ℕ) (m m' : Machine) (old new : Comparison) (x y : Option (List ℕ)) (tape tape' : Option (List Touch))
    → Replaying shape count n bytes left m m' old new x y tape tape' → n ≤ count → HasLine shape left
replaying_has shape count n bytes left m m' old new x y tape tape' r few = of r.rest (length (r.done ++ r.rest)) r.script (has_rest count n r.done r.rest r.count_is r.number few)
  where
    of : (rest : List Line) (size : ℕ) → script_from shape Finished n (cut left) ≡ record { lines = rest; end = end.Whole size } → 0 < length rest → HasLine shape left
    of [] size h some = absurd (omega (arith, some))
    of (first ∷ more) size h some = record { number = n; first = first; more = record { lines = more; end = end.Whole size }; script = h }

-- one more is replayed
pub Replaying-next : (shape : Shape) (count n : ℕ) (bytes left left' : List ℕ) (line : Line) (m m' m'' : Machine) (c c' c'' : Comparison) (x y z : Option (List ℕ)) (tape tape' tape'' : Option (List Touch))
    → Replaying shape count n bytes left m m' c c' x y tape tape' → n ≤ count → TakesFirst shape line left left' → Played shape n m' m'' (line ∷ []) c' c'' y z tape' tape''
    → Replaying shape count (n + 1) bytes left' m m'' c c'' x z tape tape''
Replaying-next shape count n bytes left left' line m m' m'' c c' c'' x y z tape tape' tape'' r few t p = of r.done r.rest r.all r.count_is r.number r.script r.played
  where
    of : (done rest : List Line) → script_from shape Finished 1 (cut bytes) ≡ whole_script (done ++ rest) → count ≡ length (done ++ rest) → n ≡ length done + 1
        → script_from shape Finished n (cut left) ≡ record { lines = rest; end = end.Whole (length (done ++ rest)) } → Played shape 1 m m' done c c' x y tape tape'
        → Replaying shape count (n + 1) bytes left' m m'' c c'' x z tape tape''
    of done [] all size number script before = let none : 0 < 0 = has_rest count n done [] size number few in absurd (omega (arith, none))
    of done (first ∷ more) all size number script before =
        let next = t n first (record { lines = more; end = end.Whole (length (done ++ first ∷ more)) }) script in
        let same : done ++ first ∷ more ≡ (done ++ line ∷ []) ++ more = sym (append_assoc done (line ∷ []) more ∙ ap (λ (l : Line). done ++ l ∷ more) next.0) in
        let place : n ≡ 1 + length done = omega (arith, number) in
        record {
          done = done ++ line ∷ [];
          rest = more;
          all = all ∙ ap whole_script same;
          count_is = size ∙ ap length same;
          number = omega (arith, number, length-append done (line ∷ []));
          script = next.1 ∙ ap (λ (l : List Line). let s : Script = record { lines = more; end = end.Whole (length l) } in s) same;
          played = Played-then shape 1 m m' m'' done (line ∷ []) c c' c'' x y z tape tape' tape'' before (subst (λ (k : ℕ). Played shape k m' m'' (line ∷ []) c' c'' y z tape' tape'') place p);
        }

-- All lines were replayed.
pub record ReplayedAll (shape : Shape) (count : ℕ) (bytes : List ℕ) (m m' : Machine) (old new : Comparison) (x y : Option (List ℕ)) (tape tape' : Option (List Touch)) : Type 0 where
  pub lines : List Line
  pub all : script_from shape Finished 1 (cut bytes) ≡ whole_script lines
  pub count_is : count ≡ length lines
  pub played : Played shape 1 m m' lines old new x y tape tape'

-- no line is left behind the last number
pub replayed_all : (shape : Shape) (count n : ℕ) (bytes left : List ℕ) (m m' : Machine) (old new : Comparison) (x y : Option (List ℕ)) (tape tape' : Option (List Touch))
    → Replaying shape count n bytes left m m' old new x y tape tape' → count < n → ReplayedAll shape count bytes m m' old new x y tape tape'
replayed_all shape count n bytes left m m' old new x y tape tape' r last =
    let size : length r.rest ≡ 0 = let all = r.count_is in let number = r.number in omega (arith, all, number, last, length-append r.done r.rest) in
    let whole : r.done ++ r.rest ≡ r.done = ap (λ (l : List Line). r.done ++ l) (none r.rest size) ∙ append-nil r.done in
    record { lines = r.done; all = r.all ∙ ap whole_script whole; count_is = r.count_is ∙ ap length whole; played = r.played }
  where
    none : (l : List Line) → length l ≡ 0 → l ≡ []
    none [] h = refl
    none (line ∷ l) h = absurd (omega (arith, h))

-- then their closing line was compared
pub replayed_whole : (shape : Shape) (count : ℕ) (bytes text : List ℕ) (m m' : Machine) (c c' c'' : Comparison) (x y z : Option (List ℕ)) (tape tape' : Option (List Touch)) (lines : List Line)
    → ReplayedAll shape count bytes m m' c c' x y tape tape' → text ≡ done_text count → Compares c' c'' text y z → script_from shape Finished 1 (cut bytes) ≡ whole_script lines
    → PlayedWhole shape lines m m' c c'' x z tape tape'
replayed_whole shape count bytes text m m' c c' c'' x y z tape tape' lines r e p is =
    let same : r.lines ≡ lines = ap (λ (s : Script). s.lines) (sym r.all ∙ is) in
    let number : count ≡ length lines = r.count_is ∙ ap length same in
    let before = subst (λ (l : List Line). Played shape 1 m m' l c c' x y tape tape') same r.played in
    record {
      compares = compares-then c c' c'' (steps_text shape 1 (played m lines).steps) (done_text (length lines)) x y z before.compared (subst (λ (l : List ℕ). Compares c' c'' l y z) (e ∙ ap done_text number) p);
      taped = before.taped;
      after = before.after;
    }
