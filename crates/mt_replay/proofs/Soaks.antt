-- Lines of a generated script that are replayed, and their sums.
use Rattle.std.proofs.Common.{ℕ, ◌+◌, ◌≡◌, ◌⊎◌, inl, inr, List, [], ◌∷◌, ◌++◌, length, Option, Some, None, fold, refl, sym, ap, subst, ◌∙◌, append_assoc, append-nil, length-append}
use Rattle.std.proofs.lemmas.List.Sums.{fold-append}
use Rattle.mt_port.specs.Board.{Board, Logs, powered_up}
use Rattle.mt_port.specs.declared.board.Shape.{Shape}
use Rattle.mt_port.specs.declared.board.Touch.{Touch}
use Rattle.mt_port.specs.Inner.Streams.{Logs-nil, Logs-append}
use Rattle.mt_fault.specs.declared.fault.Fault.{Fault}
use Rattle.mt_text.specs.declared.line.Line.{Line}
use Rattle.mt_window.specs.declared.log.Entry.{Entry}
use Rattle.mt_window.specs.declared.log.Entry.TheVariants.{Own}
use Rattle.mt_window.specs.declared.reply.Reply.{Reply}
use Rattle.mt_ram.specs.Results.{overall}
use Rattle.mt_conf.specs.declared.config.Config.{Config}
use Rattle.mt_gen.specs.Config.{job_config}
use Rattle.mt_gen.specs.Script.{script}
use Rattle.mt_gen.specs.declared.summary.Summary.{Summary}
use Rattle.mt_gen.specs.Summary.{summary_of, with_entry}
use Rattle.mt_gen.specs.Inner.Forms.{LinesAreOfForms}
use Rattle.mt_replay.specs.declared.status.Status.{Status}
use Rattle.mt_replay.specs.declared.status.Status.TheVariants as status
use Rattle.mt_machine.specs.Machine.{Machine, Step, step, IsReady, started, Play, played}
use Rattle.mt_replay.specs.Outcome.{steps_touches}
use Rattle.mt_replay.specs.Soak.{entries_of, summary_text, soaked}
use Rattle.mt_replay.specs.Changes.{Change}
use Rattle.mt_replay.specs.Inner.Runs.{outputs}
use Rattle.mt_machine.specs.Inner.Events.{AnswerGives}
use Rattle.mt_replay.specs.Inner.Soaks.{entered, with_line, Adds, Sums}
use Rattle.mt_replay.specs.Replay.{SoakGives, StatusCaused, Stood, Told}
use Rattle.mt_replay.proofs.Plays.{played-append, touches-append}
use Rattle.mt_replay.proofs.Jobs.{not-risen}
use Rattle.mt_replay.proofs.Ups.{IsUp, script_up}

-- ---- sums

entries_of-append : (a b : List Step) → entries_of (a ++ b) ≡ entries_of a ++ entries_of b
entries_of-append [] b = refl
entries_of-append (s ∷ a) b = ap (λ (l : List Entry). s.entries ++ l) (entries_of-append a b) ∙ sym (append_assoc s.entries (entries_of a) (entries_of b))

-- a summary with one entry more is that of all of them
abbrev pub SummariesAreSums : Type 0
SummariesAreSums = (lines : ℕ) (entries : List Entry) (entry : Entry) → with_entry (summary_of lines entries) entry ≡ summary_of lines (entries ++ entry ∷ [])

with_entries-is : SummariesAreSums → (lines : ℕ) (before entries : List Entry) → fold with_entry (summary_of lines before) entries ≡ summary_of lines (before ++ entries)
with_entries-is sums lines before [] = ap (summary_of lines) (sym (append-nil before))
with_entries-is sums lines before (entry ∷ entries) =
    ap (λ (s : Summary). fold with_entry s entries) (sums lines before entry) ∙ with_entries-is sums lines (before ++ entry ∷ []) entries ∙ ap (summary_of lines) (append_assoc before (entry ∷ []) entries)

with_line-is : SummariesAreSums → (lines : ℕ) (before entries : List Entry) → with_line (summary_of lines before) entries ≡ summary_of (lines + 1) (before ++ entries)
unfolding summary_of
with_line-is sums lines before entries = with_entries-is sums (lines + 1) before entries

-- what is added up in two parts
pub parts_added : (s a b : Summary) (log : List Entry) (reply : Reply) → a ≡ fold with_entry s log → b ≡ fold with_entry a (Own reply ∷ []) → b ≡ fold with_entry s (log ++ Own reply ∷ [])
parts_added s a b log reply p q = q ∙ ap (λ (z : Summary). with_entry z (Own reply)) p ∙ sym (fold-append with_entry s log (Own reply ∷ []))

-- a line that was answered, and whose entries were added up
pub answered_adds : (r : Option Reply) (m m' : Machine) (line : Line) (log entries : List Entry) (s s' : Summary) (tape tape' : Option (List Touch)) → entries ≡ log
    → AnswerGives r m m' line log tape tape' → s' ≡ with_line s (entered entries r) → Adds (step m line) m' s s' tape tape'
answered_adds None m m' line log entries s s' tape tape' is q e = record { after = sym q.after; sums = e ∙ ap (with_line s) (sym q.entries); taped = q.taped }
answered_adds (Some reply) m m' line log entries s s' tape tape' is q e =
    record { after = sym q.after; sums = e ∙ ap (λ (l : List Entry). with_line s (l ++ Own reply ∷ [])) is ∙ ap (with_line s) (sym q.entries); taped = q.taped }

-- no line
pub Sums-none : (m : Machine) (tape : Option (List Touch)) → Sums m m [] (summary_of 0 []) tape tape
Sums-none m tape = record { after = refl; sums = refl; taped = Logs-nil tape }

-- one line more
pub Sums-next : SummariesAreSums → (m m' m'' : Machine) (lines : List Line) (line : Line) (s s' : Summary) (tape tape' tape'' : Option (List Touch))
    → Sums m m' lines s tape tape' → Adds (step m' line) m'' s s' tape' tape'' → Sums m m'' (lines ++ line ∷ []) s' tape tape''
Sums-next known m m' m'' lines line s s' tape tape' tape'' q r =
    let k = (played m lines).after in
    let steps = (played m lines).steps in
    let made = step k line in
    let both = played-append m lines (line ∷ []) in
    let second = subst (λ (n : Machine). Adds (step n line) m'' s s' tape' tape'') q.after r in
    let entries : entries_of (steps ++ made ∷ []) ≡ entries_of steps ++ made.entries =
    entries_of-append steps (made ∷ []) ∙ ap (λ (l : List Entry). entries_of steps ++ l) (append-nil made.entries) in
    let touches : steps_touches (steps ++ made ∷ []) ≡ steps_touches steps ++ made.touches =
    touches-append steps (made ∷ []) ∙ ap (λ (l : List Touch). steps_touches steps ++ l) (append-nil made.touches) in
    record {
      after = second.after ∙ sym (ap (λ (p : Play). p.after) both);
      sums = second.sums ∙ ap (λ (z : Summary). with_line z made.entries) q.sums ∙ with_line-is known (length lines) (entries_of steps) made.entries
          ∙ ap (summary_of (length lines + 1)) (sym (ap (λ (p : Play). entries_of p.steps) both ∙ entries))
          ∙ ap (λ (n : ℕ). summary_of n (entries_of (played m (lines ++ line ∷ [])).steps)) (sym (length-append lines (line ∷ [])));
      taped = subst (Logs tape tape'') (sym (ap (λ (p : Play). steps_touches p.steps) both ∙ touches)) (Logs-append tape tape' tape'' (steps_touches steps) made.touches q.taped second.taped);
    }

-- Of all lines some were replayed, and these are left.
pub record Soaking (m m' : Machine) (all left : List Line) (s : Summary) (tape tape' : Option (List Touch)) : Type 0 where
  pub lines : List Line
  pub split : all ≡ lines ++ left
  pub sums : Sums m m' lines s tape tape'

pub Soaking-none : (m : Machine) (all left : List Line) (s : Summary) (tape : Option (List Touch)) → left ≡ all → s ≡ summary_of 0 [] → Soaking m m all left s tape tape
Soaking-none m all left s tape e none = record { lines = []; split = sym e; sums = subst (λ (z : Summary). Sums m m [] z tape tape) (sym none) (Sums-none m tape) }

pub Soaking-next : SummariesAreSums → (m m' m'' : Machine) (all left left' : List Line) (line : Line) (s s' : Summary) (tape tape' tape'' : Option (List Touch))
    → Soaking m m' all left s tape tape' → left ≡ line ∷ left' → Adds (step m' line) m'' s s' tape' tape'' → Soaking m m'' all left' s' tape tape''
Soaking-next known m m' m'' all left left' line s s' tape tape' tape'' q e r = record {
  lines = q.lines ++ line ∷ [];
  split = q.split ∙ ap (λ (l : List Line). q.lines ++ l) e ∙ sym (append_assoc q.lines (line ∷ []) left');
  sums = Sums-next known m m' m'' q.lines line s s' tape tape' tape'' q.sums r;
}

pub Soaking-all : (m m' : Machine) (all left : List Line) (s : Summary) (tape tape' : Option (List Touch)) → Soaking m m' all left s tape tape' → left ≡ [] → Sums m m' all s tape tape'
Soaking-all m m' all left s tape tape' q e =
    subst (λ (l : List Line). Sums m m' l s tape tape') (sym (q.split ∙ ap (λ (l : List Line). q.lines ++ l) e ∙ append-nil q.lines)) q.sums

-- ---- machines that are ready

pub ready_here : (common : Shape) (m : Machine) → IsReady common m → IsReady m.board.shape m
ready_here common m h = record { shape = refl; ram = h.ram ∙ sym h.shape; fls = h.fls ∙ sym h.shape; free = h.free; none = h.none }

pub ready_there : (common : Shape) (m m' : Machine) → m.board.shape ≡ common → IsReady m.board.shape m' → IsReady common m'
ready_there common m m' e h = subst (λ (shape : Shape). IsReady shape m') e h

-- ---- how it ends

told-caused : (result : Status) (text : List ℕ) (h h' : Option (List ℕ)) (source sink sink' : ℕ) → Told result status.Done text h h' sink sink' → StatusCaused result source source sink sink'
told-caused result text h h' source sink sink' (inl t) = subst (λ (s : Status). StatusCaused s source source sink sink') (sym t.0) (refl, t.1.same)
told-caused result text h h' source sink sink' (inr t) = subst (λ (s : Status). StatusCaused s source source sink sink') (sym t.0) (t.1.cause, inl refl)

pub soak_caused : (result : Status) (number : ℕ) (defect : Option Fault) (old new : Board) (source sink sink' : ℕ) (x : Change) → SoakGives result number defect old new sink sink' x
    → StatusCaused result source source sink sink'
soak_caused result number defect old new source sink sink' x (inl told) = told-caused result (soaked number defect).text x.held x.held' source sink sink' told.0
soak_caused result number defect old new source sink sink' x (inr lacks) =
    subst (λ (s : Status). StatusCaused s source source sink sink') (sym lacks.none) (refl, lacks.same)

soaked-done : (number : ℕ) (defect : Option Fault) → (soaked number defect).status ≡ status.Done
unfolding soaked
soaked-done number defect = refl

pub soak_completes : (result : Status) (number : ℕ) (defect : Option Fault) (old new : Board) (sink sink' : ℕ) (x : Change) → SoakGives result number defect old new sink sink' x
    → Stood sink sink' → (result ≡ (soaked number defect).status) ⊎ (result ≡ status.NoMemory)
soak_completes result number defect old new sink sink' x (inl (inl w, board)) stood = inl (w.0 ∙ sym (soaked-done number defect))
soak_completes result number defect old new sink sink' x (inl (inr w, board)) stood = absurd (not-risen sink sink' stood w.1.cause)
soak_completes result number defect old new sink sink' x (inr lacks) stood = inr lacks.none

-- ---- how the sums begin, and how they go on

pub none-lines : (summary_of 0 []).lines ≡ 0
unfolding summary_of
none-lines = refl

pub none-ran : (summary_of 0 []).ran ≡ 0
unfolding summary_of
none-ran = refl

pub none-served : (summary_of 0 []).served ≡ 0
unfolding summary_of
none-served = refl

lines-fold : (s : Summary) (entries : List Entry) → (fold with_entry s entries).lines ≡ s.lines
lines-fold s [] = refl
lines-fold s (entry ∷ entries) = lines-fold (with_entry s entry) entries

pub lines-with_line : (s : Summary) (entries : List Entry) → (with_line s entries).lines ≡ s.lines + 1
lines-with_line s entries = lines-fold (record s { lines = s.lines + 1 }) entries

-- ---- what is told

-- the sums of a whole script, and its overall result, were told
pub soaked_gives : (result : Status) (number : ℕ) (defect : Option Fault) (m m' : Machine) (s : Summary) (old : Board) (was tape tape' : Option (List Touch)) (h h' : Option (List ℕ)) (sink sink' : ℕ)
    → m ≡ started job_config defect → tape ≡ Some [] → Sums m m' (script number) s tape tape'
    → Told result status.Done (summary_text s (overall m'.modules.ram.results)) h h' sink sink'
    → SoakGives result number defect old m'.board sink sink' (outputs h h' was tape')
unfolding soaked
soaked_gives result number defect m m' s old was tape tape' h h' sink sink' e t sums told =
    let first = started job_config defect in
    let play : Play = played first (script number) in
    let here = subst (λ (n : Machine). Sums n m' (script number) s tape tape') e sums in
    let text : summary_text s (overall m'.modules.ram.results) ≡ summary_text (summary_of (length (script number)) (entries_of play.steps)) (overall play.after.modules.ram.results) =
    ap (λ (z : Summary). summary_text z (overall m'.modules.ram.results)) here.sums
    ∙ ap (λ (k : Machine). summary_text (summary_of (length (script number)) (entries_of play.steps)) (overall k.modules.ram.results)) here.after in
    inl (
      subst (λ (l : List ℕ). Told result status.Done l h h' sink sink') text told,
      (ap (λ (k : Machine). k.board) here.after, subst (λ (z : Option (List Touch)). Logs z tape' (steps_touches play.steps)) t here.taped),
    )

-- RamTst is initialized behind it
pub soaked_up : LinesAreOfForms → (number : ℕ) (defect : Option Fault) (m m' : Machine) (s : Summary) (tape tape' : Option (List Touch)) → m ≡ started job_config defect → Sums m m' (script number) s tape tape' → IsUp m'.modules.ram
soaked_up forms number defect m m' s tape tape' e sums =
    let here = subst (λ (n : Machine). Sums n m' (script number) s tape tape') e sums in
    subst (λ (k : Machine). IsUp k.modules.ram) (sym here.after) (script_up forms number defect)

pub started_defect : (config : Config) (defect : Option Fault) → (started config defect).board.defect ≡ defect
unfolding powered_up
started_defect config defect = refl
