-- From the configuration and the script to the job.
use Rattle.std.proofs.Common.{ℕ, ◌+◌, ◌≡◌, List, [], ◌∷◌, ◌++◌, length, take, ◌≤◌, Option, Some, None, ◌⊎◌, inl, inr, refl, sym, ap, ◌∙◌, subst, arith, append_assoc}
use Rattle.std.proofs.lemmas.Bool.{lt-leb, lt-ltb}
use Rattle.std.proofs.lemmas.List.{take_all}
use Rattle.std.proofs.Math.Seq.{take-append-add}
use Rattle.std.specs.Io.KnownBytes.{prepend_known, Appends}
use Rattle.mt_port.specs.Causes.{Rose}
use Rattle.mt_port.specs.Streams.{WhereTold, AppendsFront}
use Rattle.mt_port.specs.Board.{Board, Logs, powered_up}
use Rattle.mt_port.specs.declared.board.Shape.{Shape}
use Rattle.mt_port.specs.declared.board.Touch.{Touch}
use Rattle.mt_port.specs.Inner.Streams.{Appends-trans, AppendsFront-after, AppendsFront-more, WhereTold-map}
use Rattle.mt_fault.specs.declared.fault.Fault.{Fault as MemoryFault}
use Rattle.mt_blocks.specs.declared.config.ParamSet.{ParamSet}
use Rattle.mt_text.specs.declared.line.Line.{Line}
use Rattle.mt_conf.specs.declared.config.Config.{Config}
use Rattle.mt_replay.specs.declared.form.Form.{Form}
use Rattle.mt_replay.specs.declared.form.Form.TheVariants as forms
use Rattle.mt_replay.specs.declared.form.Task.{Task}
use Rattle.mt_replay.specs.declared.refused.Refused.{Refused}
use Rattle.mt_replay.specs.declared.refused.Refused.TheVariants as because
use Rattle.mt_replay.specs.declared.job.Found.{Found}
use Rattle.mt_replay.specs.declared.job.Found.TheVariants as found
use Rattle.mt_replay.specs.declared.job.Follows.{Follows}
use Rattle.mt_replay.specs.declared.job.Follows.TheVariants as follows
use Rattle.mt_replay.specs.declared.run.End.{End}
use Rattle.mt_replay.specs.declared.run.End.TheVariants as end
use Rattle.mt_replay.specs.declared.status.Status.{Status}
use Rattle.mt_replay.specs.declared.status.Status.TheVariants as status
use Rattle.mt_replay.specs.Input.{Ending, Finished, Failed, cut, Job, Parted, Whole, job_of}
use Rattle.mt_replay.specs.Inner.Head.{Parts, EndsWith, Exceeds, HeadBreaks, IsTooLong}
use Rattle.mt_machine.specs.Machine.{Machine, started, Play}
use Rattle.mt_replay.specs.Script.{Script, ended, led_by, script_from}
use Rattle.mt_replay.specs.Cut.{chosen_text}
use Rattle.mt_replay.specs.Outcome.{Outcome, Moment, at_the_end, configured, judged_job, steps_touches, bad_config_text, rule_number, play_of, after_of, lines_text, opening_text, closing_text, end_text, end_status, bad_config, said, read_fault_text, scripted, outcome}
use Rattle.mt_replay.specs.Changes.{Change, change, IsWritten, UsesBoard}
use Rattle.mt_replay.specs.Inner.Runs.{outputs, place, Answered, EndsAt, Stops, EndCaused}
use Rattle.mt_replay.specs.Inner.Jobs.{Given, TellsRefusals, IsFound, HasBehind, FoundGives, Begins, BeginsEmpty, HeadFails, HasSet, IsTask, closing_of, task_end, BeginsAs, IsBegun, BeginFails}
use Rattle.mt_replay.specs.Replay.{Outcomes, outcomes, BoardIs, Concluded, TakenGive, IsDoneSoFar, JobGives, StatusCaused, Told, Stood, CompletesBy}
use Rattle.mt_replay.proofs.Plays.{lines_text-append}
use Rattle.mt_replay.proofs.Runs.{front_begun, written_then, written_more}

-- what is left before and between, and between and after
pub told_through : (a b : Option (List ℕ)) (held : List ℕ) (left : Option (List ℕ)) {P : List ℕ → List ℕ → Type 0} (Q : List ℕ → List ℕ → Type 0) {R : List ℕ → List ℕ → Type 0}
    → WhereTold a b P → WhereTold b (prepend_known held left) Q → ((x y z : List ℕ) → P x y → Q y (held ++ z) → R x z) → WhereTold a left R
told_through None b held left Q p q f = tt
told_through (Some x) None held left Q p q f = absurd p
told_through (Some x) (Some y) held None Q p q f = absurd q
told_through (Some x) (Some y) held (Some z) Q p q f = f x y z p q

-- what is told of held bytes and those behind them, of the latter alone
pub told_behind : (a : Option (List ℕ)) (held : List ℕ) (left : Option (List ℕ)) (P : List ℕ → List ℕ → Type 0) {R : List ℕ → List ℕ → Type 0}
    → WhereTold a (prepend_known held left) P → ((x z : List ℕ) → P x (held ++ z) → R x z) → WhereTold a left R
told_behind None held left P p f = tt
told_behind (Some x) held None P p f = absurd p
told_behind (Some x) held (Some z) P p f = f x z p

-- ---- the configuration

lines_or_nothing : follows.Nothing ≡ follows.Lines → ⊥
lines_or_nothing e = cc

part_is : (kept x y : List ℕ) (given : Given) (h : Parts kept x y) (ending : Ending) (rest : List ℕ) → judged_job given ending (job_of ending (h.front ++ rest)) ≡ judged_job given ending (Parted kept (cut rest))
part_is kept x y given h ending rest = ap (judged_job given ending) (h.job ending rest)

-- the separator was found, and lines may follow
pub found_follows : (found : Found) (kept x y : List ℕ) → IsFound found kept
    → HasBehind follows.Lines found → Parts kept x y → FoundGives found x y
found_follows found.NoMemory kept x y value same h = tt
found_follows (found.Refused why) kept x y value same h = λ given alike.
    ap (λ (bytes : List ℕ). judged_job given Finished (job_of Finished bytes)) h.taken ∙ part_is kept x y given h Finished y ∙ value given Finished (cut y) alike
found_follows (found.Config c follows.Lines) kept x y value same h = record {
  front = h.front;
  taken = h.taken;
  is = λ given ending rest. part_is kept x y given h ending rest ∙ value given ending (cut rest);
}
found_follows (found.Config c follows.Nothing) kept x y value same h = absurd (lines_or_nothing same)

end_is : (job : Job) (x y : List ℕ) (given : Given) → EndsWith job x y → judged_job given Finished (job_of Finished x) ≡ judged_job given Finished job
end_is job x y given h = ap (judged_job given Finished) h.job

-- the separator ends the input
pub found_empty : (found : Found) (kept x y : List ℕ) → IsFound found kept
    → HasBehind follows.Nothing found → EndsWith (Parted kept (record { lines = []; rest = [] })) x y → FoundGives found x y
found_empty found.NoMemory kept x y value same h = tt
found_empty (found.Refused why) kept x y value same h = λ given alike. end_is _ x y given h ∙ value given Finished (record { lines = []; rest = [] }) alike
found_empty (found.Config c follows.Nothing) kept x y value same h = record {
  is = λ given. end_is _ x y given h ∙ value given Finished (record { lines = []; rest = [] });
  all = h.all;
}
found_empty (found.Config c follows.Lines) kept x y value same h = absurd (lines_or_nothing (sym same))

pub found_whole : (kept x y : List ℕ) (why : Refused) → ((given : Given) → judged_job given Finished (Whole kept) ≡ bad_config why) → EndsWith (Whole kept) x y → FoundGives (found.Refused why) x y
found_whole kept x y why value h = λ given alike. end_is _ x y given h ∙ value given

long_job : (given : Given) (job : Job) → IsTooLong job → judged_job given Finished job ≡ bad_config (because.Rule 18)
long_job given (Parted config lines) h = rw (lt-ltb 65536 (length config) h) refl
long_job given (Whole bytes) h = rw (lt-ltb 65536 (length bytes) (omega (arith, h))) refl

pub found_long : (x y : List ℕ) → Exceeds x y → FoundGives (found.Refused (because.Rule 18)) x y
found_long x y h = λ given alike.
    ap (λ (bytes : List ℕ). judged_job given Finished (job_of Finished bytes)) h.taken ∙ long_job given (job_of Finished (h.front ++ y)) (h.long Finished y)

pub head_fails : (x y : List ℕ) → HeadBreaks x y → HeadFails x y
head_fails x y h = record {
  front = h.front;
  taken = h.taken;
  is = λ given. ap (judged_job given Failed) h.job ∙ rw (lt-leb 65542 (length h.front) h.short) refl;
}

-- the outcome of a form is given by its configuration
outcome-is : (form : Form) (ending : Ending) (defect : Option MemoryFault) (bytes : List ℕ) → outcome form ending defect bytes ≡ judged_job (configured form ending defect) ending (job_of ending bytes)
unfolding outcome
outcome-is form ending defect bytes = refl

-- ---- one text at the end

-- a text that was to be written after another
pub told_after : (result how : Status) (text more : List ℕ) (a b d : Option (List ℕ)) (k k' : ℕ) → Appends a b text → Told result how more b d k k'
    → ((result ≡ how) × Appends a d (text ++ more)) ⊎ ((result ≡ status.WriteFault) × AppendsFront a d (text ++ more) × IsWritten a d text)
told_after result how text more a b d k k' p (inl t) = inl (t.0, Appends-trans a b d text more p t.1.written)
told_after result how text more a b d k k' p (inr t) =
    inr (t.0, AppendsFront-after a b d text more p t.1.written, written_then a b d text (take t.1.written.count more) p t.1.written.front)

-- ---- what the script gives

-- for the forms that leave the machine, the machine does not matter
scripted-as : (form : Form) (c : Config) (defect : Option MemoryFault) (m : Machine) (before : Board) (was tape : Option (List Touch)) (script : Script)
    → BeginsAs form c defect m before was tape → scripted form c (started c defect) script ≡ scripted form c m script
scripted-as forms.Run c defect m before was tape script h = ap (λ (n : Machine). scripted forms.Run c n script) (sym h.0)
scripted-as forms.Check c defect m before was tape script h = refl
scripted-as forms.Format c defect m before was tape script h = refl
scripted-as forms.Migrate c defect m before was tape script h = refl
scripted-as (forms.Cut ask) c defect m before was tape script h = refl

-- what the bytes give, by how their script ends
abbrev pub GivesAt : End → Outcomes → Outcome → (before rest : List ℕ) → Type 0
GivesAt (end.Whole count) given o before rest = (given Finished before ≡ o) × (rest ≡ [])
GivesAt (end.Refused line code at) given o before rest = given Finished before ≡ o
GivesAt end.Broken given o before rest = TakenGive given o before rest

pub nothing_behind : (xs ys : List ℕ) → xs ++ ys ≡ [] → ys ≡ []
nothing_behind [] ys n = n
nothing_behind (x ∷ xs) ys n = cc

-- the outcome of bytes behind a configuration
begins_is : (form : Form) (c : Config) (defect : Option MemoryFault) (m : Machine) (before : Board) (was tape : Option (List Touch)) (x y : List ℕ) (t : Begins c x y) (ending : Ending) (rest : List ℕ) (script : Script)
    → BeginsAs form c defect m before was tape → script_from c.shape ending 1 (cut rest) ≡ script → outcome form ending defect (t.front ++ rest) ≡ scripted form c m script
begins_is form c defect m before was tape x y t ending rest script begins is =
    outcome-is form ending defect (t.front ++ rest) ∙ t.is (configured form ending defect) ending rest ∙ ap (scripted form c (started c defect)) is ∙ scripted-as form c defect m before was tape script begins

pub gives_at : (e : End) (form : Form) (c : Config) (shape : Shape) (defect : Option MemoryFault) (m : Machine) (before : Board) (was tape : Option (List Touch)) (lines : List Line) (held : List ℕ) (a b left : Option (List ℕ))
    → shape ≡ c.shape → BeginsAs form c defect m before was tape → (e ≡ end.Broken → held ≡ []) → WhereTold a b (Begins c) → WhereTold b (prepend_known held left) (EndsAt e shape 1 lines)
    → WhereTold a left (GivesAt e (outcomes form defect) (scripted form c m (record { lines = lines; end = e })))
gives_at (end.Whole count) form c shape defect m before was tape lines held a b left same begins none p q =
    told_through a b held left _ p (subst (λ (s : Shape). WhereTold b (prepend_known held left) (EndsAt (end.Whole count) s 1 lines)) same q)
    (λ x y z t h. (ap (outcome form Finished defect) t.taken ∙ begins_is form c defect m before was tape x y t Finished y _ begins h.0, nothing_behind held z h.1))
gives_at (end.Refused line code at) form c shape defect m before was tape lines held a b left same begins none p q =
    told_through a b held left _ p (subst (λ (s : Shape). WhereTold b (prepend_known held left) (EndsAt (end.Refused line code at) s 1 lines)) same q)
    (λ x y z t h. ap (outcome form Finished defect) t.taken ∙ begins_is form c defect m before was tape x y t Finished y _ begins h)
gives_at end.Broken form c shape defect m before was tape lines held a b left same begins none p q =
    told_through a b held left _ p (subst (λ (s : Shape). WhereTold b (prepend_known held left) (EndsAt end.Broken s 1 lines)) same q)
    (λ x y z t h. record {
      front = t.front ++ h.front;
      taken = t.taken ∙ ap (λ (l : List ℕ). t.front ++ l) (h.taken ∙ ap (λ (l : List ℕ). h.front ++ (l ++ z)) (none refl)) ∙ sym (append_assoc t.front h.front z);
      is = begins_is form c defect m before was tape x y t Failed h.front _ begins h.script;
    })

-- the same of a configuration that ended the input
pub gives_empty : (form : Form) (c : Config) (defect : Option MemoryFault) (m : Machine) (before : Board) (was tape : Option (List Touch)) (held : List ℕ) (a left : Option (List ℕ))
    → BeginsAs form c defect m before was tape → WhereTold a (prepend_known held left) (BeginsEmpty c)
    → WhereTold a left (GivesAt (end.Whole 0) (outcomes form defect) (scripted form c m (ended (end.Whole 0))))
gives_empty form c defect m before was tape held a left begins p =
    told_behind a held left _ p (λ x z t. (outcome-is form Finished defect x ∙ t.is (configured form Finished defect) ∙ scripted-as form c defect m before was tape (ended (end.Whole 0)) begins, nothing_behind held z t.all))

-- ---- how it is told

closing-is : (form : Form) (c : Config) (set : Option ParamSet) (count : ℕ) → HasSet form set c → closing_of form set count ≡ closing_text form c count
closing-is forms.Run c set count h = refl
closing-is forms.Check c set count h = refl
closing-is forms.Format c set count h = refl
closing-is forms.Migrate c set count h = refl
closing-is (forms.Cut ask) c set count h = ap (chosen_text ask) h

task_end-is : (e : End) (form : Form) (c : Config) (task : Task) → IsTask form c task → task_end task e ≡ end_text form c e
task_end-is (end.Whole count) form c task t = ap (λ (f : Form). closing_of f task.set count) t.same ∙ closing-is form c task.set count t.set
task_end-is (end.Refused line code at) form c task t = refl
task_end-is end.Broken form c task t = refl

-- a board that was powered up keeps its defect
pub begun_uses : (form : Form) (c : Config) (m : Machine) (before : Board) (was tape : Option (List Touch)) → BeginsAs form c before.defect m before was tape → UsesBoard form before m.board was tape
unfolding powered_up
begun_uses forms.Run c m before was tape begins = ap (λ (n : Machine). n.board.defect) begins.0
begun_uses forms.Check c m before was tape begins = begins
begun_uses forms.Format c m before was tape begins = begins
begun_uses forms.Migrate c m before was tape begins = begins
begun_uses (forms.Cut ask) c m before was tape begins = begins

board_is : (form : Form) (c : Config) (defect : Option MemoryFault) (m m' : Machine) (before : Board) (was tape tape' : Option (List Touch)) (play : Play)
    → BeginsAs form c defect m before was tape → UsesBoard form m.board m'.board tape tape' → m' ≡ play.after → Logs tape tape' (steps_touches play.steps)
    → BoardIs (after_of form play) before m'.board was tape'
board_is forms.Run c defect m m' before was tape tape' play begins uses after taped =
    (ap (λ (n : Machine). n.board) after, subst (λ (t : Option (List Touch)). Logs t tape' (steps_touches play.steps)) begins.1 taped)
board_is forms.Check c defect m m' before was tape tape' play begins uses after taped = (uses.0 ∙ begins.0, uses.1 ∙ begins.1)
board_is forms.Format c defect m m' before was tape tape' play begins uses after taped = (uses.0 ∙ begins.0, uses.1 ∙ begins.1)
board_is forms.Migrate c defect m m' before was tape tape' play begins uses after taped = (uses.0 ∙ begins.0, uses.1 ∙ begins.1)
board_is (forms.Cut ask) c defect m m' before was tape tape' play begins uses after taped = (uses.0 ∙ begins.0, uses.1 ∙ begins.1)

-- a whole text was told
pub whole_job : (e : End) (given : Outcomes) (o : Outcome) (old new : Board) (source source' : ℕ) (a left h h' : Option (List ℕ)) (was tape' : Option (List Touch)) → o.status ≡ end_status e
    → WhereTold a left (GivesAt e given o) → Appends h h' o.text → BoardIs o.after old new was tape' → JobGives (end_status e) given old new source source' (change a left h h' was tape')
whole_job (end.Whole count) given o old new source source' a left h h' was tape' how is written board = (
  record { outcome = o; status = how; written = written; is = WhereTold-map a left is (λ x y g. g.0); board = board },
  WhereTold-map a left is (λ x y g. g.1),
)
whole_job (end.Refused line code at) given o old new source source' a left h h' was tape' how is written board = record { outcome = o; status = how; written = written; is = is; board = board }
whole_job end.Broken given o old new source source' a left h h' was tape' how is written board = record { outcome = o; status = how; written = written; is = is; board = board }

-- the sink failed in it
pub cut_job : (e : End) (given : Outcomes) (o : Outcome) (old new : Board) (source source' : ℕ) (a left h h' : Option (List ℕ)) (was tape' : Option (List Touch))
    → WhereTold a left (GivesAt e given o) → EndCaused e source source' → AppendsFront h h' o.text → IsDoneSoFar o old new (change a left h h' was tape')
    → JobGives status.WriteFault given old new source source' (change a left h h' was tape')
cut_job (end.Whole count) given o old new source source' a left h h' was tape' is cause written done =
    record { outcome = o; written = written; done = done; defined = WhereTold-map a left is (λ x y g. inl (cause, g.0)) }
cut_job (end.Refused line code at) given o old new source source' a left h h' was tape' is cause written done =
    record { outcome = o; written = written; done = done; defined = WhereTold-map a left is (λ x y g. inl (cause, g)) }
cut_job end.Broken given o old new source source' a left h h' was tape' is cause written done =
    record { outcome = o; written = written; done = done; defined = WhereTold-map a left is (λ x y g. inr (cause, g.front, g.taken, g.is)) }

-- the sink failed after all was done
pub cut_after : (o : Outcome) (old new : Board) (a left h h' : Option (List ℕ)) (was tape' : Option (List Touch)) (text : List ℕ) → o.moments 0 ≡ at_the_end o.after 0 → AppendsFront h h' text
    → BoardIs o.after old new was tape' → IsDoneSoFar o old new (change a left h h' was tape')
cut_after o old new a left h h' was tape' text last front board = inr (
  0,
  subst (λ (moment : Moment). IsWritten h h' moment.text) (sym last) (front_begun h h' text front),
  subst (λ (moment : Moment). BoardIs moment.after old new was tape') (sym last) board,
)

-- a script that came to its end, which was told
pub ended_job : (result : Status) (e : End) (form : Form) (c : Config) (task : Task) (defect : Option MemoryFault) (m m' : Machine) (before : Board) (lines : List Line) (a left h h' h'' hend : Option (List ℕ))
    (was tape tape' : Option (List Touch)) (source source' sink sink' : ℕ)
    → IsTask form c task → IsBegun form c defect m before (outputs h h' was tape) → Answered (place form task.shape 1) m m' lines (outputs h' h'' tape tape') → UsesBoard form m.board m'.board tape tape'
    → WhereTold a left (GivesAt e (outcomes form defect) (scripted form c m (record { lines = lines; end = e }))) → EndCaused e source source' → Told result (end_status e) (task_end task e) h'' hend sink sink'
    → JobGives result (outcomes form defect) before m'.board source source' (change a left h hend was tape')
ended_job result e form c task defect m m' before lines a left h h' h'' hend was tape tape' source source' sink sink' t begun answered uses is cause told =
    let o : Outcome = scripted form c m (record { lines = lines; end = e }) in
    let body : Appends h' h'' (lines_text form c.shape m 1 lines) = subst (λ (s : Shape). Appends h' h'' (lines_text form s m 1 lines)) t.shape answered.written in
    let front = Appends-trans h h' h'' (opening_text form c) (lines_text form c.shape m 1 lines) begun.written body in
    let end_told = subst (λ (text : List ℕ). Told result (end_status e) text h'' hend sink sink') (task_end-is e form c task t) told in
    let board = board_is form c defect m m' before was tape tape' (play_of form m lines) begun.machine uses answered.after answered.taped in
    (elim (told_after result (end_status e) (opening_text form c ++ lines_text form c.shape m 1 lines) (end_text form c e) h h'' hend sink sink' front end_told) [
      | inl w ↦ subst (λ (s : Status). JobGives s (outcomes form defect) before m'.board source source' (change a left h hend was tape')) (sym w.0)
          (whole_job e (outcomes form defect) o before m'.board source source' a left h hend was tape' refl is w.1 board)
      | inr w ↦ subst (λ (s : Status). JobGives s (outcomes form defect) before m'.board source source' (change a left h hend was tape')) (sym w.0)
          (cut_job e (outcomes form defect) o before m'.board source source' a left h hend was tape' is cause w.1 (inr (
            length lines,
            subst (λ (l : List Line). IsWritten h hend (opening_text form c ++ lines_text form c.shape m 1 l)) (sym (take_all (length lines) lines (let few : length lines ≤ length lines = omega arith in few))) w.2,
            subst (λ (l : List Line). BoardIs (after_of form (play_of form m l)) before m'.board was tape') (sym (take_all (length lines + 1) lines (let few : length lines ≤ length lines + 1 = omega arith in few))) board,
          )))
    ])

pub ended_caused : (result : Status) (e : End) (text : List ℕ) (h h' : Option (List ℕ)) (source source' sink sink' sink'' : ℕ) → EndCaused e source source' → sink' ≡ sink → Told result (end_status e) text h h' sink' sink''
    → StatusCaused result source source' sink sink''
ended_caused result e text h h' source source' sink sink' sink'' cause same (inl t) = subst (λ (s : Status). StatusCaused s source source' sink sink'') (sym t.0) (by e cause)
  where
    by : (e : End) → EndCaused e source source' → StatusCaused (end_status e) source source' sink sink''
    by (end.Whole count) k = (k, t.1.same ∙ same)
    by (end.Refused line code at) k = (k, t.1.same ∙ same)
    by end.Broken k = (k, t.1.same ∙ same)
ended_caused result e text h h' source source' sink sink' sink'' cause same (inr t) =
    subst (λ (s : Status). StatusCaused s source source' sink sink'') (sym t.0) (subst (λ (k : ℕ). Rose k sink'') same t.1.cause, by e cause)
  where
    by : (e : End) → EndCaused e source source' → (source' ≡ source) ⊎ Rose source source'
    by (end.Whole count) k = inl k
    by (end.Refused line code at) k = inl k
    by end.Broken k = inr k

-- ---- the other ends

-- what is told with a relation is there, or nothing is told
told_with : {A : Type 0} → A → (a b : Option (List ℕ)) (P : A → List ℕ → List ℕ → Type 0) → WhereTold a b (λ x y. (k : A) × P k x y) → (k : A) × WhereTold a b (P k)
told_with other None b P p = (other, tt)
told_with other (Some x) None P p = absurd p
told_with other (Some x) (Some y) P p = p

-- the lines before one, and those up to it
lines_before : (lines : List Line) (line : Line) (more : List Line) → take (length lines) ((lines ++ line ∷ []) ++ more) ≡ lines
lines_before [] line more = refl
lines_before (first ∷ lines) line more = ap (λ (l : List Line). first ∷ l) (lines_before lines line more)

lines_up_to : (lines : List Line) (line : Line) (more : List Line) → take (length lines + 1) ((lines ++ line ∷ []) ++ more) ≡ lines ++ line ∷ []
lines_up_to lines line more = ap (take (length lines + 1)) (append_assoc lines (line ∷ []) more) ∙ take-append-add lines (line ∷ more) 1

-- the sink failed in the text of a line
pub stopped_job : (form : Form) (c : Config) (task : Task) (defect : Option MemoryFault) (m m' : Machine) (before : Board) (held : List ℕ) (a b left h h' hend : Option (List ℕ))
    (was tape tape' : Option (List Touch)) (source source' : ℕ)
    → IsTask form c task → IsBegun form c defect m before (outputs h h' was tape) → WhereTold a b (Begins c) → source' ≡ source
    → Stops (place form task.shape 1) m m' (change b (prepend_known held left) h' hend tape tape') → UsesBoard form m.board m'.board tape tape'
    → JobGives status.WriteFault (outcomes form defect) before m'.board source source' (change a left h hend was tape')
stopped_job form c task defect m m' before held a b left h h' hend was tape tape' source source' t begun begins same stops uses =
    let s = subst (λ (shape : Shape). Stops (place form shape 1) m m' (change b (prepend_known held left) h' hend tape tape')) t.shape stops in
    let lines = s.lines ++ s.line ∷ [] in
    let opening = opening_text form c in
    let chosen = told_with (ended end.Broken) a left (λ more x z. outcome form Finished defect x ≡ scripted form c m (led_by lines more))
    (told_through a b held left _ begins s.script (λ x y z u w.
    (w.more, ap (outcome form Finished defect) u.taken ∙ begins_is form c defect m before was tape x y u Finished y (led_by lines w.more) begun.machine w.script))) in
    let more = chosen.0 in
    let first = lines_text form c.shape m 1 lines in
    let front = AppendsFront-after h h' hend opening first begun.written s.written in
    record {
      outcome = scripted form c m (led_by lines more);
      written = subst (AppendsFront h hend) (sym (whole_text form c m lines more)) (AppendsFront-more h hend (opening ++ first) _ front);
      done = inr (
        length s.lines,
        subst (λ (l : List Line). IsWritten h hend (opening ++ lines_text form c.shape m 1 l)) (sym (lines_before s.lines s.line more.lines))
            (written_more h h' hend opening (lines_text form c.shape m 1 s.lines) begun.written s.whole),
        subst (λ (l : List Line). BoardIs (after_of form (play_of form m l)) before m'.board was tape') (sym (lines_up_to s.lines s.line more.lines))
            (board_is form c defect m m' before was tape tape' (play_of form m lines) begun.machine uses s.after s.taped),
      );
      defined = WhereTold-map a left chosen.1 (λ x z e. inl (same, e));
    }
  where
    whole_text : (form : Form) (c : Config) (m : Machine) (lines : List Line) (more : Script)
        → (scripted form c m (led_by lines more)).text
        ≡ (opening_text form c ++ lines_text form c.shape m 1 lines) ++ (lines_text form c.shape (play_of form m lines).after (1 + length lines) more.lines ++ end_text form c more.end)
    whole_text form c m lines more =
        let later = lines_text form c.shape (play_of form m lines).after (1 + length lines) more.lines in
        let opening = opening_text form c in
        let first = lines_text form c.shape m 1 lines in
        ap (λ (l : List ℕ). (opening ++ l) ++ end_text form c more.end) (lines_text-append form c.shape m 1 lines more.lines)
        ∙ ap (λ (l : List ℕ). l ++ end_text form c more.end) (sym (append_assoc opening first later))
        ∙ append_assoc (opening ++ first) later (end_text form c more.end)

-- what stands before the script could not be done
pub failed_job : (result : Status) (form : Form) (c : Config) (behind : Follows) (defect : Option MemoryFault) (old new : Board) (held : List ℕ) (a left h h' : Option (List ℕ)) (was tape' : Option (List Touch)) (source sink sink' : ℕ)
    → BeginFails result form c old new sink sink' (outputs h h' was tape') → WhereTold a (prepend_known held left) (FoundGives (found.Config c behind))
    → JobGives result (outcomes form defect) old new source source (change a left h h' was tape')
failed_job status.NoMemory form c behind defect old new held a left h h' was tape' source sink sink' fails begins = (fails.2, fails.0, fails.1)
failed_job status.WriteFault form c behind defect old new held a left h h' was tape' source sink sink' fails begins =
    let m = started c defect in
    let chosen = told_with (ended end.Broken) a left (λ script x z. outcome form Finished defect x ≡ scripted form c m script)
    (told_behind a held left _ begins (λ x z t. by behind x (held ++ z) t)) in
    let lines = lines_text form c.shape m 1 chosen.0.lines in
    record {
      outcome = scripted form c m chosen.0;
      written = AppendsFront-more h h' (opening_text form c ++ lines) (end_text form c chosen.0.end) (AppendsFront-more h h' (opening_text form c) lines fails.2);
      done = inl (fails.0, fails.1);
      defined = WhereTold-map a left chosen.1 (λ x z e. inl (refl, e));
    }
  where
    by : (lines : Follows) (x y : List ℕ) → FoundGives (found.Config c lines) x y → (script : Script) × (outcome form Finished defect x ≡ scripted form c (started c defect) script)
    by follows.Lines x y t =
        (script_from c.shape Finished 1 (cut y), ap (outcome form Finished defect) t.taken ∙ outcome-is form Finished defect (t.front ++ y) ∙ t.is (configured form Finished defect) Finished y)
    by follows.Nothing x y t = (ended (end.Whole 0), outcome-is form Finished defect x ∙ t.is (configured form Finished defect))
failed_job status.Done form c behind defect old new held a left h h' was tape' source sink sink' fails begins = absurd fails
failed_job status.Usage form c behind defect old new held a left h h' was tape' source sink sink' fails begins = absurd fails
failed_job (status.BadConfig code) form c behind defect old new held a left h h' was tape' source sink sink' fails begins = absurd fails
failed_job (status.BadScript line code at) form c behind defect old new held a left h h' was tape' source sink sink' fails begins = absurd fails
failed_job status.ReadFault form c behind defect old new held a left h h' was tape' source sink sink' fails begins = absurd fails
failed_job (status.Differs line) form c behind defect old new held a left h h' was tape' source sink sink' fails begins = absurd fails

pub failed_caused : (result : Status) (form : Form) (c : Config) (old new : Board) (source sink sink' : ℕ) (x : Change) → BeginFails result form c old new sink sink' x → StatusCaused result source source sink sink'
failed_caused status.NoMemory form c old new source sink sink' x fails = (refl, fails.3)
failed_caused status.WriteFault form c old new source sink sink' x fails = (fails.3, inl refl)
failed_caused status.Done form c old new source sink sink' x fails = absurd fails
failed_caused status.Usage form c old new source sink sink' x fails = absurd fails
failed_caused (status.BadConfig code) form c old new source sink sink' x fails = absurd fails
failed_caused (status.BadScript line code at) form c old new source sink sink' x fails = absurd fails
failed_caused status.ReadFault form c old new source sink sink' x fails = absurd fails
failed_caused (status.Differs line) form c old new source sink sink' x fails = absurd fails

pub failed_board : (result : Status) (form : Form) (c : Config) (old new : Board) (sink sink' : ℕ) (x : Change) → BeginFails result form c old new sink sink' x → (new ≡ old) × (x.tape' ≡ x.tape)
failed_board status.NoMemory form c old new sink sink' x fails = (fails.0, fails.1)
failed_board status.WriteFault form c old new sink sink' x fails = (fails.0, fails.1)
failed_board status.Done form c old new sink sink' x fails = absurd fails
failed_board status.Usage form c old new sink sink' x fails = absurd fails
failed_board (status.BadConfig code) form c old new sink sink' x fails = absurd fails
failed_board (status.BadScript line code at) form c old new sink sink' x fails = absurd fails
failed_board status.ReadFault form c old new sink sink' x fails = absurd fails
failed_board (status.Differs line) form c old new sink sink' x fails = absurd fails

-- outcomes that a configuration decides, with what is behind it
pub record AreJudged (given : Outcomes) (by : Ending → Given) : Type 0 where
  pub is : (ending : Ending) (bytes : List ℕ) → given ending bytes ≡ judged_job (by ending) ending (job_of ending bytes)
  pub refusals : (ending : Ending) → TellsRefusals (by ending)

pub forms-judged : (form : Form) (defect : Option MemoryFault) → AreJudged (outcomes form defect) (λ ending. configured form ending defect)
forms-judged form defect = record { is = λ ending bytes. outcome-is form ending defect bytes; refusals = λ ending refusal behind. refl }

-- the configuration is refused
pub refused_job : (result : Status) (why : Refused) (given : Outcomes) (by : Ending → Given) (old : Board) (held : List ℕ) (a left h h' : Option (List ℕ)) (tape : Option (List Touch)) (source source' sink sink' : ℕ)
    → AreJudged given by → Told result (status.BadConfig (rule_number why)) (bad_config_text why) h h' sink sink' → source' ≡ source → WhereTold a (prepend_known held left) (FoundGives (found.Refused why))
    → JobGives result given old old source source' (change a left h h' tape tape)
refused_job result why given by old held a left h h' tape source source' sink sink' judged (inl t) same is =
    subst (λ (s : Status). JobGives s given old old source source' (change a left h h' tape tape)) (sym t.0)
    (record {
      outcome = bad_config why;
      status = refl;
      written = t.1.written;
      is = told_behind a held left _ is (λ x z r. judged.is Finished x ∙ r (by Finished) (judged.refusals Finished));
      board = (refl, refl);
    })
refused_job result why given by old held a left h h' tape source source' sink sink' judged (inr t) same is =
    subst (λ (s : Status). JobGives s given old old source source' (change a left h h' tape tape)) (sym t.0)
    (record {
      outcome = bad_config why;
      written = t.1.written;
      done = inl (refl, refl);
      defined = told_behind a held left _ is (λ x z r. inl (same, judged.is Finished x ∙ r (by Finished) (judged.refusals Finished)));
    })

-- the source failed before a configuration was found
pub headless_job : (result : Status) (given : Outcomes) (by : Ending → Given) (old : Board) (held : List ℕ) (a left h h' : Option (List ℕ)) (tape : Option (List Touch)) (source source' sink sink' : ℕ)
    → AreJudged given by → Told result status.ReadFault read_fault_text h h' sink sink' → held ≡ [] → Rose source source' → WhereTold a (prepend_known held left) HeadFails
    → JobGives result given old old source source' (change a left h h' tape tape)
headless_job result given by old held a left h h' tape source source' sink sink' judged t none rose fails =
    (elim t [
      | inl w ↦ subst (λ (s : Status). JobGives s given old old source source' (change a left h h' tape tape)) (sym w.0)
          (record { outcome = said read_fault_text status.ReadFault; status = refl; written = w.1.written; is = taken; board = (refl, refl) })
      | inr w ↦ subst (λ (s : Status). JobGives s given old old source source' (change a left h h' tape tape)) (sym w.0)
          (record { outcome = said read_fault_text status.ReadFault; written = w.1.written; done = inl (refl, refl); defined = WhereTold-map a left taken (λ x z r. inr (rose, r.front, r.taken, r.is)) })
    ])
  where
    taken : WhereTold a left (TakenGive given (said read_fault_text status.ReadFault))
    taken = told_behind a held left _ fails (λ x z f. record {
      front = f.front;
      taken = f.taken ∙ ap (λ (l : List ℕ). f.front ++ (l ++ z)) none;
      is = judged.is Failed f.front ∙ f.is (by Failed);
    })

pub told_unheld : (a b : Option (List ℕ)) (P : List ℕ → List ℕ → Type 0) → WhereTold (prepend_known [] a) b P → WhereTold a b P
told_unheld None b P p = tt
told_unheld (Some x) b P p = p

-- ---- completeness

told-at : (left left' : Option (List ℕ)) (P : List ℕ → List ℕ → Type 0) (bytes : List ℕ) → left ≡ Some bytes → WhereTold left left' P → (after : List ℕ) × P bytes after
told-at None left' P bytes e p = cc
told-at (Some xs) None P bytes e p = absurd p
told-at (Some xs) (Some ys) P bytes e p = (ys, subst (λ (l : List ℕ). P l ys) (some-is xs bytes e) p)
  where
    some-is : (xs bytes : List ℕ) → Some xs ≡ Some bytes → xs ≡ bytes
    some-is xs bytes e = cc

pub not-risen : (k k' : ℕ) → Stood k k' → Rose k k' → ⊥
not-risen k k' stood rose = omega (arith, stood.0, stood.1, rose)

-- what was concluded is what the input gives
concluded : (how : Status) (given : Outcomes) (old new : Board) (x : Change) (bytes : List ℕ) → x.left ≡ Some bytes → Concluded given how old new x → how ≡ (given Finished bytes).status
concluded how given old new x bytes e c = sym c.status ∙ sym (ap (λ (o : Outcome). o.status) (told-at x.left x.left' _ bytes e c.is).1)

pub completes : (result : Status) (given : Outcomes) (old new : Board) (source source' sink sink' : ℕ) (x : Change) → JobGives result given old new source source' x
    → StatusCaused result source source' sink sink' → CompletesBy given result x.left source source' sink sink'
completes status.Done given old new k k' s s' x gives cause source sink bytes e = inl (concluded status.Done given old new x bytes e gives.0)
completes (status.BadConfig code) given old new k k' s s' x gives cause source sink bytes e = inl (concluded (status.BadConfig code) given old new x bytes e gives)
completes (status.BadScript line code at) given old new k k' s s' x gives cause source sink bytes e = inl (concluded (status.BadScript line code at) given old new x bytes e gives)
completes (status.Differs line) given old new k k' s s' x gives cause source sink bytes e = inl (concluded (status.Differs line) given old new x bytes e gives)
completes status.ReadFault given old new k k' s s' x gives cause source sink bytes e = absurd (not-risen k k' source cause.0)
completes status.WriteFault given old new k k' s s' x gives cause source sink bytes e = absurd (not-risen s s' sink cause.0)
completes status.NoMemory given old new k k' s s' x gives cause source sink bytes e = inr refl
completes status.Usage given old new k k' s s' x gives cause source sink bytes e = absurd gives
