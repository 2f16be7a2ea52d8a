-- What is promised of each replay follows from the laws of machines.
use Rattle.std.proofs.Common.{ℕ, ◌≡◌, ◌+◌, ◌-◌, Bool, true, false, cond, List, [], ◌∷◌, ◌++◌, length, take, All, Option, Result, Ok, Err, refl, sym, ap, ◌∙◌, subst}
use Rattle.std.specs.Prelude.{nat_lt, nat_le}
use Rattle.std.specs.Str.{bytes_eq}
use Rattle.std.proofs.lemmas.List.Elements.{All-nil, All-cons, All-head, All-tail}
use Rattle.mt_fault.specs.declared.fault.Fault.{Fault}
use Rattle.mt_port.specs.declared.board.Shape.{Shape}
use Rattle.mt_text.specs.declared.line.Line.{Line}
use Rattle.mt_text.specs.declared.line.LineRefusal.{LineRefusal}
use Rattle.mt_text.specs.Accepted.{IsAccepted}
use Rattle.mt_text.specs.Lines.{line_of}
use Rattle.mt_conf.specs.declared.config.Config.{Config}
use Rattle.mt_conf.specs.declared.config.ConfigRefusal.{ConfigRefusal}
use Rattle.mt_conf.specs.Outcome.{outcome as config_of}
use Rattle.mt_conf.specs.Accepted.{IsAcceptedConfig}
use Rattle.mt_conf.specs.Laws.{AcceptedIsTaken}
use Rattle.mt_gen.specs.Config.{job_config}
use Rattle.mt_gen.specs.Script.{job_shape, script}
use Rattle.mt_machine.specs.Machine.{Machine, Step, started, played, step}
use Rattle.mt_laws.specs.Alarms.{AgreesWithCopies, FlsRaisesNoFalseAlarm, IsFlsCalm, IsRamCalm, OfEach, RamRaisesNoFalseAlarm}
use Rattle.mt_laws.specs.Latency.{ServesInTime, RequestsAreServedInTime}
use Rattle.mt_laws.specs.Plain.{TestsLeaveNoTrace}
use Rattle.mt_laws.specs.Memory.{ArePlain, MemoryIsPlain}
use Rattle.mt_laws.specs.Detection.{IsNotOkBehind, PassesFindFaults}
use Rattle.mt_laws.specs.Evidence.{IsNotOk, LeavesThere, OkIsEvidence}
use Rattle.mt_replay.specs.declared.form.Form.{Form}
use Rattle.mt_replay.specs.declared.form.Form.TheVariants as forms
use Rattle.mt_replay.specs.declared.refused.Refused.TheVariants as because
use Rattle.mt_replay.specs.declared.run.End.{End}
use Rattle.mt_replay.specs.declared.run.End.TheVariants as end
use Rattle.mt_replay.specs.declared.status.Status.TheVariants as status
use Rattle.mt_replay.specs.Input.{Ending, Finished, Failed, Cut, Job, Parted, Whole, job_of, separator}
use Rattle.mt_replay.specs.Outcome.{Outcome, play_of, said, read_fault_text, bad_config, configured, by_job, judged_job, outcome}
use Rattle.mt_replay.specs.Soak.{soaked}
use Rattle.mt_verify.specs.Lines.{first_other_line}
use Rattle.mt_replay.specs.Locating.{◌>>=◌}
use Rattle.mt_replay.specs.Verify.{Claim, claimed, claimed_from, last_claimed, claim_gives, compared, is_front, is_too_long, judged_by, line_said, replayed, script_limit, spelled, telling, uncut, verifying, verifying_by}
use Rattle.mt_replay.specs.Promises.{IsJob, IsReplay, Runs, Verifies, Generates, AreServedInTime, LeavesNoTrace, FindsFaults, GivesEvidence, RaisesNoFalseAlarm, lines_of, steps_between}
use Rattle.mt_replay.proofs.Accepted.{small}
use Rattle.mt_replay.proofs.Fixed.{config_accepted}
use Rattle.mt_replay.proofs.Taken.{ReadingLaws, AreTaken, lines-taken, read_accepted}

-- ---- the steps of a job that is run

steps_of : Outcome → List Step
steps_of o = o.steps

job_steps : (defect : Option Fault) (ending : Ending) (bytes : List ℕ) (c : Config) (script : Cut) → IsJob ending bytes c script
    → (outcome forms.Run ending defect bytes).steps ≡ (played (started c defect) (lines_of c ending script)).steps
unfolding outcome
job_steps defect ending bytes c script is =
    ap (λ (j : Job). (by_job forms.Run ending defect j).steps) is.parts
    ∙ ap (λ (b : Bool). (cond b (bad_config (because.Rule 18)) (configured forms.Run ending defect (config_of is.text) script)).steps) (small (length is.text) is.short)
    ∙ ap (λ (r : Result Config ConfigRefusal). (configured forms.Run ending defect r script).steps) is.accepted

-- ---- its lines are accepted

accepted_lines : (shape : Shape) (n : ℕ) (lines : List Line) → AreTaken shape n lines → All (IsAccepted shape) lines
accepted_lines shape n [] h = All-nil (IsAccepted shape)
accepted_lines shape n (line ∷ more) h = All-cons (IsAccepted shape) line more h.accepted (accepted_lines shape (n + 1) more h.more)

lines_accepted : ReadingLaws → (c : Config) (ending : Ending) (script : Cut) → All (IsAccepted c.shape) (lines_of c ending script)
lines_accepted laws c ending script = accepted_lines c.shape 1 (lines_of c ending script) (lines-taken laws c.shape ending 1 script.lines script.rest)

-- ---- requests are served in time

none_served : All ServesInTime []
none_served = All-nil ServesInTime

play_served : RequestsAreServedInTime → (form : Form) (shape : Shape) (m : Machine) (lines : List Line) → All (IsAccepted shape) lines → All ServesInTime (play_of form m lines).steps
play_served law forms.Run shape m lines h = law shape m lines h
play_served law forms.Check shape m lines h = none_served
play_served law forms.Format shape m lines h = none_served
play_served law forms.Migrate shape m lines h = none_served
play_served law (forms.Cut ask) shape m lines h = none_served

-- what a configuration is judged to give, if what it gives when it is accepted serves in time
judged_served : (given : Result Config ConfigRefusal → Cut → Outcome) → ((r : Result Config ConfigRefusal) (script : Cut) → All ServesInTime (given r script).steps)
    → (ending : Ending) (job : Job) → All ServesInTime (judged_job given ending job).steps
judged_served given serves ending (Parted config script) = of (nat_lt 65536 (length config))
  where
    of : (long : Bool) → All ServesInTime ((cond long (bad_config (because.Rule 18)) (given (config_of config) script)).steps)
    of true = none_served
    of false = serves (config_of config) script
judged_served given serves Finished (Whole bytes) = of (nat_lt 65536 (length bytes))
  where
    of : (long : Bool) → All ServesInTime ((cond long (bad_config (because.Rule 18)) (bad_config (because.Rule 19))).steps)
    of true = none_served
    of false = none_served
judged_served given serves Failed (Whole bytes) = of (nat_le 65542 (length bytes))
  where
    of : (long : Bool) → All ServesInTime ((cond long (bad_config (because.Rule 18)) (said read_fault_text status.ReadFault)).steps)
    of true = none_served
    of false = none_served

run_served : RequestsAreServedInTime → ReadingLaws → (form : Form) (ending : Ending) (defect : Option Fault) (r : Result Config ConfigRefusal) (script : Cut) → All ServesInTime (configured form ending defect r script).steps
run_served law reading form ending defect (Err e) script = none_served
run_served law reading form ending defect (Ok c) script =
    play_served law form c.shape (started c defect) (lines_of c ending script) (lines_accepted reading c ending script)

-- ---- the lines of a job that is verified

abbrev Claims : Shape → Result Claim End → Type 0
Claims shape (Ok claim) = All (IsAccepted shape) claim.lines
Claims shape (Err e) = Unit {0}

abbrev LineClaims : Shape → Result Line End → Type 0
LineClaims shape (Ok line) = IsAccepted shape line
LineClaims shape (Err e) = Unit {0}

spelled_claims : ReadingLaws → (shape : Shape) (number : ℕ) (text : List ℕ) (r : Result Line LineRefusal) → line_of shape text ≡ r → LineClaims shape (spelled number r)
spelled_claims laws shape number text (Ok line) e = read_accepted laws shape text (Ok line) e
spelled_claims laws shape number text (Err refusal) e = tt

line_claims : ReadingLaws → (shape : Shape) (number size count : ℕ) (text : List ℕ) → LineClaims shape (line_said shape number size count text)
line_claims laws shape number size count text = of (nat_lt 1000000 number) (is_too_long size text) (nat_lt script_limit (size + count))
  where
    of : (late long much : Bool) → LineClaims shape (cond late (Err (end.Refused number 11 1)) (cond long (Err (end.Refused number 10 1025))
        (cond much (Err (end.Refused number 16 (script_limit - size + 1))) (spelled number (line_of shape text)))))
    of true long much = tt
    of false true much = tt
    of false false true = tt
    of false false false = spelled_claims laws shape number text (line_of shape text) refl

after_line : (shape : Shape) (number : ℕ) (r : Result Line End) → Claims shape (r >>= (λ line. Err (end.Refused (number + 1) 17 1)))
after_line shape number (Ok line) = tt
after_line shape number (Err e) = tt

last_claims : (shape : Shape) (ending : Ending) (number size : ℕ) (rest : List ℕ) → Claims shape (last_claimed shape ending number size rest)
last_claims shape Finished number size [] = tt
last_claims shape Finished number size (byte ∷ bytes) = of (bytes_eq (byte ∷ bytes) separator)
  where
    of : (parts : Bool) → Claims shape (cond parts (Ok (record { lines = []; given = [] })) (line_said shape number size (length (byte ∷ bytes)) (byte ∷ bytes) >>= (λ line. Err (end.Refused (number + 1) 17 1))))
    of true = All-nil (IsAccepted shape)
    of false = after_line shape number (line_said shape number size (length (byte ∷ bytes)) (byte ∷ bytes))
last_claims shape Failed number size rest = of (is_front rest separator) (nat_lt 1000000 number) (is_too_long size rest) (nat_lt script_limit (size + length rest))
  where
    of : (front late long much : Bool) → Claims shape (cond front (Err end.Broken) (cond late (Err (end.Refused number 11 1)) (cond long (Err (end.Refused number 10 1025))
        (cond much (Err (end.Refused number 16 (script_limit - size + 1))) (Err end.Broken)))))
    of true late long much = tt
    of false true long much = tt
    of false false true much = tt
    of false false false true = tt
    of false false false false = tt

join_claims : (shape : Shape) (r : Result Line End) (q : Result Claim End) → LineClaims shape r → Claims shape q
    → Claims shape (r >>= (λ line. q >>= (λ claim. Ok (record { lines = line ∷ claim.lines; given = claim.given }))))
join_claims shape (Ok line) (Ok claim) h all = All-cons (IsAccepted shape) line claim.lines h all
join_claims shape (Ok line) (Err e) h all = tt
join_claims shape (Err e) q h all = tt

-- what is claimed from a line on
claims_at : (shape : Shape) (text : List ℕ) (given : List ℕ) (r : Result Line End) (q : Result Claim End) (parts : Bool) → LineClaims shape r → Claims shape q
    → Claims shape (cond parts (Ok (record { lines = []; given = given })) (r >>= (λ line. q >>= (λ claim. Ok (record { lines = line ∷ claim.lines; given = claim.given })))))
claims_at shape text given r q true h all = All-nil (IsAccepted shape)
claims_at shape text given r q false h all = join_claims shape r q h all

claims_from : ReadingLaws → (shape : Shape) (ending : Ending) (number size : ℕ) (lines : List (List ℕ)) (rest : List ℕ) → Claims shape (claimed_from shape ending number size lines rest)
claims_from laws shape ending number size [] rest = last_claims shape ending number size rest
claims_from laws shape ending number size (text ∷ more) rest =
    claims_at shape text (uncut more rest) (line_said shape number size (length text + 1) text) (claimed_from shape ending (number + 1) (size + (length text + 1)) more rest) (bytes_eq text separator)
    (line_claims laws shape number size (length text + 1) text) (claims_from laws shape ending (number + 1) (size + (length text + 1)) more rest)

compared_steps : (ending : Ending) (replay : Outcome) (given : List ℕ) → (compared ending replay given).steps ≡ replay.steps
compared_steps Finished replay given = refl
compared_steps Failed replay given = of (is_front given replay.text)
  where
    of : (front : Bool) → (cond front (telling replay read_fault_text status.ReadFault) (judged_by replay (first_other_line replay.text given))).steps ≡ replay.steps
    of true = refl
    of false = refl

claim_served : RequestsAreServedInTime → (c : Config) (defect : Option Fault) (ending : Ending) (r : Result Claim End) → Claims c.shape r → All ServesInTime (claim_gives c defect ending r).steps
claim_served law c defect ending (Err e) h = none_served
claim_served law c defect ending (Ok claim) h =
    subst (All ServesInTime) (sym (compared_steps ending (replayed c defect claim.lines) claim.given)) (law c.shape (started c defect) claim.lines h)

verify_served : RequestsAreServedInTime → ReadingLaws → (ending : Ending) (defect : Option Fault) (r : Result Config ConfigRefusal) (script : Cut) → All ServesInTime (verifying_by defect ending r script).steps
verify_served law reading ending defect (Err e) script = none_served
verify_served law reading ending defect (Ok c) script =
    claim_served law c defect ending (claimed c.shape ending script) (claims_from reading c.shape ending 1 0 script.lines script.rest)

pub are_served_in_time : RequestsAreServedInTime → ReadingLaws → ((number : ℕ) → All (IsAccepted job_shape) (script number)) → (defect : Option Fault) → AreServedInTime defect
unfolding outcome soaked verifying
are_served_in_time law reading generated defect = record {
  jobs = λ form ending bytes. judged_served (configured form ending defect) (run_served law reading form ending defect) ending (job_of ending bytes);
  verified = λ ending bytes. judged_served (verifying_by defect ending) (verify_served law reading ending defect) ending (job_of ending bytes);
  generated = λ number. law job_shape (started job_config defect) (script number) (generated number);
}

-- ---- what is replayed

-- A replay is that of accepted lines under an accepted configuration.
record IsPlayed (defect : Option Fault) (c : Config) (lines : List Line) (steps : List Step) : Type 0 where
  config : IsAcceptedConfig c
  taken : All (IsAccepted c.shape) lines
  are : steps ≡ (played (started c defect) lines).steps

verified_steps : (defect : Option Fault) (ending : Ending) (bytes given : List ℕ) (c : Config) (lines : List Line) (script : Cut) → IsJob ending bytes c script
    → claimed c.shape ending script ≡ Ok (record { lines = lines; given = given }) → (verifying defect ending bytes).steps ≡ (played (started c defect) lines).steps
unfolding verifying
verified_steps defect ending bytes given c lines script is claims =
    ap (λ (j : Job). (judged_job (verifying_by defect ending) ending j).steps) is.parts
    ∙ ap (λ (b : Bool). (cond b (bad_config (because.Rule 18)) (verifying_by defect ending (config_of is.text) script)).steps) (small (length is.text) is.short)
    ∙ ap (λ (r : Result Config ConfigRefusal). (verifying_by defect ending r script).steps) is.accepted
    ∙ ap (λ (r : Result Claim End). (claim_gives c defect ending r).steps) claims
    ∙ compared_steps ending (replayed c defect lines) given

verified_lines : ReadingLaws → (c : Config) (ending : Ending) (script : Cut) (lines : List Line) (given : List ℕ) → claimed c.shape ending script ≡ Ok (record { lines = lines; given = given }) → All (IsAccepted c.shape) lines
verified_lines reading c ending script lines given claims =
    subst (Claims c.shape) claims (claims_from reading c.shape ending 1 0 script.lines script.rest)

-- what is known of what is read and generated
pub record InputLaws : Type 0 where
  pub taken : AcceptedIsTaken
  pub reading : ReadingLaws
  pub lines : (number : ℕ) → All (IsAccepted job_shape) (script number)
  pub config : IsAcceptedConfig job_config

are_played : InputLaws → (defect : Option Fault) (c : Config) (lines : List Line) (steps : List Step) → IsReplay defect c lines steps → IsPlayed defect c lines steps
unfolding soaked
are_played laws defect c lines steps (Runs ending bytes script is lined e) = record {
  config = config_accepted laws.taken is.text c is.accepted;
  taken = subst (All (IsAccepted c.shape)) (sym lined) (lines_accepted laws.reading c ending script);
  are = e ∙ job_steps defect ending bytes c script is ∙ ap (λ (l : List Line). (played (started c defect) l).steps) (sym lined);
}
are_played laws defect c lines steps (Verifies ending bytes given script is claims e) = record {
  config = config_accepted laws.taken is.text c is.accepted;
  taken = verified_lines laws.reading c ending script lines given claims;
  are = e ∙ verified_steps defect ending bytes given c lines script is claims;
}
are_played laws defect c lines steps (Generates number is lined e) =
    let same : (played (started job_config defect) (script number)).steps ≡ (played (started c defect) lines).steps =
    ap (λ (l : List Line). (played (started job_config defect) l).steps) (sym lined) ∙ ap (λ (d : Config). (played (started d defect) lines).steps) (sym is) in
    record {
      config = subst IsAcceptedConfig (sym is) laws.config;
      taken = subst (λ (d : Config). All (IsAccepted d.shape) lines) (sym is) (subst (All (IsAccepted job_shape)) (sym lined) (laws.lines number));
      are = e ∙ same;
    }

-- ---- transparency and detection

pub leaves_no_trace : TestsLeaveNoTrace → MemoryIsPlain → InputLaws → (defect : Option Fault) → LeavesNoTrace defect
leaves_no_trace law memory input defect = record {
  steps = λ c lines steps replay sound.
      let is = are_played input defect c lines steps replay in
      is.are ∙ law c defect lines is.config sound.start sound.injects;
  memory = λ c lines steps replay sound.
      let is = are_played input defect c lines steps replay in
      subst (ArePlain (started c defect) lines) (sym is.are) (memory c defect lines is.config sound.start sound.injects);
}

pub finds_faults : PassesFindFaults → InputLaws → (defect : Option Fault) → FindsFaults defect
finds_faults law input defect = record {
  replays = λ c before lines behind steps replay fault p catch u.
      let is = are_played input defect c (before ++ lines ++ behind) steps replay in
      subst (λ (l : List Step). IsNotOkBehind l (length (before ++ lines)) p.place.block) (sym is.are) (law c defect before lines behind is.config is.taken fault p catch u);
}

-- ---- evidence

-- the steps of some lines are those from the machine that the lines before them leave
first_steps : (m : Machine) (lines behind : List Line) → take (length lines) (played m (lines ++ behind)).steps ≡ (played m lines).steps
first_steps m [] behind = refl
first_steps m (line ∷ more) behind = ap (λ (l : List Step). step m line ∷ l) (first_steps (step m line).after more behind)

steps_are_between : (m : Machine) (before lines behind : List Line) → steps_between before lines (played m (before ++ lines ++ behind)).steps ≡ (played (played m before).after lines).steps
steps_are_between m [] lines behind = first_steps m lines behind
steps_are_between m (line ∷ before) lines behind = steps_are_between (step m line).after before lines behind

front_accepted : (shape : Shape) (before lines behind : List Line) → All (IsAccepted shape) (before ++ lines ++ behind) → All (IsAccepted shape) (before ++ lines)
front_accepted shape [] lines behind all = first lines all
  where
    first : (l : List Line) → All (IsAccepted shape) (l ++ behind) → All (IsAccepted shape) l
    first [] all = All-nil (IsAccepted shape)
    first (line ∷ more) all = All-cons (IsAccepted shape) line more (All-head (IsAccepted shape) line (more ++ behind) all) (first more (All-tail (IsAccepted shape) line (more ++ behind) all))
front_accepted shape (line ∷ before) lines behind all =
    All-cons (IsAccepted shape) line (before ++ lines) (All-head (IsAccepted shape) line (before ++ lines ++ behind) all)
    (front_accepted shape before lines behind (All-tail (IsAccepted shape) line (before ++ lines ++ behind) all))

pub gives_evidence : OkIsEvidence → InputLaws → (defect : Option Fault) → GivesEvidence defect
gives_evidence law input defect = record {
  replays = λ c before lines behind steps replay fault p catch present start there.
      let is = are_played input defect c (before ++ lines ++ behind) steps replay in
      let same : steps_between before lines steps ≡ (played (played (started c defect) before).after lines).steps =
      ap (λ (l : List Step). steps_between before lines l) is.are ∙ steps_are_between (started c defect) before lines behind in
      subst (OfEach (IsNotOk p.place.block) lines) (sym same)
      (law c defect before lines is.config (front_accepted c.shape before lines behind is.taken) fault p catch present start (subst (OfEach LeavesThere lines) same there));
}

-- ---- false alarms

pub no_false_alarm : RamRaisesNoFalseAlarm → FlsRaisesNoFalseAlarm → InputLaws → (defect : Option Fault) → RaisesNoFalseAlarm defect
no_false_alarm ram fls input defect = record {
  ram = λ c lines steps replay sound.
      let is = are_played input defect c lines steps replay in
      subst (OfEach IsRamCalm lines) (sym is.are) (ram c defect lines is.config sound.start sound.injects);
  fls = λ c lines steps replay equal.
      let is = are_played input defect c lines steps replay in
      subst (OfEach IsFlsCalm lines) (sym is.are)
      (fls c defect lines is.config (subst (All (λ (s : Step). AgreesWithCopies c.fls_tst s.after.board.flash)) is.are equal));
}
