-- A job's own trace is the same.
use Rattle.std.proofs.Common.{ℕ, ◌+◌, ◌≤◌, ◌≡◌, Bool, true, false, cond, inl, inr, List, [], ◌∷◌, ◌++◌, length, Option, Result, Ok, Err, refl, sym, ap, ◌∙◌, subst, arith}
use Rattle.std.specs.Prelude.{nat_lt}
use Rattle.std.specs.Str.{bytes_eq}
use Rattle.std.proofs.lemmas.Bool.{cases_eq, ltb-false}
use Rattle.std.proofs.lemmas.List.Sums.{sum_by-cons}
use Rattle.std.proofs.lemmas.Slice.Eq.{bytes_eq-Decides}
use Rattle.mt_fault.specs.declared.fault.Fault.{Fault}
use Rattle.mt_port.specs.declared.board.Shape.{Shape}
use Rattle.mt_text.specs.declared.line.Line.{Line}
use Rattle.mt_text.specs.declared.line.LineRefusal.{LineRefusal}
use Rattle.mt_text.specs.Tokens.{tokens}
use Rattle.mt_text.specs.Lines.{line_of, run, event}
use Rattle.mt_conf.specs.declared.config.Config.{Config}
use Rattle.mt_conf.specs.declared.config.ConfigRefusal.{ConfigRefusal}
use Rattle.mt_conf.specs.Outcome.{outcome as config_of}
use Rattle.mt_verify.specs.Lines.{first_other_line}
use Rattle.mt_verify.specs.Laws.{EqualTextsHaveNoOther}
use Rattle.mt_machine.specs.Machine.{started}
use Rattle.mt_replay.specs.declared.form.Form.TheVariants as forms
use Rattle.mt_replay.specs.declared.refused.Refused.TheVariants as because
use Rattle.mt_replay.specs.declared.run.End.{End}
use Rattle.mt_replay.specs.declared.run.End.TheVariants as end
use Rattle.mt_replay.specs.Input.{Finished, Cut, cut, led, begun, Job, Parted, Whole, separator, preceded_by, parted, job_of}
use Rattle.mt_replay.specs.Script.{Script, ended, taken, judged, lines_from, script_from}
use Rattle.mt_replay.specs.Outcome.{Outcome, bad_config, judged_job, scripted}
use Rattle.mt_replay.specs.Locating.{◌>>=◌}
use Rattle.mt_replay.specs.Verify.{Claim, script_limit, spelled, line_said, uncut, claimed_from, whole_script, replayed, judged_by, claim_gives, verifying_by, verifying}
use Rattle.mt_replay.specs.OwnTraces.{with_trace, ran, size_of, OwnTracesAreTheSame}
use Rattle.mt_replay.proofs.Lines.{cut-byte}
use Rattle.mt_replay.proofs.Taken.{lines-count}
use Rattle.mt_replay.proofs.Accepted.{short_is, is_short, done_is}
use Rattle.mt_replay.proofs.ClaimedLines.{uncut-cut, inside, short_line}

-- ---- bytes after whole lines

begun-joined : (x : ℕ) (lines : List (List ℕ)) (rest : List ℕ) (more : Cut) → (begun x lines rest).rest ≡ []
    → begun x (lines ++ more.lines) more.rest ≡ record { lines = (begun x lines rest).lines ++ more.lines; rest = more.rest }
begun-joined x [] rest more none = absurd cc
begun-joined x (first ∷ others) rest more none = refl

rest-begun : (x : ℕ) (lines : List (List ℕ)) (rest : List ℕ) → (begun x lines rest).rest ≡ [] → rest ≡ []
rest-begun x [] rest none = absurd cc
rest-begun x (first ∷ others) rest none = none

abbrev joined : Cut → Cut → Cut
joined c more = record { lines = c.lines ++ more.lines; rest = more.rest }

cut-joined : (a b : List ℕ) → (cut a).rest ≡ [] → cut (a ++ b) ≡ joined (cut a) (cut b)
cut-joined [] b none = refl
cut-joined (x ∷ a) b none = elim (cases_eq x 10) [
  | inl e ↦ subst (λ (n : ℕ). (cut (n ∷ a)).rest ≡ [] → cut (n ∷ (a ++ b)) ≡ joined (cut (n ∷ a)) (cut b)) (sym e) (λ whole. ap (λ (c : Cut). led [] c) (cut-joined a b whole)) none
  | inr other ↦
      let first = cut-byte x a other in
      let whole = sym (ap (λ (c : Cut). c.rest) first) ∙ none in
      cut-byte x (a ++ b) other ∙ ap (λ (c : Cut). begun x c.lines c.rest) (cut-joined a b (rest-begun x (cut a).lines (cut a).rest whole))
      ∙ begun-joined x (cut a).lines (cut a).rest (cut b) whole ∙ ap (λ (c : Cut). joined c (cut b)) (sym first)
]

-- ---- a job

preceded-parts : (front : List ℕ) (job : Job) (config : List ℕ) (script : Cut) → preceded_by front job ≡ Parted config script → (own : List ℕ) × (job ≡ Parted own script) × (config ≡ front ++ own)
preceded-parts front (Parted own s) config script e =
    (own, (let same : s ≡ script = cc in ap (λ (k : Cut). Parted own k) same), (let same : front ++ own ≡ config = cc in sym same))
preceded-parts front (Whole bytes) config script e = absurd cc

-- the job goes on
abbrev followed : Cut → Job → Job
followed more (Parted config script) = Parted config (joined script more)
followed more (Whole bytes) = Whole bytes

abbrev by_line : List ℕ → Bool → Cut → Job → Job
by_line first is script job = cond is (Parted [] script) (preceded_by (first ++ 10 ∷ []) job)

parted-joined : (lines : List (List ℕ)) (more : Cut) (config : List ℕ) (script : Cut) → parted Finished lines [] ≡ Parted config script
    → (parted Finished (lines ++ more.lines) more.rest ≡ Parted config (joined script more)) × (script.rest ≡ [])
parted-joined [] more config script e = absurd cc
parted-joined (first ∷ lines) more config script e = of (λ own behind h. parted-joined lines more own behind h) (bytes_eq first separator) refl
  where
    here : Cut
    here = record { lines = lines; rest = [] }

    of : ((own : List ℕ) (behind : Cut) → parted Finished lines [] ≡ Parted own behind → (parted Finished (lines ++ more.lines) more.rest ≡ Parted own (joined behind more)) × (behind.rest ≡ []))
        → (b : Bool) → bytes_eq first separator ≡ b → (parted Finished (first ∷ (lines ++ more.lines)) more.rest ≡ Parted config (joined script more)) × (script.rest ≡ [])
    of later true is =
        let now : Parted [] here ≡ Parted config script = sym (ap (λ (b : Bool). by_line first b here (parted Finished lines [])) is) ∙ e in
        let same : here ≡ script = cc in (
          ap (λ (b : Bool). by_line first b (joined here more) (parted Finished (lines ++ more.lines) more.rest)) is ∙ ap (followed more) now,
          sym (ap (λ (k : Cut). k.rest) same),
        )
    of later false is =
        let now : preceded_by (first ++ 10 ∷ []) (parted Finished lines []) ≡ Parted config script = sym (ap (λ (b : Bool). by_line first b here (parted Finished lines [])) is) ∙ e in
        let p = preceded-parts (first ++ 10 ∷ []) (parted Finished lines []) config script now in
        let rest = later p.0 script p.1 in (
          ap (λ (b : Bool). by_line first b (joined here more) (parted Finished (lines ++ more.lines) more.rest)) is
              ∙ ap (preceded_by (first ++ 10 ∷ [])) rest.0 ∙ ap (λ (l : List ℕ). Parted l (joined script more)) (sym p.2),
          rest.1,
        )

-- ---- the lines of the script

-- no line is a separator
separator_refused : (shape : Shape) (line : Line) → line_of shape separator ≡ Ok line → ⊥
unfolding line_of tokens run event
separator_refused shape line h = cc

no_separator : (shape : Shape) (text : List ℕ) (line : Line) → line_of shape text ≡ Ok line → bytes_eq text separator ≡ false
no_separator shape text line is = of (bytes_eq text separator) refl
  where
    of : (b : Bool) → bytes_eq text separator ≡ b → b ≡ false
    of true e =
        let d = bytes_eq-Decides text separator in
        let same : text ≡ separator = grind (arith, d, e) in
        absurd (separator_refused shape line (subst (λ (t : List ℕ). line_of shape t ≡ Ok line) same is))
    of false e = refl

abbrev ClaimOf : Result Claim End → List Line → List ℕ → Type 0
ClaimOf r lines given = r ≡ Ok (record { lines = lines; given = given })

-- a line that a script takes
record TakesOne (shape : Shape) (number : ℕ) (text : List ℕ) (more : Script) (lines : List Line) (count : ℕ) : Type 0 where
  line : Line
  few : number ≤ 1000000
  short : length text ≤ 1024
  is : line_of shape text ≡ Ok line
  all : lines ≡ line ∷ more.lines
  end : more.end ≡ end.Whole count

-- the tests of a line, in their order
abbrev tested : ℕ → Bool → Bool → Result Line LineRefusal → Script → Script
tested number late long r more = cond late (ended (end.Refused number 11 1)) (cond long (ended (end.Refused number 10 1025)) (taken r number more))

takes_one : (shape : Shape) (number : ℕ) (text : List ℕ) (more : Script) (lines : List Line) (count : ℕ) → judged shape number text more ≡ record { lines = lines; end = end.Whole count }
    → TakesOne shape number text more lines count
takes_one shape number text more lines count e = of (nat_lt 1000000 number) (nat_lt 1024 (length text)) (line_of shape text) refl refl refl
  where
    read : (r : Result Line LineRefusal) → nat_lt 1000000 number ≡ false → nat_lt 1024 (length text) ≡ false → line_of shape text ≡ r → taken r number more ≡ record { lines = lines; end = end.Whole count }
        → TakesOne shape number text more lines count
    read (Err refusal) a b d now = absurd (let bad = ap (λ (s : Script). s.end) now in cc)
    read (Ok line) a b d now = record {
      line = line;
      few = ltb-false 1000000 number a;
      short = ltb-false 1024 (length text) b;
      is = d;
      all = sym (ap (λ (s : Script). s.lines) now);
      end = ap (λ (s : Script). s.end) now;
    }

    of : (late long : Bool) (r : Result Line LineRefusal) → nat_lt 1000000 number ≡ late → nat_lt 1024 (length text) ≡ long → line_of shape text ≡ r → TakesOne shape number text more lines count
    of true long r a b d = absurd (let bad : end.Refused number 11 1 ≡ end.Whole count = sym (ap (λ (k : Bool). (tested number k (nat_lt 1024 (length text)) (line_of shape text) more).end) a) ∙ ap (λ (s : Script). s.end) e in cc)
    of false true r a b d =
        absurd (let bad : end.Refused number 10 1025 ≡ end.Whole count =
        sym (ap (λ (k : Bool). (tested number k (nat_lt 1024 (length text)) (line_of shape text) more).end) a ∙ ap (λ (k : Bool). (tested number false k (line_of shape text) more).end) b) ∙ ap (λ (s : Script). s.end) e in cc)
    of false false r a b d =
        let now : taken r number more ≡ record { lines = lines; end = end.Whole count } =
        sym (ap (λ (k : Bool). tested number k (nat_lt 1024 (length text)) (line_of shape text) more) a ∙ ap (λ (k : Bool). tested number false k (line_of shape text) more) b ∙ ap (λ (k : Result Line LineRefusal). tested number false false k more) d) ∙ e in
        read r a b d now

claims : (shape : Shape) (number size : ℕ) (texts : List (List ℕ)) (lines : List Line) (count : ℕ) (tail : List (List ℕ)) (rest : List ℕ)
    → lines_from shape Finished number texts [] ≡ record { lines = lines; end = end.Whole count } → size + size_of texts ≤ script_limit
    → ClaimOf (claimed_from shape Finished number size (texts ++ separator ∷ tail) rest) lines (uncut tail rest)
claims shape number size [] lines count tail rest e room = ap (λ (s : Script). let r : Result Claim End = Ok (record { lines = s.lines; given = uncut tail rest }) in r) e
claims shape number size (text ∷ texts) lines count tail rest e room =
    let more = lines_from shape Finished (number + 1) texts [] in
    let t = takes_one shape number text more lines count e in
    let sized = sum_by-cons (λ (l : List ℕ). length l + 1) text texts in
    let behind = claimed_from shape Finished (number + 1) (size + (length text + 1)) (texts ++ separator ∷ tail) rest in
    let said : line_said shape number size (length text + 1) text ≡ Ok t.line =
    inside number size (length text + 1) text (spelled number (line_of shape text)) t.few (short_line size text t.short) (omega (arith, room, sized)) ∙ ap (spelled number) t.is in
    let next = claims shape (number + 1) (size + (length text + 1)) texts more.lines count tail rest (ap (λ (x : End). let s : Script = record { lines = more.lines; end = x } in s) t.end) (omega (arith, room, sized)) in
    ap (λ (b : Bool). cond b (Ok (record { lines = []; given = uncut (texts ++ separator ∷ tail) rest }))
    (line_said shape number size (length text + 1) text >>= λ line. behind >>= λ claim. Ok (record { lines = line ∷ claim.lines; given = claim.given }))) (no_separator shape text t.line t.is)
    ∙ ap (λ (r : Result Line End). r >>= λ line. behind >>= λ claim. Ok (record { lines = line ∷ claim.lines; given = claim.given })) said
    ∙ ap (λ (r : Result Claim End). r >>= λ claim. Ok (record { lines = t.line ∷ claim.lines; given = claim.given })) next
    ∙ ap (λ (l : List Line). let r : Result Claim End = Ok (record { lines = l; given = uncut tail rest }) in r) (sym t.all)

-- ---- the job with its trace

-- what `verify` gives for a job with an accepted configuration
verifies_so : (defect : Option Fault) (bytes config : List ℕ) (behind : Cut) (c : Config) → job_of Finished bytes ≡ Parted config behind → nat_lt 65536 (length config) ≡ false → config_of config ≡ Ok c
    → verifying defect Finished bytes ≡ claim_gives c defect Finished (claimed_from c.shape Finished 1 0 behind.lines behind.rest)
unfolding verifying
verifies_so defect bytes config behind c job short is =
    ap (judged_job (verifying_by defect Finished) Finished) job
    ∙ ap (λ (b : Bool). cond b (bad_config (because.Rule 18)) (verifying_by defect Finished (config_of config) behind)) short
    ∙ ap (λ (r : Result Config ConfigRefusal). verifying_by defect Finished r behind) is

pub own_traces : EqualTextsHaveNoOther → OwnTracesAreTheSame
own_traces equal defect bytes config script c job is done whole few =
    let m = started c defect in
    let s = script_from c.shape Finished 1 script in
    let trace = (ran defect bytes).text in
    let within = is_short forms.Run defect bytes config script job done in
    let first = short_is forms.Run defect bytes config script c job within is in
    let last = done_is s.end (sym (ap (λ (o : Outcome). o.status) first) ∙ done) in
    let behind : Cut = led separator (cut trace) in
    let apart = parted-joined (cut bytes).lines behind config script (ap (λ (l : List ℕ). parted Finished (cut bytes).lines l) (sym whole) ∙ job) in
    let pieces = cut-joined bytes ((separator ++ 10 ∷ []) ++ trace) whole in
    let joint : job_of Finished (with_trace bytes trace) ≡ Parted config (joined script behind) = ap (λ (k : Cut). parted Finished k.lines k.rest) pieces ∙ apart.0 in
    let lines : lines_from c.shape Finished 1 script.lines [] ≡ record { lines = s.lines; end = end.Whole last.0 } =
    ap (λ (l : List ℕ). lines_from c.shape Finished 1 script.lines l) (sym apart.1) ∙ ap (λ (x : End). let r : Script = record { lines = s.lines; end = x } in r) last.1 in
    let claim = claims c.shape 1 0 script.lines s.lines last.0 (cut trace).lines (cut trace).rest lines (omega (arith, few)) in
    let counted = lines-count c.shape 1 script.lines script.rest (omega arith) last.0 last.1 in
    let count : last.0 ≡ length s.lines = omega (arith, counted) in
    let all : s ≡ whole_script s.lines = ap (λ (x : End). let r : Script = record { lines = s.lines; end = x } in r) (last.1 ∙ ap end.Whole count) in
    let same : replayed c defect s.lines ≡ ran defect bytes = ap (scripted forms.Run c m) (sym all) ∙ sym first in
    verifies_so defect (with_trace bytes trace) config (joined script behind) c joint within is
    ∙ ap (claim_gives c defect Finished) claim
    ∙ ap (λ (given : List ℕ). judged_by (replayed c defect s.lines) (first_other_line (replayed c defect s.lines).text given)) (uncut-cut trace)
    ∙ ap (λ (o : Outcome). judged_by o (first_other_line o.text trace)) same
    ∙ ap (judged_by (ran defect bytes)) (equal trace)
