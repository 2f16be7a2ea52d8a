-- The canonical text of a job is that job.
use Rattle.std.proofs.Common.{ℕ, ◌+◌, ◌-◌, ◌≡◌, ◌≢◌, ◌≤◌, Bool, false, cond, List, [], ◌∷◌, ◌++◌, length, All, Option, Some, None, Result, Ok, refl, sym, ap, ◌∙◌, subst, append_assoc, append-nil, arith}
use Rattle.std.specs.Prelude.{nat_lt}
use Rattle.std.proofs.lemmas.Bool.Decides.{nat_tests}
use Rattle.std.proofs.lemmas.List.Elements.{All-head, All-tail}
use Rattle.toml.specs.Data.{Members}
use Rattle.mt_fault.specs.declared.fault.Fault.{Fault}
use Rattle.mt_port.specs.declared.board.Shape.{Shape}
use Rattle.mt_port.specs.Board.{IsWithinLimits}
use Rattle.mt_text.specs.declared.line.Line.{Line}
use Rattle.mt_text.specs.declared.line.LineRefusal.{LineRefusal}
use Rattle.mt_text.specs.Lines.{line_of, Spells}
use Rattle.mt_text.specs.Accepted.{IsAccepted}
use Rattle.mt_text.specs.Canonical.{canonical}
use Rattle.mt_conf.specs.declared.config.Config.{Config}
use Rattle.mt_conf.specs.declared.config.ConfigRefusal.{ConfigRefusal}
use Rattle.mt_conf.specs.Outcome.{document, first_broken, read_of, outcome as config_of, judged as config_judged, config_of as config_in}
use Rattle.mt_conf.specs.Accepted.{IsAcceptedConfig}
use Rattle.mt_conf.specs.Canonical.{config_text}
use Rattle.mt_conf.specs.Laws.{AcceptedIsTaken}
use Rattle.mt_replay.specs.declared.form.Form.{Form}
use Rattle.mt_replay.specs.declared.form.Form.TheVariants as forms
use Rattle.mt_replay.specs.declared.run.End.{End}
use Rattle.mt_replay.specs.declared.run.End.TheVariants as end
use Rattle.mt_replay.specs.Input.{Finished, Cut, cut, led}
use Rattle.mt_machine.specs.Machine.{started}
use Rattle.mt_replay.specs.Script.{Script, ended, led_by, taken, judged, script_from}
use Rattle.mt_replay.specs.Outcome.{Outcome, migrated, canonical_lines, opening_text, end_text, scripted, outcome}
use Rattle.mt_replay.specs.Fixed.{formatted, migrated_outcome, HasShortLines, FormattingKeepsOutcomes, MigratingKeepsOutcomes}
use Rattle.mt_replay.proofs.Lines.{cut-line}
use Rattle.mt_replay.proofs.Feedless.{no_feed, canonical_feedless}
use Rattle.mt_replay.proofs.Openings.{opening_parts}
use Rattle.mt_replay.proofs.Taken.{ReadingLaws, AreTaken, lines-taken, lines-count}
use Rattle.mt_replay.proofs.Accepted.{short_is, is_short, done_is, small}

-- ---- the configuration

judged_accepted : AcceptedIsTaken → (t : Members) (broken : Option ConfigRefusal) (c : Config) → first_broken t ≡ broken → config_judged t broken ≡ Ok c → IsAcceptedConfig c
judged_accepted law t None c e h = let same : config_in t ≡ c = cc in subst IsAcceptedConfig same (law t e)
judged_accepted law t (Some refusal) c e h = absurd cc

read_accepted : AcceptedIsTaken → (r : Option Members) (c : Config) → read_of r ≡ Ok c → IsAcceptedConfig c
read_accepted law None c h = absurd cc
read_accepted law (Some t) c h = judged_accepted law t (first_broken t) c refl h

pub config_accepted : AcceptedIsTaken → (bytes : List ℕ) (c : Config) → config_of bytes ≡ Ok c → IsAcceptedConfig c
unfolding config_of
config_accepted law bytes c h = read_accepted law (document bytes) c h

-- ---- the script

-- what is known of configurations and of lines
pub record FormLaws : Type 0 where
  pub config : AcceptedIsTaken
  pub reading : ReadingLaws
  pub canonical : (shape : Shape) (line : Line) → IsWithinLimits shape → IsAccepted shape line → Spells shape (canonical shape.width line) line

abbrev IsShort : List ℕ → Type 0
IsShort line = length line ≤ 1024

not_long : (n : ℕ) → n ≤ 1024 → nat_lt 1024 n ≡ false
not_long n h = grind (arith, nat_tests)

-- a line that is neither too late nor too long, and that is read
read_line : (shape : Shape) (n : ℕ) (text : List ℕ) (line : Line) (more : Script) → nat_lt 1000000 n ≡ false → nat_lt 1024 (length text) ≡ false → line_of shape text ≡ Ok line
    → judged shape n text more ≡ led_by (line ∷ []) more
read_line shape n text line more early short is =
    ap (λ (late : Bool). cond late (ended (end.Refused n 11 1)) (cond (nat_lt 1024 (length text)) (ended (end.Refused n 10 1025)) (taken (line_of shape text) n more))) early
    ∙ ap (λ (long : Bool). cond long (ended (end.Refused n 10 1025)) (taken (line_of shape text) n more)) short
    ∙ ap (λ (r : Result Line LineRefusal). taken r n more) is

-- the canonical text of a line is read as that line
read_again : FormLaws → (shape : Shape) (line : Line) → IsWithinLimits shape → IsAccepted shape line → line_of shape (canonical shape.width line) ≡ Ok line
read_again laws shape line limits ok = (laws.reading.spelled shape (canonical shape.width line) line).1 (laws.canonical shape line limits ok)

-- the canonical text of lines is read as these lines
pub lines_again : FormLaws → (shape : Shape) (n : ℕ) (lines : List Line) → 1 ≤ n → IsWithinLimits shape → AreTaken shape n lines → HasShortLines (canonical_lines shape lines)
    → script_from shape Finished n (cut (canonical_lines shape lines)) ≡ record { lines = lines; end = end.Whole ((n - 1) + length lines) }
lines_again laws shape n [] some limits h short = let e : n - 1 ≡ (n - 1) + 0 = omega arith in ap (λ (k : ℕ). ended (end.Whole k)) e
lines_again laws shape n (line ∷ more) some limits h short =
    let text = canonical shape.width line in
    let behind = canonical_lines shape more in
    let rest = cut behind in
    let cuts : cut ((text ++ 10 ∷ []) ++ behind) ≡ led text rest = ap cut (append_assoc text (10 ∷ []) behind) ∙ cut-line text behind (no_feed text (canonical_feedless shape.width line)) in
    let lines : All IsShort (text ∷ rest.lines) = subst (λ (k : Cut). All IsShort k.lines) cuts short in
    let again = lines_again laws shape (n + 1) more (omega arith) limits h.more (All-tail IsShort text rest.lines lines) in
    let count : ((n + 1) - 1) + length more ≡ (n - 1) + length (line ∷ more) = omega arith in
    ap (script_from shape Finished n) cuts
    ∙ read_line shape n text line (script_from shape Finished (n + 1) rest) h.early (not_long (length text) (All-head IsShort text rest.lines lines)) (read_again laws shape line limits h.accepted)
    ∙ ap (led_by (line ∷ [])) again
    ∙ ap (λ (k : ℕ). let s : Script = record { lines = line ∷ more; end = end.Whole k } in s) count

-- a whole script is read back
pub script_again : FormLaws → (shape : Shape) (script : Cut) (count : ℕ) → IsWithinLimits shape → (script_from shape Finished 1 script).end ≡ end.Whole count
    → HasShortLines (canonical_lines shape (script_from shape Finished 1 script).lines)
    → script_from shape Finished 1 (cut (canonical_lines shape (script_from shape Finished 1 script).lines)) ≡ script_from shape Finished 1 script
script_again laws shape script count limits whole short =
    let s = script_from shape Finished 1 script in
    let counted = lines-count shape 1 script.lines script.rest (omega arith) count whole in
    lines_again laws shape 1 s.lines (omega arith) limits (lines-taken laws.reading shape Finished 1 script.lines script.rest) short
    ∙ ap (λ (e : End). let r : Script = record { lines = s.lines; end = e } in r) (ap (λ (k : ℕ). end.Whole k) (sym counted) ∙ sym whole)

-- ---- the job

pub formatting_keeps_outcomes : FormLaws → FormattingKeepsOutcomes
formatting_keeps_outcomes laws form defect bytes config script c job is done again fits short =
    let s = script_from c.shape Finished 1 script in
    let m = started c defect in
    let within = is_short forms.Format defect bytes config script job done in
    let first = short_is forms.Format defect bytes config script c job within is in
    let whole = done_is s.end (sym (ap (λ (o : Outcome). o.status) first) ∙ done) in
    let opening = opening_text forms.Format c in
    let text = canonical_lines c.shape s.lines in
    let written : (formatted defect bytes).text ≡ opening ++ text = ap (λ (o : Outcome). o.text) first ∙ ap (λ (e : End). (opening ++ text) ++ end_text forms.Format c e) whole.1 ∙ append-nil (opening ++ text) in
    ap (outcome form Finished defect) written
    ∙ short_is form defect (opening ++ text) (config_text c) (cut text) c (opening_parts c text) (small (length (config_text c)) fits) again
    ∙ ap (scripted form c m) (script_again laws c.shape script whole.0 (config_accepted laws.config config c is).limits whole.1 short)
    ∙ sym (short_is form defect bytes config script c job within is)

-- but for canonical form, the version is told nowhere
same_script : (form : Form) → form ≢ forms.Format → (c : Config) (defect : Option Fault) (s : Script) → scripted form (migrated c) (started (migrated c) defect) s ≡ scripted form c (started c defect) s
same_script forms.Run other c defect s = refl
same_script forms.Check other c defect s = refl
same_script forms.Format other c defect s = absurd (other refl)
same_script forms.Migrate other c defect s = refl
same_script (forms.Cut ask) other c defect s = refl

pub migrating_keeps_outcomes : FormLaws → MigratingKeepsOutcomes
migrating_keeps_outcomes laws form defect bytes config script c other job is done again fits short =
    let s = script_from c.shape Finished 1 script in
    let m = started c defect in
    let within = is_short forms.Migrate defect bytes config script job done in
    let first = short_is forms.Migrate defect bytes config script c job within is in
    let whole = done_is s.end (sym (ap (λ (o : Outcome). o.status) first) ∙ done) in
    let opening = opening_text forms.Migrate c in
    let text = canonical_lines c.shape s.lines in
    let written : (migrated_outcome defect bytes).text ≡ opening ++ text = ap (λ (o : Outcome). o.text) first ∙ ap (λ (e : End). (opening ++ text) ++ end_text forms.Migrate c e) whole.1 ∙ append-nil (opening ++ text) in
    ap (outcome form Finished defect) written
    ∙ short_is form defect (opening ++ text) (config_text (migrated c)) (cut text) (migrated c) (opening_parts (migrated c) text) (small (length (config_text (migrated c))) fits) again
    ∙ same_script form other c defect (script_from c.shape Finished 1 (cut text))
    ∙ ap (scripted form c m) (script_again laws c.shape script whole.0 (config_accepted laws.config config c is).limits whole.1 short)
    ∙ sym (short_is form defect bytes config script c job within is)
