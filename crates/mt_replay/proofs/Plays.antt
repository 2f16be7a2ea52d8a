-- Lines that are played, one after another.
use Rattle.std.proofs.Common.{ℕ, ◌+◌, ◌≡◌, List, [], ◌∷◌, ◌++◌, length, refl, sym, ap, ◌∙◌, append_assoc, append-nil, arith}
use Rattle.mt_port.specs.declared.board.Shape.{Shape}
use Rattle.mt_port.specs.declared.board.Touch.{Touch}
use Rattle.mt_text.specs.declared.line.Line.{Line}
use Rattle.mt_text.specs.Trace.{entries_text}
use Rattle.mt_text.specs.Canonical.{canonical}
use Rattle.mt_replay.specs.declared.form.Form.{Form}
use Rattle.mt_replay.specs.declared.form.Form.TheVariants as forms
use Rattle.mt_machine.specs.Machine.{Machine, Step, step, Play, stepped, played}
use Rattle.mt_replay.specs.Outcome.{steps_text, steps_touches, play_of, canonical_lines, lines_text}

-- ---- what is made of two spans of lines

pub played-append : (m : Machine) (a b : List Line)
    → played m (a ++ b) ≡ record { steps = (played m a).steps ++ (played (played m a).after b).steps; after = (played (played m a).after b).after }
played-append m [] b = refl
played-append m (line ∷ a) b = ap (stepped (step m line)) (played-append (step m line).after a b)

pub play_of-append : (form : Form) (m : Machine) (a b : List Line)
    → play_of form m (a ++ b) ≡ record { steps = (play_of form m a).steps ++ (play_of form (play_of form m a).after b).steps; after = (play_of form (play_of form m a).after b).after }
play_of-append forms.Run m a b = played-append m a b
play_of-append forms.Check m a b = refl
play_of-append forms.Format m a b = refl
play_of-append forms.Migrate m a b = refl
play_of-append (forms.Cut ask) m a b = refl

pub touches-append : (a b : List Step) → steps_touches (a ++ b) ≡ steps_touches a ++ steps_touches b
touches-append [] b = refl
touches-append (s ∷ a) b = ap (λ (t : List Touch). s.touches ++ t) (touches-append a b) ∙ sym (append_assoc s.touches (steps_touches a) (steps_touches b))

steps_text-append : (shape : Shape) (number : ℕ) (a b : List Step) → steps_text shape number (a ++ b) ≡ steps_text shape number a ++ steps_text shape (number + length a) b
steps_text-append shape number [] b = ap (λ (n : ℕ). steps_text shape n b) (let e : number ≡ number + 0 = omega arith in e)
steps_text-append shape number (s ∷ a) b =
    let later : (number + 1) + length a ≡ number + length (s ∷ a) = omega arith in
    ap (λ (t : List ℕ). entries_text shape.width number s.entries ++ t) (steps_text-append shape (number + 1) a b)
    ∙ sym (append_assoc (entries_text shape.width number s.entries) (steps_text shape (number + 1) a) (steps_text shape ((number + 1) + length a) b))
    ∙ ap (λ (n : ℕ). (entries_text shape.width number s.entries ++ steps_text shape (number + 1) a) ++ steps_text shape n b) later

played-length : (m : Machine) (a : List Line) → length (played m a).steps ≡ length a
played-length m [] = refl
played-length m (line ∷ a) = let e = played-length (step m line).after a in omega (arith, e)

canonical_lines-append : (shape : Shape) (a b : List Line) → canonical_lines shape (a ++ b) ≡ canonical_lines shape a ++ canonical_lines shape b
canonical_lines-append shape [] b = refl
canonical_lines-append shape (line ∷ a) b =
    ap (λ (t : List ℕ). (canonical shape.width line ++ 10 ∷ []) ++ t) (canonical_lines-append shape a b)
    ∙ sym (append_assoc (canonical shape.width line ++ 10 ∷ []) (canonical_lines shape a) (canonical_lines shape b))

pub lines_text-append : (form : Form) (shape : Shape) (m : Machine) (number : ℕ) (a b : List Line)
    → lines_text form shape m number (a ++ b) ≡ lines_text form shape m number a ++ lines_text form shape (play_of form m a).after (number + length a) b
lines_text-append forms.Run shape m number a b =
    ap (λ (p : Play). steps_text shape number p.steps) (played-append m a b) ∙ steps_text-append shape number (played m a).steps (played (played m a).after b).steps
    ∙ ap (λ (n : ℕ). steps_text shape number (played m a).steps ++ steps_text shape (number + n) (played (played m a).after b).steps) (played-length m a)
lines_text-append forms.Check shape m number a b = refl
lines_text-append forms.Format shape m number a b = canonical_lines-append shape a b
lines_text-append forms.Migrate shape m number a b = canonical_lines-append shape a b
lines_text-append (forms.Cut ask) shape m number a b = refl

-- ---- nothing, and one line

pub lines_text-nil : (form : Form) (shape : Shape) (m : Machine) (number : ℕ) → lines_text form shape m number [] ≡ []
lines_text-nil forms.Run shape m number = refl
lines_text-nil forms.Check shape m number = refl
lines_text-nil forms.Format shape m number = refl
lines_text-nil forms.Migrate shape m number = refl
lines_text-nil (forms.Cut ask) shape m number = refl

pub play_of-nil : (form : Form) (m : Machine) → play_of form m [] ≡ record { steps = []; after = m }
play_of-nil forms.Run m = refl
play_of-nil forms.Check m = refl
play_of-nil forms.Format m = refl
play_of-nil forms.Migrate m = refl
play_of-nil (forms.Cut ask) m = refl

pub run_text-one : (shape : Shape) (m : Machine) (number : ℕ) (line : Line) → lines_text forms.Run shape m number (line ∷ []) ≡ entries_text shape.width number (step m line).entries
run_text-one shape m number line = append-nil (entries_text shape.width number (step m line).entries)

pub run_touches-one : (m : Machine) (line : Line) → steps_touches (play_of forms.Run m (line ∷ [])).steps ≡ (step m line).touches
run_touches-one m line = append-nil (step m line).touches

pub format_text-one : (shape : Shape) (m : Machine) (number : ℕ) (line : Line) → lines_text forms.Format shape m number (line ∷ []) ≡ canonical shape.width line ++ 10 ∷ []
format_text-one shape m number line = append-nil (canonical shape.width line ++ 10 ∷ [])
