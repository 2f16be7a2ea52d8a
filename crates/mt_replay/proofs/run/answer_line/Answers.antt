use Rattle.std.proofs.Common.{refl, sym, subst, List, ℕ, [], ◌∷◌, ◌≡◌, ◌⊎◌, inl, inr}
use Rattle.mt_port.specs.declared.board.Shape.{Shape}
use Rattle.mt_text.specs.declared.line.Line.{Line}
use Rattle.mt_replay.specs.Changes.{Change}
use Rattle.std.proofs.lemmas.Result.{on_ok_weaker, on_err_weaker}
use Rattle.mt_port.specs.Inner.Streams.{Logs-nil}
use Rattle.mt_replay.specs.declared.form.Form.{Form}
use Rattle.mt_replay.specs.declared.form.Form.TheVariants as forms
use Rattle.mt_machine.specs.Machine.{Machine, machine}
use Rattle.mt_replay.specs.Inner.Runs.{place, outputs, Answered, Breaks}
use Rattle.mt_replay.proofs.run.answer_line.Goals as goal

-- `migrate` writes the lines that `fmt` writes
answered : (form : Form) (shape : Shape) (number : ℕ) (m : Machine) (lines : List Line) (x : Change) → (form ≡ forms.Format) ⊎ (form ≡ forms.Migrate)
    → Answered (place forms.Format shape number) m m lines x → Answered (place form shape number) m m lines x
answered form shape number m lines x (inl e) a = subst (λ (f : Form). Answered (place f shape number) m m lines x) (sym e) a
answered form shape number m lines x (inr e) a =
    subst (λ (f : Form). Answered (place f shape number) m m lines x) (sym e) (record { written = a.written; taped = a.taped; after = a.after })

broken : (form : Form) (shape : Shape) (number : ℕ) (m : Machine) (line : Line) (x : Change) → (form ≡ forms.Format) ⊎ (form ≡ forms.Migrate)
    → Breaks (place forms.Format shape number) m m line x → Breaks (place form shape number) m m line x
broken form shape number m line x (inl e) b = subst (λ (f : Form). Breaks (place f shape number) m m line x) (sym e) b
broken form shape number m line x (inr e) b =
    subst (λ (f : Form). Breaks (place f shape number) m m line x) (sym e) (record { written = b.written; taped = b.taped; after = b.after })

pub returns-in-Format-clause-ok : goal.returns-in-Format-clause-ok
returns-in-Format-clause-ok g c =
    let m : Machine = machine (g.B.Port.state c.args.board.now) c.args.modules.now in
    let told = g.B.Port.tape c.args.board.now in
    let x = outputs (g.K.Sink.held c.args.sink.now) (g.K.Sink.held c.format_line.new.sink) told told in
    on_ok_weaker c.format_line.result
    (λ ok. answered c.args.task.now.form c.args.task.now.shape c.args.number m (c.args.desk.now.line ∷ []) x c.in-Format.is (record { written = ok; taped = Logs-nil told; after = refl }))
    (c.format_line.ensures.ok m c.args.number)

pub returns-in-Format-clause-err : goal.returns-in-Format-clause-err
returns-in-Format-clause-err g c =
    let m : Machine = machine (g.B.Port.state c.args.board.now) c.args.modules.now in
    let told = g.B.Port.tape c.args.board.now in
    let x = outputs (g.K.Sink.held c.args.sink.now) (g.K.Sink.held c.format_line.new.sink) told told in
    on_err_weaker c.format_line.result
    (λ front. broken c.args.task.now.form c.args.task.now.shape c.args.number m c.args.desk.now.line x c.in-Format.is (record { written = front; taped = Logs-nil told; after = refl }))
    (c.format_line.ensures.err m c.args.number)
