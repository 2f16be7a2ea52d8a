use Rattle.std.proofs.Common.{◌≡◌, ◌+◌, ◌∙◌, List, ◌∷◌, length, All, refl, sym, ap, subst, arith}
use Rattle.std.proofs.lemmas.List.Elements.{All-head, All-tail}
use Rattle.mt_port.specs.declared.board.Shape.{Shape}
use Rattle.mt_text.specs.declared.line.Line.{Line}
use Rattle.mt_text.specs.Accepted.{IsAccepted}
use Rattle.mt_gen.specs.declared.summary.Summary.{Summary}
use Rattle.mt_gen.specs.Script.{job_shape, script}
use Rattle.mt_machine.specs.Machine.{Machine, machine, step}
use Rattle.mt_replay.proofs.Soaks.{Soaking-none, Soaking-next, Soaking-all, ready_there, none-lines, none-ran, none-served, lines-with_line}
use Rattle.mt_replay.proofs.soak.soak_script.Goals as goal

pub loop-lines-init : goal.loop-lines-init
loop-lines-init g c =
    let lines = c.new-lines.ensures in
    let sums = c.new-summary.ensures in
    let none : c.new-summary.result.lines ≡ 0 = ap (λ (s : Summary). s.lines) sums ∙ none-lines in
    let all : length c.new-lines.result ≡ 20000 = ap length lines ∙ c.scripts_have_20000_lines.ensures c.args.number in
    let ran : c.new-summary.result.ran ≡ 0 = ap (λ (s : Summary). s.ran) sums ∙ none-ran in
    let served : c.new-summary.result.served ≡ 0 = ap (λ (s : Summary). s.served) sums ∙ none-served in
    record {
      ready = c.requires;
      accepted = subst (λ (l : List Line). All (IsAccepted job_shape) l) (sym lines) (c.scripts_are_accepted.ensures.accepted c.args.number);
      soaking = Soaking-none (machine (g.B.Port.state c.args.board.now) c.args.modules.now) (script c.args.number) c.new-lines.result c.new-summary.result (g.B.Port.tape c.args.board.now) lines sums;
      count = omega (arith, none, all);
      ran = omega (arith, ran);
      served = omega (arith, served);
      defect = refl;
    }

pub soak_line-requires-clause-line : goal.soak_line-requires-clause-line
soak_line-requires-clause-line g c =
    let line = c.take.new.line in
    let all = subst (λ (l : List Line). All (IsAccepted job_shape) l) c.loop-lines-test.ensures.next c.loop-lines.invariant.accepted in
    subst (λ (shape : Shape). IsAccepted shape line) (sym c.loop-lines.invariant.ready.shape) (All-head (IsAccepted job_shape) line c.take.new.self all)

pub loop-lines-preserved : goal.loop-lines-preserved
loop-lines-preserved g c =
    let before = c.loop-lines.invariant in
    let here = c.soak_line.ensures in
    let is = c.loop-lines-test.ensures.next in
    let line = c.take.new.line in
    let all = subst (λ (l : List Line). All (IsAccepted job_shape) l) is before.accepted in
    let m : Machine = machine (g.B.Port.state c.loop-lines.board) c.loop-lines.modules in
    let m' : Machine = machine (g.B.Port.state c.soak_line.new.board) c.soak_line.new.modules in
    let first : Machine = machine (g.B.Port.state c.args.board.now) c.args.modules.now in
    let more : c.soak_line.new.summary.lines ≡ c.loop-lines.summary.lines + 1 = ap (λ (s : Summary). s.lines) here.adds.sums ∙ lines-with_line c.loop-lines.summary (step m line).entries in
    let left : length c.loop-lines.lines ≡ length (line ∷ c.take.new.self) = ap length is in
    record {
      ready = ready_there job_shape m m' before.ready.shape here.ready;
      accepted = All-tail (IsAccepted job_shape) line c.take.new.self all;
      soaking = Soaking-next c.summaries_are_sums.ensures first m m' (script c.args.number) c.loop-lines.lines c.take.new.self line _ _ _ _ _ before.soaking is here.adds;
      count = omega (arith, more, left, before.count);
      ran = omega (arith, more, here.little.ran, before.ran);
      served = omega (arith, more, here.little.served, before.served);
      defect = here.defect ∙ before.defect;
    }

pub returns-clause-sums : goal.returns-clause-sums
returns-clause-sums g c =
    Soaking-all (machine (g.B.Port.state c.args.board.now) c.args.modules.now) (machine (g.B.Port.state c.loop-lines.board) c.loop-lines.modules) (script c.args.number) c.loop-lines.lines _ _ _
    c.loop-lines.invariant.soaking c.loop-lines-test.ensures.next
