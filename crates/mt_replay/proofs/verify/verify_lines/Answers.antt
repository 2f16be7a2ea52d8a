use Rattle.std.proofs.Common.{ℕ, ◌∙◌, ap, subst, Err}
use Rattle.std.specs.Io.KnownBytes.{prepend_known}
use Rattle.mt_machine.specs.Machine.{Machine, machine}
use Rattle.mt_replay.specs.Inner.Comparing.{VerdictCaused}
use Rattle.mt_replay.proofs.Soaks.{started_defect}
use Rattle.mt_replay.proofs.Verifies.{stopped_gives, text_gives, nothing_gives}
use Rattle.mt_replay.proofs.verify.verify_lines.Goals as goal

pub returns-in-Err-clause-gives : goal.returns-in-Err-clause-gives
returns-in-Err-clause-gives g c = λ a begins.
    let board = g.B.Port.state c.args.board.now in
    let before = prepend_known c.args.input.now (g.S.Source.left c.args.source.now) in
    stopped_gives c.in-Err.stop board.defect c.args.config c.read_script.new.kept.items c.tell_stop.result board (g.B.Port.tape c.args.board.now) c.read_script.new.input a before (g.S.Source.left c.read_script.new.source)
    _ _ _ _ _ _ (λ e. c.in-Err.ensures.none (ap Err e)) begins c.in-Err.ensures.gives c.in-Err.ensures.err c.tell_stop.ensures

pub returns-in-Lines-clause-gives : goal.returns-in-Lines-clause-gives
returns-in-Lines-clause-gives g c = λ a begins.
    let board = g.B.Port.state c.args.board.now in
    let m : Machine = machine (g.B.Port.state c.power_up.new.board) c.in-Ok-power_up.modules in
    let m' : Machine = machine (g.B.Port.state c.judge_trace-verdict.new.board) c.judge_trace-verdict.new.modules in
    let before = prepend_known c.args.input.now (g.S.Source.left c.args.source.now) in
    let between = prepend_known c.read_script.new.input (g.S.Source.left c.read_script.new.source) in
    let verdict = c.judge_trace-verdict.result in
    let after = g.S.Source.faults c.judge_trace-verdict.new.source in
    let keeps = c.in-Ok.ensures.gives in
    let cause = subst (λ (k : ℕ). VerdictCaused verdict k after) c.in-Ok.ensures.ok c.judge_trace-verdict.ensures.cause in
    text_gives verdict c.tell_verdict.result board.defect c.args.config c.in-Ok.script c.read_script.new.kept.items m m' c.judge_trace-verdict.new.input a before between (g.S.Source.left c.judge_trace-verdict.new.source)
    _ _ board (g.B.Port.tape c.args.board.now) (g.B.Port.tape c.power_up.new.board) (g.B.Port.tape c.judge_trace-verdict.new.board) (g.S.Source.faults c.args.source.now) after _ _
    c.in-Lines.is c.in-Ok-power_up.ensures.ok c.in-Ok-power_up.ensures.tape c.judge_trace-verdict.ensures.none begins keeps (c.judge_trace-verdict.ensures.judges keeps.lines keeps.script) cause c.tell_verdict.ensures

pub returns-in-Lines-clause-board : goal.returns-in-Lines-clause-board
returns-in-Lines-clause-board g c =
    c.judge_trace-verdict.ensures.defect ∙ ap (λ (m : Machine). m.board.defect) c.in-Ok-power_up.ensures.ok ∙ started_defect c.args.config (g.B.Port.state c.args.board.now).defect

pub returns-clause-gives : goal.returns-clause-gives
returns-clause-gives g c = λ a begins.
    let board = g.B.Port.state c.args.board.now in
    let m : Machine = machine (g.B.Port.state c.power_up.new.board) c.in-Ok-power_up.modules in
    let m' : Machine = machine (g.B.Port.state c.judge_nothing-verdict.new.board) c.judge_nothing-verdict.new.modules in
    let before = prepend_known c.args.input.now (g.S.Source.left c.args.source.now) in
    let keeps = c.in-Ok.ensures.gives in
    nothing_gives c.judge_nothing-verdict.result c.tell_verdict-in-Nothing.result board.defect c.args.config c.in-Ok.script c.read_script.new.kept.items m m' c.read_script.new.input a before (g.S.Source.left c.read_script.new.source)
    _ _ board (g.B.Port.tape c.args.board.now) (g.B.Port.tape c.power_up.new.board) (g.B.Port.tape c.judge_nothing-verdict.new.board) (g.S.Source.faults c.args.source.now) (g.S.Source.faults c.read_script.new.source) _ _
    c.in-Nothing.is c.in-Ok-power_up.ensures.ok c.in-Ok-power_up.ensures.tape begins keeps (c.judge_nothing-verdict.ensures.judges keeps.lines keeps.script) c.in-Ok.ensures.ok c.tell_verdict-in-Nothing.ensures

pub returns-clause-board : goal.returns-clause-board
returns-clause-board g c =
    c.judge_nothing-verdict.ensures.defect ∙ ap (λ (m : Machine). m.board.defect) c.in-Ok-power_up.ensures.ok ∙ started_defect c.args.config (g.B.Port.state c.args.board.now).defect
