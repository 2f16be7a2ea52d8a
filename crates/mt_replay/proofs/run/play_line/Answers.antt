use Rattle.std.proofs.Common.{◌∙◌, ap, sym}
use Rattle.std.proofs.lemmas.Result.{on_ok_weaker, on_err_weaker}
use Rattle.mt_port.specs.Inner.Streams.{Appends-nil}
use Rattle.mt_machine.specs.Machine.{Machine, machine}
use Rattle.mt_replay.proofs.Turns.{played_line, played_front, silent_line}
use Rattle.mt_replay.proofs.run.play_line.Goals as goal

pub returns-in-None-clause-ok : goal.returns-in-None-clause-ok
returns-in-None-clause-ok g c = silent_line c.args.shape _ _ c.args.number c.args.desk.now.line _ c.in-None.ensures.gives (Appends-nil _)

pub returns-in-Some-clause-ok : goal.returns-in-Some-clause-ok
returns-in-Some-clause-ok g c =
    let m : Machine = machine (g.B.Port.state c.args.board.now) c.args.modules.now in
    let m' : Machine = machine (g.B.Port.state c.perform.new.board) c.perform.new.modules in
    let steps = c.in-Some.ensures.gives in
    on_ok_weaker c.write_answer.result (λ ok. played_line c.args.shape m m' c.args.number c.args.desk.now.line _ _ steps ok) c.write_answer.ensures.ok

pub returns-in-Some-clause-err : goal.returns-in-Some-clause-err
returns-in-Some-clause-err g c =
    let m : Machine = machine (g.B.Port.state c.args.board.now) c.args.modules.now in
    let m' : Machine = machine (g.B.Port.state c.perform.new.board) c.perform.new.modules in
    let steps = c.in-Some.ensures.gives in
    on_err_weaker c.write_answer.result (λ front. played_front c.args.shape m m' c.args.number c.args.desk.now.line _ _ steps front) c.write_answer.ensures.err

pub returns-in-None-clause-board : goal.returns-in-None-clause-board
returns-in-None-clause-board g c =
    let m : Machine = machine (g.B.Port.state c.args.board.now) c.args.modules.now in
    ap (λ (n : Machine). n.board.defect) (sym c.in-None.ensures.gives.after) ∙ c.lines_keep_the_board.ensures.defect m c.args.desk.now.line

pub returns-in-Some-clause-board : goal.returns-in-Some-clause-board
returns-in-Some-clause-board g c =
    let m : Machine = machine (g.B.Port.state c.args.board.now) c.args.modules.now in
    ap (λ (n : Machine). n.board.defect) (sym c.in-Some.ensures.gives.after) ∙ c.lines_keep_the_board.ensures.defect m c.args.desk.now.line
