use Rattle.std.proofs.Common.{◌∷◌, ◌++◌, [], ◌∙◌, ap, sym, subst, List}
use Rattle.mt_window.specs.declared.log.Entry.{Entry}
use Rattle.mt_window.specs.declared.log.Entry.TheVariants.{Own}
use Rattle.mt_machine.specs.Inner.Events.{Steps}
use Rattle.mt_machine.specs.Machine.{Machine, machine}
use Rattle.mt_replay.proofs.Traces.{played_one, played_none}
use Rattle.mt_replay.proofs.replaying.play_line.Goals as goal

pub returns-in-None-clause-plays : goal.returns-in-None-clause-plays
returns-in-None-clause-plays g c = played_none c.args.shape c.args.number _ _ c.args.sheet.now.line c.args.comparison.now _ _ _ c.in-None.ensures.gives

pub returns-in-Some-clause-plays : goal.returns-in-Some-clause-plays
returns-in-Some-clause-plays g c =
    let m : Machine = machine (g.B.Port.state c.args.board.now) c.args.modules.now in
    let m' : Machine = machine (g.B.Port.state c.perform.new.board) c.perform.new.modules in
    let steps = subst (λ (l : List Entry). Steps m m' c.args.sheet.now.line (l ++ Own c.in-Some.reply ∷ []) (g.B.Port.tape c.args.board.now) (g.B.Port.tape c.perform.new.board)) (sym c.entries.ensures.entries) c.in-Some.ensures.gives in
    played_one c.args.shape c.args.number m m' c.args.sheet.now.line (c.entries.result.now ++ Own c.in-Some.reply ∷ []) c.args.comparison.now c.compare_answer.new.comparison _ _ _ _ steps c.compare_answer.ensures.compares

pub returns-in-None-clause-board : goal.returns-in-None-clause-board
returns-in-None-clause-board g c =
    let m : Machine = machine (g.B.Port.state c.args.board.now) c.args.modules.now in
    ap (λ (n : Machine). n.board.defect) (sym c.in-None.ensures.gives.after) ∙ c.lines_keep_the_board.ensures.defect m c.args.sheet.now.line

pub returns-in-Some-clause-board : goal.returns-in-Some-clause-board
returns-in-Some-clause-board g c =
    let m : Machine = machine (g.B.Port.state c.args.board.now) c.args.modules.now in
    ap (λ (n : Machine). n.board.defect) (sym c.in-Some.ensures.gives.after) ∙ c.lines_keep_the_board.ensures.defect m c.args.sheet.now.line
