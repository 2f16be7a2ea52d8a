use Rattle.std.proofs.Common.{◌∙◌, sym, ap}
use Rattle.mt_port.specs.Board.{is_due}
use Rattle.mt_board.proofs.Urgent.{due_by_least, due-reverse}
use Rattle.mt_board.proofs.board.SimBoardPort.next_urgent.Goals as goal

pub returns : goal.returns
returns c = λ count.
    let b = c.args.self.now in
    sym (due-reverse count b.later.items) ∙ sym (due_by_least count b.later.items) ∙ ap (is_due count) (sym b.least)
