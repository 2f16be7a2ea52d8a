use Rattle.std.proofs.Common.{◌∙◌}
use Rattle.mt_board.proofs.Urgent.{due_by_least, due-reverse}
use Rattle.mt_board.proofs.board.SimBoardPort.urgent_due.Goals as goal

pub returns : goal.returns
returns c =
    let b = c.args.self.now in
    c.is_due.ensures ∙ rw b.least (due_by_least b.count b.later.items) ∙ due-reverse b.count b.later.items
