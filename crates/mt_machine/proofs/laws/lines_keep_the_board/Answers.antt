use Rattle.mt_machine.specs.Laws.{BoardsStay}
use Rattle.mt_machine.proofs.Defects.{boards_stay, step-defect}
use Rattle.mt_machine.proofs.laws.lines_keep_the_board.Goals as goal

pub returns : goal.returns
returns c =
    let ram = c.running_calls_keep_the_board.ensures in
    let fls = c.running_calls_keep_the_board-2.ensures in
    let calls : BoardsStay = boards_stay ram.tick ram.full ram.partial fls.tick fls.foreground in
    record { calls = calls; defect = step-defect calls }
