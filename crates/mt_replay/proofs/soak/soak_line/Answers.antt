use Rattle.std.proofs.Common.{◌∙◌, ap}
use Rattle.mt_machine.specs.Machine.{Machine, machine}
use Rattle.mt_replay.proofs.Soaks.{answered_adds}
use Rattle.mt_replay.proofs.soak.soak_line.Goals as goal

pub returns-clause-adds : goal.returns-clause-adds
returns-clause-adds g c =
    let m : Machine = machine (g.B.Port.state c.args.board.now) c.args.modules.now in
    let m' : Machine = machine (g.B.Port.state c.perform-reply.new.board) c.perform-reply.new.modules in
    answered_adds c.perform-reply.result m m' c.args.line.now c.perform-reply.new.log c.entries.result.now c.args.summary.now c.add_line.new.summary _ _
    c.entries.ensures.entries c.perform-reply.ensures.gives c.add_line.ensures.sums

pub returns-clause-defect : goal.returns-clause-defect
returns-clause-defect g c =
    let m : Machine = machine (g.B.Port.state c.args.board.now) c.args.modules.now in
    let m' : Machine = machine (g.B.Port.state c.perform-reply.new.board) c.perform-reply.new.modules in
    let adds = answered_adds c.perform-reply.result m m' c.args.line.now c.perform-reply.new.log c.entries.result.now c.args.summary.now c.add_line.new.summary _ _
    c.entries.ensures.entries c.perform-reply.ensures.gives c.add_line.ensures.sums in
    ap (λ (n : Machine). n.board.defect) adds.after ∙ c.lines_keep_the_board.ensures.defect m c.args.line.now
