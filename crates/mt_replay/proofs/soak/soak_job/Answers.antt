use Rattle.std.proofs.Common.{◌∙◌, List, ℕ, ap, subst}
use Rattle.mt_conf.specs.declared.config.Config.{Config}
use Rattle.mt_replay.specs.declared.status.Status.TheVariants as status
use Rattle.mt_machine.specs.Machine.{Machine, machine, started}
use Rattle.mt_replay.specs.Soak.{summary_text}
use Rattle.mt_replay.specs.Replay.{Told}
use Rattle.mt_replay.proofs.Soaks.{soaked_gives, soaked_up, started_defect}
use Rattle.mt_replay.proofs.soak.soak_job.Goals as goal

pub overall_of-requires : goal.overall_of-requires
overall_of-requires g c =
    let defect = (g.B.Port.state c.args.board.now).defect in
    let m : Machine = machine (g.B.Port.state c.power_up.new.board) c.in-Ok-power_up.modules in
    let m' : Machine = machine (g.B.Port.state c.soak_script-summary.new.board) c.soak_script-summary.new.modules in
    soaked_up c.lines_are_of_forms.ensures c.args.number defect m m' c.soak_script-summary.result _ _ (c.in-Ok-power_up.ensures.ok ∙ ap (λ (k : Config). started k defect) c.in-Ok.ensures.value) c.soak_script-summary.ensures.sums

pub returns-in-Ok-power_up-clause-gives : goal.returns-in-Ok-power_up-clause-gives
returns-in-Ok-power_up-clause-gives g c =
    let defect = (g.B.Port.state c.args.board.now).defect in
    let m : Machine = machine (g.B.Port.state c.power_up.new.board) c.in-Ok-power_up.modules in
    let m' : Machine = machine (g.B.Port.state c.soak_script-summary.new.board) c.soak_script-summary.new.modules in
    let text = c.deref.ensures.0 ∙ c.summary_text-text.ensures ∙ ap (summary_text c.soak_script-summary.result) c.overall_of.ensures in
    soaked_gives c.tell.result c.args.number defect m m' c.soak_script-summary.result (g.B.Port.state c.args.board.now) (g.B.Port.tape c.args.board.now)
    (g.B.Port.tape c.power_up.new.board) (g.B.Port.tape c.soak_script-summary.new.board) (g.K.Sink.held c.args.sink.now) (g.K.Sink.held c.tell.new.sink) _ _
    (c.in-Ok-power_up.ensures.ok ∙ ap (λ (k : Config). started k defect) c.in-Ok.ensures.value) c.in-Ok-power_up.ensures.tape c.soak_script-summary.ensures.sums
    (subst (λ (l : List ℕ). Told c.tell.result status.Done l (g.K.Sink.held c.args.sink.now) (g.K.Sink.held c.tell.new.sink) (g.K.Sink.faults c.args.sink.now) (g.K.Sink.faults c.tell.new.sink)) text c.tell.ensures)

pub returns-in-Ok-power_up-clause-board : goal.returns-in-Ok-power_up-clause-board
returns-in-Ok-power_up-clause-board g c =
    let defect = (g.B.Port.state c.args.board.now).defect in
    c.soak_script-summary.ensures.defect ∙ ap (λ (k : Machine). k.board.defect) c.in-Ok-power_up.ensures.ok ∙ started_defect c.in-Ok.config defect
