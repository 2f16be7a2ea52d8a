use Rattle.std.proofs.Common.{sym, subst}
use Rattle.mt_seq.specs.Inner.Own.{AreTargets}
use Rattle.mt_seq.proofs.NamedRuns.{falling_targets}
use Rattle.mt_seq.proofs.own.make_element.Goals as goal

pub operate_each-requires-clause-targets : goal.operate_each-requires-clause-targets
operate_each-requires-clause-targets g c =
    subst (AreTargets (g.P.Port.state c.args.port.now)) (sym c.requires.falling) (falling_targets (g.P.Port.state c.args.port.now) c.args.named.now c.requires.targets)
