use Rattle.std.proofs.Common.{false, true, arith, length-append}
use Rattle.mt_seq.specs.Inner.Own.{own_galpat_round}
use Rattle.mt_seq.proofs.Makes.{Makes-append}
use Rattle.mt_seq.proofs.NamedRuns.{targets_after}
use Rattle.mt_seq.proofs.own.galpat.Goals as goal

pub galpat_round-first-requires-clause-room : goal.galpat_round-first-requires-clause-room
galpat_round-first-requires-clause-room g c = omega (arith, length-append (own_galpat_round false c.args.n c.args.named.now) (own_galpat_round true c.args.n c.args.named.now), c.requires.room)

pub galpat_round-second-requires-clause-targets : goal.galpat_round-second-requires-clause-targets
galpat_round-second-requires-clause-targets g c = targets_after c.args.named.now c.requires.targets c.galpat_round-first.ensures

pub galpat_round-second-requires-clause-room : goal.galpat_round-second-requires-clause-room
galpat_round-second-requires-clause-room g c =
    omega (arith, length-append (own_galpat_round false c.args.n c.args.named.now) (own_galpat_round true c.args.n c.args.named.now), c.galpat_round-first.ensures.count, c.requires.room)

pub returns : goal.returns
returns g c = Makes-append (g.met.P.Port.sound c.args.port.now) c.galpat_round-first.ensures c.galpat_round-second.ensures
