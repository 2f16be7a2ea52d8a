use Rattle.std.proofs.Common.{false, true, arith, length-append}
use Rattle.mt_seq.specs.Inner.Own.{own_walk_round}
use Rattle.mt_seq.proofs.Makes.{Makes-append}
use Rattle.mt_seq.proofs.NamedRuns.{targets_after}
use Rattle.mt_seq.proofs.own.walk_path.Goals as goal

pub walk_round-first-requires-clause-room : goal.walk_round-first-requires-clause-room
walk_round-first-requires-clause-room g c = omega (arith, length-append (own_walk_round false c.args.n c.args.named.now) (own_walk_round true c.args.n c.args.named.now), c.requires.room)

pub walk_round-second-requires-clause-targets : goal.walk_round-second-requires-clause-targets
walk_round-second-requires-clause-targets g c = targets_after c.args.named.now c.requires.targets c.walk_round-first.ensures

pub walk_round-second-requires-clause-room : goal.walk_round-second-requires-clause-room
walk_round-second-requires-clause-room g c =
    omega (arith, length-append (own_walk_round false c.args.n c.args.named.now) (own_walk_round true c.args.n c.args.named.now), c.walk_round-first.ensures.count, c.requires.room)

pub returns : goal.returns
returns g c = Makes-append (g.met.P.Port.sound c.args.port.now) c.walk_round-first.ensures c.walk_round-second.ensures
