use Rattle.std.proofs.Common.{subst, arith}
use Rattle.mt_blocks.specs.Accepted.{IsAcceptedSet}
use Rattle.mt_blocks.specs.Slices.{from_place}
use Rattle.mt_ram.specs.State.{IsPlace, set_of, spans_in}
use Rattle.mt_ram.proofs.pass_walk.PassWalkWalkRam.enter.Goals as goal

pub returns-in-Running-clause-fits : goal.returns-in-Running-clause-fits
returns-in-Running-clause-fits c =
    let r = c.args.callee.now in
    let at = c.in-Running.at in
    let fit = (c.groups_are_longest.ensures.fit r.cells (from_place (set_of r).atomic (spans_in r) at)).0 in
    record {
      limits = c.set-set.ensures.limits;
      accepted = subst (IsAcceptedSet r.setting.shape) c.set-set.ensures.set c.set-set.ensures.accepted;
      valid = λ some. subst (IsPlace (set_of r)) c.in-Running.is c.state.ensures.place;
      few = omega (arith, c.slices_in_group.ensures.len, fit);
    }
