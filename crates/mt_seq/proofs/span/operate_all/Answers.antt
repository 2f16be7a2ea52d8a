use Rattle.std.proofs.Common.{List, map, true, arith, sym, subst}
use Rattle.std.proofs.Math.Bool.{and-true}
use Rattle.std.proofs.lemmas.List.{take_all}
use Rattle.std.proofs.lemmas.Option.{slice_get-get_or}
use Rattle.mt_march.specs.declared.march.Op.{Op}
use Rattle.mt_seq.specs.Inner.Ground.{MakesToo, operation}
use Rattle.mt_seq.proofs.Makes.{Makes-nil}
use Rattle.mt_seq.proofs.Spans.{MakesToo-more, target_after}
use Rattle.mt_seq.proofs.span.operate_all.Goals as goal

pub loop-op-init : goal.loop-op-init
loop-op-init g c = record {
  made = omega arith;
  does = record {
    pass = true;
    makes = Makes-nil (g.P.Port.state c.args.port.now) (g.P.Port.tape c.args.port.now) (g.met.P.Port.sound c.args.port.now);
    both = sym (and-true c.args.good);
  };
}

pub operate-all-requires-clause-target : goal.operate-all-requires-clause-target
operate-all-requires-clause-target g c = target_after c.args.target c.requires.target c.loop-op.invariant.does.makes

pub operate-all-requires-clause-room : goal.operate-all-requires-clause-room
operate-all-requires-clause-room g c = omega (arith, c.loop-op.invariant.made, c.requires.room, c.loop-op-test.true)

pub loop-op-preserved : goal.loop-op-preserved
loop-op-preserved g c =
    let inv = c.loop-op.invariant in
    let done = c.operate-all.ensures in
    record {
      made = omega (arith, done.makes.count, inv.made);
      does = MakesToo-more (operation c.args.target) c.args.ops.now c.loop-op.op-index _ (g.met.P.Port.sound c.args.port.now) (slice_get-get_or c.args.ops.now c.loop-op.op-index _ c.loop-op-test.true) inv.does done;
    }

pub returns : goal.returns
returns g c =
    subst (λ (ops : List Op). MakesToo (map (operation c.args.target) ops) (g.P.Port.state c.args.port.now) (g.P.Port.state c.loop-op.port) (g.P.Port.tape c.args.port.now) (g.P.Port.tape c.loop-op.port) c.args.good c.loop-op.all)
    (take_all c.loop-op.op-index c.args.ops.now (omega arith)) c.loop-op.invariant.does
