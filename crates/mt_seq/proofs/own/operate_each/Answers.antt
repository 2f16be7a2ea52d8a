use Rattle.std.proofs.Common.{List, map, get_or, refl, arith, ap, sym}
use Rattle.std.specs.List.{flat_map}
use Rattle.std.proofs.lemmas.List.{length-map, take_all}
use Rattle.std.proofs.lemmas.List.Folds.{length-flat_map-take}
use Rattle.std.proofs.lemmas.Option.{slice_get-get_or}
use Rattle.mt_fault.specs.Items.{Item}
use Rattle.mt_march.specs.declared.march.Op.{Op}
use Rattle.mt_seq.specs.declared.own.Named.{Named}
use Rattle.mt_seq.specs.Inner.Ground.{operation}
use Rattle.mt_seq.proofs.Makes.{Makes-nil, Makes-same}
use Rattle.mt_seq.proofs.NamedRuns.{Makes-pieces, some_cell, targets_after}
use Rattle.mt_seq.proofs.own.operate_each.Goals as goal

abbrev piece : List Op → Named → List Item
piece ops m = map (operation m.target) ops

pub loop-m-init : goal.loop-m-init
loop-m-init g c = record { does = Makes-nil (g.P.Port.state c.args.port.now) (g.P.Port.tape c.args.port.now) (g.met.P.Port.sound c.args.port.now) }

pub operate_all-good-requires-clause-target : goal.operate_all-good-requires-clause-target
operate_all-good-requires-clause-target g c = targets_after c.args.named.now c.requires.targets c.loop-m.invariant.does c.loop-m.m-index some_cell c.loop-m-test.true

pub operate_all-good-requires-clause-room : goal.operate_all-good-requires-clause-room
operate_all-good-requires-clause-room g c =
    let named : List Named = c.args.named.now in
    let m : Named = get_or named c.loop-m.m-index some_cell in
    omega (
      arith,
      length-flat_map-take (piece c.args.ops.now) named c.loop-m.m-index some_cell c.loop-m-test.true,
      length-map c.args.ops.now (operation m.target),
      c.loop-m.invariant.does.count,
      c.requires.room,
    )

pub loop-m-preserved : goal.loop-m-preserved
loop-m-preserved g c =
    let named : List Named = c.args.named.now in
    let m : Named = get_or named c.loop-m.m-index some_cell in
    let done = c.operate_all-good.ensures in
    record {
      does = Makes-same refl (sym done.both)
          (Makes-pieces (piece c.args.ops.now) named c.loop-m.m-index m (g.met.P.Port.sound c.args.port.now) (slice_get-get_or named c.loop-m.m-index some_cell c.loop-m-test.true) c.loop-m.invariant.does done.makes);
    }

pub returns : goal.returns
returns g c = Makes-same (ap (flat_map (piece c.args.ops.now)) (take_all c.loop-m.m-index c.args.named.now (omega arith))) refl c.loop-m.invariant.does
