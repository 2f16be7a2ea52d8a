use Rattle.std.proofs.Common.{List, take, get_or, refl, arith, ap, sym, subst}
use Rattle.std.proofs.lemmas.List.{length-map, length-take-le, take_all}
use Rattle.std.proofs.lemmas.Option.{slice_get-get_or}
use Rattle.mt_word.specs.Word.{Fits}
use Rattle.mt_fault.specs.Items.{Store}
use Rattle.mt_port.specs.declared.board.Shape.{Shape}
use Rattle.mt_seq.specs.declared.own.Named.{Named}
use Rattle.mt_seq.specs.Inner.Own.{own_stores}
use Rattle.mt_seq.proofs.Makes.{Makes-more, Makes-nil, Makes-same}
use Rattle.mt_seq.proofs.NamedRuns.{some_cell, targets_after}
use Rattle.mt_seq.proofs.own.restore_named.Goals as goal

pub loop-m-init : goal.loop-m-init
loop-m-init g c = record { does = Makes-nil (g.P.Port.state c.args.port.now) (g.P.Port.tape c.args.port.now) (g.met.P.Port.sound c.args.port.now) }

pub make-requires-clause-held : goal.make-requires-clause-held
make-requires-clause-held g c = (targets_after c.args.named.now c.requires.targets c.loop-m.invariant.does c.loop-m.m-index some_cell c.loop-m-test.true).held

pub make-requires-clause-inside : goal.make-requires-clause-inside
make-requires-clause-inside g c = (targets_after c.args.named.now c.requires.targets c.loop-m.invariant.does c.loop-m.m-index some_cell c.loop-m-test.true).inside

pub make-requires-clause-fits : goal.make-requires-clause-fits
make-requires-clause-fits g c =
    subst (λ (s : Shape). Fits s.width (get_or c.args.named.now c.loop-m.m-index some_cell).saved) (sym c.loop-m.invariant.does.shape) (c.requires.fit c.loop-m.m-index some_cell c.loop-m-test.true)

pub make-requires-clause-room : goal.make-requires-clause-room
make-requires-clause-room g c =
    omega (
      arith,
      c.loop-m.invariant.does.count,
      length-map (take c.loop-m.m-index c.args.named.now) (λ (m : Named). Store m.target.addr m.saved),
      length-take-le c.loop-m.m-index c.args.named.now (omega arith),
      c.requires.room,
      c.loop-m-test.true,
    )

pub loop-m-preserved : goal.loop-m-preserved
loop-m-preserved g c =
    let named : List Named = c.args.named.now in
    let m : Named = get_or named c.loop-m.m-index some_cell in
    record {
      does = Makes-more (λ (m : Named). Store m.target.addr m.saved) named c.loop-m.m-index m (g.met.P.Port.sound c.args.port.now) (slice_get-get_or named c.loop-m.m-index some_cell c.loop-m-test.true) c.loop-m.invariant.does c.make.ensures.made;
    }

pub returns : goal.returns
returns g c = Makes-same (ap own_stores (take_all c.loop-m.m-index c.args.named.now (omega arith))) refl c.loop-m.invariant.does
