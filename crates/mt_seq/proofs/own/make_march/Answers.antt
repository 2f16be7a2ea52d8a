use Rattle.std.proofs.Common.{List, length, Some, refl, arith, ap, sym, ◌∙◌}
use Rattle.std.specs.List.{flat_map}
use Rattle.std.proofs.lemmas.List.{take_all}
use Rattle.std.proofs.lemmas.List.Folds.{length-flat_map-take}
use Rattle.std.proofs.lemmas.Option.{slice_get-get_or}
use Rattle.mt_march.specs.declared.march.Element.{Element}
use Rattle.mt_seq.specs.Inner.Own.{own_element}
use Rattle.mt_seq.proofs.Makes.{Makes-nil, Makes-same}
use Rattle.mt_seq.proofs.NamedRuns.{Makes-pieces, targets_after}
use Rattle.mt_seq.proofs.own.make_march.Goals as goal

pub loop-element-init : goal.loop-element-init
loop-element-init g c = record { does = Makes-nil (g.P.Port.state c.args.port.now) (g.P.Port.tape c.args.port.now) (g.met.P.Port.sound c.args.port.now) }

pub make_element-good-requires-clause-targets : goal.make_element-good-requires-clause-targets
make_element-good-requires-clause-targets g c = targets_after c.args.named.now c.requires.targets c.loop-element.invariant.does

pub make_element-good-requires-clause-room : goal.make_element-good-requires-clause-room
make_element-good-requires-clause-room g c =
    let elements : List Element = c.args.elements.now in
    let fits = length-flat_map-take (own_element c.args.named.now) elements c.loop-element.element-index c.element-item.result c.loop-element-test.true in
    omega (arith, fits, ap (λ (e : Element). length (own_element c.args.named.now e)) c.element-item.is, c.loop-element.invariant.does.count, c.requires.room)

pub loop-element-preserved : goal.loop-element-preserved
loop-element-preserved g c =
    let elements : List Element = c.args.elements.now in
    let at = slice_get-get_or elements c.loop-element.element-index c.element-item.result c.loop-element-test.true ∙ ap Some (sym c.element-item.is) in
    record { does = Makes-pieces (own_element c.args.named.now) elements c.loop-element.element-index c.element-item.result (g.met.P.Port.sound c.args.port.now) at c.loop-element.invariant.does c.make_element-good.ensures }

pub returns : goal.returns
returns g c = Makes-same (ap (flat_map (own_element c.args.named.now)) (take_all c.loop-element.element-index c.args.elements.now (omega arith))) refl c.loop-element.invariant.does
