use Rattle.std.proofs.Common.{◌≡◌, List, [], ◌∷◌, length, get_or, refl, arith, ap, sym, ◌∙◌, subst}
use Rattle.std.specs.Prelude.{if◌then◌else◌}
use Rattle.std.specs.List.{flat_map}
use Rattle.std.proofs.lemmas.List.{length-map, take_all}
use Rattle.std.proofs.lemmas.List.Folds.{length-flat_map-take}
use Rattle.std.proofs.lemmas.Option.{slice_get-get_or}
use Rattle.mt_fault.specs.Faulty.{is_odd}
use Rattle.mt_fault.specs.Items.{Item}
use Rattle.mt_plan.specs.declared.algorithm.Act.{Act}
use Rattle.mt_seq.specs.declared.own.Named.{Named}
use Rattle.mt_seq.specs.Inner.Own.{doing, own_each}
use Rattle.mt_seq.specs.Makes.{Makes}
use Rattle.mt_seq.proofs.Makes.{Makes-nil, Makes-same}
use Rattle.mt_seq.proofs.NamedRuns.{Makes-pieces, all_pieces, some_cell, targets_after}
use Rattle.mt_seq.proofs.own.each.Goals as goal

abbrev piece : Act → Act → Named → List Item
piece even odd m = doing m.target (if is_odd m.cell then odd else even) ∷ []

pieces_are : (even odd : Act) (named : List Named) → own_each (λ j. if is_odd j then odd else even) named ≡ flat_map (piece even odd) named
pieces_are even odd named = all_pieces (λ (m : Named). doing m.target (if is_odd m.cell then odd else even)) named

pub loop-m-init : goal.loop-m-init
loop-m-init g c = record { does = Makes-nil (g.P.Port.state c.args.port.now) (g.P.Port.tape c.args.port.now) (g.met.P.Port.sound c.args.port.now) }

pub act_on-good-requires-clause-target : goal.act_on-good-requires-clause-target
act_on-good-requires-clause-target g c = targets_after c.args.named.now c.requires.targets c.loop-m.invariant.does c.loop-m.m-index some_cell c.loop-m-test.true

pub act_on-good-requires-clause-room : goal.act_on-good-requires-clause-room
act_on-good-requires-clause-room g c =
    let named : List Named = c.args.named.now in
    omega (
      arith,
      length-flat_map-take (piece c.args.even c.args.odd) named c.loop-m.m-index some_cell c.loop-m-test.true,
      ap length (pieces_are c.args.even c.args.odd named),
      length-map named (λ (m : Named). doing m.target (if is_odd m.cell then c.args.odd else c.args.even)),
      c.loop-m.invariant.does.count,
      c.requires.room,
    )

pub loop-m-preserved : goal.loop-m-preserved
loop-m-preserved g c =
    let named : List Named = c.args.named.now in
    let m : Named = get_or named c.loop-m.m-index some_cell in
    let done = subst (λ (a : Act). Makes (doing m.target a ∷ []) (g.P.Port.state c.loop-m.port) (g.P.Port.state c.act_on-good.new.port) (g.P.Port.tape c.loop-m.port) (g.P.Port.tape c.act_on-good.new.port) c.act_on-good.result) c.act_at.ensures c.act_on-good.ensures in
    record { does = Makes-pieces (piece c.args.even c.args.odd) named c.loop-m.m-index m (g.met.P.Port.sound c.args.port.now) (slice_get-get_or named c.loop-m.m-index some_cell c.loop-m-test.true) c.loop-m.invariant.does done }

pub returns : goal.returns
returns g c =
    Makes-same (ap (flat_map (piece c.args.even c.args.odd)) (take_all c.loop-m.m-index c.args.named.now (omega arith)) ∙ sym (pieces_are c.args.even c.args.odd c.args.named.now)) refl
    c.loop-m.invariant.does
