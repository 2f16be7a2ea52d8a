use Rattle.std.proofs.Common.{ℕ, ◌≡◌, ◌==◌, cond, List, [], ◌∷◌, length, get_or, refl, arith, ap, sym, ◌∙◌}
use Rattle.std.specs.Prelude.{not}
use Rattle.std.specs.List.{flat_map}
use Rattle.std.proofs.lemmas.List.{take_all}
use Rattle.std.proofs.lemmas.List.Folds.{length-flat_map-take}
use Rattle.std.proofs.lemmas.Option.{slice_get-get_or}
use Rattle.mt_fault.specs.Items.{Item}
use Rattle.mt_plan.specs.declared.algorithm.Act.{Act}
use Rattle.mt_seq.specs.declared.own.Named.{Named}
use Rattle.mt_seq.specs.Inner.Own.{doing, off_base, own_each}
use Rattle.mt_seq.proofs.Makes.{Makes-nil, Makes-same}
use Rattle.mt_seq.proofs.NamedRuns.{Makes-pieces, kept_pieces, some_cell, targets_after}
use Rattle.mt_seq.proofs.own.on_others.Goals as goal

abbrev piece : ℕ → Act → Named → List Item
piece base act m = cond (not (m.cell == base)) (doing m.target act ∷ []) []

pieces_are : (base : ℕ) (act : Act) (named : List Named) → own_each (λ j. act) (off_base base named) ≡ flat_map (piece base act) named
pieces_are base act named = kept_pieces (λ (m : Named). doing m.target act) (λ (m : Named). not (m.cell == base)) named

pub loop-m-init : goal.loop-m-init
loop-m-init g c = record { does = Makes-nil (g.P.Port.state c.args.port.now) (g.P.Port.tape c.args.port.now) (g.met.P.Port.sound c.args.port.now) }

pub act_if-good-requires-clause-target : goal.act_if-good-requires-clause-target
act_if-good-requires-clause-target g c = targets_after c.args.named.now c.requires.targets c.loop-m.invariant.does c.loop-m.m-index some_cell c.loop-m-test.true

pub act_if-good-requires-clause-room : goal.act_if-good-requires-clause-room
act_if-good-requires-clause-room g c =
    let named : List Named = c.args.named.now in
    let m : Named = get_or named c.loop-m.m-index some_cell in
    omega (
      arith,
      length-flat_map-take (piece c.args.base c.args.act) named c.loop-m.m-index some_cell c.loop-m-test.true,
      ap length (pieces_are c.args.base c.args.act named),
      c.loop-m.invariant.does.count,
      c.requires.room,
    )

pub loop-m-preserved : goal.loop-m-preserved
loop-m-preserved g c =
    let named : List Named = c.args.named.now in
    let m : Named = get_or named c.loop-m.m-index some_cell in
    record {
      does = Makes-pieces (piece c.args.base c.args.act) named c.loop-m.m-index m (g.met.P.Port.sound c.args.port.now) (slice_get-get_or named c.loop-m.m-index some_cell c.loop-m-test.true) c.loop-m.invariant.does c.act_if-good.ensures;
    }

pub returns : goal.returns
returns g c =
    Makes-same (ap (flat_map (piece c.args.base c.args.act)) (take_all c.loop-m.m-index c.args.named.now (omega arith)) ∙ sym (pieces_are c.args.base c.args.act c.args.named.now)) refl
    c.loop-m.invariant.does
