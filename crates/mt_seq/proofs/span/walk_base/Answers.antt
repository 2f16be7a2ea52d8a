use Rattle.std.proofs.Common.{ℕ, Bool, List, [], ◌∷◌, ◌++◌, arith}
use Rattle.std.specs.Prelude.{not}
use Rattle.mt_plan.specs.declared.algorithm.Step.{Step}
use Rattle.mt_plan.specs.Lists.{cells, read_act, step, write_act}
use Rattle.mt_seq.specs.Inner.Ground.{item_on, other_reads}
use Rattle.mt_seq.proofs.Spans.{Makes-act, Makes-map, ground_after}
use Rattle.mt_seq.proofs.span.walk_base.Goals as goal

pub read_others-others-requires-clause-ground : goal.read_others-others-requires-clause-ground
read_others-others-requires-clause-ground g c = ground_after c.args.ground c.args.saved.now c.requires.ground c.make-written.ensures

pub make-own-requires-clause-ground : goal.make-own-requires-clause-ground
make-own-requires-clause-ground g c =
    ground_after c.args.ground c.args.saved.now (ground_after c.args.ground c.args.saved.now c.requires.ground c.make-written.ensures) c.read_others-others.ensures.made

pub make-restored-requires-clause-ground : goal.make-restored-requires-clause-ground
make-restored-requires-clause-ground g c =
    ground_after c.args.ground c.args.saved.now
    (ground_after c.args.ground c.args.saved.now (ground_after c.args.ground c.args.saved.now c.requires.ground c.make-written.ensures) c.read_others-others.ensures.made) c.make-own.ensures

pub make-restored-requires-clause-room : goal.make-restored-requires-clause-room
make-restored-requires-clause-room g c = omega (arith, c.make-own.ensures.count, c.read_others-others.ensures.count, c.make-written.ensures.count, c.requires.room)

pub returns : goal.returns
returns g c =
    let f = item_on c.args.ground c.args.saved.now in
    let v : Bool = c.args.base.flipped in
    let base : ℕ = c.args.base.cell in
    let written : List Step = step base (write_act (not v)) ∷ [] in
    let others : List Step = other_reads v base (cells c.args.ground.n) in
    let own : List Step = step base (read_act (not v)) ∷ [] in
    let restored : List Step = step base (write_act v) ∷ [] in
    Makes-map f (written ++ others) (own ++ restored) (g.met.P.Port.sound c.args.port.now)
    (Makes-map f written others (g.met.P.Port.sound c.args.port.now) (Makes-act f base c.writing.ensures c.make-written.ensures) c.read_others-others.ensures.made)
    (Makes-map f own restored (g.met.P.Port.sound c.read_others-others.new.port) (Makes-act f base c.reading.ensures c.make-own.ensures) (Makes-act f base c.writing-2.ensures c.make-restored.ensures))
