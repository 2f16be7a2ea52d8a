use Rattle.std.proofs.Common.{ℕ, List, [], ◌∷◌, map, refl, ap, sym}
use Rattle.std.specs.Prelude.{not}
use Rattle.std.specs.List.{flat_map}
use Rattle.mt_plan.specs.Lists.{read_act, step}
use Rattle.mt_seq.specs.Inner.Ground.{item_on}
use Rattle.mt_seq.proofs.Makes.{Makes-append, Makes-nil, Makes-same}
use Rattle.mt_seq.proofs.Spans.{Makes-act, others_none, others_one}
use Rattle.mt_seq.proofs.span.read_both.Goals as goal

pub returns-then-cell-base-clause-made : goal.returns-then-cell-base-clause-made
returns-then-cell-base-clause-made g c =
    Makes-same (ap (λ (l : List ℕ). map (item_on c.args.ground c.args.saved.now) (flat_map (λ (j : ℕ). step j (read_act c.args.base.flipped) ∷ step c.args.base.cell (read_act (not c.args.base.flipped)) ∷ []) l)) (sym (others_none c.args.base.cell c.args.cell c.if-cell-base.true))) refl
    (Makes-nil (g.P.Port.state c.args.port.now) (g.P.Port.tape c.args.port.now) (g.met.P.Port.sound c.args.port.now))

pub returns-else-cell-base-clause-made : goal.returns-else-cell-base-clause-made
returns-else-cell-base-clause-made g c =
    Makes-same (ap (λ (l : List ℕ). map (item_on c.args.ground c.args.saved.now) (flat_map (λ (j : ℕ). step j (read_act c.args.base.flipped) ∷ step c.args.base.cell (read_act (not c.args.base.flipped)) ∷ []) l)) (sym (others_one c.args.base.cell c.args.cell c.if-cell-base.false))) refl
    (Makes-append (g.met.P.Port.sound c.args.port.now)
    (Makes-act (item_on c.args.ground c.args.saved.now) c.args.cell c.reading.ensures c.make-other.ensures)
    (Makes-act (item_on c.args.ground c.args.saved.now) c.args.base.cell c.reading-else-cell-base.ensures c.make-own.ensures))
