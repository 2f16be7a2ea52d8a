use Rattle.std.proofs.Common.{ℕ, List, map, refl, ap, sym}
use Rattle.mt_plan.specs.Lists.{read_act, step}
use Rattle.mt_seq.specs.Inner.Ground.{item_on}
use Rattle.mt_seq.proofs.Makes.{Makes-nil, Makes-same}
use Rattle.mt_seq.proofs.Spans.{others_none}
use Rattle.mt_seq.proofs.span.read_other.Goals as goal

pub returns-then-cell-base-clause-made : goal.returns-then-cell-base-clause-made
returns-then-cell-base-clause-made g c =
    Makes-same (ap (λ (l : List ℕ). map (item_on c.args.ground c.args.saved.now) (map (λ (j : ℕ). step j (read_act c.args.base.flipped)) l)) (sym (others_none c.args.base.cell c.args.cell c.if-cell-base.true))) refl
    (Makes-nil (g.P.Port.state c.args.port.now) (g.P.Port.tape c.args.port.now) (g.met.P.Port.sound c.args.port.now))
