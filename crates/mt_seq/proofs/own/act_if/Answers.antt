use Rattle.std.proofs.Common.{[], ◌∷◌, refl, sym, ap, Bool}
use Rattle.std.specs.Prelude.{if◌then◌else◌}
use Rattle.mt_seq.specs.Inner.Own.{doing}
use Rattle.mt_seq.proofs.Makes.{Makes-nil, Makes-same}
use Rattle.mt_seq.proofs.own.act_if.Goals as goal

pub returns-else-wanted : goal.returns-else-wanted
returns-else-wanted g c =
    Makes-same (sym (ap (λ (b : Bool). if b then doing c.args.target c.args.act ∷ [] else []) c.if-wanted.false)) refl
    (Makes-nil (g.P.Port.state c.args.port.now) (g.P.Port.tape c.args.port.now) (g.met.P.Port.sound c.args.port.now))
