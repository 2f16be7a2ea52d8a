use Rattle.std.proofs.Common.{refl, sym, subst}
use Rattle.mt_place.specs.Keys.{Shows}
use Rattle.mt_place.proofs.SpotLemmas.{key_shown, value_shown}
use Rattle.mt_place.proofs.find.spot_on.Goals as goal

pub returns-in-Key-clause-spot : goal.returns-in-Key-clause-spot
returns-in-Key-clause-spot c =
    let shown = key_shown c.args.line.now c.in_ok-entry.entry c.in-Key.key c.spot_of.result c.in_ok-entry.ensures
    (record { column = c.spot_of.ensures.column; length = c.spot_of.ensures.length }) (c.if-has_key.ensures refl) in
    (c.spot_of.ensures.line, shown.0, subst (λ t. Shows t c.args.line.now c.spot_of.result) (sym c.in-Key.is) shown.1)

pub returns-in-Value-clause-spot : goal.returns-in-Value-clause-spot
returns-in-Value-clause-spot c =
    let shown = value_shown c.args.line.now c.in_ok-entry.entry c.in-Value.key c.spot_of-in-Value.result c.in_ok-entry.ensures
    (record { column = c.spot_of-in-Value.ensures.column; length = c.spot_of-in-Value.ensures.length }) (c.if-has_key-2.ensures refl) in
    (c.spot_of-in-Value.ensures.line, shown.0, subst (λ t. Shows t c.args.line.now c.spot_of-in-Value.result) (sym c.in-Value.is) shown.1)
