use Rattle.std.proofs.Common.{◌≡◌, Bool, false, ap, sym, ◌∙◌}
use Rattle.std.specs.Prelude.{if◌then◌else◌}
use Rattle.mt_word.specs.Word.{has_bit}
use Rattle.mt_fault.specs.Faulty.{same}
use Rattle.mt_decoder.specs.BitModel.{vic_other}
use Rattle.mt_locate.specs.declared.lanes.Means.{Means}
use Rattle.mt_locate.specs.Lanes.{rule_of, side_at, value_at}
use Rattle.mt_locate.proofs.LaneBits.{hit, no_bit, has_inverted, forced}
use Rattle.mt_locate.proofs.lanes.disturbed.Goals as goal

pub returns-in-Invert : goal.returns-in-Invert
returns-in-Invert c = λ l h.
    let lanes = c.args.lanes in
    let a : Bool = has_bit lanes.agg l in
    let new : Bool = has_bit c.args.new l in
    let changed : has_bit c.chosen-changed.result l ≡ hit (side_at l) new a =
    c.chosen-changed.ensures l h
    ∙ ap (λ (b : Bool). if b then has_bit 0 l else has_bit c.alike-holds.result l) (c.alike.ensures l h)
    ∙ ap (λ (b : Bool). if same a (side_at l) then b else has_bit c.alike-holds.result l) (no_bit l)
    ∙ ap (λ (b : Bool). if same a (side_at l) then false else b) (c.alike-holds.ensures l h) in
    has_inverted lanes.vic c.chosen-changed.result l (side_at l) (value_at l) new a changed
    ∙ ap (λ (m : Means). vic_other (rule_of m (side_at l) (value_at l)) new a (has_bit lanes.vic l)) (sym c.in-Invert.is)

pub returns-in-Force : goal.returns-in-Force
returns-in-Force c = λ l h.
    let lanes = c.args.lanes in
    let a : Bool = has_bit lanes.agg l in
    let new : Bool = has_bit c.args.new l in
    let changed : has_bit c.chosen-changed.result l ≡ hit (side_at l) new a =
    c.chosen-changed.ensures l h
    ∙ ap (λ (b : Bool). if b then has_bit 0 l else has_bit c.alike-holds.result l) (c.alike.ensures l h)
    ∙ ap (λ (b : Bool). if same a (side_at l) then b else has_bit c.alike-holds.result l) (no_bit l)
    ∙ ap (λ (b : Bool). if same a (side_at l) then false else b) (c.alike-holds.ensures l h) in
    c.chosen.ensures l h
    ∙ ap (λ (b : Bool). if b then value_at l else has_bit lanes.vic l) changed
    ∙ forced (side_at l) (value_at l) new a (has_bit lanes.vic l)
    ∙ ap (λ (m : Means). vic_other (rule_of m (side_at l) (value_at l)) new a (has_bit lanes.vic l)) (sym c.in-Force.is)
