use Rattle.std.proofs.Common.{ℕ, List, [], length, refl, arith, ap, sym, ◌∙◌, append-nil, length-append}
use Rattle.std.specs.Prelude.{not}
use Rattle.std.specs.List.{flat_map}
use Rattle.mt_plan.specs.Lists.{read_act}
use Rattle.mt_seq.specs.declared.own.Named.{Named}
use Rattle.mt_seq.specs.Inner.Own.{at_base, own_each, own_pair}
use Rattle.mt_seq.proofs.Makes.{Makes-append, Makes-nil, Makes-same}
use Rattle.mt_seq.proofs.Spans.{others_none, others_one}
use Rattle.mt_seq.proofs.NamedRuns.{Makes-acts, each_long, targets_after}
use Rattle.mt_seq.proofs.own.pair.Goals as goal

pub returns-then-cell-base : goal.returns-then-cell-base
returns-then-cell-base g c =
    Makes-same (ap (flat_map (own_pair c.args.base.flipped c.args.named.now c.args.base.cell)) (sym (others_none c.args.base.cell c.args.cell c.if-cell-base.true))) refl
    (Makes-nil (g.P.Port.state c.args.port.now) (g.P.Port.tape c.args.port.now) (g.met.P.Port.sound c.args.port.now))

pub on_base-other-requires-clause-room : goal.on_base-other-requires-clause-room
on_base-other-requires-clause-room g c =
    let named : List Named = c.args.named.now in
    let one = ap (λ (l : List ℕ). length (flat_map (own_pair c.args.base.flipped named c.args.base.cell) l)) (others_one c.args.base.cell c.args.cell c.if-cell-base.false) in
    let at : List Named = at_base c.args.cell named in
    let base : List Named = at_base c.args.base.cell named in
    omega (
      arith,
      one,
      length-append (own_pair c.args.base.flipped named c.args.base.cell c.args.cell) [],
      length-append (own_each (λ j. read_act c.args.base.flipped) at) (own_each (λ j. read_act (not c.args.base.flipped)) base),
      each_long (λ j. read_act c.args.base.flipped) at,
      each_long (λ j. c.reading.result) at,
      c.requires.room,
    )

pub on_base-own-requires-clause-targets : goal.on_base-own-requires-clause-targets
on_base-own-requires-clause-targets g c = targets_after c.args.named.now c.requires.targets c.on_base-other.ensures

pub on_base-own-requires-clause-room : goal.on_base-own-requires-clause-room
on_base-own-requires-clause-room g c =
    let named : List Named = c.args.named.now in
    let one = ap (λ (l : List ℕ). length (flat_map (own_pair c.args.base.flipped named c.args.base.cell) l)) (others_one c.args.base.cell c.args.cell c.if-cell-base.false) in
    let at : List Named = at_base c.args.cell named in
    let base : List Named = at_base c.args.base.cell named in
    omega (
      arith,
      one,
      length-append (own_pair c.args.base.flipped named c.args.base.cell c.args.cell) [],
      length-append (own_each (λ j. read_act c.args.base.flipped) at) (own_each (λ j. read_act (not c.args.base.flipped)) base),
      each_long (λ j. read_act c.args.base.flipped) at,
      each_long (λ j. c.reading.result) at,
      each_long (λ j. read_act (not c.args.base.flipped)) base,
      each_long (λ j. c.reading-2.result) base,
      c.on_base-other.ensures.count,
      c.requires.room,
    )

pub returns : goal.returns
returns g c =
    let named : List Named = c.args.named.now in
    let at : List Named = at_base c.args.cell named in
    let base : List Named = at_base c.args.base.cell named in
    Makes-same (sym (append-nil (own_pair c.args.base.flipped named c.args.base.cell c.args.cell)) ∙ ap (flat_map (own_pair c.args.base.flipped named c.args.base.cell)) (sym (others_one c.args.base.cell c.args.cell c.if-cell-base.false))) refl
    (Makes-append (g.met.P.Port.sound c.args.port.now)
    (Makes-acts at (λ j. c.reading.result) (λ j. read_act c.args.base.flipped) (λ j. c.reading.ensures) c.on_base-other.ensures)
    (Makes-acts base (λ j. c.reading-2.result) (λ j. read_act (not c.args.base.flipped)) (λ j. c.reading-2.ensures) c.on_base-own.ensures))
