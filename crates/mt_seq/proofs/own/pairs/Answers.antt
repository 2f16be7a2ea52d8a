use Rattle.std.proofs.Common.{ℕ, ◌≡◌, ◌==◌, Bool, false, List, length, refl, arith, ap, sym, ◌∙◌}
use Rattle.std.specs.Prelude.{if◌then◌else◌}
use Rattle.std.specs.List.{flat_map, list_any}
use Rattle.mt_plan.specs.Lists.{cells, others, read_act}
use Rattle.mt_seq.specs.declared.own.Named.{Named}
use Rattle.mt_seq.specs.Inner.Own.{off_base, own_each, own_pair, own_pairs}
use Rattle.mt_seq.proofs.Makes.{Makes-same}
use Rattle.mt_seq.proofs.NamedRuns.{Makes-acts, each_long}
use Rattle.mt_seq.proofs.own.pairs.Goals as goal

-- the base is not named
off : (v : Bool) (n base : ℕ) (named : List Named) → list_any (λ (m : Named). m.cell == base) named ≡ false → own_pairs v n named base ≡ own_each (λ j. read_act v) (off_base base named)
off v n base named e = ap (λ (b : Bool). if b then flat_map (own_pair v named base) (others base (cells n)) else own_each (λ j. read_act v) (off_base base named)) e

pub on_others-requires-clause-room : goal.on_others-requires-clause-room
on_others-requires-clause-room g c =
    let none = sym c.is_named.ensures ∙ c.if-is_named.false in
    omega (
      arith,
      ap length (off c.args.base.flipped c.args.n c.args.base.cell c.args.named.now none),
      each_long (λ j. c.reading.result) (off_base c.args.base.cell c.args.named.now),
      each_long (λ j. read_act c.args.base.flipped) (off_base c.args.base.cell c.args.named.now),
      c.requires.room,
    )

pub returns-else-is_named : goal.returns-else-is_named
returns-else-is_named g c =
    let none = sym c.is_named.ensures ∙ c.if-is_named.false in
    Makes-same (sym (off c.args.base.flipped c.args.n c.args.base.cell c.args.named.now none)) refl
    (Makes-acts (off_base c.args.base.cell c.args.named.now) (λ j. c.reading.result) (λ j. read_act c.args.base.flipped) (λ j. c.reading.ensures) c.on_others.ensures)
