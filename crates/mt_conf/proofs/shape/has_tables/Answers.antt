use Rattle.std.specs.Prelude.{is_some}
use Rattle.std.proofs.lemmas.List.Folds.{list_all-map}
use Rattle.toml.specs.Data.{as_table}
use Rattle.toml.specs.View.{view}
use Rattle.mt_conf.proofs.shape.has_tables.Goals as goal

pub returns-then-has_array : goal.returns-then-has_array
returns-then-has_array c =
    let e = list_all-map (λ d. is_some (as_table d)) view c.array_at.result.now in
    rw (← c.has_array.ensures, c.if-has_array.true, ← c.array_at.ensures, e) c.are_tables.ensures
