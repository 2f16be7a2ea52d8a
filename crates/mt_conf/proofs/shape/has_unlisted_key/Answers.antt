use Rattle.std.proofs.Common.{◌∙◌, List, ap}
use Rattle.std.specs.Prelude.{not}
use Rattle.std.specs.List.{list_any}
use Rattle.mt_conf.specs.Schema.{Row}
use Rattle.mt_conf.specs.Rules.{keys_of, is_listed, has_unlisted_key}
use Rattle.toml.specs.View.{table_view}
use Rattle.mt_conf.proofs.Lists.{keys_any}
use Rattle.mt_conf.proofs.shape.has_unlisted_key.Goals as goal

pub returns : goal.returns
unfolding has_unlisted_key
returns c =
    c.any_unlisted.ensures ∙ keys_any (λ key. not (is_listed _ key)) c.args.table.now.entries
    ∙ ap (λ (rows : List Row). list_any (λ key. not (is_listed rows key)) (keys_of (table_view c.args.table.now))) c.rows_of.ensures
