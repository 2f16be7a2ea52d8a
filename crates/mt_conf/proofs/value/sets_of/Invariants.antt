use Rattle.std.proofs.Common.{◌≡◌, map, take}
use Rattle.toml.specs.View.{view}
use Rattle.mt_conf.specs.Lookup.{fields}
use Rattle.mt_conf.specs.Outcome.{set_of}
use Rattle.mt_conf.proofs.value.sets_of.Given as goal

abbrev pub invariant-loop-value : goal.invariant-loop-value
invariant-loop-value l = l.sets.items ≡ map (λ v. set_of l.width (fields (view v))) (take l.value-index l.values)
