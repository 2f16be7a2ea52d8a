use Rattle.std.proofs.Common.{◌≡◌, Bool, false, take}
use Rattle.std.specs.List.{list_any}
use Rattle.toml.specs.Data.{Members}
use Rattle.toml.specs.View.{view}
use Rattle.mt_conf.specs.Rules.{in_table}
use Rattle.mt_conf.specs.Tests.{Tests}
use Rattle.mt_conf.proofs.shape.any_table.Given as goal

abbrev pub invariant-loop-value : goal.invariant-loop-value
invariant-loop-value g l =
    (goal.F-IsAlwaysCallable g l.test) × ((p : Members → Bool) → Tests g.F.Fn l.test p → list_any (λ v. in_table p (view v)) (take l.value-index l.value-items) ≡ false)
