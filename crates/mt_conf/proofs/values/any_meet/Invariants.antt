use Rattle.std.proofs.Common.{◌≡◌, drop, map}
use Rattle.toml.specs.View.{view}
use Rattle.mt_conf.specs.Rules.{span_of, any_meet}
use Rattle.mt_conf.proofs.values.any_meet.Given as goal

abbrev pub invariant-loop-i : goal.invariant-loop-i
invariant-loop-i l = any_meet (map span_of (map view (drop l.i l.values))) ≡ any_meet (map span_of (map view l.values))
