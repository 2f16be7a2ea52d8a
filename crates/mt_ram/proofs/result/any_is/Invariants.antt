use Rattle.std.proofs.Common.{◌≡◌, take, false}
use Rattle.std.specs.List.{list_any}
use Rattle.mt_ram.specs.Results.{is_result}
use Rattle.mt_ram.proofs.result.any_is.Given as goal

abbrev pub invariant-loop-have : goal.invariant-loop-have
invariant-loop-have l = list_any (is_result l.want) (take l.have-index l.results) ≡ false
