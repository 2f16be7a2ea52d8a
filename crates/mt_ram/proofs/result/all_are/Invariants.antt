use Rattle.std.proofs.Common.{◌≡◌, take, true}
use Rattle.std.specs.List.{list_all}
use Rattle.mt_ram.specs.Results.{is_result}
use Rattle.mt_ram.proofs.result.all_are.Given as goal

abbrev pub invariant-loop-have : goal.invariant-loop-have
invariant-loop-have l = list_all (is_result l.want) (take l.have-index l.results) ≡ true
