use Rattle.std.proofs.Common.{◌≡◌, ◌+◌, ◌-◌, length, take}
use Rattle.std.specs.List.{sum_by}
use Rattle.mt_explain.proofs.file.byte_count.Given as goal

abbrev pub invariant-loop-line : goal.invariant-loop-line
invariant-loop-line l = l.left ≡ l.most - sum_by (λ line. length line.now + 1) (take l.line-index l.lines)
