use Rattle.std.proofs.Common.{◌≡◌, take}
use Rattle.mt_march.proofs.march.March.copy.Given as goal

abbrev pub invariant-loop-element : goal.invariant-loop-element
invariant-loop-element l = l.elements.items ≡ take l.element-index l.self.elements.items
