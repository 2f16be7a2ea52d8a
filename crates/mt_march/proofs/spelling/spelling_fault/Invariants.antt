use Rattle.std.proofs.Common.{◌≡◌, ◌+◌, drop}
use Rattle.mt_march.specs.Machine.{fault}
use Rattle.mt_march.specs.declared.spelling.Expects.TheVariants.{Brace}
use Rattle.mt_march.proofs.spelling.spelling_fault.Given as goal

abbrev pub invariant-loop-i : goal.invariant-loop-i
invariant-loop-i l = fault l.expects (l.i + 1) (drop l.i l.text) ≡ fault Brace 1 l.text
