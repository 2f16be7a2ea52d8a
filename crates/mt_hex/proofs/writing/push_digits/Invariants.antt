use Rattle.std.proofs.Common.{◌≡◌, ◌≤◌, ◌+◌, ◌++◌, length}
use Rattle.mt_hex.specs.Digits.{hex_text}
use Rattle.mt_hex.proofs.writing.push_digits.Given as goal

abbrev pub invariant-loop-left : goal.invariant-loop-left
invariant-loop-left g l = record {
  text : l.out.items ++ hex_text l.left l.word ≡ l.initial.out.items ++ hex_text l.digits l.word;
  len : length l.out.items + l.left ≡ length l.initial.out.items + l.digits;
  few : l.left ≤ l.digits;
}

abbrev pub decreases-loop-left : goal.decreases-loop-left
decreases-loop-left g l = l.left
