use Rattle.std.proofs.Common.{◌≡◌, ◌+◌, ◌*◌, List, ◌++◌, length, drop}
use Rattle.mt_march.specs.Grammar.{Token, more_ops}
use Rattle.mt_march.specs.Canonical.{text_of}
use Rattle.mt_march.proofs.writing.push_ops.Given as goal

abbrev pub invariant-loop-op : goal.invariant-loop-op
invariant-loop-op l = record {
  text : (tokens : List Token) → l.out.items ++ text_of (more_ops (drop l.op-index l.rest) tokens) ≡ l.initial.out.items ++ text_of (more_ops l.rest tokens);
  len : length l.out.items ≡ length l.initial.out.items + 3 * l.op-index;
}
