use Rattle.std.proofs.Common.{◌≡◌, ◌≤◌, ◌+◌, ◌*◌, ◌++◌, length, drop}
use Rattle.std.specs.List.{AllByRecursion}
use Rattle.mt_march.specs.Grammar.{more_elements, IsNonEmpty}
use Rattle.mt_march.specs.Canonical.{text_of}
use Rattle.mt_march.proofs.writing.march_text.Given as goal

abbrev pub invariant-loop-element : goal.invariant-loop-element
invariant-loop-element l = record {
  text : l.out.items ++ text_of (more_elements (drop l.element-index l.rest)) ≡ l.initial.out.items ++ text_of (more_elements l.rest);
  len : length l.out.items ≤ 27 + 28 * l.element-index;
  some : AllByRecursion (λ e. IsNonEmpty e.ops.items) (drop l.element-index l.rest);
}
