use Rattle.std.proofs.Common.{◌≡◌, ◌<◌, ◌/◌, ◌%◌, ℕ, get_or, length}
use Rattle.mt_locate.specs.Inner.Lanes.{IsRowOf}
use Rattle.mt_locate.proofs.unseen.table.Given as goal

abbrev pub invariant-loop-k : goal.invariant-loop-k
invariant-loop-k l = record {
  size : length l.rows.items ≡ l.k;
  row : (j : ℕ) → j < l.k → IsRowOf l.probe l.means (j / l.probe.n) (j % l.probe.n) (get_or l.rows.items j 0);
}
