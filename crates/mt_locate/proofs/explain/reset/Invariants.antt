use Rattle.std.proofs.Common.{◌≡◌, length}
use Rattle.mt_locate.proofs.Resets.{started}
use Rattle.mt_locate.proofs.explain.reset.Given as goal

abbrev pub invariant-loop-addr : goal.invariant-loop-addr
invariant-loop-addr l = (l.cells ≡ record l.initial.cells { words = started l.initial.cells.words l.probe.initial l.addr }) × (length l.cells.words ≡ length l.initial.cells.words)
