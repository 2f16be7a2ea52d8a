use Rattle.mt_locate.specs.Explanations.{accesses_of}
use Rattle.mt_locate.proofs.Spans.{Met}
use Rattle.mt_locate.proofs.explain.misses_exactly.Given as goal

abbrev pub invariant-loop-index : goal.invariant-loop-index
invariant-loop-index l = Met l.initial.cells l.fn.fault (accesses_of l.probe) l.misses l.index l.made l.cells
