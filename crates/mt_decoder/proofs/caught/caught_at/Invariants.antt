use Rattle.mt_decoder.specs.Misses.{accesses}
use Rattle.mt_decoder.proofs.Steps.{Made}
use Rattle.mt_decoder.proofs.caught.caught_at.Given as goal

abbrev pub invariant-loop-index : goal.invariant-loop-index
invariant-loop-index l = Made l.initial.cells (accesses l.initial.cells.width l.alg l.background l.first l.n) l.index l.cells l.found
