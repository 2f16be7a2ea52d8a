use Rattle.std.proofs.Common.{◌∙◌, ap, sym, Option}
use Rattle.mt_fault.specs.declared.fault.Fault.{Fault}
use Rattle.mt_fault.specs.Memory.{Memory}
use Rattle.mt_fault.specs.Projection.{cells_of_fault}
use Rattle.mt_fault.proofs.FaultCells.{no_cells}
use Rattle.mt_fault.proofs.cells.Cells.cells_of_fault.Goals as goal

pub returns-in-None : goal.returns-in-None
returns-in-None c =
    c.new.ensures ∙ sym (no_cells c.args.first c.args.n)
    ∙ ap (λ (f : Option Fault). cells_of_fault f c.args.first c.args.n) (sym (sym (ap (λ (m : Memory). m.fault) c.self.view_is) ∙ c.in-None.is))
