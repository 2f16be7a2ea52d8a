use Rattle.std.proofs.Common.{◌∙◌, ap, sym, Option}
use Rattle.mt_fault.specs.Projection.{cells_of_fault}
use Rattle.mt_fault.proofs.FaultCells.{no_cells}
use Rattle.mt_board.specs.declared.stores.Stores.{Stores}
use Rattle.mt_board.specs.Stores.{fault_of}
use Rattle.mt_board.proofs.board.SimBoard.cells_of_fault.Goals as goal

pub returns-in-None : goal.returns-in-None
returns-in-None c =
    c.new.ensures ∙ sym (no_cells c.args.first c.args.n)
    ∙ ap (λ (s : Option Stores). cells_of_fault (fault_of s) c.args.first c.args.n) (sym c.in-None.is)
