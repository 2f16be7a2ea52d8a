use Rattle.std.specs.Prelude.{ℕ, ◌≡◌, List, [], Option, None, Some}
use Rattle.mt_word.specs.declared.Width.TheVariants.{W8}
use Rattle.mt_fault.specs.declared.fault.Fault.{Fault}
use Rattle.mt_port.specs.declared.board.Shape.{Shape}
use Rattle.mt_board.specs.declared.stores.Stores.{Stores}

-- the shape of the latest power-up; before the first one no words at all
abbrev pub shape_of : Option Stores → Shape
shape_of None = record { width = W8; ram = 0; flash = 0 }
shape_of (Some s) = record { width = s.cells.width; ram = s.ram; flash = s.flash_len }

-- the fault that is there
abbrev pub fault_of : Option Stores → Option Fault
fault_of None = None
fault_of (Some s) = s.cells.fault

-- the stored words
abbrev pub words_of : Option Stores → List ℕ
words_of None = []
words_of (Some s) = s.cells.words

-- the flash words
abbrev pub flash_of : Option Stores → List ℕ
flash_of None = []
flash_of (Some s) = s.flash.words

-- the flash and the number of words stay
pub record SameFlash (old new : Stores) : Type 0 where
  pub ram : new.ram ≡ old.ram
  pub flash : new.flash.words ≡ old.flash.words
  pub size : new.flash_len ≡ old.flash_len
