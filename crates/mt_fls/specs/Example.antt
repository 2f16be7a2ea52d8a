-- What the tests speak of.
use Rattle.mt_word.specs.declared.Width.TheVariants.{W8}
use Rattle.mt_port.specs.declared.board.Shape.{Shape}

-- the shape of the example
abbrev pub example_shape : Shape
example_shape = record { width = W8; ram = 1; flash = 16 }
