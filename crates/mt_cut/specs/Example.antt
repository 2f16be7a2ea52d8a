-- What the tests speak of.
use Rattle.std.specs.Prelude.{[], ◌∷◌}
use Rattle.mt_word.specs.declared.Width.TheVariants.{W8}
use Rattle.mt_plan.specs.declared.algorithm.Algorithm.{Algorithm}
use Rattle.mt_plan.specs.declared.algorithm.Algorithm.TheVariants.{Checkerboard}
use Rattle.mt_plan.specs.declared.algorithm.Policy.TheVariants.{NonDestructive, Destructive}
use Rattle.mt_port.specs.declared.board.Shape.{Shape}
use Rattle.mt_blocks.specs.declared.config.Block.{Block}
use Rattle.mt_blocks.specs.declared.config.ParamSet.{ParamSet}

abbrev pub example_shape : Shape
example_shape = record { width = W8; ram = 10; flash = 0 }

-- a block that is filled, and one that keeps its words
abbrev pub filled_block : Block
filled_block = record { span = record { first = 0; last = 3 }; policy = Destructive; fill = 0 }

abbrev pub kept_block : Block
kept_block = record { span = record { first = 4; last = 9 }; policy = NonDestructive; fill = 0 }

abbrev pub checkerboard_set : ParamSet
checkerboard_set = record { alg = Checkerboard; background = 0; atomic = 4; cells = 8; blocks = filled_block ∷ kept_block ∷ []; retries = 2 }

-- one block that keeps its words, tested by some algorithm
abbrev pub one_block_set : Algorithm → ParamSet
one_block_set alg = record { alg = alg; background = 0; atomic = 4; cells = 8; blocks = record kept_block { span = record { first = 0; last = 9 } } ∷ []; retries = 2 }
