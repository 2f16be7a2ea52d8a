-- Line feeds in a text without an empty line.
use Rattle.std.specs.Prelude.{ℕ, List, ◌∷◌, ◌++◌}
use Rattle.mt_verify.specs.Laws.{HasOpenLine, HasNoEmptyLine}

-- each ends a line that has a byte
abbrev pub FeedsEndOpenLines : Type 0
FeedsEndOpenLines = (shared rest : List ℕ) → HasNoEmptyLine (shared ++ 10 ∷ rest) → HasOpenLine shared
