-- What becomes of a piece that is passed for a sink, where some bytes wait for it.
use Rattle.std.specs.Prelude.{ℕ, ◌≡◌, List, ◌++◌, Option}
use Rattle.std.specs.Io.KnownBytes.{Appends}

-- A front of the bytes that wait and of the piece goes to the sink, and the rest waits.
pub record Gathers (old new : Option (List ℕ)) (waits waits' piece : List ℕ) : Type 0 where
  pub given : List ℕ
  pub all : waits ++ piece ≡ given ++ waits'
  pub appended : Appends old new given
