-- What the calls of the form `soak` do.
use Rattle.std.specs.Prelude.{◌+◌, ◌-◌, ◌*◌, ◌^◌, ◌<◌, ◌≤◌, ◌≡◌, List, [], ◌∷◌, ◌++◌, length, fold, Option, Some, None}
use Rattle.mt_port.specs.Board.{Logs}
use Rattle.mt_port.specs.declared.board.Touch.{Touch}
use Rattle.mt_text.specs.declared.line.Line.{Line}
use Rattle.mt_window.specs.declared.log.Entry.{Entry}
use Rattle.mt_window.specs.declared.log.Entry.TheVariants.{Own}
use Rattle.mt_window.specs.declared.reply.Reply.{Reply}
use Rattle.mt_gen.specs.declared.summary.Summary.{Summary}
use Rattle.mt_gen.specs.Summary.{summary_of, with_entry}
use Rattle.mt_machine.specs.Machine.{Machine, Step, played}
use Rattle.mt_replay.specs.Outcome.{steps_touches}
use Rattle.mt_replay.specs.Soak.{entries_of}

-- the sums with the entries of one line more
abbrev pub with_line : Summary → List Entry → Summary
with_line s entries = fold with_entry (record s { lines = s.lines + 1 }) entries

-- what a line enters by its log and its reply, where it has one
abbrev pub entered : List Entry → Option Reply → List Entry
entered log None = []
entered log (Some reply) = log ++ Own reply ∷ []

-- A line enters at most 257 entries. There is room for their sums.
pub record HasRoom (s : Summary) : Type 0 where
  pub lines : s.lines + 1 < 2 ^ 32
  pub ran : s.ran + 257 * (2 ^ 32 - 1) < 2 ^ 64
  pub served : s.served + 257 < 2 ^ 32

-- the sums rose by those of at most so many entries
pub record IsLittleMore (s s' : Summary) : Type 0 where
  pub ran : s'.ran ≤ s.ran + 257 * (2 ^ 32 - 1)
  pub served : s'.served ≤ s.served + 257

-- A line was replayed: its entries are added up, and its accesses are on the tape.
pub record Adds (made : Step) (m' : Machine) (s s' : Summary) (tape tape' : Option (List Touch)) : Type 0 where
  pub after : m' ≡ made.after
  pub sums : s' ≡ with_line s made.entries
  pub taped : Logs tape tape' made.touches

-- Lines were replayed from a machine on: these are their sums, and their accesses are on the tape.
pub record Sums (m m' : Machine) (lines : List Line) (s : Summary) (tape tape' : Option (List Touch)) : Type 0 where
  pub after : m' ≡ (played m lines).after
  pub sums : s ≡ summary_of (length lines) (entries_of (played m lines).steps)
  pub taped : Logs tape tape' (steps_touches (played m lines).steps)
