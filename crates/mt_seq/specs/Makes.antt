-- What a call does that makes some test accesses.
use Rattle.std.specs.Prelude.{◌+◌, ◌<◌, ◌≡◌, Bool, List, [], map, length, All, Option}
use Rattle.mt_fault.specs.Faulty.{words_after}
use Rattle.mt_port.specs.declared.board.Touch.{Touch}
use Rattle.mt_port.specs.Board.{Board, Logs}
use Rattle.mt_fault.specs.Items.{Item, place, history, passes}
use Rattle.mt_seq.specs.Tape.{touch_of}

-- the board after some test accesses
abbrev pub after_all : Board → List Item → Board
after_all b items = record b { words = words_after b.fault b.words (history items); count = b.count + length items }

-- A call made just these accesses, in this order, and `good` says whether each checked read answered its word.
pub record Makes (items : List Item) (old new : Board) (told now : Option (List Touch)) (good : Bool) : Type 0 where
  pub state : new ≡ after_all old items
  pub shape : new.shape ≡ old.shape
  pub held : new.held ≡ old.held
  pub count : new.count ≡ old.count + length items
  pub inside : All (λ item. place item < length old.words) items
  pub pass : good ≡ passes old.fault old.words [] items
  pub tape : Logs told now (map touch_of items)
