-- What a watched board keeps of what was done on it.
use Rattle.std.specs.Prelude.{ℕ, ◌≡◌, ◌-◌, ◌^◌, min, List, ◌∷◌, length, take, reverse}
use Rattle.mt_board.specs.declared.deeds.Deed.{Deed}
use Rattle.mt_board.specs.declared.deeds.Deeds.{Deeds}

-- the deeds that there is room for, and how many more there were
pub record Account : Type 0 where
  pub room : ℕ
  pub items : List Deed
  pub left_out : ℕ

-- the account of a history, whose latest deed is first: the first deeds in order, and the number of the others, at most 2^64 - 1
abbrev pub account : ℕ → List Deed → Account
account room done = record { room = room; items = take room (reverse done); left_out = min (length done - room) (2 ^ 64 - 1) }

-- whatever history the old account is of, the new one is of this history and one more deed
abbrev pub Adds : (old new : Account) → Deed → Type 0
Adds old new deed = (done : List Deed) → old ≡ account old.room done → new ≡ account old.room (deed ∷ done)

abbrev pub account_of : Deeds → Account
account_of deeds = record { room = deeds.room; items = deeds.items.items; left_out = deeds.left_out }
