-- Test accesses: accesses of which some reads are to answer a given word.
use Rattle.std.specs.Prelude.{ℕ, ◌==◌, Bool, true, ◌&&◌, List, [], ◌∷◌, map, reverse}
use Rattle.std.specs.declared.option.Option.{Option}
use Rattle.mt_fault.specs.declared.fault.Fault.{Fault}
use Rattle.mt_fault.specs.History.{Access, Read, Write, History}
use Rattle.mt_fault.specs.Faulty.{answer}

-- one test access: a read whose answer isn't checked, a read that is to answer a word, or a write
pub data Item : Type 0 where
  Look : (addr : ℕ) → Item
  Check : (addr word : ℕ) → Item
  Store : (addr word : ℕ) → Item

-- the address that is accessed
abbrev pub place : Item → ℕ
place (Look addr) = addr
place (Check addr word) = addr
place (Store addr word) = addr

-- the access alone
abbrev pub access_of : Item → Access
access_of (Look addr) = Read addr
access_of (Check addr word) = Read addr
access_of (Store addr word) = Write addr word

-- the accesses as a history, the latest first
unfoldable pub history : List Item → History
history items = reverse (map access_of items)

-- whether one access, after a history, is no checked read that answers another word
abbrev pub agrees : Option Fault → List ℕ → History → Item → Bool
agrees fault first h (Look addr) = true
agrees fault first h (Check addr word) = answer fault first h addr == word
agrees fault first h (Store addr word) = true

-- whether each checked read answers its word, where the accesses come after a history
unfoldable pub passes : Option Fault → List ℕ → History → List Item → Bool
passes fault first h [] = true
passes fault first h (item ∷ more) = agrees fault first h item && passes fault first (access_of item ∷ h) more
