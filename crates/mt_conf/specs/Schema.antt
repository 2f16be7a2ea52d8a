-- The tables of a configuration, each as a list of its rows.
use Rattle.std.specs.Prelude.{ℕ, Bool, true, false, if◌then◌else◌, List, [], ◌∷◌, codes}
use Rattle.std.specs.Str.{bytes_eq}
use Rattle.mt_conf.specs.declared.schema.Part.{Part}
use Rattle.mt_conf.specs.declared.schema.Part.TheVariants.{Top, Set, Block, Fls, FlashBlock}
use Rattle.mt_conf.specs.declared.schema.Kind.{Kind}
use Rattle.mt_conf.specs.declared.schema.Kind.TheVariants.{Number, Text, Table, Tables}
use Rattle.mt_conf.specs.declared.schema.Otherwise.{Otherwise}
use Rattle.mt_conf.specs.declared.schema.Otherwise.TheVariants.{Refused, Number as Default, ZeroBits, MarchCMinus, NoBlocks, NoFlashTest}
use Rattle.mt_conf.specs.declared.schema.Row.{Row as Declared}

-- a key, what its value is, and what stands for it where it is left out
pub record Row : Type 0 where
  pub key : List ℕ
  pub kind : Kind
  pub otherwise : Otherwise

abbrev pub row_of : Declared → Row
row_of r = record { key = r.key.now; kind = r.kind; otherwise = r.otherwise }

-- the key may not be left out
abbrev pub is_refused : Otherwise → Bool
is_refused Refused = true
is_refused _ = false

-- the number that stands for a key that is left out, where one does
abbrev pub default_number : Otherwise → ℕ
default_number (Default n) = n
default_number _ = 0

abbrev row : List ℕ → Kind → Otherwise → Row
row key kind otherwise = record { key = key; kind = kind; otherwise = otherwise }

abbrev pub rows_of : Part → List Row
rows_of Top =
    row (codes "version") Number Refused
    ∷ row (codes "width") Number Refused
    ∷ row (codes "ram") Number Refused
    ∷ row (codes "flash") Number (Default 0)
    ∷ row (codes "initial") Text ZeroBits
    ∷ row (codes "set") Tables Refused
    ∷ row (codes "fls") Table NoFlashTest
    ∷ []
rows_of Set =
    row (codes "algorithm") Text Refused
    ∷ row (codes "march") Text MarchCMinus
    ∷ row (codes "background") Text ZeroBits
    ∷ row (codes "atomic") Number Refused
    ∷ row (codes "cells") Number Refused
    ∷ row (codes "retries") Number (Default 2)
    ∷ row (codes "block") Tables Refused
    ∷ []
rows_of Block =
    row (codes "first") Number Refused
    ∷ row (codes "last") Number Refused
    ∷ row (codes "policy") Text Refused
    ∷ row (codes "fill") Text ZeroBits
    ∷ []
rows_of Fls =
    row (codes "atomic") Number Refused
    ∷ row (codes "cells") Number Refused
    ∷ row (codes "interval_end") Number Refused
    ∷ row (codes "bgnd") Tables NoBlocks
    ∷ row (codes "fgnd") Tables NoBlocks
    ∷ []
rows_of FlashBlock =
    row (codes "first") Number Refused
    ∷ row (codes "last") Number Refused
    ∷ row (codes "copy") Number Refused
    ∷ []

-- what stands for a key of a table
abbrev pub otherwise_in : List ℕ → List Row → Otherwise
otherwise_in key [] = Refused
otherwise_in key (row ∷ rows) = if bytes_eq row.key key then row.otherwise else otherwise_in key rows

abbrev pub otherwise_of : Part → List ℕ → Otherwise
otherwise_of part key = otherwise_in key (rows_of part)
