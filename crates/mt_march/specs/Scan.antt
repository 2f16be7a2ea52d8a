-- How the reader looks for a broken rule, byte by byte. What it finds in a text of the grammar is what `Rules` says of its march.
use Rattle.std.specs.Prelude.{ℕ, ◌+◌, ◌==◌, ◌||◌, ◌&&◌, not, Bool, false, if◌then◌else◌, List, [], ◌∷◌, Option, Some, None}
use Rattle.mt_march.specs.declared.march.MarchKind.TheVariants.{TooLong, ReadBeforeWrite, WrongExpectation, OneValueOnly}
use Rattle.mt_march.specs.declared.march.MarchRefusal.{MarchRefusal}
use Rattle.mt_march.specs.Rules.{or_else}

abbrev pub first : List ℕ → ℕ
first [] = 0
first (b ∷ bs) = b

-- a byte that begins an element, and one that begins an operation
abbrev pub is_order : ℕ → Bool
is_order b = (b == 117 || b == 100) || b == 42

abbrev pub is_letter : ℕ → Bool
is_letter b = b == 114 || b == 119

-- the first element or operation too many, after so many
abbrev pub too_long : ℕ → ℕ → ℕ → List ℕ → Option ℕ
too_long place elements ops [] = None
too_long place elements ops (b ∷ bs) =
    if is_order b then (if elements == 16 then Some place else too_long (place + 1) (elements + 1) 0 bs)
    else (if is_letter b then (if ops == 8 then Some place else too_long (place + 1) elements (ops + 1) bs)
    else too_long (place + 1) elements ops bs)

-- the first operation, where it is a read
abbrev pub read_before_write : ℕ → List ℕ → Option ℕ
read_before_write place [] = None
read_before_write place (b ∷ bs) = if b == 114 then Some place else (if b == 119 then None else read_before_write (place + 1) bs)

-- the first read whose digit isn't that of the last write
abbrev pub wrong_expectation : ℕ → ℕ → List ℕ → Option ℕ
wrong_expectation place written [] = None
wrong_expectation place written (b ∷ bs) =
    if b == 119 then wrong_expectation (place + 1) (first bs) bs
    else (if b == 114 && not (first bs == written) then Some place else wrong_expectation (place + 1) written bs)

-- a read of the digit is there
abbrev pub has_read : ℕ → List ℕ → Bool
has_read digit [] = false
has_read digit (b ∷ bs) = (b == 114 && first bs == digit) || has_read digit bs

abbrev pub close_place : ℕ → List ℕ → ℕ
close_place place [] = place
close_place place (b ∷ bs) = if b == 125 then place else close_place (place + 1) bs

abbrev pub one_value : List ℕ → Option ℕ
one_value text = if not (has_read 48 text) || not (has_read 49 text) then Some (close_place 1 text) else None

-- the least rule that is found to be broken
unfoldable pub rule_found : List ℕ → Option MarchRefusal
rule_found text =
    or_else (too_long 1 0 0 text) TooLong (or_else (read_before_write 1 text) ReadBeforeWrite (or_else (wrong_expectation 1 0 text) WrongExpectation (or_else (one_value text) OneValueOnly None)))
