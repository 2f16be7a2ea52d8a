-- A reader of march texts, byte by byte.
use Rattle.std.specs.Prelude.{ℕ, ◌+◌, ◌==◌, if◌then◌else◌, List, [], ◌∷◌, Option, Some, None}
use Rattle.mt_march.specs.declared.spelling.Expects.{Expects}
use Rattle.mt_march.specs.declared.spelling.Expects.TheVariants.{Brace, Direction, Parenthesis, Letter, Digit, Comma, Semicolon, Nothing}

-- what is expected after the byte
abbrev pub next : Expects → ℕ → Option Expects
next Brace b = if b == 32 then Some Brace else (if b == 123 then Some Direction else None)
next Direction b = if b == 32 then Some Direction else (if b == 117 then Some Parenthesis else (if b == 100 then Some Parenthesis else (if b == 42 then Some Parenthesis else None)))
next Parenthesis b = if b == 32 then Some Parenthesis else (if b == 40 then Some Letter else None)
next Letter b = if b == 32 then Some Letter else (if b == 114 then Some Digit else (if b == 119 then Some Digit else None))
next Digit b = if b == 48 then Some Comma else (if b == 49 then Some Comma else None)
next Comma b = if b == 32 then Some Comma else (if b == 44 then Some Letter else (if b == 41 then Some Semicolon else None))
next Semicolon b = if b == 32 then Some Semicolon else (if b == 59 then Some Direction else (if b == 125 then Some Nothing else None))
next Nothing b = if b == 32 then Some Nothing else None

abbrev pub fault_at_end : Expects → ℕ → Option ℕ
fault_at_end Nothing place = None
fault_at_end _ place = Some place

-- stops at the place, or goes on from the state
abbrev pub goes_on : Option Expects → ℕ → (Expects → Option ℕ) → Option ℕ
goes_on None place rest = Some place
goes_on (Some s) place rest = rest s

-- the place of the first byte that can't follow, and the place after the end where more is expected
abbrev pub fault : Expects → ℕ → List ℕ → Option ℕ
fault s place [] = fault_at_end s place
fault s place (b ∷ bs) = goes_on (next s b) place (λ after. fault after (place + 1) bs)
