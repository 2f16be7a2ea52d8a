use Rattle.std.proofs.Common.{◌≡◌, ◌∷◌, map, take, decimal, string_bytes}
use Rattle.std.specs.Str.Lossy.{utf8_lossy}
use Rattle.mt_page.proofs.words.words_of.Given as goal

-- the form, and the numbers so far
abbrev pub invariant-loop-number : goal.invariant-loop-number
invariant-loop-number l = map string_bytes l.words.items ≡ utf8_lossy l.form ∷ map decimal (take l.number-index l.numbers)
