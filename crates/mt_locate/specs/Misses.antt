-- The checked reads of a list of accesses that do not answer their words.
use Rattle.std.specs.Prelude.{ℕ, ◌==◌, if◌then◌else◌, not, List, [], take, length, get_or, slice_get, Option, Some, None, filter_map}
use Rattle.std.specs.Bool.{then_some}
use Rattle.std.specs.List.{range_with_len}
use Rattle.mt_fault.specs.declared.fault.Fault.{Fault}
use Rattle.mt_fault.specs.Faulty.{answer}
use Rattle.mt_fault.specs.Items.{Item, Look, place, history, agrees}
use Rattle.mt_fault.specs.Memory.{Memory}
use Rattle.mt_decoder.specs.Misses.{is_miss}
use Rattle.mt_locate.specs.declared.probe.Miss.{Miss}

-- what the access with an index answers, after all accesses before it
abbrev pub answer_at : Option Fault → List ℕ → List Item → ℕ → ℕ
answer_at fault words items i = answer fault words (history (take i items)) (place (get_or items i (Look 0)))

-- the miss of the access with an index, if it is a checked read that answers another word
abbrev pub miss_at : Option Fault → List ℕ → List Item → ℕ → Option Miss
miss_at fault words items i = then_some (is_miss fault words items i) (record { index = i; word = answer_at fault words items i })

-- all misses, in rising order of index
unfoldable pub misses_of : Option Fault → List ℕ → List Item → List Miss
misses_of fault words items = filter_map (miss_at fault words items) (range_with_len 0 (length items))

-- what an access of a memory as it is answers, if it is a checked read that answers another word
abbrev pub wrong_answer : Memory → Item → Option ℕ
wrong_answer m item = then_some (not (agrees m.fault m.words [] item)) (answer m.fault m.words [] (place item))

-- the word of a miss, if it is of the access with an index
abbrev pub word_of : Option Miss → ℕ → Option ℕ
word_of None index = None
word_of (Some miss) index = if miss.index == index then Some miss.word else None

-- what a list of misses says of the access with an index, where so many of them are of accesses before it
abbrev pub told_at : List Miss → (before index : ℕ) → Option ℕ
told_at misses before index = word_of (slice_get misses before) index
