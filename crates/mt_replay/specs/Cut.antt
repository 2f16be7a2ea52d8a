-- What `cut` tells: the fewest ticks in which a pass over a set may be cut under a budget, and the greatest slice for a wait.
use Rattle.std.specs.Prelude.{ℕ, ◌+◌, List, [], ◌∷◌, ◌++◌, length, take, drop, sum, codes, slice_index, Option, Some, None}
use Rattle.std.specs.Fmt.{decimal}
use Rattle.mt_blocks.specs.declared.config.ParamSet.{ParamSet}
use Rattle.mt_cut.specs.Holds.{pass_holds}
use Rattle.mt_cut.specs.Cuts.{first_above, longest_runs}
use Rattle.mt_cut.specs.Atomic.{largest}
use Rattle.mt_replay.specs.declared.form.Ask.{Ask}

-- the line of a tick: its number, its slices and their accesses
abbrev pub tick_text : (number slices accesses : ℕ) → List ℕ
tick_text number slices accesses = codes "tick " ++ decimal number ++ codes " slices " ++ decimal slices ++ codes " accesses " ++ decimal accesses ++ codes "\n"

-- the ticks of a cut of these slices, the first of which has this number
abbrev pub tick_lines : ℕ → List ℕ → List ℕ → List ℕ
tick_lines number [] holds = []
tick_lines number (n ∷ cut) holds = tick_text number n (sum (take n holds)) ++ tick_lines (number + 1) cut (drop n holds)

abbrev pub count_text : ℕ → List ℕ
count_text ticks = codes "ticks " ++ decimal ticks ++ codes "\n"

-- the ticks of a cut, and how many they are
abbrev pub ticks_text : List ℕ → List ℕ → List ℕ
ticks_text cut holds = tick_lines 1 cut holds ++ count_text (length cut)

-- a slice that alone is above the budget: its number in the pass, counted from 0, and its accesses
abbrev pub no_cut_text : (slice hold : ℕ) → List ℕ
no_cut_text slice hold = codes "no cut " ++ decimal slice ++ codes " " ++ decimal hold ++ codes "\n"

-- the first such slice; where there is none, the cut in which each run in turn is the longest
abbrev pub pass_text : ℕ → List ℕ → Option ℕ → List ℕ
pass_text budget holds (Some slice) = no_cut_text slice (slice_index holds slice)
pass_text budget holds None = ticks_text (longest_runs budget holds) holds

abbrev pub largest_text : Option ℕ → List ℕ
largest_text None = codes "largest none\n"
largest_text (Some words) = codes "largest " ++ decimal words ++ codes "\n"

unfoldable pub set_text : Ask → ParamSet → List ℕ
set_text ask set = pass_text ask.budget (pass_holds set) (first_above ask.budget (pass_holds set)) ++ largest_text (largest set ask.wait)

abbrev pub chosen_text : Ask → Option ParamSet → List ℕ
chosen_text ask None = codes "no set\n"
chosen_text ask (Some set) = set_text ask set
