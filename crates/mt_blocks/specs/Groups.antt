-- Groups of slices, and ticks.
use Rattle.std.specs.Prelude.{ℕ, suc, zero, ◌-◌, List, [], ◌∷◌, length, take, drop, if◌then◌else◌, nat_le}
use Rattle.mt_blocks.specs.Slices.{Piece}

-- how many slices the longest run at the front has whose word counts add up to at most so many
abbrev pub group_len : ℕ → List Piece → ℕ
group_len words [] = 0
group_len words (p ∷ more) = if nat_le p.slice.n words then suc (group_len (words - p.slice.n) more) else 0

-- the group at the front
abbrev pub group : ℕ → List Piece → List Piece
group N slices = take (group_len N slices) slices

-- the groups into which these slices are cut from the front, at most so many
abbrev pub groups_up_to : ℕ → ℕ → List Piece → List (List Piece)
groups_up_to zero N slices = []
groups_up_to (suc most) N [] = []
groups_up_to (suc most) N (p ∷ more) = group N (p ∷ more) ∷ groups_up_to most N (drop (group_len N (p ∷ more)) (p ∷ more))

-- the groups of a pass, of which each has a slice
abbrev pub groups : ℕ → List Piece → List (List Piece)
groups N slices = groups_up_to (length slices) N slices

-- how many ticks a pass takes
unfoldable pub ticks : ℕ → List Piece → ℕ
ticks N slices = length (groups N slices)
