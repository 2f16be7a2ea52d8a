-- Ticks of what is left of a pass.
use Rattle.std.specs.Prelude.{ℕ, suc, ◌≤◌, ◌≡◌, List, drop}
use Rattle.mt_blocks.specs.declared.span.Span.{Span}
use Rattle.mt_blocks.specs.declared.pass.Position.{Position}
use Rattle.mt_blocks.specs.Slices.{from_place, AreSpans, IsValid}
use Rattle.mt_blocks.specs.Groups.{group_len, ticks}

-- the group at the front takes one tick, and what is left behind it the others
abbrev pub GroupsTakeATick : Type 0
GroupsTakeATick =
    (K N : ℕ) (spans : List Span) (p : Position) → AreSpans K spans → IsValid K spans p → K ≤ N
    → ticks N (from_place K spans p) ≡ suc (ticks N (drop (group_len N (from_place K spans p)) (from_place K spans p)))
