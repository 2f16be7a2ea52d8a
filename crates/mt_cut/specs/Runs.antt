-- What runs of slices and their searches answer.
use Rattle.std.specs.Prelude.{ℕ, ◌≡◌, List, take, drop, sum, Option, Some, None, IfSome, nat_lt, position, slice_index}
use Rattle.mt_blocks.specs.declared.pass.Position.{Position}
use Rattle.mt_blocks.specs.declared.config.ParamSet.{ParamSet}
use Rattle.mt_blocks.specs.Slices.{IsValid}
use Rattle.mt_blocks.specs.Accepted.{spans_of}
use Rattle.mt_cut.specs.declared.run.Run.{Run}
use Rattle.mt_cut.specs.declared.run.Above.{Above}
use Rattle.mt_cut.specs.Holds.{holds_from, holds_next}
use Rattle.mt_cut.specs.Cuts.{longest, first_above}

-- The longest run from a position within a budget, and where the pass goes on behind it.
pub record IsRun (budget : ℕ) (set : ParamSet) (at : Position) (run : Run) : Type 0 where
  pub slices : run.slices ≡ longest budget (holds_from set at)
  pub accesses : run.accesses ≡ sum (take run.slices (holds_from set at))
  pub valid : IfSome run.next (IsValid set.atomic (spans_of set.blocks))
  pub rest : holds_next set run.next ≡ drop run.slices (holds_from set at)

-- The first slice that alone is above a budget, with its accesses; none where there is none.
abbrev pub IsAbove : ℕ → List ℕ → Option Above → Type 0
IsAbove budget holds None = first_above budget holds ≡ None
IsAbove budget holds (Some above) = (first_above budget holds ≡ Some above.slice) × (above.hold ≡ slice_index holds above.slice)
