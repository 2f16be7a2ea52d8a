-- Faults that an algorithm misses: an empty cell of the table says that some fault of the class passes the test.
use Rattle.std.specs.Prelude.{◌≡◌, ℕ, true, All, List, [], length, map, Some}
use Rattle.mt_word.specs.declared.Width.TheVariants.{W8}
use Rattle.mt_word.specs.Word.{Fits}
use Rattle.mt_fault.specs.declared.fault.Fault.{Fault}
use Rattle.mt_fault.specs.Faulty.{answer}
use Rattle.mt_fault.specs.Placement.{IsWellPlaced, IsInside}
use Rattle.mt_fault.specs.Items.{passes}
use Rattle.mt_march.specs.declared.march.March.{March}
use Rattle.mt_march.specs.Known.{mats_plus}
use Rattle.mt_plan.specs.declared.algorithm.Algorithm.{Algorithm}
use Rattle.mt_plan.specs.declared.algorithm.Algorithm.TheVariants.{Checkerboard, March as Marches, WalkPath, Galpat, TransparentGalpat}
use Rattle.mt_plan.specs.Accesses.{item_of}
use Rattle.mt_plan.specs.Plan.{steps_of, IsAccepted}
use Rattle.mt_cover.specs.declared.class.Class.{Class}
use Rattle.mt_cover.specs.declared.class.Class.TheVariants.{StuckAt}
use Rattle.mt_cover.specs.Coverage.{class_of, IsTabled}
use Rattle.mt_cover.specs.Further.{IsFurtherTabled, IsMatsTabled}

-- the background word of a cell: one for all cells, or under transparent Galpat the word that was read there first
abbrev pub background_of : Algorithm → Fault → List ℕ → (background cell : ℕ) → ℕ
background_of Checkerboard fault words background cell = background
background_of (Marches march) fault words background cell = background
background_of WalkPath fault words background cell = background
background_of Galpat fault words background cell = background
background_of TransparentGalpat fault words background cell = answer (Some fault) words [] cell

-- A fault of the class that passes the test: each checked read of all words of a memory answers its word.
pub record Missed (algorithm : Algorithm) (class : Class) : Type 0 where
  pub fault : Fault
  pub background : ℕ
  pub words : List ℕ
  pub accepted : IsAccepted algorithm
  pub is_of_class : class_of fault ≡ class
  pub background_fits : Fits W8 background
  pub words_fit : All (Fits W8) words
  pub placed : IsWellPlaced W8 (length words) fault
  pub inside : IsInside fault 0 (length words)
  pub passed : passes (Some fault) words [] (map (item_of W8 0 (background_of algorithm fault words background)) (steps_of algorithm (length words))) ≡ true

-- an algorithm that is no march
abbrev pub IsNoMarch : Algorithm → Type 0
IsNoMarch Checkerboard = Unit {0}
IsNoMarch (Marches march) = ⊥
IsNoMarch WalkPath = Unit {0}
IsNoMarch Galpat = Unit {0}
IsNoMarch TransparentGalpat = Unit {0}

-- a class that no table has for an algorithm other than a march has a fault that the algorithm misses
abbrev pub EmptyCellsAreMissed : Type 0
EmptyCellsAreMissed =
    (algorithm : Algorithm) (class : Class) → IsNoMarch algorithm
    → (IsTabled algorithm class → ⊥) → (IsFurtherTabled algorithm class → ⊥) → Missed algorithm class

-- MATS+ misses a fault of each class that it is not said to catch
abbrev pub MatsMissesOthers : Type 0
MatsMissesOthers =
    (march : March) (class : Class) → march.elements.items ≡ mats_plus → (IsMatsTabled class → ⊥) → Missed (Marches march) class

-- stuck-at is the one class of which no accepted march misses a fault
abbrev pub SomeMarchMisses : Type 0
SomeMarchMisses = (class : Class) → (class ≡ StuckAt → ⊥) → (march : March) × Missed (Marches march) class
