-- A march without the steps of some cells.
use Rattle.std.specs.Prelude.{ℕ, ◌<◌, ◌≡◌, ◌≢◌, ◌⊎◌, List, [], ◌∷◌, ◌++◌, map}
use Rattle.std.specs.List.{flat_map}
use Rattle.mt_march.specs.declared.march.Element.{Element}
use Rattle.mt_plan.specs.declared.algorithm.Step.{Step}
use Rattle.mt_plan.specs.Lists.{cells, step, march_on}

-- Each cell is left out, or is kept under one name.
abbrev pub Names : (ℕ → List ℕ) → Type 0
Names names = (cell : ℕ) → (names cell ≡ []) ⊎ ((name : ℕ) × (names cell ≡ name ∷ []))

-- the steps of the kept cells, each cell under its name
abbrev pub kept : (ℕ → List ℕ) → List Step → List Step
kept names steps = flat_map (λ (t : Step). map (λ name. step name t.act) (names t.cell)) steps

-- a march without the steps of the other cells is the march on the kept cells alone
abbrev pub MarchOnKeptCells : Type 0
MarchOnKeptCells =
    (names : ℕ → List ℕ) (march : List Element) (js : List ℕ) → Names names →
    kept names (march_on js march) ≡ march_on (flat_map names js) march

-- Of n cells one is kept, or two are, in rising order.
pub record KeepsCells (names : ℕ → List ℕ) (n : ℕ) : Type 0 where
  pub one : (a : ℕ) → a < n → ((c : ℕ) → c ≢ a → names c ≡ []) → flat_map names (cells n) ≡ names a
  pub two : (a b : ℕ) → a < b → b < n → ((c : ℕ) → c ≢ a → c ≢ b → names c ≡ []) → flat_map names (cells n) ≡ names a ++ names b

-- where all cells but one or two are left out, these are the kept cells, whatever n is
abbrev pub KeptCells : Type 0
KeptCells = (names : ℕ → List ℕ) (n : ℕ) → KeepsCells names n
