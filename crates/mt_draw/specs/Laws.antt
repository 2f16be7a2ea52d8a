-- Laws of pictures.
use Rattle.std.specs.Prelude.{ℕ, ◌+◌, ◌≡◌, ◌≢◌, ◌≤◌, List}
use Rattle.std.specs.List.{AllByRecursion}
use Rattle.mt_draw.specs.declared.scale.Scale.{Scale}
use Rattle.mt_draw.specs.Escaped.{escaped}
use Rattle.mt_draw.specs.Places.{on}

-- a byte that neither begins nor ends a tag or a value of an attribute
pub record IsPlain (b : ℕ) : Type 0 where
  pub no_tag : b ≢ 60
  pub no_end : b ≢ 62
  pub no_quote : b ≢ 34
  pub no_apostrophe : b ≢ 39

-- text that is written in a page is no markup, whatever it is
abbrev pub TextIsNoMarkup : Type 0
TextIsNoMarkup = (text : List ℕ) → AllByRecursion IsPlain (escaped text)

-- and nothing of it is lost: two texts that are written alike are the same
abbrev pub TextIsKept : Type 0
TextIsKept = (a b : List ℕ) → escaped a ≡ escaped b → a ≡ b

-- what comes before another number stands no further along, and nothing stands off the line
abbrev pub PlacesKeepOrder : Type 0
PlacesKeepOrder = (s : Scale) (m n : ℕ) → m ≤ n → on s m ≤ on s n

abbrev pub PlacesAreInside : Type 0
PlacesAreInside = (s : Scale) (n : ℕ) → (s.start ≤ on s n) × (on s n ≤ s.start + s.length)
