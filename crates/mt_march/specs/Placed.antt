-- The march of a text, with the places of its elements, its operations and its closing brace, counted in bytes from 1.
use Rattle.std.specs.Prelude.{◌≡◌, ℕ, ◌+◌, length, List, [], ◌∷◌, ◌++◌, codes, map, Option, Some, None}
use Rattle.std.specs.List.{AllByRecursion}
use Rattle.mt_march.specs.declared.march.Order.{Order}
use Rattle.mt_march.specs.declared.march.Op.{Op}
use Rattle.mt_march.specs.declared.march.Element.{Element}
use Rattle.mt_march.specs.Grammar.{Token, order_token, op_token, IsMarch}

-- an operation
pub record OpAt : Type 0 where
  pub place : ℕ
  pub op : Op

-- an element, at its order
pub record ElementAt : Type 0 where
  pub place : ℕ
  pub order : Order
  pub ops : List OpAt

-- a march, and its closing brace
pub record MarchAt : Type 0 where
  pub elements : List ElementAt
  pub close : ℕ

-- an element without its places
abbrev pub element_of : ElementAt → Element
element_of e = record { order = e.order; ops = record { items = map (λ (o : OpAt). o.op) e.ops } }

-- the march without its places
abbrev pub elements_of : MarchAt → List Element
elements_of m = map element_of m.elements

-- a token, with its place where that is told
pub record TokenAt : Type 0 where
  pub told : Option ℕ
  pub token : Token

abbrev pub at : ℕ → Token → TokenAt
at place token = record { told = Some place; token = token }

abbrev pub anywhere : Token → TokenAt
anywhere token = record { told = None; token = token }

-- ---- the tokens of a march, as the grammar has them

abbrev pub more_ops_at : List OpAt → List TokenAt → List TokenAt
more_ops_at [] tokens = anywhere (codes ")") ∷ tokens
more_ops_at (o ∷ ops) tokens = anywhere (codes ",") ∷ at o.place (op_token o.op) ∷ more_ops_at ops tokens

abbrev pub all_ops_at : List OpAt → List TokenAt → List TokenAt
all_ops_at [] tokens = anywhere (codes ")") ∷ tokens
all_ops_at (o ∷ ops) tokens = at o.place (op_token o.op) ∷ more_ops_at ops tokens

abbrev pub element_tokens_at : ElementAt → List TokenAt → List TokenAt
element_tokens_at e tokens = at e.place (order_token e.order) ∷ anywhere (codes "(") ∷ all_ops_at e.ops tokens

abbrev pub more_elements_at : List ElementAt → ℕ → List TokenAt
more_elements_at [] close = at close (codes "}") ∷ []
more_elements_at (e ∷ es) close = anywhere (codes ";") ∷ element_tokens_at e (more_elements_at es close)

abbrev pub march_tokens_at : List ElementAt → ℕ → List TokenAt
march_tokens_at [] close = []
march_tokens_at (e ∷ es) close = anywhere (codes "{") ∷ element_tokens_at e (more_elements_at es close)

-- ---- what a text spells

-- a place is as it is told
abbrev pub IsTold : Option ℕ → ℕ → Type 0
IsTold None place = Unit {0}
IsTold (Some told) place = told ≡ place

-- the text, whose first byte has the place `from`, is these tokens at their places, with any spaces before and after each
abbrev pub SpellsAt : ℕ → List ℕ → List TokenAt → Type 0
SpellsAt from text [] = AllByRecursion (λ byte. byte ≡ 32) text
SpellsAt from text (t ∷ tokens) =
    (spaces rest : List ℕ) × AllByRecursion (λ byte. byte ≡ 32) spaces × (text ≡ spaces ++ (t.token ++ rest))
    × IsTold t.told (from + length spaces) × SpellsAt (from + length spaces + length t.token) rest tokens

-- the text spells the march, at those places
abbrev pub SpellsMarchAt : List ℕ → MarchAt → Type 0
SpellsMarchAt text m = IsMarch (elements_of m) × SpellsAt 1 text (march_tokens_at m.elements m.close)
