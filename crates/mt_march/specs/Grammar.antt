-- What a march text is.
use Rattle.std.specs.Prelude.{◌≡◌, ℕ, ◌<◌, ◌≤◌, ◌+◌, ◌⊎◌, take, length, List, [], ◌∷◌, ◌++◌, codes}
use Rattle.std.specs.List.{AllByRecursion}
use Rattle.mt_march.specs.declared.march.Order.{Order}
use Rattle.mt_march.specs.declared.march.Order.TheVariants.{Up, Down, Either}
use Rattle.mt_march.specs.declared.march.Op.{Op}
use Rattle.mt_march.specs.declared.march.Op.TheVariants.{R0, R1, W0, W1}
use Rattle.mt_march.specs.declared.march.Element.{Element}

abbrev pub Token : Type 0
Token = List ℕ

abbrev pub order_token : Order → Token
order_token Up = codes "u"
order_token Down = codes "d"
order_token Either = codes "*"

abbrev pub op_token : Op → Token
op_token R0 = codes "r0"
op_token R1 = codes "r1"
op_token W0 = codes "w0"
op_token W1 = codes "w1"

-- what follows an operation, up to the element's end
abbrev pub more_ops : List Op → List Token → List Token
more_ops [] tokens = codes ")" ∷ tokens
more_ops (op ∷ ops) tokens = codes "," ∷ op_token op ∷ more_ops ops tokens

-- the operations of an element, of which there are some
abbrev pub all_ops : List Op → List Token → List Token
all_ops [] tokens = codes ")" ∷ tokens
all_ops (op ∷ ops) tokens = op_token op ∷ more_ops ops tokens

abbrev pub element_tokens : Element → List Token → List Token
element_tokens e tokens = order_token e.order ∷ codes "(" ∷ all_ops e.ops.items tokens

-- what follows an element, up to the end
abbrev pub more_elements : List Element → List Token
more_elements [] = codes "}" ∷ []
more_elements (e ∷ es) = codes ";" ∷ element_tokens e (more_elements es)

abbrev pub march_tokens : List Element → List Token
march_tokens [] = []
march_tokens (e ∷ es) = codes "{" ∷ element_tokens e (more_elements es)

-- there are elements, and each has operations
abbrev pub IsNonEmpty : {A : Type 0} → List A → Type 0
IsNonEmpty [] = ⊥
IsNonEmpty (x ∷ xs) = Unit {0}

abbrev pub IsMarch : List Element → Type 0
IsMarch es = IsNonEmpty es × AllByRecursion (λ e. IsNonEmpty e.ops.items) es

-- the text is these tokens, with any spaces before and after each
abbrev pub Spells : List ℕ → List Token → Type 0
Spells text [] = AllByRecursion (λ byte. byte ≡ 32) text
Spells text (token ∷ tokens) = (spaces rest : List ℕ) × AllByRecursion (λ byte. byte ≡ 32) spaces × (text ≡ spaces ++ (token ++ rest)) × Spells rest tokens

-- the text spells the march
abbrev pub SpellsMarch : List ℕ → List Element → Type 0
SpellsMarch text es = IsMarch es × Spells text (march_tokens es)

abbrev pub IsText : List ℕ → Type 0
IsText text = (es : List Element) × SpellsMarch text es

-- some text of the grammar begins so
abbrev pub Begins : List ℕ → Type 0
Begins front = (more : List ℕ) × IsText (front ++ more)

-- the least place such that the text up to it begins no text of the grammar, and the place after the end where there is none
pub record IsSpellingPlace (text : List ℕ) (place : ℕ) : Type 0 where
  pub refused : ¬ (IsText text)
  pub before : (n : ℕ) → n < place → Begins (take n text)
  pub there : ((place ≤ length text) × ¬ (Begins (take place text))) ⊎ (place ≡ length text + 1)
