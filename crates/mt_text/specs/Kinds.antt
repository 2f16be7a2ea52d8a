-- Lines by the kinds of their tokens alone, whatever the values are.
use Rattle.std.specs.Prelude.{◌≡◌, ℕ, Bool, true, false, List, [], ◌∷◌, Some}
use Rattle.std.specs.Str.{bytes_eq}
use Rattle.mt_fault.specs.declared.fault.Spot.{Spot}
use Rattle.mt_text.specs.declared.request.Mark.{Mark}
use Rattle.mt_text.specs.declared.line.Line.{Line}
use Rattle.mt_text.specs.Tokens.{Token, begins_word}
use Rattle.mt_text.specs.Values.{begins_mark}
use Rattle.mt_text.specs.Forms.{Form, done, none, row, barred, value, spot, mark}
use Rattle.mt_text.specs.Lines.{Part, Start, settled, whole_at}

-- the first where the test holds, else the second
abbrev pub Either : Bool → Type 0 → Type 0 → Type 0
Either true A B = A
Either false A B = B

-- The token is of a kind that the form has first, and then the line goes on with that form. A barred word is of its kind, and so is every word in a value's place.
abbrev pub Allows : {X : Type 0} → Form X → List ℕ → Form X → Type 0
Allows (done x) bytes next = ⊥
Allows none bytes next = ⊥
Allows (row word form more) bytes next = Either (bytes_eq bytes word) (form ≡ next) (Allows more bytes next)
Allows (barred word kind form more) bytes next = Either (bytes_eq bytes word) (form ≡ next) (Allows more bytes next)
Allows (value slot form) bytes next = (begins_word bytes ≡ true) × ((n : ℕ) × (form n ≡ next))
Allows (spot slot form) bytes next = (begins_word bytes ≡ true) × ((s : Spot) × (form s ≡ next))
Allows (mark last count form) bytes next = (begins_mark bytes ≡ true) × ((k : Mark) × (form k ≡ next))

-- each token is of its kind, and the line may end behind the last
unfoldable pub GoesOn : Form Part → List (List ℕ) → Type 0
GoesOn form [] = (l : Line) × (whole_at form ≡ Some l)
GoesOn form (bytes ∷ rest) = (next : Form Part) × Allows (settled form) bytes next × GoesOn next rest

-- a line of the grammar, by kinds alone
abbrev pub IsOfKinds : List (List ℕ) → Type 0
IsOfKinds tokens = GoesOn (done Start) tokens

-- the bytes of tokens, without their places
abbrev pub bytes_of : List Token → List (List ℕ)
bytes_of [] = []
bytes_of (t ∷ ts) = t.bytes ∷ bytes_of ts
