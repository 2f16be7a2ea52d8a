-- The tokens of the texts that spell a line: its canonical words, but with any hexadecimal digits that spell its words, and with brackets round an empty handler or none.
use Rattle.std.specs.Prelude.{◌≡◌, ℕ, codes, List, [], ◌∷◌, ◌++◌, Some, ◌⊎◌}
use Rattle.std.specs.Fmt.{decimal}
use Rattle.mt_word.specs.declared.Width.{Width}
use Rattle.mt_word.specs.Word.{Fits}
use Rattle.mt_port.specs.declared.request.HandlerOp.{HandlerOp}
use Rattle.mt_port.specs.declared.request.Request.{Request}
use Rattle.mt_text.specs.declared.line.Event.{Event}
use Rattle.mt_text.specs.declared.line.Line.{Line}
use Rattle.mt_hex.specs.Hex.{hex_of}
use Rattle.mt_text.specs.Values.{mark_byte}
use Rattle.mt_text.specs.Canonical.{event_words_by, op_words_by}

-- a way of writing the words that fit
abbrev pub IsWriting : Width → (ℕ → List ℕ) → Type 0
IsWriting width write = (word : ℕ) → Fits width word → hex_of (write word) ≡ Some word

-- an event
pub record AreOfEvent (width : Width) (event : Event) (tokens : List (List ℕ)) : Type 0 where
  pub write : ℕ → List ℕ
  pub writes : IsWriting width write
  pub words : tokens ≡ event_words_by write event

-- an operation of a handler
pub record AreOfOp (width : Width) (op : HandlerOp) (tokens : List (List ℕ)) : Type 0 where
  pub write : ℕ → List ℕ
  pub writes : IsWriting width write
  pub words : tokens ≡ op_words_by write op

-- the operations behind the first, each behind a semicolon, and the closing bracket
abbrev pub AreOfFurther : Width → List HandlerOp → List (List ℕ) → Type 0
AreOfFurther width [] tokens = tokens ≡ codes "]" ∷ []
AreOfFurther width (o ∷ ops) tokens = (own more : List (List ℕ)) × (tokens ≡ codes ";" ∷ (own ++ more)) × AreOfOp width o own × AreOfFurther width ops more

-- a handler behind its opening bracket
abbrev pub AreOfOpened : Width → List HandlerOp → List (List ℕ) → Type 0
AreOfOpened width [] tokens = tokens ≡ codes "]" ∷ []
AreOfOpened width (o ∷ ops) tokens = (own more : List (List ℕ)) × (tokens ≡ own ++ more) × AreOfOp width o own × AreOfFurther width ops more

-- a handler; an empty one need not be written
abbrev pub AreOfHandler : Width → List HandlerOp → List (List ℕ) → Type 0
AreOfHandler width ops tokens =
    ((ops ≡ []) × (tokens ≡ [])) ⊎ ((opened : List (List ℕ)) × (tokens ≡ codes "[" ∷ opened) × AreOfOpened width ops opened)

-- requests, each with its mark and offset in one token
abbrev pub AreOfRequests : Width → List Request → List (List ℕ) → Type 0
AreOfRequests width [] tokens = tokens ≡ []
AreOfRequests width (r ∷ rs) tokens =
    (own more : List (List ℕ)) × (tokens ≡ (mark_byte r.urgent ∷ decimal r.offset) ∷ (own ++ more)) × AreOfHandler width r.ops.items own × AreOfRequests width rs more

-- a line
pub record AreOfLine (width : Width) (line : Line) (tokens : List (List ℕ)) : Type 0 where
  pub own : List (List ℕ)
  pub more : List (List ℕ)
  pub split : tokens ≡ own ++ more
  pub event : AreOfEvent width line.event own
  pub requests : AreOfRequests width line.requests.items more
