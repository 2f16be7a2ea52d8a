-- What the reader's functions answer, piece by piece. Only its proof needs this: what a line is stands in `Forms` and `Lines`.
use Rattle.std.specs.Prelude.{◌≡◌, ℕ, Bool, true, false, if◌then◌else◌, List, [], ◌∷◌, ◌++◌, Option, Some, None, Result, Ok, Err}
use Rattle.std.specs.Str.{bytes_eq}
use Rattle.mt_port.specs.declared.board.Shape.{Shape}
use Rattle.mt_port.specs.declared.request.HandlerOp.{HandlerOp}
use Rattle.mt_port.specs.declared.request.Module.{Module}
use Rattle.mt_port.specs.declared.request.Request.{Request}
use Rattle.mt_text.specs.declared.cursor.Cursor.{Cursor}
use Rattle.mt_text.specs.declared.line.Event.{Event}
use Rattle.mt_text.specs.declared.line.Line.{Line}
use Rattle.mt_text.specs.declared.line.LineKind.TheVariants.{Spelling}
use Rattle.mt_text.specs.declared.line.LineRefusal.{LineRefusal}
use Rattle.mt_text.specs.declared.request.Mark.{Mark}
use Rattle.mt_text.specs.declared.token.Token.{Token as CodeToken}
use Rattle.mt_text.specs.declared.value.NumberPlace.{NumberPlace}
use Rattle.mt_text.specs.declared.value.NumberPlace.TheVariants.{Any, Ram, Flash, OtherRam}
use Rattle.mt_text.specs.declared.value.SpotPlace.{SpotPlace}
use Rattle.mt_text.specs.declared.value.SpotPlace.TheVariants as place
use Rattle.mt_text.specs.Tokens.{Token}
use Rattle.mt_text.specs.Cursors.{left, end_of, token_view}
use Rattle.mt_text.specs.Values.{Slot, Num, Addr, FlashAddr, OtherAddr, SpotSlot, RamSpot, OtherSpot, FlashSpot}
use Rattle.mt_text.specs.Forms.{Form, done, Entry, Opens, Breaks, step, ◌>>=◌, refused, at_place}
use Rattle.mt_text.specs.Lines.{Part, Requests, Operation, request, run}

-- the form has no further token
abbrev pub is_done : {X : Type 0} → Form X → Bool
is_done (done x) = true
is_done _ = false

-- the value of a form, from left to right, and the tokens after it
unfoldable pub read : {X : Type 0} → Shape → ℕ → Form X → List Token → Result (X × List Token) LineRefusal
read shape end (done x) ts = Ok (x, ts)
read shape end form [] = refused Spelling end
read shape end form (t ∷ ts) = at_place t.place (step shape form t.bytes) >>= λ g. read shape end g ts

-- what follows a name
abbrev pub read_entry : {X : Type 0} → Shape → ℕ → Entry X → ℕ → List Token → Result (X × List Token) LineRefusal
read_entry shape end (Opens form) place ts = read shape end form ts
read_entry shape end (Breaks kind form) place ts = refused kind place

-- the first that the word names
abbrev pub named : {N : Type 0} → (N → List ℕ) → List N → List ℕ → Option N
named name [] word = None
named name (n ∷ ns) word = if bytes_eq word (name n) then Some n else named name ns word

-- what a function returned and left is what reading gives
abbrev pub Gives : {X : Type 0} → Result X LineRefusal → List Token → Result (X × List Token) LineRefusal → Type 0
Gives (Ok x) rest read = read ≡ Ok (x, rest)
Gives (Err e) rest read = read ≡ Err e

-- the same of a function that had a cursor, whose line keeps its end
pub record Leaves {X : Type 0} (read : Result (X × List Token) LineRefusal) (old new : Cursor) (result : Result X LineRefusal) : Type 0 where
  pub value : Gives result (left new) read
  pub end : end_of new ≡ end_of old

-- it read this form
abbrev pub Reads : {X : Type 0} → Shape → Form X → Cursor → Cursor → Result X LineRefusal → Type 0
Reads shape form old new result = Leaves (read shape (end_of old) form (left old)) old new result

-- it read this form, whose first word was taken before
abbrev pub ReadsFrom : {X : Type 0} → Shape → Form X → CodeToken → Cursor → Cursor → Result X LineRefusal → Type 0
ReadsFrom shape form word old new result = Leaves (read shape (end_of old) form (token_view word ∷ left old)) old new result

-- it read what follows a name at that place
abbrev pub ReadsEntry : {X : Type 0} → Shape → Entry X → ℕ → Cursor → Cursor → Result X LineRefusal → Type 0
ReadsEntry shape entry place old new result = Leaves (read_entry shape (end_of old) entry place (left old)) old new result

-- the places of the code's numbers and spots
abbrev pub slot_of : NumberPlace → Slot
slot_of Any = Num
slot_of Ram = Addr
slot_of Flash = FlashAddr
slot_of (OtherRam a) = OtherAddr a

abbrev pub spot_slot_of : SpotPlace → SpotSlot
spot_slot_of place.Ram = RamSpot
spot_slot_of (place.OtherRam a) = OtherSpot a
spot_slot_of place.Flash = FlashSpot

-- ---- lines

-- how a line goes on at a cursor, from this part on
abbrev pub rest_from : Shape → Cursor → Part → Result Line LineRefusal
rest_from shape c p = run shape (end_of c) (done p) (left c)

-- what a function returned, with how the line goes on from there, is how the whole line goes
abbrev pub Continues : {X : Type 0} → Result X LineRefusal → (X → Result Line LineRefusal) → Result Line LineRefusal → Type 0
Continues (Ok x) more all = all ≡ more x
Continues (Err e) more all = all ≡ Err e

-- a function took a line from one part to another, which its value tells
abbrev pub Goes : {X : Type 0} → Shape → Cursor → Cursor → Part → (X → Part) → Result X LineRefusal → Type 0
Goes shape old new from to result = Continues result (λ x. rest_from shape new (to x)) (rest_from shape old from)

-- it took the line to its end
abbrev pub Ends : {X : Type 0} → Shape → Cursor → Part → (X → Line) → Result X LineRefusal → Type 0
Ends shape old from whole result = Continues result (λ x. Ok (whole x)) (rest_from shape old from)

-- behind an operation and the token after it
abbrev pub behind_op : Bool → Module → Event → List Request → Mark → List HandlerOp → Part
behind_op true m ev rs k ops = Requests m ev (rs ++ request k ops ∷ [])
behind_op false m ev rs k ops = Operation m ev rs k ops
