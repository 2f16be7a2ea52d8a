-- Forms of lines: what may stand at each place, and which value comes of it.
use Rattle.std.specs.Prelude.{ℕ, if◌then◌else◌, List, [], ◌∷◌, Result, Ok, Err}
use Rattle.std.specs.Str.{bytes_eq}
use Rattle.mt_port.specs.declared.board.Shape.{Shape}
use Rattle.mt_fault.specs.declared.fault.Spot.{Spot}
use Rattle.mt_text.specs.declared.request.Mark.{Mark}
use Rattle.mt_text.specs.declared.line.LineKind.{LineKind}
use Rattle.mt_text.specs.declared.line.LineKind.TheVariants.{Spelling}
use Rattle.mt_text.specs.declared.line.LineRefusal.{LineRefusal}
use Rattle.mt_text.specs.Values.{Slot, SpotSlot, value_at, spot_at, mark_at}

-- A form of values of X. A row has a word, the form behind it, and the other rows. A barred word is of the kind that may stand there, but breaks a rule;
-- the form behind it tells the kinds of what follows. A request's mark has the least offset that it may spell, and how many requests stand before it.
pub data Form (X : Type 0) : Type 0 where
  done : X → Form X
  none : Form X
  row : List ℕ → Form X → Form X → Form X
  barred : List ℕ → LineKind → Form X → Form X → Form X
  value : Slot → (ℕ → Form X) → Form X
  spot : SpotSlot → (Spot → Form X) → Form X
  mark : ℕ → ℕ → (Mark → Form X) → Form X

-- the value, mapped
abbrev pub mapped_ok : {A B : Type 0} → (A → B) → Result A LineKind → Result B LineKind
mapped_ok f (Ok x) = Ok (f x)
mapped_ok f (Err kind) = Err kind

-- One token where a form begins: the form behind it, or the least rule that the token breaks.
abbrev pub step : {X : Type 0} → Shape → Form X → List ℕ → Result (Form X) LineKind
step shape (done x) bytes = Err Spelling
step shape none bytes = Err Spelling
step shape (row word form more) bytes = if bytes_eq bytes word then Ok form else step shape more bytes
step shape (barred word kind form more) bytes = if bytes_eq bytes word then Err kind else step shape more bytes
step shape (value slot form) bytes = mapped_ok form (value_at shape slot bytes)
step shape (spot slot form) bytes = mapped_ok form (spot_at shape slot bytes)
step shape (mark last count form) bytes = mapped_ok form (mark_at last count bytes)

-- ---- whole forms

-- the first refusal, or what comes of the value
infixl 10 ◌>>=◌
abbrev pub ◌>>=◌ : {A B : Type 0} → Result A LineRefusal → (A → Result B LineRefusal) → Result B LineRefusal
(Ok x) >>= f = f x
(Err e) >>= f = Err e

-- a rule is broken at a place
abbrev pub refused : {A : Type 0} → LineKind → ℕ → Result A LineRefusal
refused kind place = Err (record { kind = kind; place = place })

-- the same, with the place of the token
abbrev pub at_place : {A : Type 0} → ℕ → Result A LineKind → Result A LineRefusal
at_place place (Ok x) = Ok x
at_place place (Err kind) = refused kind place

-- the same form of other values
abbrev pub mapped : {X Y : Type 0} → (X → Y) → Form X → Form Y
mapped f (done x) = done (f x)
mapped f none = none
mapped f (row word form more) = row word (mapped f form) (mapped f more)
mapped f (barred word kind form more) = barred word kind (mapped f form) (mapped f more)
mapped f (value slot form) = value slot (λ n. mapped f (form n))
mapped f (spot slot form) = spot slot (λ s. mapped f (form s))
mapped f (mark last count form) = mark last count (λ k. mapped f (form k))

-- a form behind a word, or a rule that the word breaks with what follows it
pub data Entry (X : Type 0) : Type 0 where
  Opens : Form X → Entry X
  Breaks : LineKind → Form X → Entry X

-- the row of a word, before the others
abbrev pub entered : {X : Type 0} → List ℕ → Entry X → Form X → Form X
entered word (Opens form) more = row word form more
entered word (Breaks kind form) more = barred word kind form more

-- a row for each of these names
abbrev pub rows : {N X : Type 0} → (N → List ℕ) → (N → Entry X) → List N → Form X
rows name entry [] = none
rows name entry (n ∷ ns) = entered (name n) (entry n) (rows name entry ns)
