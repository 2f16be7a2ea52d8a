-- What a spot marks on its line.
use Rattle.std.proofs.Common.{ℕ, ◌+◌, ◌-◌, ◌<◌, ◌≡◌, true, List, [], ◌∷◌, length, take, drop, get_or, nat_eq, Option, Some, None, Result, Ok, Err, IfSome, IfOk, Bor, sym, ap, ap₂, ◌∙◌, subst, arith}
use Rattle.std.specs.List.{starts_with}
use Rattle.std.proofs.lemmas.List.{get_or-take, length-map}
use Rattle.std.proofs.lemmas.Slice.Eq.{bytes_eq-Decides}
use Rattle.mt_place.specs.declared.mark.Mark.{Mark}
use Rattle.mt_place.specs.declared.mark.Spot.{Spot}
use Rattle.mt_place.specs.declared.note.Note.{Note}
use Rattle.mt_place.specs.declared.entry.Piece.{Piece}
use Rattle.mt_place.specs.declared.entry.Entry.{Entry}
use Rattle.mt_place.specs.declared.find.Target.{Target}
use Rattle.mt_place.specs.declared.find.Target.TheVariants.{Header, Key, Value}
use Rattle.mt_place.specs.Places.{line_at}
use Rattle.mt_place.specs.Keys.{IsBlank, IsSpelled, LeadsTo, LiesOn, marked, Shows, IsSpotOn, IsSpotOf, MarksSome}
use Rattle.mt_place.specs.Subjects.{IsAt, MarksAt}
use Rattle.mt_place.specs.Parts.{IsPart, IsEntry}
use Rattle.mt_place.proofs.LineLemmas.{texts, line_here}

-- the spot is that of a piece
pub record IsSpotAt (piece : Piece) (spot : Spot) : Type 0 where
  pub column : spot.mark.column ≡ piece.column
  pub length : spot.length ≡ length piece.bytes.now

lies : (line : List ℕ) (piece : Piece) (spot : Spot) → IsPart line piece → IsSpotAt piece spot → LiesOn line spot
lies line piece spot part at = (omega (arith, part.0, at.column), omega (arith, part.1, at.column, at.length))

marks : (line : List ℕ) (piece : Piece) (spot : Spot) → IsPart line piece → IsSpotAt piece spot → marked line spot ≡ piece.bytes.now
marks line piece spot part at = ap₂ (λ (n k : ℕ). take n (drop (k - 1) line)) at.length at.column ∙ sym part.2

blank_before : (line : List ℕ) (piece : Piece) (spot : Spot) → IsSpotAt piece spot → IsBlank line 0 (piece.column - 1) → IsBlank line 0 (spot.mark.column - 1)
blank_before line piece spot at blank = subst (λ (k : ℕ). IsBlank line 0 (k - 1)) (sym at.column) blank

pub header_shown : (line : List ℕ) (piece : Piece) (spot : Spot) → IsPart line piece → IsSpotAt piece spot → IsBlank line 0 (piece.column - 1)
    → starts_with nat_eq piece.bytes.now (91 ∷ []) ≡ true → LiesOn line spot × Shows Header line spot
header_shown line piece spot part at blank starts =
    let first : 91 ∷ [] ≡ take 1 piece.bytes.now = (bytes_eq-Decides (91 ∷ []) (take 1 piece.bytes.now)).0 starts in
    let head : get_or piece.bytes.now 0 0 ≡ 91 = sym (get_or-take 1 piece.bytes.now 0 0 (omega arith)) ∙ ap (λ (xs : List ℕ). get_or xs 0 0) (sym first) in (
      lies line piece spot part at,
      (blank_before line piece spot at blank, ap (λ (xs : List ℕ). get_or xs 0 0) (marks line piece spot part at) ∙ head),
    )

pub key_shown : (line : List ℕ) (entry : Entry) (key : Bor (List ℕ)) (spot : Spot) → IsEntry line entry → IsSpotAt entry.key spot
    → IsSpelled key.now entry.key.bytes.now → LiesOn line spot × Shows (Key key) line spot
key_shown line entry key spot is at spelled = (
  lies line entry.key spot is.0 at,
  (
    blank_before line entry.key spot at is.2,
    subst (λ (bytes : List ℕ). IsSpelled key.now bytes) (sym (marks line entry.key spot is.0 at)) spelled,
  ),
)

pub value_shown : (line : List ℕ) (entry : Entry) (key : Bor (List ℕ)) (spot : Spot) → IsEntry line entry → IsSpotAt entry.value spot
    → IsSpelled key.now entry.key.bytes.now → LiesOn line spot × Shows (Value key) line spot
value_shown line entry key spot is at spelled =
    let e = is.3 in
    let leads : LeadsTo key.now line (entry.value.column - 1) = (e.0, entry.key.bytes.now, e.1, e.2, e.3, spelled, e.4) in
    (lies line entry.value spot is.1 at, subst (λ (k : ℕ). LeadsTo key.now line (k - 1)) (sym at.column) leads)

-- a spot of a line is one of the file
pub spot_of_file : (file : List (Bor (List ℕ))) (i : ℕ) (d : Bor (List ℕ)) (target : Target) (spot : Spot) → i < length file
    → IsSpotOn target (i + 1) (get_or file i d).now spot → IsSpotOf (texts file) target spot
spot_of_file file i d target spot inside is =
    let here : line_at (texts file) spot.mark.line ≡ (get_or file i d).now = ap (line_at (texts file)) is.0 ∙ line_here file i d inside in (
      omega (arith, is.0),
      omega (arith, is.0, length-map file (λ (line : Bor (List ℕ)). line.now)),
      subst (λ (l : List ℕ). LiesOn l spot) (sym here) is.1,
      subst (λ (l : List ℕ). Shows target l spot) (sym here) is.2,
    )

by_mark : (keys : List (List ℕ)) (file : List (List ℕ)) (target : Target) (mark : Option Mark) (count : ℕ) → IsAt keys target
    → IfSome mark (λ mark. IsSpotOf file target (record { mark = mark; length = count }))
    → IfSome mark (λ mark. (target : Target) × IsAt keys target × IsSpotOf file target (record { mark = mark; length = count }))
by_mark keys file target None count is spot = spot
by_mark keys file target (Some mark) count is spot = (target, is, spot)

-- a note at a target of a rule marks one of the rule's keys
pub marks_at : {E : Type 0} (keys : List (List ℕ)) (file : List (List ℕ)) (target : Target) (read : Result Note E) → IsAt keys target
    → IfOk read (λ note. IfSome note.mark (λ mark. IsSpotOf file target (record { mark = mark; length = note.length })))
    → IfOk read (MarksAt keys file)
marks_at keys file target (Ok note) is spot = by_mark keys file target note.mark note.length is spot
marks_at keys file target (Err e) is spot = spot

by_some : (file : List (List ℕ)) (target : Target) (mark : Option Mark) (count : ℕ) → IfSome mark (λ mark. IsSpotOf file target (record { mark = mark; length = count }))
    → IfSome mark (λ mark. (target : Target) × IsSpotOf file target (record { mark = mark; length = count }))
by_some file target None count spot = spot
by_some file target (Some mark) count spot = (target, spot)

pub marks_some : {E : Type 0} (file : List (List ℕ)) (target : Target) (read : Result Note E)
    → IfOk read (λ note. IfSome note.mark (λ mark. IsSpotOf file target (record { mark = mark; length = note.length })))
    → IfOk read (MarksSome file)
marks_some file target (Ok note) spot = by_some file target note.mark note.length spot
marks_some file target (Err e) spot = spot
