-- Lines of a script with a trace behind it, one after another.
use Rattle.std.proofs.Common.{ℕ, ◌+◌, ◌-◌, ◌<◌, ◌≤◌, ◌≡◌, Bool, true, false, cond, List, [], ◌∷◌, ◌++◌, length, take, Option, Some, None, Result, Ok, Err, inl, inr, refl, sym, ap, subst, ◌∙◌, arith, append_assoc, append-nil, length-append}
use Rattle.std.specs.Prelude.{nat_lt, nat_le}
use Rattle.std.specs.Str.{bytes_eq}
use Rattle.std.proofs.lemmas.Bool.{le-ltb, lt-ltb, le-leb, lt-leb, false≢true, cases_eq, cases_lt, and_left, and_right, false_from_ne_true}
use Rattle.std.proofs.lemmas.List.{take-append-le, take_all}
use Rattle.std.proofs.lemmas.Slice.Eq.{bytes_eq-Decides}
use Rattle.std.specs.Io.KnownBytes.{prepend_known}
use Rattle.mt_port.specs.Streams.{WhereTold}
use Rattle.mt_port.specs.declared.board.Shape.{Shape}
use Rattle.mt_port.specs.Inner.Streams.{WhereTold-then, WhereTold-map}
use Rattle.mt_text.specs.declared.line.Line.{Line}
use Rattle.mt_text.specs.Lines.{line_of}
use Rattle.mt_text.specs.declared.line.LineRefusal.{LineRefusal}
use Rattle.mt_replay.specs.declared.input.Line.TheVariants as reading
use Rattle.mt_replay.specs.declared.job.Follows.{Follows}
use Rattle.mt_replay.specs.declared.job.Follows.TheVariants as follows
use Rattle.mt_replay.specs.declared.run.End.{End}
use Rattle.mt_replay.specs.declared.run.End.TheVariants as end
use Rattle.mt_replay.specs.declared.verifying.Mark.{Mark}
use Rattle.mt_replay.specs.declared.verifying.Kept.{Kept}
use Rattle.mt_replay.specs.Input.{Ending, Finished, Failed, Cut, cut, begun, separator}
use Rattle.mt_replay.specs.Script.{Script, ended, taken, led_by, script_from}
use Rattle.mt_replay.specs.Locating.{◌>>=◌}
use Rattle.mt_replay.specs.Verify.{Claim, script_limit, place_beyond, is_too_long, within, spelled, line_said, is_front, last_claimed, uncut}
use Rattle.mt_replay.specs.Inner.Reading.{HasNoFeed, TakesLine}
use Rattle.mt_replay.specs.Inner.Runs.{IsRefusal}
use Rattle.mt_replay.specs.Inner.Locating.{Breaks, EndsBy, Takes, EndCause}
use Rattle.mt_replay.specs.Inner.Verifying.{fine, claim_at, first_mark, mark_behind, claim, led_by_lines, ClaimsBehind, IsRefused, LastIs, LastGives, Says, IsLine, WholeGives, NextGives, Keeps}
use Rattle.mt_replay.proofs.Feeds.{HasNoFeed-append}
use Rattle.mt_replay.proofs.Lines.{Begun, Filled, cut-byte, cut-line, cut-rest}
use Rattle.mt_replay.proofs.LocatedLines.{ends_after, all_after, takes_after, EndsBy-refusal}

-- ---- bytes that were cut

uncut-begun : (x : ℕ) (lines : List (List ℕ)) (rest : List ℕ) → uncut (begun x lines rest).lines (begun x lines rest).rest ≡ x ∷ uncut lines rest
uncut-begun x [] rest = refl
uncut-begun x (first ∷ more) rest = refl

pub uncut-cut : (bytes : List ℕ) → uncut (cut bytes).lines (cut bytes).rest ≡ bytes
uncut-cut [] = refl
uncut-cut (x ∷ bytes) = elim (cases_eq x 10) [
  | inl e ↦ subst (λ (b : ℕ). uncut (cut (b ∷ bytes)).lines (cut (b ∷ bytes)).rest ≡ b ∷ bytes) (sym e) (ap (λ (l : List ℕ). 10 ∷ l) (uncut-cut bytes))
  | inr other ↦
      ap (λ (c : Cut). uncut c.lines c.rest) (cut-byte x bytes other) ∙ uncut-begun x (cut bytes).lines (cut bytes).rest ∙ ap (λ (l : List ℕ). x ∷ l) (uncut-cut bytes)
]

-- the bytes of a line that has no line feed yet, in front of what follows
abbrev fronted : List ℕ → List (List ℕ) → List ℕ → Cut
fronted front [] rest = record { lines = []; rest = front ++ rest }
fronted front (first ∷ more) rest = record { lines = (front ++ first) ∷ more; rest = rest }

fronted-nil : (lines : List (List ℕ)) (rest : List ℕ) → (let c : Cut = record { lines = lines; rest = rest } in c) ≡ fronted [] lines rest
fronted-nil [] rest = refl
fronted-nil (first ∷ more) rest = refl

begun-fronted : (x : ℕ) (front : List ℕ) (lines : List (List ℕ)) (rest : List ℕ) → begun x (fronted front lines rest).lines (fronted front lines rest).rest ≡ fronted (x ∷ front) lines rest
begun-fronted x front [] rest = refl
begun-fronted x front (first ∷ more) rest = refl

cut-front : (front more : List ℕ) → HasNoFeed front → cut (front ++ more) ≡ fronted front (cut more).lines (cut more).rest
cut-front [] more h = fronted-nil (cut more).lines (cut more).rest
cut-front (x ∷ front) more h =
    cut-byte x (front ++ more) h.0 ∙ ap (λ (c : Cut). begun x c.lines c.rest) (cut-front front more h.1) ∙ begun-fronted x front (cut more).lines (cut more).rest

-- ---- limits

-- the three tests of a line, in their order
abbrev limited : {A : Type 0} → (number size : ℕ) → (many long beyond : Bool) → Result A End → Result A End
limited number size many long beyond line =
    cond many (Err (end.Refused number 11 1)) (cond long (Err (end.Refused number 10 1025)) (cond beyond (Err (end.Refused number 16 (place_beyond size))) line))

limited-line : {A : Type 0} (number size : ℕ) (many long beyond : Bool) (line : Result A End)
    → limited number size many long beyond line ≡ (limited number size many long beyond fine >>= λ done. line)
limited-line number size true long beyond line = refl
limited-line number size false true beyond line = refl
limited-line number size false false true line = refl
limited-line number size false false false line = refl

-- the tests decide, and then what the line says
pub within-line : {A : Type 0} (number size count : ℕ) (text : List ℕ) (line : Result A End) → within number size count text line ≡ (within number size count text fine >>= λ done. line)
within-line number size count text line = limited-line number size (nat_lt 1000000 number) (is_too_long size text) (nat_lt script_limit (size + count)) line

pub too_many : {A : Type 0} (number size count : ℕ) (text : List ℕ) (line : Result A End) → 1000000 < number → within number size count text line ≡ Err (end.Refused number 11 1)
too_many number size count text line many = ap (λ (b : Bool). limited number size b (is_too_long size text) (nat_lt script_limit (size + count)) line) (lt-ltb _ _ many)

pub too_long : {A : Type 0} (number size count : ℕ) (text : List ℕ) (line : Result A End) → number ≤ 1000000 → 1024 < length text → size + 1024 ≤ script_limit
    → within number size count text line ≡ Err (end.Refused number 10 1025)
too_long number size count text line few long room =
    let one : nat_lt 1000000 number ≡ false = le-ltb _ _ few in
    let two : nat_lt 1024 (length text) ≡ true = lt-ltb _ _ long in
    let three : nat_le 1025 (place_beyond size) ≡ true = le-leb _ _ (omega (arith, room)) in
    rw (one, two, three) refl

pub beyond : {A : Type 0} (number size count : ℕ) (text : List ℕ) (line : Result A End) → number ≤ 1000000 → is_too_long size text ≡ false → script_limit < size + count
    → within number size count text line ≡ Err (end.Refused number 16 (place_beyond size))
beyond number size count text line few short much =
    ap (λ (b : Bool). limited number size b (is_too_long size text) (nat_lt script_limit (size + count)) line) (le-ltb _ _ few)
    ∙ ap (λ (b : Bool). limited number size false b (nat_lt script_limit (size + count)) line) short
    ∙ ap (λ (b : Bool). limited number size false false b line) (lt-ltb _ _ much)

pub inside : {A : Type 0} (number size count : ℕ) (text : List ℕ) (line : Result A End) → number ≤ 1000000 → is_too_long size text ≡ false → size + count ≤ script_limit
    → within number size count text line ≡ line
inside number size count text line few short much =
    ap (λ (b : Bool). limited number size b (is_too_long size text) (nat_lt script_limit (size + count)) line) (le-ltb _ _ few)
    ∙ ap (λ (b : Bool). limited number size false b (nat_lt script_limit (size + count)) line) short
    ∙ ap (λ (b : Bool). limited number size false false b line) (le-ltb _ _ much)

pub short_line : (size : ℕ) (text : List ℕ) → length text ≤ 1024 → is_too_long size text ≡ false
short_line size text short = let e : nat_lt 1024 (length text) ≡ false = le-ltb _ _ short in and_left _ (nat_le 1025 (place_beyond size)) e

-- no line is too long that has a byte too many for the script before its place 1025
pub full_line : (size : ℕ) (text : List ℕ) → script_limit < size + 1024 → is_too_long size text ≡ false
full_line size text room = let e : nat_le 1025 (place_beyond size) ≡ false = lt-leb _ _ (omega (arith, room)) in and_right (nat_lt 1024 (length text)) _ e

-- ---- a line that its first bytes refuse

abbrev IsBroken : {A : Type 0} → Result A End → Type 0
IsBroken (Ok x) = ⊥
IsBroken (Err (end.Whole n)) = ⊥
IsBroken (Err (end.Refused n code at)) = ⊥
IsBroken (Err end.Broken) = Unit {0}

no_refusal : {A : Type 0} (e : End) → IsRefusal e → (let r : Result A End = Err end.Broken in r) ≡ Err e → ⊥
no_refusal (end.Whole n) refusal h = refusal
no_refusal (end.Refused n code at) refusal h = subst IsBroken h tt
no_refusal end.Broken refusal h = refusal

-- the same end of another reading
abbrev ended_so : {A B : Type 0} → Result B End → Result A End
ended_so (Ok x) = Err end.Broken
ended_so (Err e) = Err e

-- such bytes are refused alike in a longer line
refused_within : {A B : Type 0} (e : End) (number size count : ℕ) (text longer : List ℕ) (line : Result A End) → size ≤ script_limit → length text ≤ length longer → length longer ≤ count → IsRefusal e
    → within {A = B} number size (length text) text (Err end.Broken) ≡ Err e → within number size count longer line ≡ Err e
refused_within e number size count text longer line room grown counted refusal h = elim (cases_lt 1000000 number) [
  | inl many ↦ too_many number size count longer line many ∙ ap ended_so (sym (too_many number size (length text) text (Err end.Broken) many) ∙ h)
  | inr few ↦ elim (cases_lt 1024 (length text)) [
    | inl long ↦ elim (cases_lt script_limit (size + 1024)) [
      | inl full ↦
          beyond number size count longer line few (full_line size longer full) (omega (arith, full, long, grown, counted))
          ∙ ap ended_so (sym (beyond number size (length text) text (Err end.Broken) few (full_line size text full) (omega (arith, full, long))) ∙ h)
      | inr free ↦
          too_long number size count longer line few (omega (arith, long, grown)) free
          ∙ ap ended_so (sym (too_long number size (length text) text (Err end.Broken) few long free) ∙ h)
    ]
    | inr short ↦ elim (cases_lt script_limit (size + length text)) [
      | inl much ↦
          beyond number size count longer line few (full_line size longer (omega (arith, much, short))) (omega (arith, much, grown, counted))
          ∙ ap ended_so (sym (beyond number size (length text) text (Err end.Broken) few (short_line size text short) much) ∙ h)
      | inr little ↦ absurd (no_refusal e refusal (sym (inside number size (length text) text (Err end.Broken) few (short_line size text short) little) ∙ h))
    ]
  ]
]

-- bytes that are no front of the separator begin no separator
not_separator : (text more : List ℕ) → is_front text separator ≡ false → bytes_eq (text ++ more) separator ≡ false
not_separator text more other = false_from_ne_true _ (λ is.
    let same : text ++ more ≡ separator = (bytes_eq-Decides (text ++ more) separator).0 is in
    let front : text ≡ take (length text) separator =
    sym (take_all (length text) text (omega arith)) ∙ sym (take-append-le (length text) text more (omega arith)) ∙ ap (λ (l : List ℕ). take (length text) l) same in
    false≢true (sym other ∙ (bytes_eq-Decides text (take (length text) separator)).1 front))

not_empty : (text : List ℕ) → is_front text separator ≡ false → 0 < length text
not_empty [] other = absurd (false≢true (sym other))
not_empty (x ∷ text) other = omega arith

-- so many bytes are no front of the separator
pub long_front : (text : List ℕ) → 5 < length text → is_front text separator ≡ false
long_front text long = false_from_ne_true _ (λ is.
    let same : text ≡ take (length text) separator = (bytes_eq-Decides text (take (length text) separator)).0 is in
    let whole : text ≡ separator = same ∙ take_all (length text) separator (omega (arith, long)) in
    let size : length text ≡ 5 = ap length whole in
    omega (arith, long, size))

-- no bytes at all may become the separator
pub none_breaks : (shape : Shape) (mark : Mark) (text : List ℕ) → text ≡ [] → last_claimed shape Failed mark.number mark.size text ≡ Err end.Broken
none_breaks shape mark text none = subst (λ (l : List ℕ). last_claimed shape Failed mark.number mark.size l ≡ Err end.Broken) (sym none) refl

abbrev broken_by : (mark : Mark) → List ℕ → Bool → Result Claim End
broken_by mark text front = cond front (Err end.Broken) (within mark.number mark.size (length text) text (Err end.Broken))

-- what refuses the bytes of a line, whatever comes
record IsRefusedBy (e : End) (mark : Mark) (text : List ℕ) : Type 0 where
  other : is_front text separator ≡ false
  is : within {A = Claim} mark.number mark.size (length text) text (Err end.Broken) ≡ Err e

refused_by : (e : End) (shape : Shape) (mark : Mark) (text : List ℕ) → IsRefusal e → last_claimed shape Failed mark.number mark.size text ≡ Err e → IsRefusedBy e mark text
refused_by e shape mark text refusal h = of (is_front text separator) refl
  where
    of : (b : Bool) → is_front text separator ≡ b → IsRefusedBy e mark text
    of true is = absurd (no_refusal e refusal (sym (ap (broken_by mark text) is) ∙ h))
    of false is = record { other = is; is = sym (ap (broken_by mark text) is) ∙ h }

-- a last line with a byte
abbrev last_by : Shape → Mark → List ℕ → Bool → Result Claim End
last_by shape mark text part =
    cond part (Ok (claim [] [])) (line_said shape mark.number mark.size (length text) text >>= λ line. Err (end.Refused (mark.number + 1) 17 1))

pub last-some : (shape : Shape) (mark : Mark) (text : List ℕ) → 0 < length text → last_claimed shape Finished mark.number mark.size text ≡ last_by shape mark text (bytes_eq text separator)
last-some shape mark [] some = absurd (omega (arith, some))
last-some shape mark (x ∷ text) some = refl

-- what is made of a line: it stands in front of those that follow it
abbrev followed : Shape → Mark → Ending → Cut → Line → Result Claim End
followed shape mark ending behind line = claim_at shape mark ending behind >>= λ more. Ok (claim (line ∷ more.lines) more.given)

-- a whole line, and what is behind it
abbrev first_claimed : Shape → Mark → Ending → List ℕ → Cut → Bool → Result Claim End
first_claimed shape mark ending text behind part =
    cond part (Ok (claim [] (uncut behind.lines behind.rest)))
    (line_said shape mark.number mark.size (length text + 1) text >>= followed shape (mark_behind mark text) ending behind)

refused_lines : (e : End) (shape : Shape) (mark : Mark) (text : List ℕ) (lines : List (List ℕ)) (rest : List ℕ) → mark.size ≤ script_limit → IsRefusal e → IsRefusedBy e mark text
    → claim_at shape mark Finished (fronted text lines rest) ≡ Err e
refused_lines e shape mark text [] rest room refusal h =
    last-some shape mark (text ++ rest) (let some = not_empty text h.other in omega (arith, some, length-append text rest))
    ∙ ap (last_by shape mark (text ++ rest)) (not_separator text rest h.other)
    ∙ ap (λ (r : Result Line End). r >>= λ line. let c : Result Claim End = Err (end.Refused (mark.number + 1) 17 1) in c)
    (refused_within e mark.number mark.size (length (text ++ rest)) text (text ++ rest) (spelled mark.number (line_of shape (text ++ rest))) room (omega (arith, length-append text rest)) (omega arith) refusal h.is)
refused_lines e shape mark text (first ∷ more) rest room refusal h =
    let behind : Cut = record { lines = more; rest = rest } in
    ap (first_claimed shape mark Finished (text ++ first) behind) (not_separator text first h.other)
    ∙ ap (λ (r : Result Line End). r >>= followed shape (mark_behind mark (text ++ first)) Finished behind)
    (refused_within e mark.number mark.size (length (text ++ first) + 1) text (text ++ first) (spelled mark.number (line_of shape (text ++ first))) room (omega (arith, length-append text first)) (omega arith) refusal h.is)

pub refused_front : (e : End) (shape : Shape) (mark : Mark) (text more : List ℕ) → HasNoFeed text → mark.size ≤ script_limit → IsRefusal e → last_claimed shape Failed mark.number mark.size text ≡ Err e
    → claim_at shape mark Finished (cut (text ++ more)) ≡ Err e
refused_front e shape mark text more feeds room refusal h =
    ap (claim_at shape mark Finished) (cut-front text more feeds)
    ∙ refused_lines e shape mark text (cut more).lines (cut more).rest room refusal (refused_by e shape mark text refusal h)

-- ---- the text of a line

-- the bytes begin with these
pub record BeginsBy (front before : List ℕ) : Type 0 where
  pub more : List ℕ
  pub is : before ≡ front ++ more

pub told_begins : (left : Option (List ℕ)) (held held' front behind : List ℕ) → held ≡ front ++ behind
    → WhereTold (prepend_known held left) (prepend_known held' left) (λ before after. BeginsBy front before)
told_begins None held held' front behind e = tt
told_begins (Some xs) held held' front behind e = record { more = behind ++ xs; is = ap (λ (l : List ℕ). l ++ xs) e ∙ append_assoc front behind xs }

-- the bytes that were taken refuse the line
pub text_refused : (e : End) (shape : Shape) (mark : Mark) (text : List ℕ) (a b : Option (List ℕ)) → HasNoFeed text → mark.size ≤ script_limit → IsRefusal e
    → last_claimed shape Failed mark.number mark.size text ≡ Err e → Begun a b text → WhereTold a b (λ before after. IsRefused e shape mark before)
text_refused e shape mark text a b feeds room refusal h p = WhereTold-map a b p (λ x y t. record {
  refusal = refusal;
  read = ap (λ (l : List ℕ). claim_at shape mark Finished (cut l)) t ∙ refused_front e shape mark text y feeds room refusal h;
})

-- so do too many bytes
pub text_exceeds : (e : End) (shape : Shape) (mark : Mark) (text front behind : List ℕ) (a b left : Option (List ℕ)) (held held' : List ℕ) → HasNoFeed text → HasNoFeed front → mark.size ≤ script_limit
    → IsRefusal e → ((t : List ℕ) → 1024 < length t → within {A = Claim} mark.number mark.size (length t) t (Err end.Broken) ≡ Err e) → Begun a b text → Filled true b (prepend_known held left)
    → held ≡ front ++ behind → 1024 < length text + length front → WhereTold a (prepend_known held' left) (λ before after. IsRefused e shape mark before)
text_exceeds e shape mark text front behind a b left held held' feeds feeds' room refusal is p q same long =
    let all = text ++ front in
    let size : 1024 < length all = omega (arith, long, length-append text front) in
    let h : last_claimed shape Failed mark.number mark.size all ≡ Err e = ap (broken_by mark all) (long_front all (omega (arith, size))) ∙ is all size in
    WhereTold-then a b (prepend_known held' left) p
    (WhereTold-then b (prepend_known held left) (prepend_known held' left) {R = λ before after. BeginsBy front before} q (told_begins left held held' front behind same)
    (λ x y z m n. record { more = n.more; is = m.0 ∙ n.is }))
    (λ x y z m n. record {
      refusal = refusal;
      read = ap (λ (l : List ℕ). claim_at shape mark Finished (cut l)) (m ∙ ap (λ (l : List ℕ). text ++ l) n.is ∙ sym (append_assoc text front n.more))
          ∙ refused_front e shape mark all n.more (HasNoFeed-append text front feeds feeds') room refusal h;
    })

-- the source failed behind bytes that refuse nothing
pub text_breaks : (shape : Shape) (mark : Mark) (text : List ℕ) (a b c : Option (List ℕ)) → HasNoFeed text → last_claimed shape Failed mark.number mark.size text ≡ Err end.Broken → Begun a b text
    → WhereTold b c (λ before after. before ≡ after) → WhereTold a c (Breaks (claim_at shape mark))
text_breaks shape mark text a b c feeds h p q = WhereTold-then a b c p q (λ x y z m n. record {
  front = text;
  taken = m ∙ ap (λ (l : List ℕ). text ++ l) n;
  read = ap (claim_at shape mark Failed) (cut-rest text feeds) ∙ h;
})

-- ---- one line

claim-whole : (shape : Shape) (mark : Mark) (ending : Ending) (text after before : List ℕ) → before ≡ text ++ 10 ∷ after → HasNoFeed text
    → claim_at shape mark ending (cut before) ≡ first_claimed shape mark ending text (cut after) (bytes_eq text separator)
claim-whole shape mark ending text after before e feeds =
    ap (λ (l : List ℕ). claim_at shape mark ending (cut l)) e ∙ ap (claim_at shape mark ending) (cut-line text after feeds)

said-whole : (said : Result Line End) (shape : Shape) (mark : Mark) (ending : Ending) (text after before : List ℕ) → before ≡ text ++ 10 ∷ after → HasNoFeed text → Says said shape mark text
    → claim_at shape mark ending (cut before) ≡ (said >>= followed shape (mark_behind mark text) ending (cut after))
said-whole said shape mark ending text after before e feeds h =
    claim-whole shape mark ending text after before e feeds ∙ ap (first_claimed shape mark ending text (cut after)) h.other
    ∙ ap (λ (r : Result Line End). r >>= followed shape (mark_behind mark text) ending (cut after)) h.is

-- what came of a whole line
pub whole_gives : (r : Result (Option Follows) End) (shape : Shape) (mark : Mark) (text : List ℕ) (line : Line) (a b : Option (List ℕ)) → WhereTold a b (TakesLine reading.Whole text)
    → WholeGives r shape mark text line → WhereTold a b (NextGives r shape mark text line)
whole_gives (Ok None) shape mark text line a b p h = WhereTold-map a b p (λ x y t. record {
  front = text ++ 10 ∷ [];
  taken = t.0 ∙ sym (append_assoc text (10 ∷ []) y);
  read = λ ending rest. said-whole (Ok line) shape mark ending text rest ((text ++ 10 ∷ []) ++ rest) (append_assoc text (10 ∷ []) rest) t.1 h.0;
})
whole_gives (Ok (Some follows.Lines)) shape mark text line a b p h = WhereTold-map a b p (λ x y t. record {
  front = text ++ 10 ∷ [];
  taken = t.0 ∙ sym (append_assoc text (10 ∷ []) y);
  read = λ ending rest.
      claim-whole shape mark ending text rest ((text ++ 10 ∷ []) ++ rest) (append_assoc text (10 ∷ []) rest) t.1
      ∙ ap (first_claimed shape mark ending text (cut rest)) h ∙ ap (λ (l : List ℕ). let r : Result Claim End = Ok (claim [] l) in r) (uncut-cut rest);
})
whole_gives (Ok (Some follows.Nothing)) shape mark text line a b p h = absurd h
whole_gives (Err e) shape mark text line a b p h = WhereTold-map a b p (λ x y t.
    EndsBy-refusal e (claim_at shape mark) x y h.0 (said-whole (Err e) shape mark Finished text y x t.0 t.1 h.1))

claim-last : (shape : Shape) (mark : Mark) (text before after : List ℕ) → TakesLine reading.Last text before after
    → claim_at shape mark Finished (cut before) ≡ last_claimed shape Finished mark.number mark.size text
claim-last shape mark text before after t = ap (λ (l : List ℕ). claim_at shape mark Finished (cut l)) t.0 ∙ ap (claim_at shape mark Finished) (cut-rest text t.1)

-- what came of a last line
pub last_gives : (r : Result (Option Follows) End) (shape : Shape) (mark : Mark) (text text' : List ℕ) (line : Line) (a b : Option (List ℕ)) → WhereTold a b (TakesLine reading.Last text)
    → LastGives r shape mark text → WhereTold a b (NextGives r shape mark text' line)
last_gives (Ok None) shape mark text text' line a b p h = absurd h
last_gives (Ok (Some follows.Lines)) shape mark text text' line a b p h = absurd h
last_gives (Ok (Some follows.Nothing)) shape mark text text' line a b p h = WhereTold-map a b p (λ x y t. record { read = claim-last shape mark text x y t ∙ h t.2; all = t.3 })
last_gives (Err e) shape mark text text' line a b p h = WhereTold-map a b p (λ x y t. EndsBy-refusal e (claim_at shape mark) x y h.0 (claim-last shape mark text x y t ∙ h.1 t.2))

-- there is no line
pub missing_gives : (shape : Shape) (mark : Mark) (text : List ℕ) (a b : Option (List ℕ)) → WhereTold a b (TakesLine reading.End text)
    → WhereTold a b (EndsBy (end.Refused mark.number 17 1) (claim_at shape mark))
missing_gives shape mark text a b p = WhereTold-map a b p (λ x y t. ap (λ (l : List ℕ). claim_at shape mark Finished (cut l)) t.0)

-- its bytes refuse it
pub refused_gives : (e : End) (shape : Shape) (mark : Mark) (a b : Option (List ℕ)) → WhereTold a b (λ before after. IsRefused e shape mark before) → WhereTold a b (EndsBy e (claim_at shape mark))
refused_gives e shape mark a b p = WhereTold-map a b p (λ x y h. EndsBy-refusal e (claim_at shape mark) x y h.refusal h.read)

-- a line that says this, and is within the limits
pub said-line : (shape : Shape) (mark : Mark) (count : ℕ) (text : List ℕ) (said : Result Line End) → within mark.number mark.size count text fine ≡ fine → spelled mark.number (line_of shape text) ≡ said
    → line_said shape mark.number mark.size count text ≡ said
said-line shape mark count text said h is =
    within-line mark.number mark.size count text (spelled mark.number (line_of shape text)) ∙ ap (λ (r : Result (Unit {0}) End). r >>= λ done. spelled mark.number (line_of shape text)) h ∙ is

pub said-refused : (shape : Shape) (mark : Mark) (count : ℕ) (text : List ℕ) (e : End) → within mark.number mark.size count text fine ≡ Err e → line_said shape mark.number mark.size count text ≡ Err e
said-refused shape mark count text e h =
    within-line mark.number mark.size count text (spelled mark.number (line_of shape text)) ∙ ap (λ (r : Result (Unit {0}) End). r >>= λ done. spelled mark.number (line_of shape text)) h

-- a last line that is the separator, and another one
pub last_part : (shape : Shape) (mark : Mark) (text : List ℕ) → bytes_eq text separator ≡ true → LastIs (Ok (claim [] [])) shape mark text
last_part shape mark text is some = last-some shape mark text some ∙ ap (last_by shape mark text) is

pub last_other : (shape : Shape) (mark : Mark) (text : List ℕ) (said : Result Line End) → bytes_eq text separator ≡ false → line_said shape mark.number mark.size (length text) text ≡ said
    → LastIs (said >>= λ line. Err (end.Refused (mark.number + 1) 17 1)) shape mark text
last_other shape mark text said other is some =
    last-some shape mark text some ∙ ap (last_by shape mark text) other ∙ ap (λ (r : Result Line End). r >>= λ line. let c : Result Claim End = Err (end.Refused (mark.number + 1) 17 1) in c) is

-- ---- all lines

-- Lines that were taken and kept, one after another.
pub record Read (shape : Shape) (mark : Mark) (bytes : List ℕ) (a b : Option (List ℕ)) : Type 0 where
  pub lines : List Line
  pub count : mark.number ≡ length lines + 1
  pub script : (rest : List ℕ) → script_from shape Finished 1 (cut (bytes ++ rest)) ≡ led_by lines (script_from shape Finished mark.number (cut rest))
  pub claim : WhereTold a b (Takes (claim_at shape first_mark) (claim_at shape mark) (led_by_lines lines))

led_by_lines-append : (xs ys : List Line) (r : Result Claim End) → led_by_lines xs (led_by_lines ys r) ≡ led_by_lines (xs ++ ys) r
led_by_lines-append xs ys (Ok more) = ap (λ (l : List Line). let r : Result Claim End = Ok (claim l more.given) in r) (sym (append_assoc xs ys more.lines))
led_by_lines-append xs ys (Err e) = refl

-- none is taken yet
pub read_none : (shape : Shape) (bytes : List ℕ) (a : Option (List ℕ)) → bytes ≡ [] → Read shape first_mark bytes a a
read_none shape bytes a none = subst (λ (l : List ℕ). Read shape first_mark l a a) (sym none) (record { lines = []; count = refl; script = λ rest. refl; claim = told a })
  where
    same : (r : Result Claim End) → r ≡ led_by_lines [] r
    same (Ok more) = refl
    same (Err e) = refl

    told : (x : Option (List ℕ)) → WhereTold x x (Takes (claim_at shape first_mark) (claim_at shape first_mark) (led_by_lines []))
    told None = tt
    told (Some xs) = record { front = []; taken = refl; read = λ ending rest. same (claim_at shape first_mark ending (cut rest)) }

-- the script that a kept line begins
script-line : (shape : Shape) (mark : Mark) (text rest : List ℕ) (line : Line) → HasNoFeed text → length text ≤ 1024 → IsLine shape mark text line
    → script_from shape Finished mark.number (cut (text ++ 10 ∷ rest)) ≡ led_by (line ∷ []) (script_from shape Finished (mark.number + 1) (cut rest))
script-line shape mark text rest line feeds short h =
    let more = script_from shape Finished (mark.number + 1) (cut rest) in
    let one : nat_lt 1000000 mark.number ≡ false = le-ltb _ _ h.number in
    let two : nat_lt 1024 (length text) ≡ false = le-ltb _ _ short in
    ap (script_from shape Finished mark.number) (cut-line text rest feeds)
    ∙ ap (λ (b : Bool). cond b (ended (end.Refused mark.number 11 1)) (cond (nat_lt 1024 (length text)) (ended (end.Refused mark.number 10 1025)) (taken (line_of shape text) mark.number more))) one
    ∙ ap (λ (b : Bool). cond b (ended (end.Refused mark.number 10 1025)) (taken (line_of shape text) mark.number more)) two
    ∙ ap (λ (r : Result Line LineRefusal). taken r mark.number more) h.is

-- one more
pub read_one : (shape : Shape) (mark mark' : Mark) (bytes bytes' text : List ℕ) (line : Line) (a b c : Option (List ℕ)) → Read shape mark bytes a b → HasNoFeed text → length text ≤ 1024
    → IsLine shape mark text line → WhereTold b c (Takes (claim_at shape mark) (claim_at shape (mark_behind mark text)) (led_by_lines (line ∷ [])))
    → bytes' ≡ bytes ++ (text ++ 10 ∷ []) → mark' ≡ mark_behind mark text → Read shape mark' bytes' a c
read_one shape mark mark' bytes bytes' text line a b c r feeds short is q e same =
    subst (λ (m : Mark). Read shape m bytes' a c) (sym same) (record {
      lines = r.lines ++ line ∷ [];
      count = let count = r.count in omega (arith, count, length-append r.lines (line ∷ []));
      script = λ rest.
          let front : bytes' ++ rest ≡ bytes ++ (text ++ 10 ∷ rest) =
          ap (λ (l : List ℕ). l ++ rest) e ∙ append_assoc bytes (text ++ 10 ∷ []) rest ∙ ap (λ (l : List ℕ). bytes ++ l) (append_assoc text (10 ∷ []) rest) in
          ap (λ (l : List ℕ). script_from shape Finished 1 (cut l)) front ∙ r.script (text ++ 10 ∷ rest) ∙ ap (led_by r.lines) (script-line shape mark text rest line feeds short is)
          ∙ ap (λ (l : List Line). let s : Script = record { lines = l; end = (script_from shape Finished (mark.number + 1) (cut rest)).end } in s)
          (sym (append_assoc r.lines (line ∷ []) (script_from shape Finished (mark.number + 1) (cut rest)).lines));
      claim = WhereTold-then a b c r.claim q (λ x y z t u.
          takes_after (claim_at shape first_mark) (claim_at shape mark) (claim_at shape (mark_behind mark text)) (led_by_lines r.lines) (led_by_lines (line ∷ [])) (led_by_lines (r.lines ++ line ∷ [])) x y z
          (led_by_lines-append r.lines (line ∷ [])) t u);
    })

claims_after : (follows : Follows) (shape : Shape) (mark : Mark) (lines : List Line) (x y z : List ℕ) → Takes (claim_at shape first_mark) (claim_at shape mark) (led_by_lines lines) x y
    → ClaimsBehind follows shape mark [] y z → ClaimsBehind follows shape first_mark lines x z
claims_after follows.Lines shape mark lines x y z t u = record {
  front = t.front ++ u.front;
  taken = t.taken ∙ ap (λ (l : List ℕ). t.front ++ l) u.taken ∙ sym (append_assoc t.front u.front z);
  read = λ ending rest.
      ap (λ (l : List ℕ). claim_at shape first_mark ending (cut l)) (append_assoc t.front u.front rest) ∙ t.read ending (u.front ++ rest)
      ∙ ap (led_by_lines lines) (u.read ending rest) ∙ ap (λ (l : List Line). let r : Result Claim End = Ok (claim l rest) in r) (append-nil lines);
}
claims_after follows.Nothing shape mark lines x y z t u =
    all_after (claim_at shape first_mark) (claim_at shape mark) (led_by_lines lines) (claim lines []) (claim [] []) x y z
    (ap (λ (l : List Line). let r : Result Claim End = Ok (claim l []) in r) (append-nil lines)) t u

-- these are all
pub read_all : (shape : Shape) (mark : Mark) (kept : Kept) (bytes : List ℕ) (a b c : Option (List ℕ)) → Read shape mark bytes a b → WhereTold b c (ClaimsBehind kept.follows shape mark [])
    → kept.lines + 1 ≡ mark.number → Keeps shape kept bytes a c
read_all shape mark kept bytes a b c r q e = record {
  lines = r.lines;
  count = let count = r.count in omega (arith, count, e);
  script =
      let count : mark.number - 1 ≡ length r.lines = let count = r.count in omega (arith, count) in
      ap (λ (l : List ℕ). script_from shape Finished 1 (cut l)) (sym (append-nil bytes)) ∙ r.script []
      ∙ ap (λ (l : List Line). let s : Script = record { lines = l; end = end.Whole (mark.number - 1) } in s) (append-nil r.lines)
      ∙ ap (λ (n : ℕ). let s : Script = record { lines = r.lines; end = end.Whole n } in s) count;
  claim = WhereTold-then a b c r.claim q (λ x y z t u. claims_after kept.follows shape mark r.lines x y z t u);
}

-- they end behind these
pub read_ends : (e : End) (shape : Shape) (mark : Mark) (bytes : List ℕ) (a b c : Option (List ℕ)) → Read shape mark bytes a b → WhereTold b c (EndsBy e (claim_at shape mark))
    → WhereTold a c (EndsBy e (claim_at shape first_mark))
read_ends e shape mark bytes a b c r q =
    WhereTold-then a b c r.claim q (λ x y z t u. ends_after e (claim_at shape first_mark) (claim_at shape mark) (led_by_lines r.lines) x y z (λ f. refl) t u)

-- ---- what a refusal is not, and what it costs

pub not_broken : {A : Type 0} (e : End) → IsRefusal e → (let r : Result A End = Err e in r) ≡ Err end.Broken → ⊥
not_broken e refusal h = no_refusal e refusal (sym h)

pub refusal_cause : (e : End) (faults faults' : ℕ) → IsRefusal e → faults' ≡ faults → EndCause e faults faults'
refusal_cause (end.Whole n) faults faults' refusal h = refusal
refusal_cause (end.Refused n code at) faults faults' refusal h = h
refusal_cause end.Broken faults faults' refusal h = absurd refusal
