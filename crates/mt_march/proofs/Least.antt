-- The rule that refuses a text has the least number of those that the text breaks.
use Rattle.std.proofs.Common.{◌≡◌, ◌≤◌, ℕ, Bool, true, false, cond, not, ◌&&◌, ◌||◌, List, [], Option, Some, None, refl, sym, ap, subst, ◌∙◌, arith, lit≤}
use Rattle.std.specs.Prelude.{is_none}
use Rattle.mt_march.specs.declared.march.Op.{Op}
use Rattle.mt_march.specs.declared.march.Element.{Element}
use Rattle.mt_march.specs.declared.march.MarchKind.{MarchKind}
use Rattle.mt_march.specs.declared.march.MarchKind.TheVariants.{Spelling, TooLong, ReadBeforeWrite, WrongExpectation, OneValueOnly}
use Rattle.mt_march.specs.declared.march.MarchRefusal.{MarchRefusal}
use Rattle.mt_march.specs.declared.spelling.Expects.TheVariants.{Brace}
use Rattle.mt_march.specs.Grammar.{IsMarch, SpellsMarch}
use Rattle.mt_march.specs.Machine.{fault}
use Rattle.mt_march.specs.Scan.{too_long, read_before_write, wrong_expectation, one_value, has_read, close_place, rule_found}
use Rattle.mt_march.specs.Value.{parts, march_of}
use Rattle.mt_march.specs.Rules.{or_else}
use Rattle.mt_march.specs.Reading.{march_number, march_refusal}
use Rattle.mt_march.specs.Accepted.{operations, reads}
use Rattle.mt_march.specs.Broken.{IsShort, BreaksRule, SpellsBreaking, Breaks}
use Rattle.mt_march.specs.Laws.{RefusalIsLeast}
use Rattle.mt_march.proofs.Places.{march_read, march_from_none, place_from_fault}
use Rattle.mt_march.proofs.Agreement.{Same, Fits, same, flat, text_has_digits, fits_down, fits_up, written_first, well_begun}
use Rattle.mt_march.proofs.Refusals.{refusal_found}

-- ---- the first of four places that is there

-- a rule is found to be broken
abbrev Found : (long read wrong one : Option ℕ) → MarchKind → Type 0
Found long read wrong one Spelling = ⊥
Found long read wrong one TooLong = is_none long ≡ false
Found long read wrong one ReadBeforeWrite = is_none read ≡ false
Found long read wrong one WrongExpectation = is_none wrong ≡ false
Found long read wrong one OneValueOnly = is_none one ≡ false

-- a rule is found, and none with a lesser number
record IsFirst (long read wrong one : Option ℕ) (kind : MarchKind) : Type 0 where
  found : Found long read wrong one kind
  least : (other : MarchKind) → Found long read wrong one other → march_number kind ≤ march_number other

abbrev chain : (long read wrong one : Option ℕ) → Option MarchRefusal
chain long read wrong one = or_else long TooLong (or_else read ReadBeforeWrite (or_else wrong WrongExpectation (or_else one OneValueOnly None)))

kind_is : (kind : MarchKind) (place : ℕ) (r : MarchRefusal) → Some (record { kind = kind; place = place }) ≡ Some r → kind ≡ r.kind
kind_is kind place r h = let e : record { kind = kind; place = place } ≡ r = cc in ap (λ (x : MarchRefusal). x.kind) e

first_long : (p : ℕ) (read wrong one : Option ℕ) → IsFirst (Some p) read wrong one TooLong
first_long p read wrong one = record { found = refl; least = least }
  where
    least : (other : MarchKind) → Found (Some p) read wrong one other → march_number TooLong ≤ march_number other
    least Spelling h = absurd h
    least TooLong h = lit≤ tt
    least ReadBeforeWrite h = lit≤ tt
    least WrongExpectation h = lit≤ tt
    least OneValueOnly h = lit≤ tt

first_read : (p : ℕ) (wrong one : Option ℕ) → IsFirst None (Some p) wrong one ReadBeforeWrite
first_read p wrong one = record { found = refl; least = least }
  where
    least : (other : MarchKind) → Found None (Some p) wrong one other → march_number ReadBeforeWrite ≤ march_number other
    least Spelling h = absurd h
    least TooLong h = absurd (cc)
    least ReadBeforeWrite h = lit≤ tt
    least WrongExpectation h = lit≤ tt
    least OneValueOnly h = lit≤ tt

first_wrong : (p : ℕ) (one : Option ℕ) → IsFirst None None (Some p) one WrongExpectation
first_wrong p one = record { found = refl; least = least }
  where
    least : (other : MarchKind) → Found None None (Some p) one other → march_number WrongExpectation ≤ march_number other
    least Spelling h = absurd h
    least TooLong h = absurd (cc)
    least ReadBeforeWrite h = absurd (cc)
    least WrongExpectation h = lit≤ tt
    least OneValueOnly h = lit≤ tt

first_one : (p : ℕ) → IsFirst None None None (Some p) OneValueOnly
first_one p = record { found = refl; least = least }
  where
    least : (other : MarchKind) → Found None None None (Some p) other → march_number OneValueOnly ≤ march_number other
    least Spelling h = absurd h
    least TooLong h = absurd (cc)
    least ReadBeforeWrite h = absurd (cc)
    least WrongExpectation h = absurd (cc)
    least OneValueOnly h = lit≤ tt

first_of : (long read wrong one : Option ℕ) (r : MarchRefusal) → chain long read wrong one ≡ Some r → IsFirst long read wrong one r.kind
first_of (Some p) read wrong one r h = subst (IsFirst (Some p) read wrong one) (kind_is TooLong p r h) (first_long p read wrong one)
first_of None (Some p) wrong one r h = subst (IsFirst None (Some p) wrong one) (kind_is ReadBeforeWrite p r h) (first_read p wrong one)
first_of None None (Some p) one r h = subst (IsFirst None None (Some p) one) (kind_is WrongExpectation p r h) (first_wrong p one)
first_of None None None (Some p) r h = subst (IsFirst None None None (Some p)) (kind_is OneValueOnly p r h) (first_one p)
first_of None None None None r h = absurd cc

-- ---- what is found in a text of the grammar is what its march breaks

is_there : (o : Option ℕ) → (o ≡ None → ⊥) → is_none o ≡ false
is_there None h = absurd (h refl)
is_there (Some p) h = refl

not_none : (o : Option ℕ) → is_none o ≡ false → o ≡ None → ⊥
not_none o h e = let f : is_none o ≡ true = ap is_none e in cc

missed : (zeros ones : Bool) (place : ℕ) → is_none (cond (not zeros || not ones) (Some place) None) ≡ (zeros && ones)
missed true true place = refl
missed true false place = refl
missed false ones place = refl

falls : (a b : Bool) → (a ≡ true → b ≡ true) → b ≡ false → a ≡ false
falls true b h e = let f : b ≡ true = h refl in absurd cc
falls false b h e = refl

-- a text of the grammar with its march
record Read (text : List ℕ) (march : List Element) : Type 0 where
  is : IsMarch march
  at : parts text ≡ ([], march)
  reads_same : Same text (operations march)

read_of : (text : List ℕ) (march : List Element) → SpellsMarch text march → Read text march
read_of text march h =
    let at = (march_read march text h).1 in
    record { is = h.0; at = at; reads_same = subst (λ (p : List Op × List Element). Same text (flat p)) at (same text (text_has_digits text march h)) }

fits_of : (text : List ℕ) (march : List Element) → Read text march → too_long 1 0 0 text ≡ None → IsShort march
fits_of text march r none =
    let f : Fits 0 0 ([], march) = subst (λ (p : List Op × List Element). Fits 0 0 p) r.at (fits_down 1 0 0 text (omega arith) (omega arith) none) in
    record { few = omega (arith, f.elements); short = f.short }

none_of : (text : List ℕ) (march : List Element) → Read text march → IsShort march → too_long 1 0 0 text ≡ None
none_of text march r s =
    let f : Fits 0 0 ([], march) = record { ops = omega arith; elements = omega (arith, s.few); short = s.short } in
    fits_up 1 0 0 text (subst (λ (p : List Op × List Element). Fits 0 0 p) (sym r.at) f)

one_missed : (text : List ℕ) (march : List Element) → Read text march → is_none (one_value text) ≡ (reads false (operations march) && reads true (operations march))
one_missed text march r = missed (has_read 48 text) (has_read 49 text) (close_place 1 text) ∙ rw (r.reads_same.zeros, r.reads_same.ones) refl

abbrev FoundIn : List ℕ → MarchKind → Type 0
FoundIn text kind = Found (too_long 1 0 0 text) (read_before_write 1 text) (wrong_expectation 1 0 text) (one_value text) kind

found_breaks : (text : List ℕ) (march : List Element) (kind : MarchKind) → Read text march → FoundIn text kind → BreaksRule kind march
found_breaks text march Spelling r h = h
found_breaks text march TooLong r h = λ short. not_none _ h (none_of text march r short)
found_breaks text march ReadBeforeWrite r h = falls _ _ (well_begun (operations march)) (sym (r.reads_same.begins 1) ∙ h)
found_breaks text march WrongExpectation r h = sym (r.reads_same.agree 1 None) ∙ h
found_breaks text march OneValueOnly r h = sym (one_missed text march r) ∙ h

breaks_found : (text : List ℕ) (march : List Element) (kind : MarchKind) → Read text march → BreaksRule kind march → FoundIn text kind
breaks_found text march Spelling r h = h
breaks_found text march TooLong r h = is_there _ (λ none. h (fits_of text march r none))
breaks_found text march ReadBeforeWrite r h = r.reads_same.begins 1 ∙ falls _ _ (written_first march r.is) h
breaks_found text march WrongExpectation r h = r.reads_same.agree 1 None ∙ h
breaks_found text march OneValueOnly r h = one_missed text march r ∙ h

spelled_found : (text : List ℕ) (kind : MarchKind) → SpellsBreaking kind text → FoundIn text kind
spelled_found text kind b = breaks_found text b.0 kind (read_of text b.0 b.1) b.2

-- ---- the refusal of a text

abbrev IsLeast : List ℕ → MarchKind → Type 0
IsLeast text kind = Breaks kind text × ((other : MarchKind) → Breaks other text → march_number kind ≤ march_number other)

spelling_least : (text : List ℕ) (place : ℕ) → fault Brace 1 text ≡ Some place → IsLeast text Spelling
spelling_least text place is = ((place_from_fault text place is).refused, least)
  where
    least : (other : MarchKind) → Breaks other text → march_number Spelling ≤ march_number other
    least Spelling h = lit≤ tt
    least TooLong h = lit≤ tt
    least ReadBeforeWrite h = lit≤ tt
    least WrongExpectation h = lit≤ tt
    least OneValueOnly h = lit≤ tt

text_breaks : (text : List ℕ) (kind : MarchKind) → SpellsMarch text (march_of text) → FoundIn text kind → Breaks kind text
text_breaks text Spelling s h = absurd h
text_breaks text TooLong s h = (march_of text, s, found_breaks text (march_of text) TooLong (read_of text (march_of text) s) h)
text_breaks text ReadBeforeWrite s h = (march_of text, s, found_breaks text (march_of text) ReadBeforeWrite (read_of text (march_of text) s) h)
text_breaks text WrongExpectation s h = (march_of text, s, found_breaks text (march_of text) WrongExpectation (read_of text (march_of text) s) h)
text_breaks text OneValueOnly s h = (march_of text, s, found_breaks text (march_of text) OneValueOnly (read_of text (march_of text) s) h)

found_text : (text : List ℕ) (kind : MarchKind) → SpellsMarch text (march_of text) → Breaks kind text → FoundIn text kind
found_text text Spelling s h = h (march_of text, s)
found_text text TooLong s h = spelled_found text TooLong h
found_text text ReadBeforeWrite s h = spelled_found text ReadBeforeWrite h
found_text text WrongExpectation s h = spelled_found text WrongExpectation h
found_text text OneValueOnly s h = spelled_found text OneValueOnly h

rule_least : (text : List ℕ) (r : MarchRefusal) → SpellsMarch text (march_of text) → rule_found text ≡ Some r → IsLeast text r.kind
unfolding rule_found
rule_least text r s h =
    let first = first_of _ _ _ _ r h in
    (text_breaks text r.kind s first.found, λ other b. first.least other (found_text text other s b))

least_by : (text : List ℕ) (r : MarchRefusal) (o : Option ℕ) → fault Brace 1 text ≡ o → or_else o Spelling (rule_found text) ≡ Some r → IsLeast text r.kind
least_by text r None is h = rule_least text r (march_from_none text is) h
least_by text r (Some p) is h = subst (IsLeast text) (kind_is Spelling p r h) (spelling_least text p is)

pub refusal_is_least : RefusalIsLeast
unfolding march_refusal
refusal_is_least text r h = least_by text r (fault Brace 1 text) refl (refusal_found text r h)
