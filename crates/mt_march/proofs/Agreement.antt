-- The rules on a text say the same as the accepted march.
use Rattle.std.proofs.Common.{◌≡◌, ◌⊎◌, ℕ, ◌+◌, ◌<◌, ◌≤◌, Bool, true, false, cond, eqb, List, [], ◌∷◌, ◌++◌, length, Option, Some, None, refl, sym, ap, subst, ◌∙◌, inl, inr, arith}
use Rattle.std.specs.Prelude.{All, ◌↔◌, not, ◌&&◌, ◌||◌, ◌==◌, is_none}
use Rattle.std.specs.List.{AllByRecursion}
use Rattle.std.proofs.lemmas.Bool.{cases_eq, ne_eqb}
use Rattle.std.proofs.lemmas.List.Elements.{All-nil, All-cons, All-tail}
use Rattle.mt_march.specs.declared.march.Op.{Op}
use Rattle.mt_march.specs.declared.march.Op.TheVariants.{R0, R1, W0, W1}
use Rattle.mt_march.specs.declared.march.Order.{Order}
use Rattle.mt_march.specs.declared.march.Order.TheVariants.{Up, Down, Either}
use Rattle.mt_march.specs.declared.march.MarchKind.{MarchKind}
use Rattle.mt_march.specs.declared.march.Element.{Element}
use Rattle.mt_march.specs.declared.march.MarchKind.TheVariants.{TooLong, ReadBeforeWrite, WrongExpectation, OneValueOnly}
use Rattle.mt_march.specs.declared.march.MarchRefusal.{MarchRefusal}
use Rattle.mt_march.specs.Grammar.{Token, order_token, op_token, more_ops, all_ops, element_tokens, more_elements, march_tokens, IsNonEmpty, IsMarch, Spells, SpellsMarch}
use Rattle.mt_march.specs.Scan.{first, is_order, is_letter, too_long, read_before_write, wrong_expectation, has_read, close_place, one_value, rule_found}
use Rattle.mt_march.specs.Value.{order_of, op_of, element, parts}
use Rattle.mt_march.specs.Rules.{or_else}
use Rattle.mt_march.specs.Accepted.{operations, writes, begins_with_write, wrote, reads_agree, reads, IsAcceptedMarch}
use Rattle.mt_march.specs.Laws.{AcceptedIsMarch}
use Rattle.mt_march.proofs.Places.{march_read}
use Rattle.mt_march.proofs.Room.{or_else_none, elements_after, ops_after, room_more}

-- ---- a digit follows each letter

abbrev pub HasDigits : List ℕ → Type 0
HasDigits [] = Unit {0}
HasDigits (b ∷ bs) = (is_letter b ≡ true → (first bs ≡ 48) ⊎ (first bs ≡ 49)) × HasDigits bs

abbrev Keeps : Token → Type 0
Keeps token = (rest : List ℕ) → HasDigits rest → HasDigits (token ++ rest)

abbrev Keep : List Token → Type 0
Keep = AllByRecursion Keeps

spaces_keep : (spaces : List ℕ) → AllByRecursion (λ byte. byte ≡ 32) spaces → Keeps spaces
spaces_keep [] h rest k = k
spaces_keep (b ∷ bs) h rest k = (λ e. absurd (let f : is_letter 32 ≡ true = subst (λ (x : ℕ). is_letter x ≡ true) h.0 e in cc), spaces_keep bs h.1 rest k)

spaces_alone : (spaces : List ℕ) → AllByRecursion (λ byte. byte ≡ 32) spaces → HasDigits spaces
spaces_alone [] h = tt
spaces_alone (b ∷ bs) h = (λ e. absurd (let f : is_letter 32 ≡ true = subst (λ (x : ℕ). is_letter x ≡ true) h.0 e in cc), spaces_alone bs h.1)

op_keeps : (op : Op) → Keeps (op_token op)
op_keeps R0 rest k = (λ e. inl refl, (λ e. cc, k))
op_keeps R1 rest k = (λ e. inr refl, (λ e. cc, k))
op_keeps W0 rest k = (λ e. inl refl, (λ e. cc, k))
op_keeps W1 rest k = (λ e. inr refl, (λ e. cc, k))

order_keeps : (order : Order) → Keeps (order_token order)
order_keeps Up rest k = (λ e. cc, k)
order_keeps Down rest k = (λ e. cc, k)
order_keeps Either rest k = (λ e. cc, k)

more_ops_keep : (ops : List Op) (tokens : List Token) → Keep tokens → Keep (more_ops ops tokens)
more_ops_keep [] tokens k = (λ rest h. (λ e. cc, h), k)
more_ops_keep (op ∷ ops) tokens k = (λ rest h. (λ e. cc, h), (op_keeps op, more_ops_keep ops tokens k))

all_ops_keep : (ops : List Op) (tokens : List Token) → Keep tokens → Keep (all_ops ops tokens)
all_ops_keep [] tokens k = (λ rest h. (λ e. cc, h), k)
all_ops_keep (op ∷ ops) tokens k = (op_keeps op, more_ops_keep ops tokens k)

element_keep : (e : Element) (tokens : List Token) → Keep tokens → Keep (element_tokens e tokens)
element_keep e tokens k = (order_keeps e.order, ((λ rest h. (λ f. cc, h)), all_ops_keep e.ops.items tokens k))

elements_keep : (es : List Element) → Keep (more_elements es)
elements_keep [] = ((λ rest h. (λ e. cc, h)), tt)
elements_keep (e ∷ es) = ((λ rest h. (λ f. cc, h)), element_keep e (more_elements es) (elements_keep es))

march_keep : (es : List Element) → Keep (march_tokens es)
march_keep [] = tt
march_keep (e ∷ es) = ((λ rest h. (λ f. cc, h)), element_keep e (more_elements es) (elements_keep es))

spelled_digits : (tokens : List Token) (text : List ℕ) → Keep tokens → Spells text tokens → HasDigits text
spelled_digits [] text k h = spaces_alone text h
spelled_digits (token ∷ tokens) text k h =
    subst HasDigits (sym h.3) (spaces_keep h.0 h.2 (token ++ h.1) (k.0 h.1 (spelled_digits tokens h.1 k.1 h.4)))

pub text_has_digits : (text : List ℕ) (es : List Element) → SpellsMarch text es → HasDigits text
text_has_digits text es h = spelled_digits (march_tokens es) text (march_keep es) h.1

-- ---- the rules of reads

abbrev pub flat : List Op × List Element → List Op
flat p = p.0 ++ operations p.1

-- whether the first operation is no read
abbrev pub begins_well : List Op → Bool
begins_well [] = true
begins_well (op ∷ ops) = writes op

-- the digit that was written, and 0 where none was
abbrev pub written_of : Option Bool → ℕ
written_of None = 0
written_of (Some false) = 48
written_of (Some true) = 49

-- The rules of reads say the same of a text and of its operations.
pub record Same (text : List ℕ) (ops : List Op) : Type 0 where
  pub zeros : has_read 48 text ≡ reads false ops
  pub ones : has_read 49 text ≡ reads true ops
  pub begins : (place : ℕ) → is_none (read_before_write place text) ≡ begins_well ops
  pub agree : (place : ℕ) (u : Option Bool) → is_none (wrong_expectation place (written_of u) text) ≡ reads_agree u ops

same_other : (b : ℕ) (bs : List ℕ) (ops : List Op) → (b == 114) ≡ false → (b == 119) ≡ false → Same bs ops → Same (b ∷ bs) ops
same_other b bs ops r w h = record {
  zeros = rw r h.zeros;
  ones = rw r h.ones;
  begins = λ place. rw (r, w) (h.begins (place + 1));
  agree = λ place u. rw (w, r) (h.agree (place + 1) u);
}

read_agrees : (place : ℕ) (u : Option Bool) (value : Bool) (bs : List ℕ) (ops : List Op) → is_none (wrong_expectation (place + 1) (written_of u) bs) ≡ reads_agree u ops
    → is_none (cond (not (eqb (written_of (Some value)) (written_of u))) (Some place) (wrong_expectation (place + 1) (written_of u) bs)) ≡ (wrote u value && reads_agree u ops)
read_agrees place None false bs ops h = refl
read_agrees place None true bs ops h = refl
read_agrees place (Some false) false bs ops h = h
read_agrees place (Some false) true bs ops h = refl
read_agrees place (Some true) false bs ops h = refl
read_agrees place (Some true) true bs ops h = h

same_r0 : (bs : List ℕ) (ops : List Op) → first bs ≡ 48 → Same bs ops → Same (114 ∷ bs) (R0 ∷ ops)
same_r0 bs ops d h = record {
  zeros = rw d refl;
  ones = rw d h.ones;
  begins = λ place. refl;
  agree = λ place u. rw d (read_agrees place u false bs ops (h.agree (place + 1) u));
}

same_r1 : (bs : List ℕ) (ops : List Op) → first bs ≡ 49 → Same bs ops → Same (114 ∷ bs) (R1 ∷ ops)
same_r1 bs ops d h = record {
  zeros = rw d h.zeros;
  ones = rw d refl;
  begins = λ place. refl;
  agree = λ place u. rw d (read_agrees place u true bs ops (h.agree (place + 1) u));
}

same_w0 : (bs : List ℕ) (ops : List Op) → first bs ≡ 48 → Same bs ops → Same (119 ∷ bs) (W0 ∷ ops)
same_w0 bs ops d h = record {
  zeros = h.zeros;
  ones = h.ones;
  begins = λ place. refl;
  agree = λ place u. rw d (h.agree (place + 1) (Some false));
}

same_w1 : (bs : List ℕ) (ops : List Op) → first bs ≡ 49 → Same bs ops → Same (119 ∷ bs) (W1 ∷ ops)
same_w1 bs ops d h = record {
  zeros = h.zeros;
  ones = h.ones;
  begins = λ place. refl;
  agree = λ place u. rw d (h.agree (place + 1) (Some true));
}

-- a byte that is no letter leaves the operations
flat_other : (order letter : Bool) (k : Order) (op : Op) (later : List Op × List Element) → letter ≡ false → flat (cond order ([], element k later.0 ∷ later.1) (cond letter (op ∷ later.0, later.1) later)) ≡ flat later
flat_other true letter k op later e = refl
flat_other false true k op later e = absurd cc
flat_other false false k op later e = refl

pub same : (text : List ℕ) → HasDigits text → Same text (flat (parts text))
same [] h = record { zeros = refl; ones = refl; begins = λ place. refl; agree = λ place u. refl }
same (b ∷ bs) h =
    let more = same bs h.1 in
    elim (cases_eq b 114) [
      | inl r ↦ subst (λ (x : ℕ). Same (x ∷ bs) (flat (parts (x ∷ bs)))) (sym r)
          (elim (h.0 (rw r)) [
            | inl d ↦ rw d (same_r0 bs (flat (parts bs)) d more)
            | inr d ↦ rw d (same_r1 bs (flat (parts bs)) d more)
          ])
      | inr not_r ↦ elim (cases_eq b 119) [
        | inl w ↦ subst (λ (x : ℕ). Same (x ∷ bs) (flat (parts (x ∷ bs)))) (sym w)
            (elim (h.0 (rw w)) [
              | inl d ↦ rw d (same_w0 bs (flat (parts bs)) d more)
              | inr d ↦ rw d (same_w1 bs (flat (parts bs)) d more)
            ])
        | inr not_w ↦ (
            let r : (b == 114) ≡ false = ne_eqb b 114 not_r in
            let w : (b == 119) ≡ false = ne_eqb b 119 not_w in
            let letter : is_letter b ≡ false = rw (r, w) in
            subst (λ (ops : List Op). Same (b ∷ bs) ops) (sym (flat_other (is_order b) (is_letter b) (order_of b) (op_of b (first bs)) (parts bs) letter)) (same_other b bs (flat (parts bs)) r w more))
      ]
    ]

-- ---- the rule of lengths

-- The operations that belong to no element yet, and the elements, are not too many.
pub record Fits (e o : ℕ) (p : List Op × List Element) : Type 0 where
  pub ops : o + length p.0 ≤ 8
  pub elements : e + length p.1 ≤ 16
  pub short : All (λ (x : Element). length x.ops.items ≤ 8) p.1

fits_put : (order letter : Bool) (e o : ℕ) (k : Order) (op : Op) (later : List Op × List Element) → e ≤ 16 → o ≤ 8 → Fits (elements_after order e) (ops_after order letter o) later
    → Fits e o (cond order ([], element k later.0 ∷ later.1) (cond letter (op ∷ later.0, later.1) later))
fits_put true letter e o k op later he ho f = record {
  ops = omega arith;
  elements = omega (arith, f.elements);
  short = All-cons (λ (x : Element). length x.ops.items ≤ 8) (element k later.0) later.1 (omega (arith, f.ops)) f.short;
}
fits_put false true e o k op later he ho f = record { ops = omega (arith, f.ops); elements = f.elements; short = f.short }
fits_put false false e o k op later he ho f = f

pub fits_down : (place e o : ℕ) (text : List ℕ) → e ≤ 16 → o ≤ 8 → too_long place e o text ≡ None → Fits e o (parts text)
fits_down place e o [] he ho h = record { ops = omega arith; elements = omega arith; short = All-nil (λ (x : Element). length x.ops.items ≤ 8) }
fits_down place e o (b ∷ bs) he ho h =
    let room = room_more place e o b bs h he ho in
    fits_put (is_order b) (is_letter b) e o (order_of b) (op_of b (first bs)) (parts bs) he ho
    (fits_down (place + 1) (elements_after (is_order b) e) (ops_after (is_order b) (is_letter b) o) bs room.elements room.ops room.more)

-- what a byte leaves of the room
record Left (order letter : Bool) (e o : ℕ) (later : List Op × List Element) : Type 0 where
  element : order ≡ true → e < 16
  op : order ≡ false → letter ≡ true → o < 8
  fits : Fits (elements_after order e) (ops_after order letter o) later

fits_left : (order letter : Bool) (e o : ℕ) (k : Order) (op : Op) (later : List Op × List Element)
    → Fits e o (cond order ([], element k later.0 ∷ later.1) (cond letter (op ∷ later.0, later.1) later)) → Left order letter e o later
fits_left true letter e o k op later f = record {
  element = λ t. omega (arith, f.elements);
  op = λ t. absurd cc;
  fits = record {
    ops = (let here : length later.0 ≤ 8 = f.short 0 (element k later.0) (omega arith) in omega arith);
    elements = omega (arith, f.elements);
    short = All-tail (λ (x : Element). length x.ops.items ≤ 8) (element k later.0) later.1 f.short;
  };
}
fits_left false true e o k op later f = record {
  element = λ t. absurd cc;
  op = λ t s. omega (arith, f.ops);
  fits = record { ops = omega (arith, f.ops); elements = f.elements; short = f.short };
}
fits_left false false e o k op later f = record { element = λ t. absurd cc; op = λ t s. absurd cc; fits = f }

up_by : (order letter full_e full_o : Bool) (place e o : ℕ) (bs : List ℕ) → (order ≡ true → full_e ≡ false) → (order ≡ false → letter ≡ true → full_o ≡ false)
    → too_long (place + 1) (elements_after order e) (ops_after order letter o) bs ≡ None
    → cond order (cond full_e (Some place) (too_long (place + 1) (e + 1) 0 bs)) (cond letter (cond full_o (Some place) (too_long (place + 1) e (o + 1) bs)) (too_long (place + 1) e o bs)) ≡ None
up_by true letter true full_o place e o bs fe fo h = absurd (let x : true ≡ false = fe refl in cc)
up_by true letter false full_o place e o bs fe fo h = h
up_by false true full_e true place e o bs fe fo h = absurd (let x : true ≡ false = fo refl refl in cc)
up_by false true full_e false place e o bs fe fo h = h
up_by false false full_e full_o place e o bs fe fo h = h

not_full : (n limit : ℕ) → n < limit → eqb n limit ≡ false
not_full n limit h = ne_eqb n limit (λ e. omega arith)

pub fits_up : (place e o : ℕ) (text : List ℕ) → Fits e o (parts text) → too_long place e o text ≡ None
fits_up place e o [] f = refl
fits_up place e o (b ∷ bs) f =
    let left = fits_left (is_order b) (is_letter b) e o (order_of b) (op_of b (first bs)) (parts bs) f in
    up_by (is_order b) (is_letter b) (eqb e 16) (eqb o 8) place e o bs (λ t. not_full e 16 (left.element t)) (λ t s. not_full o 8 (left.op t s))
    (fits_up (place + 1) (elements_after (is_order b) e) (ops_after (is_order b) (is_letter b) o) bs left.fits)

-- ---- all rules

none_if : (o : Option ℕ) → is_none o ≡ true → o ≡ None
none_if None h = refl
none_if (Some x) h = absurd cc

if_none : (o : Option ℕ) → o ≡ None → is_none o ≡ true
if_none None h = refl
if_none (Some x) h = absurd cc

or_else_later : (o : Option ℕ) (later : Option MarchRefusal) (kind : MarchKind) → or_else o kind later ≡ None → later ≡ None
or_else_later None later kind h = h
or_else_later (Some place) later kind h = absurd cc

both_reads : (p q : Bool) (place : ℕ) → cond (not p || not q) (Some place) None ≡ None → (p ≡ true) × (q ≡ true)
both_reads true true place h = (refl, refl)
both_reads true false place h = absurd cc
both_reads false q place h = absurd cc

no_value_missing : (p q : Bool) (place : ℕ) → p ≡ true → q ≡ true → cond (not p || not q) (Some place) None ≡ None
no_value_missing true true place e f = refl
no_value_missing true false place e f = absurd cc
no_value_missing false q place e f = absurd cc

-- The rules hold of a text, one by one.
record Kept (text : List ℕ) : Type 0 where
  long : too_long 1 0 0 text ≡ None
  begins : read_before_write 1 text ≡ None
  agree : wrong_expectation 1 0 text ≡ None
  zeros : has_read 48 text ≡ true
  ones : has_read 49 text ≡ true

rules_kept : (text : List ℕ) → rule_found text ≡ None → Kept text
unfolding rule_found
rules_kept text h =
    let h1 = or_else_later (too_long 1 0 0 text) _ TooLong h in
    let h2 = or_else_later (read_before_write 1 text) _ ReadBeforeWrite h1 in
    let h3 = or_else_later (wrong_expectation 1 0 text) _ WrongExpectation h2 in
    let both = both_reads (has_read 48 text) (has_read 49 text) (close_place 1 text) (or_else_none (one_value text) OneValueOnly None h3) in
    record {
      long = or_else_none _ TooLong _ h;
      begins = or_else_none _ ReadBeforeWrite _ h1;
      agree = or_else_none _ WrongExpectation _ h2;
      zeros = both.0;
      ones = both.1;
    }

kept_rules : (text : List ℕ) → Kept text → rule_found text ≡ None
unfolding rule_found
kept_rules text k =
    let last : one_value text ≡ None = no_value_missing (has_read 48 text) (has_read 49 text) (close_place 1 text) k.zeros k.ones in
    rw (k.long, k.begins, k.agree) (ap (λ (o : Option ℕ). or_else o OneValueOnly None) last)

short_of : (es : List Element) → AllByRecursion (λ e. IsNonEmpty e.ops.items) es → All (λ (e : Element). length e.ops.items ≤ 8) es → All (λ (e : Element). (1 ≤ length e.ops.items) × (length e.ops.items ≤ 8)) es
short_of [] some all = All-nil (λ (e : Element). (1 ≤ length e.ops.items) × (length e.ops.items ≤ 8))
short_of (e ∷ es) some all =
    All-cons (λ (e : Element). (1 ≤ length e.ops.items) × (length e.ops.items ≤ 8)) e es
    (some_ops e.ops.items some.0, all 0 e (omega arith)) (short_of es some.1 (All-tail (λ (e : Element). length e.ops.items ≤ 8) e es all))
  where
    some_ops : (ops : List Op) → IsNonEmpty ops → 1 ≤ length ops
    some_ops [] h = absurd h
    some_ops (op ∷ ops) h = omega arith

pub written_first : (es : List Element) → IsMarch es → begins_well (operations es) ≡ true → begins_with_write (operations es) ≡ true
written_first [] is h = absurd is.0
written_first (e ∷ es) is h = first_of e.ops.items is.1.0 h
  where
    first_of : (ops : List Op) → IsNonEmpty ops → begins_well (ops ++ operations es) ≡ true → begins_with_write (ops ++ operations es) ≡ true
    first_of [] some k = absurd some
    first_of (op ∷ ops) some k = k

pub well_begun : (ops : List Op) → begins_with_write ops ≡ true → begins_well ops ≡ true
well_begun [] h = refl
well_begun (op ∷ ops) h = h

some_elements : (es : List Element) → IsNonEmpty es → 1 ≤ length es
some_elements [] h = absurd h
some_elements (e ∷ es) h = omega arith

accepted_from : (text : List ℕ) (es : List Element) → IsMarch es → parts text ≡ ([], es) → HasDigits text → Kept text → IsAcceptedMarch es
accepted_from text es is at digits k =
    let s : Same text (operations es) = subst (λ p. Same text (flat p)) at (same text digits) in
    let f : Fits 0 0 ([], es) = subst (λ p. Fits 0 0 p) at (fits_down 1 0 0 text (omega arith) (omega arith) k.long) in
    record {
      some = some_elements es is.0;
      few = omega (arith, f.elements);
      short = short_of es is.1 f.short;
      written = written_first es is (sym (s.begins 1) ∙ if_none _ k.begins);
      agree = sym (s.agree 1 None) ∙ if_none _ k.agree;
      zeros = sym s.zeros ∙ k.zeros;
      ones = sym s.ones ∙ k.ones;
    }

short_only : (es : List Element) → All (λ (e : Element). (1 ≤ length e.ops.items) × (length e.ops.items ≤ 8)) es → All (λ (e : Element). length e.ops.items ≤ 8) es
short_only es all = λ i d h. (all i d h).1

kept_from : (text : List ℕ) (es : List Element) → parts text ≡ ([], es) → HasDigits text → IsAcceptedMarch es → Kept text
kept_from text es at digits a =
    let s : Same text (operations es) = subst (λ p. Same text (flat p)) at (same text digits) in
    let f : Fits 0 0 ([], es) = record { ops = omega arith; elements = omega (arith, a.few); short = short_only es a.short } in
    record {
      long = fits_up 1 0 0 text (subst (λ p. Fits 0 0 p) (sym at) f);
      begins = none_if _ (s.begins 1 ∙ well_begun (operations es) a.written);
      agree = none_if _ (s.agree 1 None ∙ a.agree);
      zeros = s.zeros ∙ a.zeros;
      ones = s.ones ∙ a.ones;
    }

-- a rule is found exactly where the march is no accepted one
pub accepted_has_no_rule : (text : List ℕ) (es : List Element) → SpellsMarch text es → (rule_found text ≡ None) ↔ IsAcceptedMarch es
accepted_has_no_rule text es h =
    let at = (march_read es text h).1 in
    let digits = text_has_digits text es h in
    (λ none. accepted_from text es h.0 at digits (rules_kept text none), λ a. kept_rules text (kept_from text es at digits a))

pub accepted_is_march : AcceptedIsMarch
accepted_is_march [] a = absurd (omega (arith, a.some))
accepted_is_march (e ∷ es) a = (tt, all_some (e ∷ es) a.short)
  where
    some_of : (ops : List Op) → 1 ≤ length ops → IsNonEmpty ops
    some_of [] h = absurd (omega arith)
    some_of (op ∷ ops) h = tt

    all_some : (es : List Element) → All (λ (e : Element). (1 ≤ length e.ops.items) × (length e.ops.items ≤ 8)) es → AllByRecursion (λ e. IsNonEmpty e.ops.items) es
    all_some [] all = tt
    all_some (e ∷ es) all = (some_of e.ops.items (all 0 e (omega arith)).0, all_some es (All-tail (λ (e : Element). (1 ≤ length e.ops.items) × (length e.ops.items ≤ 8)) e es all))
