-- The rule that a token is told is the least that it breaks.
use Rattle.std.proofs.Common.{◌≡◌, ℕ, ◌≤◌, ◌||◌, nat_le, not, codes, Bool, true, false, cond, List, [], ◌∷◌, ◌++◌, length, drop, Option, Some, None, Result, Ok, Err, refl, sym, ap, subst, ◌∙◌, inl, inr, arith, ◌&&◌}
use Rattle.std.proofs.lemmas.Bool.{cases_Bool}
use Rattle.std.proofs.lemmas.Bool.Decides.{nat_tests}
use Rattle.std.proofs.lemmas.Slice.Eq.{bytes_eq-Decides}
use Rattle.std.specs.Str.{bytes_eq}
use Rattle.mt_port.specs.declared.board.Shape.{Shape}
use Rattle.mt_port.specs.declared.request.Module.{Module}
use Rattle.mt_port.specs.declared.request.Module.TheVariants.{RamTst, FlsTst}
use Rattle.mt_port.specs.declared.request.HandlerOp.{HandlerOp}
use Rattle.mt_text.specs.declared.line.LineKind.{LineKind}
use Rattle.mt_text.specs.declared.line.LineKind.TheVariants.{Spelling, TooManyOps, NotInHandler}
use Rattle.mt_text.specs.declared.line.LineRefusal.{LineRefusal}
use Rattle.mt_text.specs.Tokens.{Token, begins_word}
use Rattle.mt_text.specs.Values.{Rule, first_broken, spelled_in, value_rules, spot_in, spot_rules, begins_mark, mark_in, mark_rules, value_at, spot_at, mark_at}
use Rattle.mt_text.specs.Forms.{Form, done, none, row, barred, value, spot, mark, step, mapped, mapped_ok}
use Rattle.mt_text.specs.Lines.{Part, Open, Operation, Separator, op_form, app_op, is_op_word, settled, FirstBroken}
use Rattle.mt_text.specs.TokenRules.{kind_number, other_module, form_rules, token_rules, Breaks, IsLeastBroken, BreaksNone}
use Rattle.mt_text.proofs.FormLemmas.{step_mapped}
use Rattle.mt_text.proofs.Judging.{refusal, first_told, are_from}
use Rattle.mt_text.proofs.Numbers.{both}

told_mapped : {A B : Type 0} (f : A → B) (r : Result A LineKind) → refusal (mapped_ok f r) ≡ refusal r
told_mapped f (Ok x) = refl
told_mapped f (Err kind) = refl

-- ---- the table is what a step tells

form_told : {X : Type 0} (shape : Shape) (F : Form X) (bytes : List ℕ) → refusal (step shape F bytes) ≡ first_broken (form_rules shape F bytes)
unfolding value_at spot_at mark_at
form_told shape (done x) bytes = refl
form_told shape none bytes = refl
form_told shape (row w g more) bytes = elim (cases_Bool (bytes_eq bytes w)) [ inl e ↦ rw e refl | inr e ↦ rw e (form_told shape more bytes) ]
form_told shape (barred w kind g more) bytes = elim (cases_Bool (bytes_eq bytes w)) [ inl e ↦ rw e refl | inr e ↦ rw e (form_told shape more bytes) ]
form_told shape (value slot g) bytes = told_mapped g (value_at shape slot bytes) ∙ first_told (not (begins_word bytes)) (spelled_in slot bytes) (drop 2 (value_rules shape slot bytes))
form_told shape (spot slot g) bytes = told_mapped g (spot_at shape slot bytes) ∙ first_told (not (begins_word bytes)) (spot_in bytes) (drop 2 (spot_rules shape slot bytes))
form_told shape (mark last count g) bytes = told_mapped g (mark_at last count bytes) ∙ first_told (not (begins_mark bytes)) (mark_in bytes) (drop 2 (mark_rules last count bytes))

-- ---- operations

told_step : {X Y : Type 0} (shape : Shape) (f : X → Y) (F : Form X) (bytes : List ℕ) → refusal (step shape (mapped f F) bytes) ≡ refusal (step shape F bytes)
told_step shape f F bytes = ap refusal (step_mapped shape f F bytes) ∙ told_mapped (mapped f) (step shape F bytes)

-- a token is not the word of both modules
modules_apart : (bytes : List ℕ) → bytes_eq bytes (codes "ram") ≡ true → bytes_eq bytes (codes "fls") ≡ false
modules_apart bytes h = rw ((bytes_eq-Decides bytes (codes "ram")).0 h) refl

-- what a table of seven words tells
told_words : {X : Type 0} (ram fls a b c d e : Bool) (r f x1 x2 x3 x4 x5 : Result X LineKind) (other : Option LineKind) → refusal x1 ≡ other → refusal x2 ≡ other → refusal x3 ≡ other → refusal x4 ≡ other → refusal x5 ≡ other
    → refusal (cond ram r (cond fls f (cond a x1 (cond b x2 (cond c x3 (cond d x4 (cond e x5 (Err Spelling)))))))) ≡ cond (not ((((((ram || fls) || a) || b) || c) || d) || e)) (Some Spelling) (cond ram (refusal r) (cond fls (refusal f) other))
told_words true fls a b c d e r f x1 x2 x3 x4 x5 other h1 h2 h3 h4 h5 = refl
told_words false true a b c d e r f x1 x2 x3 x4 x5 other h1 h2 h3 h4 h5 = refl
told_words false false true b c d e r f x1 x2 x3 x4 x5 other h1 h2 h3 h4 h5 = h1
told_words false false false true c d e r f x1 x2 x3 x4 x5 other h1 h2 h3 h4 h5 = h2
told_words false false false false true d e r f x1 x2 x3 x4 x5 other h1 h2 h3 h4 h5 = h3
told_words false false false false false true e r f x1 x2 x3 x4 x5 other h1 h2 h3 h4 h5 = h4
told_words false false false false false false true r f x1 x2 x3 x4 x5 other h1 h2 h3 h4 h5 = h5
told_words false false false false false false false r f x1 x2 x3 x4 x5 other h1 h2 h3 h4 h5 = refl

any_word : (ram fls : Bool) (o : Option LineKind) → cond ram o (cond fls o o) ≡ o
any_word true fls o = refl
any_word false true o = refl
any_word false false o = refl

not_fls : (ram fls : Bool) (o : Option LineKind) → (ram ≡ true → fls ≡ false) → cond ram None (cond fls o None) ≡ cond fls o None
not_fls true fls o apart = rw (apart refl) refl
not_fls false fls o apart = refl

not_ram : (ram fls : Bool) (o : Option LineKind) → cond ram o (cond fls None None) ≡ cond ram o None
not_ram true fls o = refl
not_ram false true o = refl
not_ram false false o = refl

op_told : (shape : Shape) (m : Module) (full : Bool) (bytes : List ℕ) → refusal (step shape (op_form m full) bytes)
    ≡ first_broken ((Spelling, not (is_op_word bytes)) ∷ (TooManyOps, full) ∷ (NotInHandler, bytes_eq bytes (other_module m)) ∷ [])
unfolding op_form app_op
op_told shape m true bytes =
    told_words (bytes_eq bytes (codes "ram")) (bytes_eq bytes (codes "fls")) (bytes_eq bytes (codes "r")) (bytes_eq bytes (codes "w")) (bytes_eq bytes (codes "add")) (bytes_eq bytes (codes "copy")) (bytes_eq bytes (codes "f")) _ _ _ _ _ _ _ (Some TooManyOps) refl refl refl refl refl
    ∙ ap (cond (not (is_op_word bytes)) (Some Spelling)) (any_word (bytes_eq bytes (codes "ram")) (bytes_eq bytes (codes "fls")) (Some TooManyOps))
op_told shape RamTst false bytes =
    told_words (bytes_eq bytes (codes "ram")) (bytes_eq bytes (codes "fls")) (bytes_eq bytes (codes "r")) (bytes_eq bytes (codes "w")) (bytes_eq bytes (codes "add")) (bytes_eq bytes (codes "copy")) (bytes_eq bytes (codes "f")) _ _ _ _ _ _ _ None refl refl refl refl refl
    ∙ ap (cond (not (is_op_word bytes)) (Some Spelling)) (not_fls (bytes_eq bytes (codes "ram")) (bytes_eq bytes (codes "fls")) (Some NotInHandler) (modules_apart bytes))
op_told shape FlsTst false bytes =
    told_words (bytes_eq bytes (codes "ram")) (bytes_eq bytes (codes "fls")) (bytes_eq bytes (codes "r")) (bytes_eq bytes (codes "w")) (bytes_eq bytes (codes "add")) (bytes_eq bytes (codes "copy")) (bytes_eq bytes (codes "f")) _ _ _ _ _ _ _ None refl refl refl refl refl
    ∙ ap (cond (not (is_op_word bytes)) (Some Spelling)) (not_ram (bytes_eq bytes (codes "ram")) (bytes_eq bytes (codes "fls")) (Some NotInHandler))

-- ---- at each place of a line

part_told : (shape : Shape) (form : Form Part) (bytes : List ℕ) → refusal (step shape (settled form) bytes) ≡ first_broken (token_rules shape form bytes)
part_told shape (done (Open m ev rs k)) bytes =
    elim (cases_Bool (bytes_eq bytes (codes "]"))) [
      | inl e ↦ rw e refl
      | inr e ↦ rw e (told_step shape (λ (op : HandlerOp). Separator m ev rs k ([] ++ op ∷ [])) (op_form m false) bytes ∙ op_told shape m false bytes)
    ]
part_told shape (done (Operation m ev rs k ops)) bytes = told_step shape (λ (op : HandlerOp). Separator m ev rs k (ops ++ op ∷ [])) (op_form m (nat_le 8 (length ops))) bytes ∙ op_told shape m (nat_le 8 (length ops)) bytes
part_told shape form bytes = form_told shape (settled form) bytes

-- ---- the first is the least

-- the numbers of the rules rise
abbrev are_rising : List Rule → Bool
are_rising [] = true
are_rising (rule ∷ rules) = are_from (kind_number rule.0) rules && are_rising rules

form_rising : {X : Type 0} (shape : Shape) (F : Form X) (bytes : List ℕ) → are_rising (form_rules shape F bytes) ≡ true
form_rising shape (done x) bytes = refl
form_rising shape none bytes = refl
form_rising shape (row w g more) bytes = elim (cases_Bool (bytes_eq bytes w)) [ inl e ↦ rw e refl | inr e ↦ rw e (form_rising shape more bytes) ]
form_rising shape (barred w kind g more) bytes = elim (cases_Bool (bytes_eq bytes w)) [ inl e ↦ rw e refl | inr e ↦ rw e (form_rising shape more bytes) ]
form_rising shape (value slot g) bytes = refl
form_rising shape (spot slot g) bytes = refl
form_rising shape (mark last count g) bytes = refl

part_rising : (shape : Shape) (form : Form Part) (bytes : List ℕ) → are_rising (token_rules shape form bytes) ≡ true
part_rising shape (done (Open m ev rs k)) bytes = elim (cases_Bool (bytes_eq bytes (codes "]"))) [ inl e ↦ rw e refl | inr e ↦ rw e refl ]
part_rising shape (done (Operation m ev rs k ops)) bytes = refl
part_rising shape form bytes = form_rising shape (settled form) bytes

broken_from : (n : ℕ) (rules : List Rule) (kind : LineKind) → are_from n rules ≡ true → Breaks rules kind → n ≤ kind_number kind
broken_from n [] kind f b = absurd b
broken_from n (rule ∷ rules) kind f b =
    let m = both (nat_le n (kind_number rule.0)) (are_from n rules) f in
    elim b [
      | inl q ↦ let least = m.0 in subst (λ (k : LineKind). n ≤ kind_number k) q.0 (grind (arith, nat_tests))
      | inr q ↦ broken_from n rules kind m.1 q
    ]

first_breaks : (rules : List Rule) (kind : LineKind) → first_broken rules ≡ Some kind → Breaks rules kind
first_breaks [] kind h = absurd cc
first_breaks (rule ∷ rules) kind h =
    elim (cases_Bool rule.1) [ inl t ↦ inl (let q = rw t at h in let same : rule.0 ≡ kind = cc in (same, t)) | inr f ↦ inr (first_breaks rules kind (rw f at h)) ]

first_is_least : (rules : List Rule) (kind other : LineKind) → are_rising rules ≡ true → first_broken rules ≡ Some kind → Breaks rules other → kind_number kind ≤ kind_number other
first_is_least [] kind other r h b = absurd b
first_is_least (rule ∷ rules) kind other r h b =
    let m = both (are_from (kind_number rule.0) rules) (are_rising rules) r in
    elim (cases_Bool rule.1) [
      | inl t ↦ (
          let q = rw t at h in
          let same : rule.0 ≡ kind = cc in
          let least : kind_number rule.0 ≤ kind_number other = elim b [ inl o ↦ subst (λ (k : LineKind). kind_number rule.0 ≤ kind_number k) o.0 (omega arith) | inr o ↦ broken_from (kind_number rule.0) rules other m.0 o ] in
          subst (λ (k : LineKind). kind_number k ≤ kind_number other) same least)
      | inr f ↦ elim b [ inl o ↦ absurd (let q : true ≡ false = sym o.1 ∙ f in cc) | inr o ↦ first_is_least rules kind other m.1 (rw f at h) o ]
    ]

none_first : (rules : List Rule) → first_broken rules ≡ None → BreaksNone rules
none_first [] h kind b = b
none_first (rule ∷ rules) h kind b =
    elim (cases_Bool rule.1) [
      | inl t ↦ absurd (let q = rw t at h in cc)
      | inr f ↦ elim b [ inl o ↦ absurd (let q : true ≡ false = sym o.1 ∙ f in cc) | inr o ↦ none_first rules (rw f at h) kind o ]
    ]

-- ---- as laws

pub refused_by_least : (shape : Shape) (ts : List Token) (e : LineRefusal) (b : FirstBroken shape ts e) → IsLeastBroken (token_rules shape b.form b.token.bytes) e.kind
refused_by_least shape ts e b =
    let first : first_broken (token_rules shape b.form b.token.bytes) ≡ Some e.kind = sym (part_told shape b.form b.token.bytes) ∙ ap refusal b.broken in
    record {
      broken = first_breaks (token_rules shape b.form b.token.bytes) e.kind first;
      least = λ other. first_is_least (token_rules shape b.form b.token.bytes) e.kind other (part_rising shape b.form b.token.bytes) first;
    }

pub taken_breaks_none : (shape : Shape) (form : Form Part) (bytes : List ℕ) (after : Form Part) → step shape (settled form) bytes ≡ Ok after → BreaksNone (token_rules shape form bytes)
taken_breaks_none shape form bytes after h = none_first (token_rules shape form bytes) (sym (part_told shape form bytes) ∙ ap refusal h)
