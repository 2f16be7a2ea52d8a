-- What the numbers of a set, a block and a slice are read as, and which of their rules they break.
use Rattle.std.proofs.Common.{◌≡◌, ℕ, ◌+◌, ◌*◌, ◌<◌, ◌≤◌, Bool, true, false, refl, ap, sym, ◌∙◌, inl, inr, arith, nat_le, nat_lt}
use Rattle.std.specs.Prelude.{◌⊎◌, ◌&&◌, not, is_none, List, [], ◌∷◌, length, Option, Some, None, Result, Ok, Err}
use Rattle.std.proofs.lemmas.Bool.{cases_Bool}
use Rattle.std.proofs.lemmas.Bool.Decides.{nat_tests}
use Rattle.mt_word.specs.Word.{width_bits}
use Rattle.mt_port.specs.declared.board.Shape.{Shape}
use Rattle.mt_seq.specs.declared.sequence.Slice.{Slice}
use Rattle.mt_seq.specs.Sequence.{is_transparent}
use Rattle.mt_blocks.specs.declared.config.Block.{Block}
use Rattle.mt_blocks.specs.declared.config.ParamSet.{ParamSet}
use Rattle.mt_blocks.specs.Accepted.{set_at}
use Rattle.mt_blocks.specs.Slices.{slice_count, slice_of}
use Rattle.mt_text.specs.Tokens.{Token, number_of}
use Rattle.mt_locate.specs.declared.refusal.LocateKind.TheVariants.{SliceUnknown, TooManyBits, NotLocated}
use Rattle.mt_locate.specs.LocateLines.{◌>>=◌, unless, value_by, known_set, known_block, few_bits, known_slice}
use Rattle.mt_locate.specs.LineRules.{known_set_rules, set_rules, known_block_rules, block_rules, known_slice_rules, slice_rules}
use Rattle.mt_locate.proofs.LineChains.{Judges, bind_ok, unless_ok}
use Rattle.mt_locate.proofs.LineStages.{value_ok, value_judges}

below : (i n : ℕ) → nat_le n i ≡ false → nat_lt i n ≡ true
below i n h = grind (arith, nat_tests, h)

not_below : (i n : ℕ) → nat_le n i ≡ true → nat_lt i n ≡ false
not_below i n h = grind (arith, nat_tests, h)

-- ---- the set

pub record IsSet (sets : List ParamSet) (t : Option Token) (s : ℕ) : Type 0 where
  pub token : Token
  pub there : t ≡ Some token
  pub spells : number_of token.bytes ≡ Some s
  pub known : nat_le (length sets) s ≡ false
  pub located : is_transparent (set_at sets s).alg ≡ false

pub set_ok : (sets : List ParamSet) (end : ℕ) (t : Option Token) (s : ℕ) → (value_by number_of end t >>= known_set sets) ≡ Ok s → IsSet sets t s
set_ok sets end None s h = absurd cc
set_ok sets end (Some t) s h =
    let v = bind_ok (value_by number_of end (Some t)) (known_set sets) s h in
    let k = value_ok number_of end t v.0 v.1 in
    let u = unless_ok (nat_le (length sets) v.0.value) SliceUnknown v.0.place (unless (is_transparent (set_at sets v.0.value).alg) NotLocated v.0.place (Ok v.0.value)) s v.2 in
    let l = unless_ok (is_transparent (set_at sets v.0.value).alg) NotLocated v.0.place (Ok v.0.value) s u.1 in
    let same : v.0.value ≡ s = (let q = l.1 in cc) in
    record { token = t; there = refl; spells = k ∙ ap (λ q. Some q) same; known = rw (← same) u.0; located = rw (← same) l.0 }

pub set_judges : (sets : List ParamSet) (end : ℕ) (t : Option Token) → Judges end t (set_rules sets t) (value_by number_of end t >>= known_set sets)
set_judges sets end t =
    value_judges number_of end (known_set_rules sets t) (known_set sets) (omega arith, (omega arith, tt)) t (λ token n is s. rw (is, s)
    (elim (cases_Bool (nat_le (length sets) n)) [
      | inl e ↦ rw (e, not_below n (length sets) e) (refl, (inr (inl (refl, refl)), ((λ _. omega arith), ((λ _. omega arith), tt))))
      | inr e ↦ elim (cases_Bool (is_transparent (set_at sets n).alg)) [
        | inl d ↦ rw (e, below n (length sets) e, d) (refl, (inl (refl, refl), ((λ _. omega arith), ((λ h. absurd cc), tt))))
        | inr d ↦ rw (e, below n (length sets) e, d) (refl, (refl, tt))
      ]
    ]))

-- ---- the block

pub record IsBlock (set : ParamSet) (t : Option Token) (b : ℕ) : Type 0 where
  pub token : Token
  pub there : t ≡ Some token
  pub spells : number_of token.bytes ≡ Some b
  pub known : nat_le (length set.blocks) b ≡ false

pub block_ok : (set : ParamSet) (end : ℕ) (t : Option Token) (b : ℕ) → (value_by number_of end t >>= known_block set) ≡ Ok b → IsBlock set t b
block_ok set end None b h = absurd cc
block_ok set end (Some t) b h =
    let v = bind_ok (value_by number_of end (Some t)) (known_block set) b h in
    let k = value_ok number_of end t v.0 v.1 in
    let u = unless_ok (nat_le (length set.blocks) v.0.value) SliceUnknown v.0.place (Ok v.0.value) b v.2 in
    let same : v.0.value ≡ b = (let q = u.1 in cc) in
    record { token = t; there = refl; spells = k ∙ ap (λ q. Some q) same; known = rw (← same) u.0 }

pub block_judges : (set : ParamSet) (end : ℕ) (t : Option Token) → Judges end t (block_rules (Some set) t) (value_by number_of end t >>= known_block set)
block_judges set end t =
    value_judges number_of end (known_block_rules (Some set) t) (known_block set) (omega arith, tt) t (λ token n is s. rw (is, s)
    (elim (cases_Bool (nat_le (length set.blocks) n)) [
      | inl e ↦ rw e (refl, (inl (refl, refl), ((λ _. omega arith), tt)))
      | inr e ↦ rw e (refl, tt)
    ]))

-- ---- the slice

pub record IsSliceNumber (shape : Shape) (set : ParamSet) (block : Block) (t : Option Token) (slice : Slice) : Type 0 where
  pub token : Token
  pub there : t ≡ Some token
  pub j : ℕ
  pub spells : number_of token.bytes ≡ Some j
  pub known : nat_le (slice_count set.atomic block.span) j ≡ false
  pub few : nat_lt 128 (slice.n * width_bits shape.width) ≡ false
  pub is : slice_of set.atomic block.span (j * set.atomic) ≡ slice

pub slice_ok : (shape : Shape) (set : ParamSet) (block : Block) (end : ℕ) (t : Option Token) (slice : Slice)
    → (value_by number_of end t >>= known_slice shape set block.span) ≡ Ok slice → IsSliceNumber shape set block t slice
slice_ok shape set block end None slice h = absurd cc
slice_ok shape set block end (Some t) slice h =
    let v = bind_ok (value_by number_of end (Some t)) (known_slice shape set block.span) slice h in
    let k = value_ok number_of end t v.0 v.1 in
    let found = slice_of set.atomic block.span (v.0.value * set.atomic) in
    let u = unless_ok (nat_le (slice_count set.atomic block.span) v.0.value) SliceUnknown v.0.place (few_bits (width_bits shape.width) v.0.place (slice_of set.atomic block.span (v.0.value * set.atomic))) slice v.2 in
    let f = unless_ok (nat_lt 128 ((slice_of set.atomic block.span (v.0.value * set.atomic)).n * width_bits shape.width)) TooManyBits v.0.place (Ok (slice_of set.atomic block.span (v.0.value * set.atomic))) slice u.1 in
    let same : slice_of set.atomic block.span (v.0.value * set.atomic) ≡ slice = (let q = f.1 in cc) in
    record { token = t; there = refl; j = v.0.value; spells = k; known = u.0; few = rw (← same) f.0; is = same }

pub slice_judges : (shape : Shape) (set : ParamSet) (block : Block) (end : ℕ) (t : Option Token)
    → Judges end t (slice_rules shape (Some set) (Some block) t) (value_by number_of end t >>= known_slice shape set block.span)
slice_judges shape set block end t =
    value_judges number_of end (known_slice_rules shape (Some set) (Some block) t) (known_slice shape set block.span) (omega arith, (omega arith, tt)) t (λ token n is s. rw (is, s)
    (elim (cases_Bool (nat_le (slice_count set.atomic block.span) n)) [
      | inl e ↦ rw (e, not_below n (slice_count set.atomic block.span) e) (refl, (inr (inl (refl, refl)), ((λ _. omega arith), ((λ _. omega arith), tt))))
      | inr e ↦ elim (cases_Bool (nat_lt 128 ((slice_of set.atomic block.span (n * set.atomic)).n * width_bits shape.width))) [
        | inl d ↦ rw (e, below n (slice_count set.atomic block.span) e, d) (refl, (inl (refl, refl), ((λ _. omega arith), ((λ h. absurd cc), tt))))
        | inr d ↦ rw (e, below n (slice_count set.atomic block.span) e, d) (refl, (refl, tt))
      ]
    ]))
