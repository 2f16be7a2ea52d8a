-- The rule that is told is the least that is broken.
use Rattle.std.proofs.Common.{ℕ, zero, suc, ◌≡◌, ◌≢◌, ◌+◌, ◌^◌, ◌<◌, ◌≤◌, Bool, true, false, List, [], ◌∷◌, All, length, get_or, refl, ap, sym, ◌∙◌, subst, inl, inr, arith}
use Rattle.std.specs.Prelude.{◌⊎◌, not, ◌&&◌, ◌||◌, nat_lt, nat_le, if◌then◌else◌, codes, Option, Some, None, is_none, option_map}
use Rattle.std.specs.List.{list_any}
use Rattle.std.specs.Str.{bytes_eq}
use Rattle.std.proofs.lemmas.Bool.{and_parts, cases_Bool, ne_eqb, lt-ltb, le-ltb, le-leb, lt-leb, ltb-true, ltb-false, leb-true, leb-false, cases_eq}
use Rattle.mt_word.specs.Word.{width_bits}
use Rattle.mt_march.specs.declared.march.Element.{Element}
use Rattle.mt_march.specs.declared.march.MarchKind.{MarchKind}
use Rattle.mt_march.specs.declared.march.MarchKind.TheVariants as kinds
use Rattle.mt_march.specs.declared.march.MarchRefusal.{MarchRefusal}
use Rattle.mt_march.specs.Broken as march
use Rattle.mt_march.specs.Laws.{RefusalIsLeast, RefusalIsOfText, SpellsOne, UnrefusedIsMarch}
use Rattle.mt_march.specs.Reading.{march_number, march_refusal}
use Rattle.mt_march.specs.Value.{march_of}
use Rattle.mt_march.specs.Accepted.{IsAcceptedMarch, operations, reads}
use Rattle.mt_march.specs.Known.{march_c_minus, mats_plus}
use Rattle.mt_plan.specs.declared.algorithm.Algorithm.{Algorithm}
use Rattle.mt_plan.specs.declared.algorithm.Algorithm.TheVariants.{Checkerboard, March as Marches, WalkPath, Galpat, TransparentGalpat}
use Rattle.mt_seq.specs.Attempts.{keeps_words}
use Rattle.mt_engine.specs.declared.settings.Refusal.{Refusal}
use Rattle.mt_engine.specs.declared.settings.Refusal.TheVariants as refusals
use Rattle.mt_engine.specs.Setup.{broken, march_with, named, march_refused, or_later, refusal_of, settings_refusal}
use Rattle.mt_c.specs.declared.state.MtSettings.{MtSettings}
use Rattle.mt_c.specs.Codes.{by_rule, refusal_told, told_of}
use Rattle.mt_c.specs.Laws.{Rule, BadWidth, BadPolicy, BadCount, BadAddresses, BadBackground, BadFill, LongText, TransparentFill, BadMarch, Breaks, IsName, IsNoWidth, rule_number, names, ToldRulesAreBroken, LeastRulesAreTold}
use Rattle.mt_c.specs.State.{is_policy, is_width, policy_of, settings_of, width_of}

-- ---- the first test that holds

-- the number of the first test that holds, counted from i, else a number behind them
first_from : ℕ → List Bool → ℕ → ℕ
first_from i [] last = last
first_from i (b ∷ tests) last = if b then i else first_from (i + 1) tests last

first_holds : (i : ℕ) (tests : List Bool) (last : ℕ) → ((k : ℕ) × ((k < length tests) × ((get_or tests k false ≡ true) × (i + k ≡ first_from i tests last)))) ⊎ (first_from i tests last ≡ last)
unfolding first_from
first_holds i [] last = inr refl
first_holds i (true ∷ tests) last = inl (0, (omega arith, (refl, omega arith)))
first_holds i (false ∷ tests) last =
    elim (first_holds (i + 1) tests last) [
      | inl (k, (lt, (holds, e))) ↦ inl (suc k, (omega arith, (holds, omega arith)))
      | inr e ↦ inr e
    ]

first_least : (i : ℕ) (tests : List Bool) (last k : ℕ) → k < length tests → get_or tests k false ≡ true → (i ≤ first_from i tests last) × (first_from i tests last ≤ i + k)
unfolding first_from
first_least i [] last k lt holds = absurd (omega arith)
first_least i (true ∷ tests) last k lt holds = (omega arith, omega arith)
first_least i (false ∷ tests) last zero lt holds = absurd cc
first_least i (false ∷ tests) last (suc k) lt holds =
    let more = first_least (i + 1) tests last k (omega arith) holds in (omega (arith, more.0), omega (arith, more.1))

first_last : (i : ℕ) (tests : List Bool) (last : ℕ) → i + length tests ≤ last → (i ≤ first_from i tests last) × (first_from i tests last ≤ last)
unfolding first_from
first_last i [] last h = (omega arith, omega arith)
first_last i (true ∷ tests) last h = (omega arith, omega arith)
first_last i (false ∷ tests) last h = let more = first_last (i + 1) tests last (omega arith) in (omega (arith, more.0), more.1)

-- ---- the tests of a set-up

word_wrong : MtSettings → ℕ → Bool
word_wrong s word = not (nat_lt word (2 ^ width_bits (width_of s.width)))

tests_of : MtSettings → List ℕ → List Bool
tests_of s text =
    not (is_width s.width) ∷ not (is_policy s.policy) ∷ not (nat_le 1 s.count && nat_le s.count 64) ∷ nat_le (2 ^ 32) (s.first + s.count)
    ∷ word_wrong s s.background ∷ word_wrong s s.fill ∷ nat_lt 448 (length text)
    ∷ (bytes_eq text (codes "transparent-galpat") && not (keeps_words (policy_of s.policy))) ∷ []

eight : (s : MtSettings) (text : List ℕ) (k : ℕ) → k < length (tests_of s text) → k < 8
unfolding tests_of
eight s text k h = omega arith

of_eight : (s : MtSettings) (text : List ℕ) (k : ℕ) → k < 8 → k < length (tests_of s text)
unfolding tests_of
of_eight s text k h = omega arith

nine : (s : MtSettings) (text : List ℕ) (n : ℕ) → 9 ≤ n → 1 + length (tests_of s text) ≤ n
unfolding tests_of
nine s text n h = omega arith

-- the number of the rule that a text breaks as a march, if it is no name
march_told : List ℕ → ℕ
march_told text = (told_of (march_refused (named text) text)).rule

chain : (w p c a b f l t : Bool) (m : Option Refusal)
    → (if w then by_rule 1 else (if p then by_rule 2 else told_of (or_later (broken c refusals.Count (broken a refusals.Addresses (broken b refusals.Background (broken f refusals.Fill None)))) (broken l refusals.Length (broken t refusals.TransparentFill m))))).rule
    ≡ first_from 1 (w ∷ p ∷ c ∷ a ∷ b ∷ f ∷ l ∷ t ∷ []) ((told_of m).rule)
unfolding first_from
chain true p c a b f l t m = refl
chain false true c a b f l t m = refl
chain false false true a b f l t m = refl
chain false false false true b f l t m = refl
chain false false false false true f l t m = refl
chain false false false false false true l t m = refl
chain false false false false false false true t m = refl
chain false false false false false false false true m = refl
chain false false false false false false false false m = refl

told_is : (s : MtSettings) (text : List ℕ) → (refusal_told s text).rule ≡ first_from 1 (tests_of s text) (march_told text)
unfolding tests_of word_wrong march_told refusal_of settings_refusal
told_is s text =
    chain (not (is_width s.width)) (not (is_policy s.policy)) (not (nat_le 1 s.count && nat_le s.count 64)) (nat_le (2 ^ 32) (s.first + s.count))
    (word_wrong s s.background) (word_wrong s s.fill) (nat_lt 448 (length text))
    (bytes_eq text (codes "transparent-galpat") && not (keeps_words (policy_of s.policy))) (march_refused (named text) text)

-- ---- what each test says

both_ways : (b : Bool) → b ≡ true → not b ≡ true → ⊥
both_ways true e h = cc
both_ways false e h = cc

not_true : (b : Bool) → ¬ (b ≡ true) → not b ≡ true
not_true true h = absurd (h refl)
not_true false h = refl

one_at_least : (kind : MarchKind) → 1 ≤ march_number kind
one_at_least kinds.Spelling = omega arith
one_at_least kinds.TooLong = omega arith
one_at_least kinds.ReadBeforeWrite = omega arith
one_at_least kinds.WrongExpectation = omega arith
one_at_least kinds.OneValueOnly = omega arith

policy_wrong : (n : ℕ) → is_policy n ≡ false → 1 < n
policy_wrong n h =
    elim (cases_eq n 0) [
      | inl e ↦ absurd (let known : is_policy n ≡ true = rw e in cc)
      | inr n0 ↦ elim (cases_eq n 1) [
        | inl e ↦ absurd (let known : is_policy n ≡ true = rw e in cc)
        | inr n1 ↦ omega arith
      ]
    ]

policy_is_wrong : (n : ℕ) → 1 < n → is_policy n ≡ false
policy_is_wrong n h =
    let n0 : n ≢ 0 = λ e. omega arith in
    let n1 : n ≢ 1 = λ e. omega arith in
    rw (ne_eqb n 0 n0, ne_eqb n 1 n1)

fills : (n : ℕ) → is_policy n ≡ true → not (keeps_words (policy_of n)) ≡ true → n ≡ 1
fills n h f =
    elim (cases_eq n 0) [
      | inl e ↦ absurd (let known : not (keeps_words (policy_of n)) ≡ false = rw e in cc)
      | inr n0 ↦ elim (cases_eq n 1) [
        | inl e ↦ e
        | inr n1 ↦ absurd (let known : is_policy n ≡ false = rw (ne_eqb n 0 n0, ne_eqb n 1 n1) in cc)
      ]
    ]

count_is_wrong : (n : ℕ) → (n < 1) ⊎ (64 < n) → (nat_le 1 n && nat_le n 64) ≡ false
count_is_wrong n (inl h) = let e : nat_le 1 n ≡ false = lt-leb 1 n h in rw e
count_is_wrong n (inr h) = let e : nat_le n 64 ≡ false = lt-leb n 64 h in elim (nat_le 1 n) as (λ (b : Bool). (b && nat_le n 64) ≡ false) [ true ↦ e | false ↦ refl ]

count_wrong : (n : ℕ) → (nat_le 1 n && nat_le n 64) ≡ false → (n < 1) ⊎ (64 < n)
count_wrong n h =
    elim (cases_Bool (nat_le 1 n)) [
      | inr e ↦ inl (leb-false 1 n e)
      | inl e ↦ inr (leb-false n 64 (sym (ap (λ (b : Bool). b && nat_le n 64) e) ∙ h))
    ]

negated : (b : Bool) → not b ≡ true → b ≡ false
negated true h = cc
negated false h = refl

wrong : (number : ℕ) → is_width number ≡ false → (number ≡ 8) ⊎ ((number ≡ 16) ⊎ ((number ≡ 32) ⊎ (number ≡ 64))) → ⊥
wrong number e (inl h) = let known : is_width number ≡ true = rw h in cc
wrong number e (inr (inl h)) = let known : is_width number ≡ true = rw h in cc
wrong number e (inr (inr (inl h))) = let known : is_width number ≡ true = rw h in cc
wrong number e (inr (inr (inr h))) = let known : is_width number ≡ true = rw h in cc

not_width : (number : ℕ) → is_width number ≡ false → IsNoWidth number
not_width number e = record {
  no_8 = λ h. absurd (wrong number e (inl h));
  no_16 = λ h. absurd (wrong number e (inr (inl h)));
  no_32 = λ h. absurd (wrong number e (inr (inr (inl h))));
  no_64 = λ h. absurd (wrong number e (inr (inr (inr h))));
}

no_width : (number : ℕ) → IsNoWidth number → is_width number ≡ false
no_width number h = rw (ne_eqb number 8 h.no_8, ne_eqb number 16 h.no_16, ne_eqb number 32 h.no_32, ne_eqb number 64 h.no_64)

-- the number of a width is its bits
bits_are : (number : ℕ) → is_width number ≡ true → width_bits (width_of number) ≡ number
bits_are number h =
    elim (cases_eq number 8) [
      | inl e ↦ rw e
      | inr n8 ↦ elim (cases_eq number 16) [
        | inl e ↦ rw e
        | inr n16 ↦ elim (cases_eq number 32) [
          | inl e ↦ rw e
          | inr n32 ↦ elim (cases_eq number 64) [
            | inl e ↦ rw e
            | inr n64 ↦ absurd (let gone : is_width number ≡ false = no_width number (record { no_8 = n8; no_16 = n16; no_32 = n32; no_64 = n64 }) in cc)
          ]
        ]
      ]
    ]

wrong_word : (s : MtSettings) (word : ℕ) → is_width s.width ≡ true → word_wrong s word ≡ true → 2 ^ s.width ≤ word
unfolding word_wrong
wrong_word s word width h =
    let small : nat_lt word (2 ^ width_bits (width_of s.width)) ≡ false = negated _ h in
    subst (λ (bits : ℕ). 2 ^ bits ≤ word) (bits_are s.width width) (ltb-false word (2 ^ width_bits (width_of s.width)) small)

word_is_wrong : (s : MtSettings) (word : ℕ) → is_width s.width ≡ true → 2 ^ s.width ≤ word → word_wrong s word ≡ true
unfolding word_wrong
word_is_wrong s word width h =
    let large : 2 ^ width_bits (width_of s.width) ≤ word = subst (λ (bits : ℕ). 2 ^ bits ≤ word) (sym (bits_are s.width width)) h in
    ap not (le-ltb word (2 ^ width_bits (width_of s.width)) large)

-- ---- names

is_no : (a b c d e f : Bool) → is_none (if a then Some Checkerboard else (if b then Some WalkPath else (if c then Some Galpat else (if d then Some TransparentGalpat
    else (if e then Some (Marches (march_with march_c_minus)) else (if f then Some (Marches (march_with mats_plus)) else None)))))) ≡ not (a || (b || (c || (d || (e || (f || false))))))
is_no true b c d e f = refl
is_no false true c d e f = refl
is_no false false true d e f = refl
is_no false false false true e f = refl
is_no false false false false true f = refl
is_no false false false false false true = refl
is_no false false false false false false = refl

named_is : (text : List ℕ) → is_none (named text) ≡ not (list_any (λ name. bytes_eq text name) names)
unfolding named
named_is text =
    is_no (bytes_eq text (codes "checkerboard")) (bytes_eq text (codes "walk-path")) (bytes_eq text (codes "galpat")) (bytes_eq text (codes "transparent-galpat"))
    (bytes_eq text (codes "march-c-minus")) (bytes_eq text (codes "mats-plus"))

no_name : (text : List ℕ) → named text ≡ None → ¬ (IsName text)
no_name text e name = let none : not (list_any (λ name. bytes_eq text name) names) ≡ true = sym (named_is text) ∙ ap is_none e in absurd (both_ways _ name none)

none_named : (o : Option Algorithm) → is_none o ≡ true → o ≡ None
none_named None h = refl
none_named (Some a) h = cc

unnamed : (text : List ℕ) → ¬ (IsName text) → named text ≡ None
unnamed text h = none_named (named text) (named_is text ∙ not_true _ h)

-- ---- the rules of marches

module _ (one : SpellsOne) (refused : RefusalIsOfText) (unrefused : UnrefusedIsMarch) (least : RefusalIsLeast) where
  all_short : (m : List Element) → All (λ (e : Element). (1 ≤ length e.ops.items) × (length e.ops.items ≤ 8)) m → All (λ (e : Element). length e.ops.items ≤ 8) m
  all_short m h k d lt = (h k d lt).1

  -- an accepted march breaks none
  keeps_rules : (kind : MarchKind) (m : List Element) → IsAcceptedMarch m → march.BreaksRule kind m → ⊥
  keeps_rules kinds.Spelling m is h = h
  keeps_rules kinds.TooLong m is h = h (record { few = is.few; short = all_short m is.short })
  keeps_rules kinds.ReadBeforeWrite m is h = cc (is.written, h)
  keeps_rules kinds.WrongExpectation m is h = cc (is.agree, h)
  keeps_rules kinds.OneValueOnly m is h = let both : (reads false (operations m) && reads true (operations m)) ≡ true = rw (is.zeros, is.ones) in cc

  spells_none : (kind : MarchKind) (text : List ℕ) → march_refusal text ≡ None → march.SpellsBreaking kind text → ⊥
  spells_none kind text none h =
      let m = unrefused text none in
      keeps_rules kind (march_of text) m.1 (subst (march.BreaksRule kind) (one text h.0 (march_of text) h.1 m.0) h.2)

  breaks_none : (kind : MarchKind) (text : List ℕ) → march_refusal text ≡ None → march.Breaks kind text → ⊥
  breaks_none kinds.Spelling text none h = h (march_of text, (unrefused text none).0)
  breaks_none kinds.TooLong text none h = spells_none kinds.TooLong text none h
  breaks_none kinds.ReadBeforeWrite text none h = spells_none kinds.ReadBeforeWrite text none h
  breaks_none kinds.WrongExpectation text none h = spells_none kinds.WrongExpectation text none h
  breaks_none kinds.OneValueOnly text none h = spells_none kinds.OneValueOnly text none h

  -- what a text breaks as a march, told or not
  told_march : (s : MtSettings) (text : List ℕ) → march_told text ≢ 0 → (rule : Rule) × ((rule_number rule ≡ march_told text) × Breaks rule s text)
  unfolding march_told
  told_march s text some =
      elim (named text) as (λ o. named text ≡ o → ((told_of (march_refused o text)).rule ≢ 0) → (rule : Rule) × ((rule_number rule ≡ (told_of (march_refused o text)).rule) × Breaks rule s text)) [
        | Some a ↦ λ e h. absurd (h refl)
        | None ↦ λ e h. elim (march_refusal text) as (λ (r : Option MarchRefusal). march_refusal text ≡ r → ((told_of (option_map refusals.March r)).rule ≢ 0) → (rule : Rule) × ((rule_number rule ≡ (told_of (option_map refusals.March r)).rule) × Breaks rule s text)) [
          | None ↦ λ f g. absurd (g refl)
          | Some r ↦ λ f g. (BadMarch r.kind, (refl, (no_name text e, (least text r ((refused text r).1 f)).0)))
        ] refl h
      ] refl some

  march_is_told : (kind : MarchKind) (text : List ℕ) → ¬ (IsName text) → march.Breaks kind text → (9 ≤ march_told text) × (march_told text ≤ 8 + march_number kind)
  unfolding march_told
  march_is_told kind text no_one h =
      let e : named text ≡ None = unnamed text no_one in
      elim (march_refusal text) as (λ (r : Option MarchRefusal). march_refusal text ≡ r → (9 ≤ (told_of (march_refused (named text) text)).rule) × ((told_of (march_refused (named text) text)).rule ≤ 8 + march_number kind)) [
        | None ↦ λ f. absurd (breaks_none kind text f h)
        | Some r ↦ λ f. rw (e, f) (omega (arith, one_at_least r.kind), omega (arith, (least text r ((refused text r).1 f)).1 kind h))
      ] refl

  -- ---- the rule that is told

  breaks_at : (s : MtSettings) (text : List ℕ) → is_width s.width ≡ true → is_policy s.policy ≡ true → (k : ℕ) → k < 8 → get_or (tests_of s text) k false ≡ true → (rule : Rule) × ((rule_number rule ≡ 1 + k) × Breaks rule s text)
  unfolding tests_of
  breaks_at s text width policy zero h t = absurd (both_ways _ width t)
  breaks_at s text width policy (suc zero) h t = absurd (both_ways _ policy t)
  breaks_at s text width policy (suc (suc zero)) h t = (BadCount, (refl, count_wrong s.count (negated _ t)))
  breaks_at s text width policy (suc (suc (suc zero))) h t = (BadAddresses, (refl, leb-true (2 ^ 32) (s.first + s.count) t))
  breaks_at s text width policy (suc (suc (suc (suc zero)))) h t = (BadBackground, (refl, wrong_word s s.background width t))
  breaks_at s text width policy (suc (suc (suc (suc (suc zero))))) h t = (BadFill, (refl, wrong_word s s.fill width t))
  breaks_at s text width policy (suc (suc (suc (suc (suc (suc zero)))))) h t = (LongText, (refl, ltb-true 448 (length text) t))
  breaks_at s text width policy (suc (suc (suc (suc (suc (suc (suc zero))))))) h t = (TransparentFill, (refl, ((and_parts _ _ t).0, fills s.policy policy (and_parts _ _ t).1)))
  breaks_at s text width policy (suc (suc (suc (suc (suc (suc (suc (suc k)))))))) h t = absurd (omega arith)

  told_by : (s : MtSettings) (text : List ℕ) (w p : Bool) → is_width s.width ≡ w → is_policy s.policy ≡ p → (refusal_told s text).rule ≢ 0
      → (rule : Rule) × ((rule_number rule ≡ (refusal_told s text).rule) × Breaks rule s text)
  told_by s text false p width policy some = (BadWidth, (sym (ap (λ (b : Bool). (if not b then by_rule 1 else (if not (is_policy s.policy) then by_rule 2 else told_of (refusal_of (settings_of s) text))).rule) width), not_width s.width width))
  told_by s text true false width policy some = (
    BadPolicy,
    (
      sym (ap (λ (b : Bool). (if not b then by_rule 1 else (if not (is_policy s.policy) then by_rule 2 else told_of (refusal_of (settings_of s) text))).rule) width
          ∙ ap (λ (b : Bool). (if not b then by_rule 2 else told_of (refusal_of (settings_of s) text)).rule) policy),
      policy_wrong s.policy policy,
    ),
  )
  told_by s text true true width policy some =
      elim (first_holds 1 (tests_of s text) (march_told text)) [
        | inl (k, (lt, (holds, at))) ↦ (let found = breaks_at s text width policy k (eight s text k lt) holds in (found.0, (found.1.0 ∙ at ∙ sym (told_is s text), found.1.1)))
        | inr e ↦ (let same : (refusal_told s text).rule ≡ march_told text = told_is s text ∙ e in
            let found = told_march s text (λ none. some (same ∙ none)) in (found.0, (found.1.0 ∙ sym same, found.1.1)))
      ]

  pub told_are_broken : ToldRulesAreBroken
  told_are_broken s text some = told_by s text (is_width s.width) (is_policy s.policy) refl refl some

  -- the test with an index holds
  at_least : (s : MtSettings) (text : List ℕ) (k : ℕ) → k < 8 → get_or (tests_of s text) k false ≡ true → (1 ≤ (refusal_told s text).rule) × ((refusal_told s text).rule ≤ 1 + k)
  at_least s text k lt holds = let found = first_least 1 (tests_of s text) (march_told text) k (of_eight s text k lt) holds in rw (told_is s text) found

  at_march : (s : MtSettings) (text : List ℕ) (most : ℕ) → (9 ≤ march_told text) × (march_told text ≤ most) → (1 ≤ (refusal_told s text).rule) × ((refusal_told s text).rule ≤ most)
  at_march s text most h = let found = first_last 1 (tests_of s text) (march_told text) (nine s text (march_told text) h.0) in rw (told_is s text) (found.0, omega (arith, found.1, h.1))

  -- the width is wrong, or the word is
  word_least : (s : MtSettings) (text : List ℕ) (word k : ℕ) → k < 8 → 2 ^ s.width ≤ word → (word_wrong s word ≡ true → get_or (tests_of s text) k false ≡ true) → (1 ≤ (refusal_told s text).rule) × ((refusal_told s text).rule ≤ 1 + k)
  unfolding tests_of
  word_least s text word k lt large at =
      elim (cases_Bool (is_width s.width)) [
        | inl width ↦ at_least s text k lt (at (word_is_wrong s word width large))
        | inr none ↦ (let found = at_least s text 0 (omega arith) (ap not none) in (found.0, omega (arith, found.1)))
      ]

  pub least_are_told : LeastRulesAreTold
  unfolding tests_of
  least_are_told s text BadWidth h = at_least s text 0 (omega arith) (ap not (no_width s.width h))
  least_are_told s text BadPolicy h = at_least s text 1 (omega arith) (ap not (policy_is_wrong s.policy h))
  least_are_told s text BadCount h = at_least s text 2 (omega arith) (ap not (count_is_wrong s.count h))
  least_are_told s text BadAddresses h = at_least s text 3 (omega arith) (le-leb (2 ^ 32) (s.first + s.count) h)
  least_are_told s text BadBackground h = word_least s text s.background 4 (omega arith) h (λ e. e)
  least_are_told s text BadFill h = word_least s text s.fill 5 (omega arith) h (λ e. e)
  least_are_told s text LongText h = at_least s text 6 (omega arith) (lt-ltb 448 (length text) h)
  least_are_told s text TransparentFill h = at_least s text 7 (omega arith) (rw (h.0, h.1))
  least_are_told s text (BadMarch kind) h = at_march s text (8 + march_number kind) (march_is_told kind text h.0 h.1)
