-- Lists of misses beside what was missed.
use Rattle.std.proofs.Common.{ℕ, zero, suc, ◌+◌, ◌≤◌, ◌≡◌, Bool, true, false, List, [], ◌∷◌, drop, length, Option, Some, None, refl, sym, ap, ◌∙◌, arith, inl, inr}
use Rattle.std.specs.Prelude.{◌↔◌, ◌≢◌, slice_get, is_some, filter_map, if◌then◌else◌}
use Rattle.std.specs.Bool.{then_some}
use Rattle.std.specs.Option.{option_map}
use Rattle.std.specs.List.{range_with_len, cons_option}
use Rattle.std.proofs.lemmas.Bool.{eq-eqb, ne_eqb, cases_eq}
use Rattle.std.proofs.lemmas.List.{drop_more}
use Rattle.std.proofs.lemmas.Option.{get_or_from_slice_get, slice_get_within}
use Rattle.mt_fault.specs.declared.fault.Fault.{Fault}
use Rattle.mt_fault.specs.Items.{Item}
use Rattle.mt_decoder.specs.Misses.{is_miss}
use Rattle.mt_locate.specs.declared.probe.Miss.{Miss}
use Rattle.mt_locate.specs.Misses.{answer_at, miss_at, word_of, told_at}

abbrev pub miss : ℕ → ℕ → Miss
miss i x = record { index = i; word = x }

-- the misses of k accesses from an index on
abbrev pub misses_from : Option Fault → List ℕ → List Item → (i k : ℕ) → List Miss
misses_from fault words items i k = filter_map (miss_at fault words items) (range_with_len i k)

-- ---- lists of misses

from_some : (misses : List Miss) (k : ℕ) (t : Miss) → slice_get misses k ≡ Some t → drop k misses ≡ t ∷ drop (k + 1) misses
from_some misses k t at =
    drop_more misses k t (slice_get_within misses k t at) ∙ ap (λ (x : Miss). x ∷ drop (k + 1) misses) (get_or_from_slice_get misses k t t at)

from_none : (misses : List Miss) (k : ℕ) → slice_get misses k ≡ None → drop k misses ≡ []
from_none [] zero at = refl
from_none [] (suc k) at = refl
from_none (x ∷ more) zero at = absurd (cc)
from_none (x ∷ more) (suc k) at = from_none more k at

-- the first of them has at least that index
pub head_from : (fault : Option Fault) (words : List ℕ) (items : List Item) (i k : ℕ) (t : Miss) (more : List Miss) → misses_from fault words items i k ≡ t ∷ more → i ≤ t.index
head_from fault words items i zero t more e = absurd (cc)
head_from fault words items i (suc k) t more e = of (λ f. head_from fault words items (i + 1) k t more f) (is_miss fault words items i) refl
  where
    of : (misses_from fault words items (i + 1) k ≡ t ∷ more → i + 1 ≤ t.index) → (b : Bool) → is_miss fault words items i ≡ b → i ≤ t.index
    of later true is =
        let x : ℕ = answer_at fault words items i in
        let f : miss i x ∷ misses_from fault words items (i + 1) k ≡ t ∷ more =
        ap (λ (b : Bool). cons_option (then_some b (miss i x)) (misses_from fault words items (i + 1) k)) (sym is) ∙ e in
        let g : miss i x ≡ t = cc in
        let h : i ≡ t.index = ap (λ (m : Miss). m.index) g in
        omega arith
    of later false is =
        let x : ℕ = answer_at fault words items i in
        let f : misses_from fault words items (i + 1) k ≡ t ∷ more =
        ap (λ (b : Bool). cons_option (then_some b (miss i x)) (misses_from fault words items (i + 1) k)) (sym is) ∙ e in
        let h : i + 1 ≤ t.index = later f in
        omega arith

told_some : (o : Option Miss) (i x : ℕ) → word_of o i ≡ Some x → o ≡ Some (miss i x)
told_some None i x e = absurd (cc)
told_some (Some t) i x e = elim (cases_eq t.index i) [
  | inl same ↦
      let f : Some t.word ≡ Some x = ap (λ (b : Bool). if b then Some t.word else None) (sym (eq-eqb t.index i same)) ∙ e in
      let g : t.word ≡ x = cc in
      ap (λ (n : ℕ). Some (miss n t.word)) same ∙ ap (λ (n : ℕ). Some (miss i n)) g
  | inr apart ↦
      let f : (if false then Some t.word else None) ≡ Some x = ap (λ (b : Bool). if b then Some t.word else None) (sym (ne_eqb t.index i apart)) ∙ e in
      absurd (cc)
]

told_other : (t : Miss) (i : ℕ) → i + 1 ≤ t.index → word_of (Some t) i ≡ None
told_other t i h = let apart : t.index ≢ i = λ e. absurd (omega (arith, h, e)) in ap (λ (b : Bool). if b then Some t.word else None) (ne_eqb t.index i apart)

told_this : (i x : ℕ) → word_of (Some (miss i x)) i ≡ Some x
told_this i x = ap (λ (b : Bool). if b then Some x else None) (eq-eqb i i refl)

abbrev Later : ℕ → List Miss → Type 0
Later i later = (t : Miss) (more : List Miss) → later ≡ t ∷ more → i + 1 ≤ t.index

pub differs : (misses : List Miss) (before i : ℕ) (wrong : Option ℕ) (later : List Miss) → Later i later → wrong ≢ told_at misses before i
    → cons_option (option_map (miss i) wrong) later ≡ drop before misses → ⊥
differs misses before i wrong later indices apart e = of (slice_get misses before) refl wrong refl
  where
    of : (o : Option Miss) → slice_get misses before ≡ o → (w : Option ℕ) → wrong ≡ w → ⊥
    of None at None is = apart (is ∙ ap (λ (o : Option Miss). word_of o i) (sym at))
    of None at (Some x) is =
        let f : miss i x ∷ later ≡ [] = ap (λ (w : Option ℕ). cons_option (option_map (miss i) w) later) (sym is) ∙ e ∙ from_none misses before at in
        absurd (cc)
    of (Some t) at None is =
        let f : later ≡ t ∷ drop (before + 1) misses = ap (λ (w : Option ℕ). cons_option (option_map (miss i) w) later) (sym is) ∙ e ∙ from_some misses before t at in
        apart (is ∙ sym (told_other t i (indices t (drop (before + 1) misses) f)) ∙ ap (λ (o : Option Miss). word_of o i) (sym at))
    of (Some t) at (Some x) is =
        let f : miss i x ∷ later ≡ t ∷ drop (before + 1) misses = ap (λ (w : Option ℕ). cons_option (option_map (miss i) w) later) (sym is) ∙ e ∙ from_some misses before t at in
        let g : miss i x ≡ t = cc in
        apart (is ∙ sym (told_this i x) ∙ ap (λ (m : Miss). word_of (Some m) i) g ∙ ap (λ (o : Option Miss). word_of o i) (sym at))

-- how many misses lie before the next access
abbrev pub counted : ℕ → Option ℕ → ℕ
counted before wrong = if is_some wrong then before + 1 else before

pub record Agree (misses : List Miss) (before i : ℕ) (wrong : Option ℕ) (later : List Miss) : Type 0 where
  pub few : counted before wrong ≤ length misses
  pub same : (cons_option (option_map (miss i) wrong) later ≡ drop before misses) ↔ (later ≡ drop (counted before wrong) misses)

pub agree : (misses : List Miss) (before i : ℕ) (wrong : Option ℕ) (later : List Miss) → before ≤ length misses → wrong ≡ told_at misses before i
    → Agree misses before i wrong later
agree misses before i None later few told = record { few = few; same = (λ e. e, λ e. e) }
agree misses before i (Some x) later few told =
    let at : slice_get misses before ≡ Some (miss i x) = told_some (slice_get misses before) i x (sym told) in
    let here : drop before misses ≡ miss i x ∷ drop (before + 1) misses = from_some misses before (miss i x) at in
    record {
      few = omega (arith, slice_get_within misses before (miss i x) at);
      same = (λ e. let f : miss i x ∷ later ≡ miss i x ∷ drop (before + 1) misses = e ∙ here in cc, λ e. ap (λ (l : List Miss). miss i x ∷ l) e ∙ sym here);
    }
