-- What the tokens of a line are read as, and which of their rules they break.
use Rattle.std.proofs.Common.{◌≡◌, ◌≢◌, subst, ℕ, ◌+◌, ◌*◌, ◌^◌, ◌<◌, ◌≤◌, ◌==◌, Bool, true, false, refl, ap, sym, ◌∙◌, inl, inr, arith, nat_le, nat_lt}
use Rattle.std.specs.Prelude.{◌⊎◌, ◌&&◌, ◌||◌, not, codes, is_none, List, [], ◌∷◌, length, slice_get, Option, Some, None, option_map, option_and_then, Result, Ok, Err}
use Rattle.std.specs.List.{list_all, AllByRecursion}
use Rattle.std.specs.Str.{bytes_eq}
use Rattle.std.proofs.lemmas.Bool.{cases_Bool}
use Rattle.std.proofs.lemmas.Bool.Decides.{nat_tests}
use Rattle.std.proofs.lemmas.Slice.Eq.{bytes_eq-Decides}
use Rattle.mt_word.specs.Word.{width_bits}
use Rattle.mt_hex.specs.Hex.{is_digit, is_hex, hex_of, hex}
use Rattle.mt_text.specs.Tokens.{Token, is_word, begins_word, number_of, has_leading_zero, decimal}
use Rattle.mt_locate.specs.declared.probe.Probe.{Probe}
use Rattle.mt_locate.specs.declared.evidence.CheckedRead.{CheckedRead}
use Rattle.mt_locate.specs.declared.words.Placed.{Placed}
use Rattle.mt_locate.specs.declared.refusal.LocateKind.TheVariants.{Spelling, Number, WordTooWide, SliceUnknown, TooManyBits, NotLocated, MissOrder}
use Rattle.mt_locate.specs.declared.refusal.LocateRefusal.{LocateRefusal}
use Rattle.mt_locate.specs.Suspects.{checked_at}
use Rattle.mt_locate.specs.LocateLines.{◌>>=◌, kind_number, unless, spelled, is_keyword, is_end, value_by, falls, of_read, known_read, known_word}
use Rattle.mt_locate.specs.LineRules.{Rule, IsAbove, word_rules, end_rules, value_rules, value_in, holds, rise_rules, miss_word_rules, index_rules, answer_rules, is_not_above}
use Rattle.mt_locate.proofs.LineChains.{Judges, bind_ok, unless_ok}

-- ---- what spells a value is a word

digit_begins : (b : ℕ) (bs : List ℕ) → is_digit b ≡ true → begins_word (b ∷ bs) ≡ true
digit_begins b bs h = grind (arith, nat_tests, h)

hex_begins : (b : ℕ) (bs : List ℕ) → is_hex b ≡ true → begins_word (b ∷ bs) ≡ true
hex_begins b bs h = grind (arith, nat_tests, h)

first_of : (t : ℕ → Bool) (b : ℕ) (bs : List ℕ) → list_all t (b ∷ bs) ≡ true → t b ≡ true
first_of t b bs h = elim (cases_Bool (t b)) [ inl e ↦ e | inr e ↦ absurd (let other : list_all t (b ∷ bs) ≡ false = rw e refl in cc) ]

pub number_begins : (bytes : List ℕ) (n : ℕ) → number_of bytes ≡ Some n → begins_word bytes ≡ true
unfolding number_of
number_begins [] n h = absurd cc
number_begins (b ∷ bs) n h =
    elim (cases_Bool (list_all is_digit (b ∷ bs))) [
      | inl e ↦ digit_begins b bs (first_of is_digit b bs e)
      | inr e ↦ absurd (elim (cases_Bool (has_leading_zero (b ∷ bs))) [ inl z ↦ (let f = rw z at h in cc) | inr z ↦ (let f = rw (z, e) at h in cc) ])
    ]

pub word_begins : (bytes : List ℕ) (n : ℕ) → hex_of bytes ≡ Some n → begins_word bytes ≡ true
unfolding hex_of
word_begins [] n h = absurd cc
word_begins (b ∷ bs) n h = elim (cases_Bool (list_all is_hex (b ∷ bs))) [
  | inl e ↦ hex_begins b bs (first_of is_hex b bs e)
  | inr e ↦ absurd (elim (cases_Bool (length (b ∷ bs) == 0)) [
    | inl y ↦ (let f = rw y at h in cc)
    | inr y ↦ elim (cases_Bool (nat_lt 16 (length (b ∷ bs)))) [
      | inl z ↦ (let f = rw (y, z) at h in cc)
      | inr z ↦ (let f = rw (y, z, e) at h in cc)
    ]
  ])
]

-- ---- a fixed word, and the line's end

pub keyword_ok : (word : List ℕ) (end : ℕ) (t : Option Token) (x : Unit {0}) → is_keyword word end t ≡ Ok x → (token : Token) × (t ≡ Some token) × (token.bytes ≡ word)
keyword_ok word end None x h = absurd cc
keyword_ok word end (Some t) x h =
    elim (cases_Bool (bytes_eq t.bytes word)) [
      | inl e ↦ (t, refl, (bytes_eq-Decides t.bytes word).0 e)
      | inr e ↦ absurd (let f = rw e at h in cc)
    ]

pub end_ok : (t : Option Token) (x : Unit {0}) → is_end t ≡ Ok x → t ≡ None
end_ok None x h = refl
end_ok (Some t) x h = absurd cc

pub keyword_judges : (word : List ℕ) (end : ℕ) (t : Option Token) → Judges end t (word_rules word t) (is_keyword word end t)
keyword_judges word end None = (refl, (inl (refl, refl), ((λ _. omega arith), tt)))
keyword_judges word end (Some t) =
    elim (cases_Bool (bytes_eq t.bytes word)) [
      | inl e ↦ rw e (refl, tt)
      | inr e ↦ rw e (refl, (inl (refl, refl), ((λ _. omega arith), tt)))
    ]

pub end_judges : (end : ℕ) (t : Option Token) → Judges end t (end_rules t) (is_end t)
end_judges end None = (refl, tt)
end_judges end (Some t) = (refl, (inl (refl, refl), ((λ _. omega arith), tt)))

-- ---- values

spelled_ok : (place : ℕ) (o : Option ℕ) (x : Placed) → spelled place o ≡ Ok x → o ≡ Some x.value
spelled_ok place None x h = absurd cc
spelled_ok place (Some n) x h = let same : ◌≡◌ {A = Placed} (record { value = n; place = place }) x = cc in ap (λ (q : Placed). Some q.value) same

pub value_ok : (spells : List ℕ → Option ℕ) (end : ℕ) (t : Token) (x : Placed) → value_by spells end (Some t) ≡ Ok x → spells t.bytes ≡ Some x.value
value_ok spells end t x h =
    spelled_ok t.place (spells t.bytes) x (unless_ok (not (begins_word t.bytes)) Spelling t.place (spelled t.place (spells t.bytes)) x h).1

-- the rules of a value's place have greater numbers than those of each value
abbrev AreLater : List Rule → Type 0
AreLater rules = AllByRecursion (λ rule. 2 ≤ kind_number rule.0) rules

after_spelling : (rules : List Rule) → AreLater rules → AllByRecursion (λ (rule : Rule). rule.1 ≡ true → 1 ≤ kind_number rule.0) rules
after_spelling [] l = tt
after_spelling (r ∷ rs) l = ((λ _. omega (arith, l.0)), after_spelling rs l.1)

after_number : (rules : List Rule) → AreLater rules → AllByRecursion (λ (rule : Rule). rule.1 ≡ true → 2 ≤ kind_number rule.0) rules
after_number [] l = tt
after_number (r ∷ rs) l = ((λ _. l.0), after_number rs l.1)

module _ {A : Type 0} (spells : List ℕ → Option ℕ) (end : ℕ) (rules : List Rule) (known : Placed → Result A LocateRefusal) (later : AreLater rules) where
  of_known : (t : Token) (n : ℕ) (r : Result A LocateRefusal) → begins_word t.bytes ≡ true → spells t.bytes ≡ Some n
      → Judges end (Some t) rules r → Judges end (Some t) (value_rules spells (Some t) rules) r
  of_known t n (Ok x) b s j = rw (b, s) (refl, (refl, j))
  of_known t n (Err e) b s j = rw (b, s) (j.0, (inr (inr j.1.0), ((λ h. absurd cc), ((λ h. absurd cc), j.1.1))))

  of_spelled : (t : Token) (o : Option ℕ) → begins_word t.bytes ≡ true → spells t.bytes ≡ o
      → ((n : ℕ) → spells t.bytes ≡ Some n → Judges end (Some t) rules (known (record { value = n; place = t.place })))
      → Judges end (Some t) (value_rules spells (Some t) rules) (value_by spells end (Some t) >>= known)
  of_spelled t None b s j = rw (b, s) (refl, (inr (inl (refl, refl)), ((λ h. absurd cc), ((λ _. omega arith), after_number rules later))))
  of_spelled t (Some n) b s j =
      let is : value_by spells end (Some t) ≡ Ok (record { value = n; place = t.place }) = rw (b, s) refl in
      subst (λ v. Judges end (Some t) (value_rules spells (Some t) rules) (v >>= known)) (sym is) (of_known t n (known (record { value = n; place = t.place })) b s (j n s))

  pub value_judges : (t : Option Token)
      → ((token : Token) (n : ℕ) → t ≡ Some token → spells token.bytes ≡ Some n → Judges end t rules (known (record { value = n; place = token.place })))
      → Judges end t (value_rules spells t rules) (value_by spells end t >>= known)
  value_judges None j = (refl, (inl (refl, refl), ((λ _. omega arith), ((λ _. omega arith), after_spelling rules later))))
  value_judges (Some t) j =
      elim (cases_Bool (begins_word t.bytes)) [
        | inl e ↦ of_spelled t (spells t.bytes) e refl (λ n. j t n refl)
        | inr e ↦ rw e (refl, (inl (refl, refl), ((λ _. omega arith), ((λ _. omega arith), after_spelling rules later))))
      ]

-- ---- the index of a read

pub record IsIndex (probe : Probe) (after : Option ℕ) (t : Option Token) (found : ℕ × ℕ) : Type 0 where
  pub token : Token
  pub there : t ≡ Some token
  pub spells : number_of token.bytes ≡ Some found.0
  pub rises : falls after found.0 ≡ false
  pub read : CheckedRead
  pub checked : checked_at probe found.0 ≡ Some read
  pub expected : found.1 ≡ read.word

read_ok : (place i : ℕ) (o : Option CheckedRead) (found : ℕ × ℕ) → of_read place i o ≡ Ok found → (read : CheckedRead) × (o ≡ Some read) × (found ≡ (i, read.word))
read_ok place i None found h = absurd cc
read_ok place i (Some read) found h = let same : ◌≡◌ {A = ℕ × ℕ} (i, read.word) found = cc in (read, refl, sym same)

pub index_ok : (probe : Probe) (after : Option ℕ) (end : ℕ) (t : Option Token) (found : ℕ × ℕ)
    → (value_by number_of end t >>= known_read probe after) ≡ Ok found → IsIndex probe after t found
index_ok probe after end None found h = absurd cc
index_ok probe after end (Some t) found h =
    let v = bind_ok (value_by number_of end (Some t)) (known_read probe after) found h in
    let s = value_ok number_of end t v.0 v.1 in
    let u = unless_ok (falls after v.0.value) MissOrder v.0.place (of_read v.0.place v.0.value (checked_at probe v.0.value)) found v.2 in
    let r = read_ok v.0.place v.0.value (checked_at probe v.0.value) found u.1 in
    rw r.2 (record { token = t; there = refl; spells = s; rises = u.0; read = r.0; checked = r.1; expected = refl })

not_above : (after : Option ℕ) (i : ℕ) → is_not_above after i ≡ falls after i
not_above None i = refl
not_above (Some before) i = refl

of_place : (probe : Probe) (after : Option ℕ) (end n : ℕ) (t : Token) (o : Option CheckedRead) → number_of t.bytes ≡ Some n → checked_at probe n ≡ o → falls after n ≡ false
    → Judges end (Some t) ((MissOrder, holds (λ i. is_not_above after i || is_none (checked_at probe i)) (value_in number_of (Some t))) ∷ []) (of_read t.place n o)
of_place probe after end n t None s c f = rw (s, not_above after n, f, c) (refl, (inl (refl, refl), ((λ _. omega arith), tt)))
of_place probe after end n t (Some read) s c f = rw (s, not_above after n, f, c) (refl, tt)

pub index_judges : (probe : Probe) (after : Option ℕ) (end : ℕ) (t : Option Token) → Judges end t (index_rules probe after t) (value_by number_of end t >>= known_read probe after)
index_judges probe after end t =
    value_judges number_of end (rise_rules probe after t) (known_read probe after) (omega arith, tt) t (λ token n is s.
    subst (λ q. Judges end q ((MissOrder, holds (λ i. is_not_above after i || is_none (checked_at probe i)) (value_in number_of q)) ∷ []) (known_read probe after (record { value = n; place = token.place }))) (sym is)
    (elim (cases_Bool (falls after n)) [
      | inl e ↦ rw (s, not_above after n, e) (refl, (inl (refl, refl), ((λ _. omega arith), tt)))
      | inr e ↦ rw e (of_place probe after end n token (checked_at probe n) s refl e)
    ]))

-- ---- the word that was answered

pub record IsAnswer (probe : Probe) (expected : ℕ) (t : Option Token) (word : ℕ) : Type 0 where
  pub token : Token
  pub there : t ≡ Some token
  pub spells : hex_of token.bytes ≡ Some word
  pub fits : nat_lt word (2 ^ width_bits probe.width) ≡ true
  pub differs : (word == expected) ≡ false

fits_of : (b : Bool) → not b ≡ false → b ≡ true
fits_of true h = refl
fits_of false h = absurd cc

pub answer_ok : (probe : Probe) (expected end : ℕ) (t : Option Token) (word : ℕ)
    → (value_by hex_of end t >>= known_word probe expected) ≡ Ok word → IsAnswer probe expected t word
answer_ok probe expected end None word h = absurd cc
answer_ok probe expected end (Some t) word h =
    let v = bind_ok (value_by hex_of end (Some t)) (known_word probe expected) word h in
    let s = value_ok hex_of end t v.0 v.1 in
    let u = unless_ok (not (nat_lt v.0.value (2 ^ width_bits probe.width))) WordTooWide v.0.place (unless (v.0.value == expected) MissOrder v.0.place (Ok v.0.value)) word v.2 in
    let d = unless_ok (v.0.value == expected) MissOrder v.0.place (Ok v.0.value) word u.1 in
    let same : v.0.value ≡ word = (let k = d.1 in cc) in
    record { token = t; there = refl; spells = s ∙ ap (λ q. Some q) same; fits = fits_of (nat_lt word (2 ^ width_bits probe.width)) (rw (← same) u.0); differs = rw (← same) d.0 }

too_wide : (w n : ℕ) → nat_lt w n ≡ false → nat_le n w ≡ true
too_wide w n h = grind (arith, nat_tests, h)

not_too_wide : (w n : ℕ) → nat_lt w n ≡ true → nat_le n w ≡ false
not_too_wide w n h = grind (arith, nat_tests, h)

pub answer_judges : (probe : Probe) (read : CheckedRead) (end : ℕ) (t : Option Token)
    → Judges end t (answer_rules probe (Some read) t) (value_by hex_of end t >>= known_word probe read.word)
answer_judges probe read end t =
    value_judges hex_of end (miss_word_rules probe (Some read) t) (known_word probe read.word) (omega arith, (omega arith, tt)) t (λ token n is s. rw (is, s)
    (elim (cases_Bool (nat_lt n (2 ^ width_bits probe.width))) [
      | inr e ↦ rw (e, too_wide n (2 ^ width_bits probe.width) e) (refl, (inr (inl (refl, refl)), ((λ _. omega arith), ((λ _. omega arith), tt))))
      | inl e ↦ elim (cases_Bool (n == read.word)) [
        | inl d ↦ rw (e, d, not_too_wide n (2 ^ width_bits probe.width) e) (refl, (inl (refl, refl), ((λ _. omega arith), ((λ h. absurd cc), tt))))
        | inr d ↦ rw (e, d, not_too_wide n (2 ^ width_bits probe.width) e) (refl, (refl, tt))
      ]
    ]))
