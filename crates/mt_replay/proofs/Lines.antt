-- The first line of some bytes.
use Rattle.std.proofs.Common.{ℕ, ◌+◌, ◌<◌, ◌≤◌, ◌≡◌, ◌==◌, ◌≢◌, inl, inr, Bool, true, false, cond, List, [], ◌∷◌, ◌++◌, length, Option, Some, None, refl, sym, ap, ◌∙◌, subst, arith, append_assoc, append-nil, length-append}
use Rattle.std.proofs.lemmas.Bool.Decides.{eqb_tells}
use Rattle.std.specs.Io.KnownBytes.{prepend_known}
use Rattle.mt_port.specs.Streams.{WhereTold}
use Rattle.mt_port.specs.Inner.Streams.{WhereTold-then}
use Rattle.mt_replay.specs.Input.{Cut, cut, led, begun}
use Rattle.mt_replay.specs.Inner.Reading.{HasNoFeed, BeginsTooLong, TakesLine, BreaksOff}
use Rattle.mt_replay.specs.declared.input.Line.TheVariants as line
use Rattle.mt_replay.proofs.Feeds.{HasNoFeed-append}

-- a test that fails
pub not_equal : (a b : ℕ) → a ≢ b → (a == b) ≡ false
not_equal a b other = elim (eqb_tells a b) [ inl e ↦ absurd (other e.1) | inr e ↦ e.0 ]

-- a byte that is no line feed goes onto the first line
pub cut-byte : (x : ℕ) (bytes : List ℕ) → x ≢ 10 → cut (x ∷ bytes) ≡ begun x (cut bytes).lines (cut bytes).rest
cut-byte x bytes other = ap (λ (b : Bool). cond b (led [] (cut bytes)) (begun x (cut bytes).lines (cut bytes).rest)) (not_equal x 10 other)

-- a whole line comes first
pub cut-line : (xs behind : List ℕ) → HasNoFeed xs → cut (xs ++ 10 ∷ behind) ≡ led xs (cut behind)
cut-line [] behind h = refl
cut-line (x ∷ xs) behind h =
    cut-byte x (xs ++ 10 ∷ behind) h.0 ∙ ap (λ (c : Cut). begun x c.lines c.rest) (cut-line xs behind h.1)

-- no whole line
pub cut-rest : (xs : List ℕ) → HasNoFeed xs → cut xs ≡ record { lines = []; rest = xs }
cut-rest [] h = refl
cut-rest (x ∷ xs) h = cut-byte x xs h.0 ∙ ap (λ (c : Cut). begun x c.lines c.rest) (cut-rest xs h.1)

-- the first line, or what there is of it, has at least these many bytes
abbrev pub BeginsWith : ℕ → List (List ℕ) → List ℕ → Type 0
BeginsWith n [] rest = n ≤ length rest
BeginsWith n (first ∷ more) rest = n ≤ length first

longer : (x n : ℕ) (lines : List (List ℕ)) (rest : List ℕ) → BeginsWith n lines rest → BeginsWith (n + 1) (begun x lines rest).lines (begun x lines rest).rest
longer x n [] rest long = omega (arith, long)
longer x n (first ∷ more) rest long = omega (arith, long)

pub cut-long : (xs behind : List ℕ) → HasNoFeed xs → BeginsWith (length xs) (cut (xs ++ behind)).lines (cut (xs ++ behind)).rest
cut-long [] behind h = none (cut behind).lines (cut behind).rest
  where
    none : (lines : List (List ℕ)) (rest : List ℕ) → BeginsWith 0 lines rest
    none [] rest = omega arith
    none (first ∷ more) rest = omega arith
cut-long (x ∷ xs) behind h =
    let long = longer x (length xs) (cut (xs ++ behind)).lines (cut (xs ++ behind)).rest (cut-long xs behind h.1) in
    let same = subst (λ (c : Cut). BeginsWith (length xs + 1) c.lines c.rest) (sym (cut-byte x (xs ++ behind) h.0)) long in
    subst (λ (n : ℕ). BeginsWith n (cut (x ∷ (xs ++ behind))).lines (cut (x ∷ (xs ++ behind))).rest) (omega arith) same

pub too_long : (n : ℕ) (lines : List (List ℕ)) (rest : List ℕ) → 1024 < n → BeginsWith n lines rest → BeginsTooLong lines rest
too_long n [] rest h long = omega (arith, long)
too_long n (first ∷ more) rest h long = omega (arith, long)

-- ---- what a reading took so far

-- these bytes of a line were taken
abbrev pub Begun : Option (List ℕ) → Option (List ℕ) → List ℕ → Type 0
Begun a b text = WhereTold a b (λ before after. before ≡ text ++ after)

pub Begun-nil : (a : Option (List ℕ)) → Begun a a []
Begun-nil None = tt
Begun-nil (Some xs) = refl

-- the held bytes are taken up to a line feed
told_feed : (left : Option (List ℕ)) (held held' front : List ℕ) → held ≡ front ++ 10 ∷ held'
    → WhereTold (prepend_known held left) (prepend_known held' left) (λ before after. before ≡ front ++ 10 ∷ after)
told_feed None held held' front e = tt
told_feed (Some xs) held held' front e = ap (λ (l : List ℕ). l ++ xs) e ∙ append_assoc front (10 ∷ held') xs

-- all held bytes are taken
told_all : (left : Option (List ℕ)) (held held' : List ℕ) → held' ≡ []
    → WhereTold (prepend_known held left) (prepend_known held' left) (λ before after. before ≡ held ++ after)
told_all None held held' e = tt
told_all (Some xs) held held' e = ap (λ (l : List ℕ). held ++ l) (sym (ap (λ (l : List ℕ). l ++ xs) e))

-- what a filling does
abbrev pub Filled : Bool → Option (List ℕ) → Option (List ℕ) → Type 0
Filled some a b = WhereTold a b (λ before after. (before ≡ after) × (some ≡ false → after ≡ []))

pub ends_whole : (a b left : Option (List ℕ)) (held held' text text' front : List ℕ) → HasNoFeed text → HasNoFeed front → Begun a b text → Filled true b (prepend_known held left)
    → held ≡ front ++ 10 ∷ held' → text' ≡ text ++ front → WhereTold a (prepend_known held' left) (TakesLine line.Whole text')
ends_whole a b left held held' text text' front feeds feeds' p q e f =
    WhereTold-then a b (prepend_known held' left) p (WhereTold-then b (prepend_known held left) (prepend_known held' left) q (told_feed left held held' front e) (λ x y z m n. m.0 ∙ n))
    (λ x y z m n. (m ∙ ap (λ (l : List ℕ). text ++ l) n ∙ sym (append_assoc text front (10 ∷ z)) ∙ ap (λ (l : List ℕ). l ++ 10 ∷ z) (sym f), subst HasNoFeed (sym f) (HasNoFeed-append text front feeds feeds')))

pub goes_on : (a b left : Option (List ℕ)) (held held' text text' : List ℕ) → Begun a b text → Filled true b (prepend_known held left)
    → held' ≡ [] → text' ≡ text ++ held → Begun a (prepend_known held' left) text'
goes_on a b left held held' text text' p q e f =
    WhereTold-then a b (prepend_known held' left) p (WhereTold-then b (prepend_known held left) (prepend_known held' left) q (told_all left held held' e) (λ x y z m n. m.0 ∙ n))
    (λ x y z m n. m ∙ ap (λ (l : List ℕ). text ++ l) n ∙ sym (append_assoc text held z) ∙ ap (λ (l : List ℕ). l ++ z) (sym f))

-- the bytes begin with these
record BeginsBy (front before : List ℕ) : Type 0 where
  more : List ℕ
  is : before ≡ front ++ more

told_front : (left : Option (List ℕ)) (held held' front behind : List ℕ) → held ≡ front ++ behind
    → WhereTold (prepend_known held left) (prepend_known held' left) (λ before after. BeginsBy front before)
told_front None held held' front behind e = tt
told_front (Some xs) held held' front behind e = record { more = behind ++ xs; is = ap (λ (l : List ℕ). l ++ xs) e ∙ append_assoc front behind xs }

after_filling : (front before mid : List ℕ) → before ≡ mid → BeginsBy front mid → BeginsBy front before
after_filling front before mid e h = record { more = h.more; is = e ∙ h.is }

begins_too_long : (text front before mid : List ℕ) → HasNoFeed text → HasNoFeed front → 1024 < length text + length front → before ≡ text ++ mid → BeginsBy front mid
    → BeginsTooLong (cut before).lines (cut before).rest
begins_too_long text front before mid feeds feeds' long e h =
    let whole : before ≡ (text ++ front) ++ h.more = e ∙ ap (λ (l : List ℕ). text ++ l) h.is ∙ sym (append_assoc text front h.more) in
    let size : 1024 < length (text ++ front) = omega (arith, length-append text front) in
    subst (λ (bytes : List ℕ). BeginsTooLong (cut bytes).lines (cut bytes).rest) (sym whole)
    (too_long (length (text ++ front)) _ _ size (cut-long (text ++ front) h.more (HasNoFeed-append text front feeds feeds')))

pub exceeds : (a b left : Option (List ℕ)) (held held' text front behind : List ℕ) → HasNoFeed text → HasNoFeed front → Begun a b text → Filled true b (prepend_known held left)
    → held ≡ front ++ behind → 1024 < length text + length front → (text' : List ℕ) → WhereTold a (prepend_known held' left) (TakesLine line.TooLong text')
exceeds a b left held held' text front behind feeds feeds' p q e long text' =
    WhereTold-then a b (prepend_known held' left) p
    (WhereTold-then b (prepend_known held left) (prepend_known held' left) {R = λ before after. BeginsBy front before} q (told_front left held held' front behind e) (λ x y z m n. after_filling front x y m.0 n))
    (λ x y z m n. begins_too_long text front x y feeds feeds' long m n)

pub ends_last : (a b c : Option (List ℕ)) (text : List ℕ) → HasNoFeed text → 0 < length text → Begun a b text → Filled false b c → WhereTold a c (TakesLine line.Last text)
ends_last a b c text feeds some p q =
    WhereTold-then a b c p q (λ x y z m n. (m ∙ ap (λ (l : List ℕ). text ++ l) (n.0 ∙ n.1 refl) ∙ append-nil text, feeds, some, n.1 refl))

pub ends_empty : (a b c : Option (List ℕ)) (text : List ℕ) → text ≡ [] → Begun a b text → Filled false b c → WhereTold a c (TakesLine line.End text)
ends_empty a b c text none p q =
    WhereTold-then a b c p q (λ x y z m n. (m ∙ ap (λ (l : List ℕ). l ++ y) none ∙ n.0 ∙ n.1 refl, n.1 refl))

pub breaks_off : (a b c : Option (List ℕ)) (text : List ℕ) → HasNoFeed text → length text ≤ 1024 → Begun a b text → WhereTold b c (λ before after. before ≡ after)
    → WhereTold a c (BreaksOff text)
breaks_off a b c text feeds short p q =
    WhereTold-then a b c p q (λ x y z m n. record { taken = m ∙ ap (λ (l : List ℕ). text ++ l) n; line = feeds; short = short })
