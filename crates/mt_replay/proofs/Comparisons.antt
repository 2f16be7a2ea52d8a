-- A text that is compared in pieces.
use Rattle.std.proofs.Common.{ℕ, ◌+◌, ◌-◌, ◌<◌, ◌≤◌, ◌≡◌, ◌≢◌, ◌==◌, Bool, true, false, cond, inl, inr, List, [], ◌∷◌, ◌++◌, length, take, drop, slice_index, Option, Some, None, Ok, Err, refl, sym, ap, subst, ◌∙◌, arith, append_assoc, append-nil, length-append, length-drop, length-take-le}
use Rattle.std.proofs.Math.Seq.{take-add}
use Rattle.std.proofs.lemmas.List.{take-append-drop, take_all, take-append-le, drop_more, drop_all}
use Rattle.std.proofs.lemmas.List.Sums.{sum_by-append}
use Rattle.std.proofs.lemmas.Bool.{cases_lt, false≢true}
use Rattle.std.proofs.lemmas.Slice.Eq.{bytes_eq-Decides}
use Rattle.std.specs.Io.KnownBytes.{prepend_known}
use Rattle.mt_port.specs.Streams.{WhereTold}
use Rattle.mt_port.specs.declared.stream.Failed.{Failed}
use Rattle.mt_port.specs.Inner.Streams.{WhereTold-then, WhereTold-map}
use Rattle.mt_verify.specs.Lines.{feeds, lines, first_other_line, line_at_end}
use Rattle.mt_verify.specs.Laws.{IsWhole, HasNoEmptyLine, MismatchesTell, ExpectedEnds, GivenEnds, EqualTextsHaveNoOther, LastFeedMayLack, WholeTextsHaveTheirFeeds}
use Rattle.mt_verify.specs.Inner.OpenLines.{FeedsEndOpenLines}
use Rattle.mt_replay.specs.declared.comparing.State.{State}
use Rattle.mt_replay.specs.declared.comparing.State.TheVariants as state
use Rattle.mt_replay.specs.declared.comparing.Verdict.TheVariants as verdict
use Rattle.mt_replay.specs.Verify.{is_front}
use Rattle.mt_replay.specs.Inner.Comparing.{Told, StandsBy, GoesOn, EndsBefore, Differ, Shares, BreaksBefore, VerdictGives}
use Rattle.mt_replay.proofs.Lines.{Begun, Filled}

-- ---- line feeds

pub feeds-append : (xs ys : List ℕ) → feeds (xs ++ ys) ≡ feeds xs + feeds ys
feeds-append xs ys = sum_by-append (λ (b : ℕ). cond (b == 10) 1 0) xs ys

pub feeds-parts : (n : ℕ) (xs : List ℕ) → feeds (take n xs) + feeds (drop n xs) ≡ feeds xs
feeds-parts n xs = sym (feeds-append (take n xs) (drop n xs)) ∙ ap feeds (take-append-drop n xs)

-- ---- the bytes that both texts share

differ_at : (x y : ℕ) (rest held expected given : List ℕ) → expected ≡ x ∷ rest → given ≡ y ∷ held → x ≢ y → Differ expected given
differ_at x y rest held expected given e f other = subst (λ (l : List ℕ). Differ l given) (sym e) (subst (Differ (x ∷ rest)) (sym f) other)

ends_at : (x : ℕ) (rest expected given : List ℕ) → expected ≡ x ∷ rest → given ≡ [] → Differ expected given
ends_at x rest expected given e f = subst (λ (l : List ℕ). Differ l given) (sym e) (subst (Differ (x ∷ rest)) (sym f) tt)

differ : (n : ℕ) (rest held : List ℕ) → n < length rest → (n < length held → slice_index rest n ≢ slice_index held n) → Differ (drop n rest) (drop n held)
differ n rest held more other = elim (cases_lt n (length held)) [
  | inl given ↦
      differ_at (slice_index rest n) (slice_index held n) (drop (n + 1) rest) (drop (n + 1) held) (drop n rest) (drop n held) (drop_more rest n 0 more) (drop_more held n 0 given) (other given)
  | inr none ↦ ends_at (slice_index rest n) (drop (n + 1) rest) (drop n rest) (drop n held) (drop_more rest n 0 more) (drop_all n held none)
]

pub shares : (n tally tally' : ℕ) (rest held held' : List ℕ) → n ≤ length rest → take n rest ≡ take n held → (n < length rest → n < length held → slice_index rest n ≢ slice_index held n)
    → held' ≡ drop n held → tally' ≡ tally + feeds (take n rest) → Shares n tally tally' rest held held'
shares n tally tally' rest held held' within same other e t = record {
  within = within;
  taken = sym (take-append-drop n held) ∙ ap (λ (l : List ℕ). l ++ drop n held) (sym same) ∙ ap (λ (l : List ℕ). take n rest ++ l) (sym e);
  tally_is = t;
  next = λ more. subst (Differ (drop n rest)) (sym e) (differ n rest held more (other more));
}

-- ---- the given text goes on

told_part : (left : Option (List ℕ)) (held held' part : List ℕ) → held ≡ part ++ held' → WhereTold (prepend_known held left) (prepend_known held' left) (λ before after. before ≡ part ++ after)
told_part None held held' part e = tt
told_part (Some xs) held held' part e = ap (λ (l : List ℕ). l ++ xs) e ∙ append_assoc part held' xs

-- the next bytes are expected
pub begun_more : (given b left : Option (List ℕ)) (held held' expected part : List ℕ) → Begun given b expected → Filled true b (prepend_known held left) → held ≡ part ++ held'
    → Begun given (prepend_known held' left) (expected ++ part)
begun_more given b left held held' expected part p q e =
    WhereTold-then given b (prepend_known held' left) p
    (WhereTold-then b (prepend_known held left) (prepend_known held' left) {R = λ before after. before ≡ part ++ after} q (told_part left held held' part e) (λ x y z m n. m.0 ∙ n))
    (λ x y z m n. m ∙ ap (λ (l : List ℕ). expected ++ l) n ∙ sym (append_assoc expected part z))

-- another byte is given
other_byte : MismatchesTell → (shared rest held more xs : List ℕ) (x y : ℕ) → x ≢ y
    → first_other_line ((shared ++ x ∷ rest) ++ more) (shared ++ ((y ∷ held) ++ xs)) ≡ Some (feeds shared + 1)
other_byte tells shared rest held more xs x y other =
    ap (λ (l : List ℕ). first_other_line l (shared ++ ((y ∷ held) ++ xs))) (append_assoc shared (x ∷ rest) more) ∙ tells shared (rest ++ more) (held ++ xs) x y other

other_given : MismatchesTell → (given left : Option (List ℕ)) (shared rest held : List ℕ) (x y : ℕ) → x ≢ y → Begun given (prepend_known (y ∷ held) left) shared
    → WhereTold given (prepend_known (y ∷ held) left) (Told (state.Other (feeds shared + 1)) (shared ++ x ∷ rest))
other_given tells None left shared rest held x y other p = tt
other_given tells (Some w) None shared rest held x y other p = p
other_given tells (Some w) (Some xs) shared rest held x y other p =
    λ more full. ap (first_other_line ((shared ++ x ∷ rest) ++ more)) p ∙ other_byte tells shared rest held more xs x y other

pub differs : MismatchesTell → (given left : Option (List ℕ)) (shared rest held : List ℕ) → 0 < length rest → 0 < length held → Differ rest held → Begun given (prepend_known held left) shared
    → WhereTold given (prepend_known held left) (Told (state.Other (feeds shared + 1)) (shared ++ rest))
differs tells given left shared [] held some some' other p = absurd (omega (arith, some))
differs tells given left shared (x ∷ rest) [] some some' other p = absurd (omega (arith, some'))
differs tells given left shared (x ∷ rest) (y ∷ held) some some' other p = other_given tells given left shared rest held x y other p

-- ---- the given text ended

pub many_left : (tally line : ℕ) (rest : List ℕ) → 1 < length rest → line ≡ line_at_end tally (slice_index rest 0) → EndsBefore (state.Other line) tally rest
many_left tally line [] many e = absurd (omega (arith, many))
many_left tally line (x ∷ []) many e = absurd (omega (arith, many))
many_left tally line (x ∷ y ∷ rest) many e = record { next = x; more = y ∷ rest; is = refl; some = λ feed none. absurd (full none); line_is = e }
  where
    full : y ∷ rest ≡ [] → ⊥
    full none = let size : length (y ∷ rest) ≡ 0 = ap (λ (l : List ℕ). length l) none in omega (arith, size)

pub feed_left : (tally line : ℕ) (rest : List ℕ) → 0 < length rest → length rest ≤ 1 → slice_index rest 0 ≡ 10 → line ≡ line_at_end tally (slice_index rest 0)
    → EndsBefore (state.Lacking line) tally rest
feed_left tally line [] some one feed e = absurd (omega (arith, some))
feed_left tally line (x ∷ []) some one feed e = (ap (λ (b : ℕ). b ∷ []) feed, e ∙ ap (line_at_end tally) feed)
feed_left tally line (x ∷ y ∷ rest) some one feed e = absurd (omega (arith, one))

pub byte_left : (tally line : ℕ) (rest : List ℕ) → 0 < length rest → slice_index rest 0 ≢ 10 → line ≡ line_at_end tally (slice_index rest 0) → EndsBefore (state.Other line) tally rest
byte_left tally line [] some other e = absurd (omega (arith, some))
byte_left tally line (x ∷ rest) some other e = record { next = x; more = rest; is = refl; some = λ feed none. other feed; line_is = e }

ended_other : GivenEnds → (shared before rest more : List ℕ) (tally line : ℕ) → before ≡ shared → tally ≡ feeds shared → GoesOn tally line rest → HasNoEmptyLine ((shared ++ rest) ++ more)
    → first_other_line ((shared ++ rest) ++ more) before ≡ Some line
ended_other ends shared before rest more tally line e t h full =
    let all : (shared ++ rest) ++ more ≡ shared ++ h.next ∷ (h.more ++ more) = append_assoc shared rest more ∙ ap (λ (l : List ℕ). shared ++ (l ++ more)) h.is in
    let some : h.next ≡ 10 → h.more ++ more ≢ [] = λ feed none. h.some feed (front_empty h.more more none) in
    ap (λ (l : List ℕ). first_other_line l before) all ∙ ap (first_other_line (shared ++ h.next ∷ (h.more ++ more))) e
    ∙ ends shared (h.more ++ more) h.next (subst HasNoEmptyLine all full) some
    ∙ ap (λ (n : ℕ). Some (line_at_end n h.next)) (sym t) ∙ ap (λ (n : ℕ). Some n) (sym h.line_is)
  where
    front_empty : (xs ys : List ℕ) → xs ++ ys ≡ [] → xs ≡ []
    front_empty [] ys none = refl
    front_empty (x ∷ xs) ys none = let size : length (x ∷ (xs ++ ys)) ≡ 0 = ap (λ (l : List ℕ). length l) none in absurd (omega (arith, size))

pub ended_before : GivenEnds → (s : State) (tally : ℕ) (given b c : Option (List ℕ)) (shared rest : List ℕ) → tally ≡ feeds shared → Begun given b shared → Filled false b c → EndsBefore s tally rest
    → StandsBy s tally (shared ++ rest) given c
ended_before ends state.Matching tally given b c shared rest t p q h = absurd h
ended_before ends (state.Other line) tally given b c shared rest t p q h =
    (tt, WhereTold-then given b c p q (λ x y z m n. λ more full. ended_other ends shared x rest more tally line (m ∙ ap (λ (l : List ℕ). shared ++ l) (n.0 ∙ n.1 refl) ∙ append-nil shared) t h full))
ended_before ends (state.Lacking line) tally given b c shared rest t p q h = (
  let e : feeds (shared ++ rest) ≡ tally + 1 = ap (λ (l : List ℕ). feeds (shared ++ l)) h.0 ∙ feeds-append shared (10 ∷ []) ∙ ap (λ (n : ℕ). n + 1) (sym t) in sym e,
  WhereTold-then given b c p q (λ x y z m n.
      let same : x ≡ shared = m ∙ ap (λ (l : List ℕ). shared ++ l) (n.0 ∙ n.1 refl) ∙ append-nil shared in
      (ap (λ (l : List ℕ). shared ++ l) h.0 ∙ ap (λ (l : List ℕ). l ++ 10 ∷ []) (sym same), h.1 ∙ ap (λ (n : ℕ). n + 2) (t ∙ ap feeds (sym same)), n.1 refl)),
)
ended_before ends state.Broken tally given b c shared rest t p q h = absurd h

-- ---- the source failed

pub broken_within : (given b c : Option (List ℕ)) (shared rest : List ℕ) → Begun given b shared → WhereTold b c (λ before after. before ≡ after) → WhereTold given c (Told state.Broken (shared ++ rest))
broken_within given b c shared rest p q = WhereTold-then given b c p q (λ x y z m n. record {
  front = shared;
  more = rest;
  taken = m ∙ ap (λ (l : List ℕ). shared ++ l) n;
  is = refl;
})

-- ---- more is expected, and nothing is read

pub other_more : (line : ℕ) (given c : Option (List ℕ)) (expected text : List ℕ) → WhereTold given c (Told (state.Other line) expected) → WhereTold given c (Told (state.Other line) (expected ++ text))
other_more line given c expected text p = WhereTold-map given c p (λ x y h. λ more full.
    ap (λ (l : List ℕ). first_other_line l x) (append_assoc expected text more) ∙ h (text ++ more) (subst HasNoEmptyLine (append_assoc expected text more) full))

pub broken_more : (given c : Option (List ℕ)) (expected text : List ℕ) → WhereTold given c (Told state.Broken expected) → WhereTold given c (Told state.Broken (expected ++ text))
broken_more given c expected text p = WhereTold-map given c p (λ x y h. record {
  front = h.front;
  more = h.more ++ text;
  taken = h.taken;
  is = ap (λ (l : List ℕ). l ++ text) h.is ∙ append_assoc h.front h.more text;
})

pub lacking_more : GivenEnds → (line : ℕ) (given c : Option (List ℕ)) (expected text : List ℕ) → 0 < length text → WhereTold given c (Told (state.Lacking line) expected)
    → WhereTold given c (Told (state.Other line) (expected ++ text))
lacking_more ends line given c expected text some p = WhereTold-map given c p (λ x y h. λ more full.
    let all : (expected ++ text) ++ more ≡ x ++ 10 ∷ (text ++ more) =
    append_assoc expected text more ∙ ap (λ (l : List ℕ). l ++ (text ++ more)) h.0 ∙ append_assoc x (10 ∷ []) (text ++ more) in
    let left : text ++ more ≢ [] = λ none. let size : length (text ++ more) ≡ 0 = ap (λ (l : List ℕ). length l) none in omega (arith, size, some, length-append text more) in
    ap (λ (l : List ℕ). first_other_line l x) all ∙ ends x (text ++ more) 10 (subst HasNoEmptyLine all full) (λ feed. left) ∙ ap (λ (n : ℕ). Some n) (sym h.1))

-- the same, by the state
pub stands_lacking : GivenEnds → (s : State) (line tally : ℕ) (given c : Option (List ℕ)) (expected text : List ℕ) → s ≡ state.Lacking line → 0 < length text → StandsBy s tally expected given c
    → StandsBy (state.Other line) tally (expected ++ text) given c
stands_lacking ends s line tally given c expected text e some h = (tt, lacking_more ends line given c expected text some (subst (λ (t : State). StandsBy t tally expected given c) e h).1)

pub stands_still : (s : State) (tally : ℕ) (given c : Option (List ℕ)) (expected text : List ℕ) → length text ≤ 0 → StandsBy s tally expected given c → StandsBy s tally (expected ++ text) given c
stands_still s tally given c expected [] none h = subst (λ (l : List ℕ). StandsBy s tally l given c) (sym (append-nil expected)) h
stands_still s tally given c expected (x ∷ text) none h = absurd (omega (arith, none))

-- ---- the end

is_front-append : (front more : List ℕ) → is_front front (front ++ more) ≡ true
is_front-append front more =
    (bytes_eq-Decides front (take (length front) (front ++ more))).1 (sym (take-append-le (length front) front more (omega arith) ∙ take_all (length front) front (omega arith)))

pub breaks_within : (given c : Option (List ℕ)) (expected : List ℕ) → WhereTold given c (Told state.Broken expected) → WhereTold given c (BreaksBefore expected)
breaks_within given c expected p = WhereTold-map given c p (λ x y h. record {
  front = h.front;
  taken = h.taken;
  is = subst (λ (l : List ℕ). is_front h.front l ≡ true) (sym h.is) (is_front-append h.front h.more);
})

pub breaks_behind : (given b c : Option (List ℕ)) (expected : List ℕ) → Begun given b expected → WhereTold b c (λ before after. before ≡ after) → WhereTold given c (BreaksBefore expected)
breaks_behind given b c expected p q = WhereTold-then given b c p q (λ x y z m n. record {
  front = expected;
  taken = m ∙ ap (λ (l : List ℕ). expected ++ l) n;
  is = subst (λ (l : List ℕ). is_front expected l ≡ true) (append-nil expected) (is_front-append expected []);
})

pub other_found : (line : ℕ) (given c : Option (List ℕ)) (expected : List ℕ) → HasNoEmptyLine expected → WhereTold given c (Told (state.Other line) expected)
    → WhereTold given c (λ before after. first_other_line expected before ≡ Some line)
other_found line given c expected full p = WhereTold-map given c p (λ x y h.
    subst (λ (l : List ℕ). first_other_line l x ≡ Some line) (append-nil expected) (h [] (subst HasNoEmptyLine (sym (append-nil expected)) full)))

-- all was given, and more
more_given : ExpectedEnds → (expected held xs : List ℕ) → IsWhole expected → 0 < length held → first_other_line expected (expected ++ (held ++ xs)) ≡ Some (feeds expected + 1)
more_given ends expected [] xs whole some = absurd (omega (arith, some))
more_given ends expected (y ∷ held) xs whole some = ends expected (held ++ xs) y whole

pub further_line : ExpectedEnds → (given left : Option (List ℕ)) (expected held : List ℕ) → IsWhole expected → 0 < length held → Begun given (prepend_known held left) expected
    → WhereTold given (prepend_known held left) (λ before after. first_other_line expected before ≡ Some (feeds expected + 1))
further_line ends None left expected held whole some p = tt
further_line ends (Some w) None expected held whole some p = p
further_line ends (Some w) (Some xs) expected held whole some p = ap (first_other_line expected) p ∙ more_given ends expected held xs whole some

-- what is known of texts with the same lines
pub record SameLaws : Type 0 where
  pub equal : EqualTextsHaveNoOther
  pub lacking : LastFeedMayLack
  pub closed : FeedsEndOpenLines
  pub counts : WholeTextsHaveTheirFeeds

-- all was given, and no more
pub same_text : SameLaws → (given b c : Option (List ℕ)) (expected : List ℕ) → Begun given b expected → Filled false b c
    → WhereTold given c (λ before after. (first_other_line expected before ≡ None) × (after ≡ []))
same_text laws given b c expected p q = WhereTold-then given b c p q (λ x y z m n.
    let same : x ≡ expected = m ∙ ap (λ (l : List ℕ). expected ++ l) (n.0 ∙ n.1 refl) ∙ append-nil expected in
    (ap (first_other_line expected) same ∙ laws.equal expected, n.1 refl))

-- the last line feed alone is lacking
pub lacking_feed : SameLaws → (line : ℕ) (given c : Option (List ℕ)) (expected : List ℕ) → HasNoEmptyLine expected → WhereTold given c (Told (state.Lacking line) expected)
    → WhereTold given c (λ before after. (first_other_line expected before ≡ None) × (after ≡ []))
lacking_feed laws line given c expected full p = WhereTold-map given c p (λ x y h.
    (ap (λ (l : List ℕ). first_other_line l x) h.0 ∙ laws.lacking x (laws.closed x [] (subst HasNoEmptyLine h.0 full)), h.2))

pub line_count : SameLaws → (expected : List ℕ) (n : ℕ) → IsWhole expected → n ≡ feeds expected → n ≡ length (lines expected)
line_count laws expected n whole e = e ∙ sym (laws.counts expected whole)

-- ---- where a comparison stands

-- These bytes were expected and given, and their line feeds counted.
pub record Far (tally : ℕ) (shared : List ℕ) (given b : Option (List ℕ)) : Type 0 where
  pub tally_is : tally ≡ feeds shared
  pub begun : Begun given b shared

pub matched : (s : State) (tally : ℕ) (expected : List ℕ) (given b : Option (List ℕ)) → s ≡ state.Matching → StandsBy s tally expected given b → Far tally expected given b
matched s tally expected given b e h =
    let both = subst (λ (t : State). StandsBy t tally expected given b) e h in record { tally_is = both.0; begun = both.1 }

pub so_far : (tally tally' done : ℕ) (text expected : List ℕ) (given a b : Option (List ℕ)) → tally' ≡ tally + feeds (take done text) → Far tally expected given a
    → (Begun given a expected → Begun given b (expected ++ take done text)) → Far tally' (expected ++ take done text) given b
so_far tally tally' done text expected given a b e far p = record {
  tally_is = e ∙ ap (λ (n : ℕ). n + feeds (take done text)) far.tally_is ∙ sym (feeds-append expected (take done text));
  begun = p far.begun;
}

-- a text, and the parts of it
parted : (n : ℕ) (expected text rest : List ℕ) → rest ≡ drop n text → (expected ++ take n text) ++ rest ≡ expected ++ text
parted n expected text rest e =
    append_assoc expected (take n text) rest ∙ ap (λ (l : List ℕ). expected ++ (take n text ++ l)) e ∙ ap (λ (l : List ℕ). expected ++ l) (take-append-drop n text)

pub stands_ended : GivenEnds → (s : State) (tally done : ℕ) (text rest expected : List ℕ) (given b c : Option (List ℕ)) → rest ≡ drop done text → Far tally (expected ++ take done text) given b → Filled false b c
    → EndsBefore s tally rest → StandsBy s tally (expected ++ text) given c
stands_ended ends s tally done text rest expected given b c e far q h =
    subst (λ (l : List ℕ). StandsBy s tally l given c) (parted done expected text rest e) (ended_before ends s tally given b c (expected ++ take done text) rest far.tally_is far.begun q h)

pub stands_failed : (tally done : ℕ) (text expected : List ℕ) (given b c : Option (List ℕ)) → Begun given b (expected ++ take done text) → WhereTold b c (λ before after. before ≡ after)
    → StandsBy state.Broken tally (expected ++ text) given c
stands_failed tally done text expected given b c p q =
    (tt, subst (λ (l : List ℕ). WhereTold given c (Told state.Broken l)) (parted done expected text (drop done text) refl) (broken_within given b c (expected ++ take done text) (drop done text) p q))

-- the next bytes are shared
pub far_shared : (n tally tally' : ℕ) (shared rest held held' : List ℕ) (given b left : Option (List ℕ)) → Far tally shared given b → Filled true b (prepend_known held left)
    → Shares n tally tally' rest held held' → Far tally' (shared ++ take n rest) given (prepend_known held' left)
far_shared n tally tally' shared rest held held' given b left far q h = record {
  tally_is = h.tally_is ∙ ap (λ (k : ℕ). k + feeds (take n rest)) far.tally_is ∙ sym (feeds-append shared (take n rest));
  begun = begun_more given b left held held' shared (take n rest) far.begun q h.taken;
}

pub stands_differs : MismatchesTell → (n tally tally' done line : ℕ) (text rest held held' expected : List ℕ) (given b left : Option (List ℕ)) → rest ≡ drop done text → Far tally (expected ++ take done text) given b
    → Filled true b (prepend_known held left) → Shares n tally tally' rest held held' → n < length rest → 0 < length held' → line ≡ tally' + 1
    → StandsBy (state.Other line) tally' (expected ++ text) given (prepend_known held' left)
stands_differs tells n tally tally' done line text rest held held' expected given b left e far q h more some l =
    let shared = (expected ++ take done text) ++ take n rest in
    let now = far_shared n tally tally' (expected ++ take done text) rest held held' given b left far q h in
    let all : shared ++ drop n rest ≡ expected ++ text =
    append_assoc (expected ++ take done text) (take n rest) (drop n rest) ∙ ap (λ (r : List ℕ). (expected ++ take done text) ++ r) (take-append-drop n rest) ∙ parted done expected text rest e in
    let is : feeds shared + 1 ≡ line = ap (λ (k : ℕ). k + 1) (sym now.tally_is) ∙ sym l in (
      tt,
      subst (λ (k : ℕ). WhereTold given (prepend_known held' left) (Told (state.Other k) (expected ++ text))) is
          (subst (λ (r : List ℕ). WhereTold given (prepend_known held' left) (Told (state.Other (feeds shared + 1)) r)) all
          (differs tells given left shared (drop n rest) held' (omega (arith, more, length-drop n rest)) some (h.next more) now.begun)),
    )

-- one more turn of the loop
pub taken_more : (n done : ℕ) (text rest : List ℕ) → rest ≡ drop done text → take (done + n) text ≡ take done text ++ take n rest
taken_more n done text rest e = take-add done n text ∙ ap (λ (l : List ℕ). take done text ++ take n l) (sym e)

pub begun_on : (n done tally tally' : ℕ) (text rest held held' expected : List ℕ) (given b left : Option (List ℕ)) → rest ≡ drop done text → Begun given b (expected ++ take done text)
    → Filled true b (prepend_known held left) → Shares n tally tally' rest held held' → Begun given (prepend_known held' left) (expected ++ take (done + n) text)
begun_on n done tally tally' text rest held held' expected given b left e p q h =
    subst (Begun given (prepend_known held' left)) (append_assoc expected (take done text) (take n rest) ∙ ap (λ (l : List ℕ). expected ++ l) (sym (taken_more n done text rest e)))
    (begun_more given b left held held' (expected ++ take done text) (take n rest) p q h.taken)

pub tally_on : (n done first tally tally' : ℕ) (text rest held held' : List ℕ) → rest ≡ drop done text → tally ≡ first + feeds (take done text) → Shares n tally tally' rest held held'
    → tally' ≡ first + feeds (take (done + n) text)
tally_on n done first tally tally' text rest held held' e t h =
    let all : feeds (take (done + n) text) ≡ feeds (take done text) + feeds (take n rest) = ap feeds (taken_more n done text rest e) ∙ feeds-append (take done text) (take n rest) in
    let now = h.tally_is in
    omega (arith, t, all, now)

-- no more line feeds are counted than the text has
pub few_counted : (n first tally : ℕ) (text : List ℕ) → tally ≡ first + feeds (take n text) → tally ≤ first + feeds text
few_counted n first tally text e = omega (arith, e, feeds-parts n text)

-- some bytes were shared, where the first ones are no others
pub some_shared : (n tally tally' : ℕ) (rest held held' : List ℕ) → Shares n tally tally' rest held held' → 0 < length held → 0 < length rest → (n < length rest → length held' ≤ 0) → 0 < n
some_shared n tally tally' rest held held' h some some' none = elim (cases_lt n (length rest)) [
  | inl more ↦
      let size : length held ≡ length (take n rest) + length held' = ap (λ (l : List ℕ). length l) h.taken ∙ length-append (take n rest) held' in
      omega (arith, size, none more, some, length-take-le n rest)
  | inr all ↦ omega (arith, all, some')
]

pub stands_whole : (tally done : ℕ) (text expected : List ℕ) (given b : Option (List ℕ)) → length text ≤ done → Far tally (expected ++ take done text) given b
    → StandsBy state.Matching tally (expected ++ text) given b
stands_whole tally done text expected given b all far =
    let whole : expected ++ take done text ≡ expected ++ text = ap (λ (l : List ℕ). expected ++ l) (take_all done text all) in
    (far.tally_is ∙ ap feeds whole, subst (Begun given b) whole far.begun)

-- ---- what a comparison comes to

filled_begun : (f : Bool) (given b c : Option (List ℕ)) (expected : List ℕ) → Begun given b expected → Filled f b c → Begun given c expected
filled_begun f given b c expected p q = WhereTold-then given b c p q (λ x y z m n. m ∙ ap (λ (l : List ℕ). expected ++ l) n.0)

pub verdict_further : ExpectedEnds → (tally line : ℕ) (expected held : List ℕ) (given b left : Option (List ℕ)) → IsWhole expected → Far tally expected given b → Filled true b (prepend_known held left)
    → 0 < length held → line ≡ tally + 1 → VerdictGives (Ok (verdict.Differs line)) expected given (prepend_known held left)
verdict_further ends tally line expected held given b left whole far q some l =
    let is : feeds expected + 1 ≡ line = ap (λ (k : ℕ). k + 1) (sym far.tally_is) ∙ sym l in
    subst (λ (k : ℕ). WhereTold given (prepend_known held left) (λ before after. first_other_line expected before ≡ Some k)) is
    (further_line ends given left expected held whole some (filled_begun true given b (prepend_known held left) expected far.begun q))

pub verdict_same : SameLaws → (tally line : ℕ) (expected : List ℕ) (given b c : Option (List ℕ)) → IsWhole expected → Far tally expected given b → Filled false b c → line ≡ tally + 1
    → VerdictGives (Ok (verdict.Same (line - 1))) expected given c
verdict_same laws tally line expected given b c whole far q l =
    let is : line - 1 ≡ tally = omega (arith, l) in
    (line_count laws expected (line - 1) whole (is ∙ far.tally_is), same_text laws given b c expected far.begun q)

pub verdict_other : (s : State) (line tally : ℕ) (expected : List ℕ) (given c : Option (List ℕ)) → s ≡ state.Other line → HasNoEmptyLine expected → StandsBy s tally expected given c
    → VerdictGives (Ok (verdict.Differs line)) expected given c
verdict_other s line tally expected given c e full h = other_found line given c expected full (subst (λ (t : State). StandsBy t tally expected given c) e h).1

pub verdict_lacking : SameLaws → (s : State) (line tally count : ℕ) (expected : List ℕ) (given c : Option (List ℕ)) → s ≡ state.Lacking line → IsWhole expected → HasNoEmptyLine expected
    → StandsBy s tally expected given c → count ≡ tally + 1 → VerdictGives (Ok (verdict.Same count)) expected given c
verdict_lacking laws s line tally count expected given c e whole full h is =
    let stands = subst (λ (t : State). StandsBy t tally expected given c) e h in
    (line_count laws expected count whole (is ∙ stands.0), lacking_feed laws line given c expected full stands.1)

pub verdict_broken : (s : State) (tally : ℕ) (failed : Failed) (expected : List ℕ) (given c : Option (List ℕ)) → s ≡ state.Broken → StandsBy s tally expected given c
    → VerdictGives (Err failed) expected given c
verdict_broken s tally failed expected given c e h = breaks_within given c expected (subst (λ (t : State). StandsBy t tally expected given c) e h).1

-- a test that found a byte
pub some_bytes : (xs : List ℕ) → false ≡ (length xs == 0) → 0 < length xs
some_bytes [] h = absurd (false≢true h)
some_bytes (x ∷ xs) h = omega arith
