-- Lines of a fault location, one after another.
use Rattle.std.proofs.Common.{ℕ, ◌+◌, ◌<◌, ◌≤◌, ◌≡◌, ◌≢◌, true, false, List, [], ◌∷◌, ◌++◌, length, Option, Some, None, Result, Ok, Err, refl, lit≤, sym, ap, subst, ◌∙◌, arith, append_assoc}
use Rattle.std.specs.Prelude.{nat_lt}
use Rattle.std.proofs.lemmas.Bool.{le-ltb, lt-ltb}
use Rattle.std.specs.Io.KnownBytes.{prepend_known}
use Rattle.mt_port.specs.Streams.{WhereTold}
use Rattle.mt_port.specs.declared.board.Shape.{Shape}
use Rattle.mt_port.specs.Inner.Streams.{WhereTold-then, WhereTold-map}
use Rattle.mt_blocks.specs.declared.config.ParamSet.{ParamSet}
use Rattle.mt_locate.specs.declared.probe.Probe.{Probe}
use Rattle.mt_locate.specs.declared.probe.Miss.{Miss}
use Rattle.mt_replay.specs.declared.input.Line.TheVariants as line
use Rattle.mt_replay.specs.declared.job.Follows.{Follows}
use Rattle.mt_replay.specs.declared.job.Follows.TheVariants as follows
use Rattle.mt_replay.specs.declared.run.End.{End}
use Rattle.mt_replay.specs.declared.run.End.TheVariants as end
use Rattle.mt_replay.specs.Input.{Ending, Finished, Failed, Cut, cut}
use Rattle.mt_replay.specs.Locating.{◌>>=◌, Located, limited, broken_off, slice_said, miss_said, misses_from, missed, with_misses, located, located_lines}
use Rattle.mt_replay.specs.Inner.Reading.{HasNoFeed, BeginsTooLong, TakesLine}
use Rattle.mt_replay.specs.Inner.Runs.{IsRefusal}
use Rattle.mt_replay.specs.declared.locating.Stop.{Stop}
use Rattle.mt_replay.specs.declared.locating.Stop.TheVariants as stop
use Rattle.mt_replay.specs.Inner.Locating.{Reader, IsAll, EndsBy, Takes, led_by, TextGives, SliceGives, LineGives, MissesGive, LocatedGives}
use Rattle.mt_replay.proofs.Lines.{cut-line, cut-rest, Filled}
use Rattle.mt_replay.proofs.Runs.{cut-some, told-some}

-- ---- readers

-- a refusal, whatever comes
pub EndsBy-refusal : {A : Type 0} (e : End) (reader : Reader A) (before after : List ℕ) → IsRefusal e → reader Finished (cut before) ≡ Err e → EndsBy e reader before after
EndsBy-refusal (end.Whole count) reader before after r h = r
EndsBy-refusal (end.Refused n code at) reader before after r h = h
EndsBy-refusal end.Broken reader before after r h = absurd r

-- a way of reading that keeps each end
abbrev pub KeepsEnds : {A B : Type 0} → (Result B End → Result A End) → Type 0
KeepsEnds with = (e : End) → with (Err e) ≡ Err e

through : {A B : Type 0} (reader : Reader A) (more : Reader B) (with : Result B End → Result A End) (before after : List ℕ) → Takes reader more with before after
    → reader Finished (cut before) ≡ with (more Finished (cut after))
through reader more with before after t = ap (λ (l : List ℕ). reader Finished (cut l)) t.taken ∙ t.read Finished after

-- an end behind what was read before
pub ends_after : {A B : Type 0} (e : End) (reader : Reader A) (more : Reader B) (with : Result B End → Result A End) (x y z : List ℕ) → KeepsEnds with
    → Takes reader more with x y → EndsBy e more y z → EndsBy e reader x z
ends_after (end.Whole count) reader more with x y z keeps t h = h
ends_after (end.Refused n code at) reader more with x y z keeps t h = through reader more with x y t ∙ ap with h ∙ keeps (end.Refused n code at)
ends_after end.Broken reader more with x y z keeps t h = record {
  front = t.front ++ h.front;
  taken = t.taken ∙ ap (λ (l : List ℕ). t.front ++ l) h.taken ∙ sym (append_assoc t.front h.front z);
  read = t.read Failed h.front ∙ ap with h.read ∙ keeps end.Broken;
}

-- all that is left, behind what was read before
pub all_after : {A B : Type 0} (reader : Reader A) (more : Reader B) (with : Result B End → Result A End) (a : A) (b : B) (x y z : List ℕ) → with (Ok b) ≡ Ok a
    → Takes reader more with x y → IsAll more b y z → IsAll reader a x z
all_after reader more with a b x y z e t h = record { read = through reader more with x y t ∙ ap with h.read ∙ e; all = h.all }

-- two parts, one after the other
pub takes_after : {A B D : Type 0} (reader : Reader A) (more : Reader B) (last : Reader D) (with : Result B End → Result A End) (with' : Result D End → Result B End) (both : Result D End → Result A End)
    (x y z : List ℕ) → ((r : Result D End) → with (with' r) ≡ both r) → Takes reader more with x y → Takes more last with' y z → Takes reader last both x z
takes_after reader more last with with' both x y z same t u = record {
  front = t.front ++ u.front;
  taken = t.taken ∙ ap (λ (l : List ℕ). t.front ++ l) u.taken ∙ sym (append_assoc t.front u.front z);
  read = λ ending rest.
      ap (λ (l : List ℕ). reader ending (cut l)) (append_assoc t.front u.front rest) ∙ t.read ending (u.front ++ rest) ∙ ap with (u.read ending rest) ∙ same (last ending (cut rest));
}

-- ---- one line

pub limited-within : {A : Type 0} (n : ℕ) (text : List ℕ) (line : Result A End) → n ≤ 1000000 → length text ≤ 1024 → limited n text line ≡ line
limited-within n text line few short =
    let one : nat_lt 1000000 n ≡ false = le-ltb _ _ few in
    let two : nat_lt 1024 (length text) ≡ false = le-ltb _ _ short in
    rw (one, two) refl

limited-long : {A : Type 0} (n : ℕ) (text : List ℕ) (line : Result A End) → n ≤ 1000000 → 1024 < length text → limited n text line ≡ Err (end.Refused n 10 1025)
limited-long n text line few long =
    let one : nat_lt 1000000 n ≡ false = le-ltb _ _ few in
    let two : nat_lt 1024 (length text) ≡ true = lt-ltb _ _ long in
    rw (one, two) refl

broken-within : {A : Type 0} (n : ℕ) (text : List ℕ) → n ≤ 1000000 → length text ≤ 1024 → broken_off {A = A} n text ≡ Err end.Broken
broken-within n [] few short = refl
broken-within n (byte ∷ bytes) few short = limited-within n (byte ∷ bytes) (Err end.Broken) few short

-- ---- the line of a miss

-- what is made of a miss: it stands in front of those that follow it
abbrev followed : Probe → Ending → ℕ → Cut → Miss → Result (List Miss) End
followed probe ending n behind miss = missed probe n (Some miss.index) ending behind >>= λ others. Ok (miss ∷ others)

miss-whole : (probe : Probe) (ending : Ending) (n : ℕ) (last : Option ℕ) (text after before : List ℕ) → before ≡ text ++ 10 ∷ after → HasNoFeed text
    → missed probe n last ending (cut before) ≡ (miss_said probe n last text >>= followed probe ending (n + 1) (cut after))
miss-whole probe ending n last text after before e feeds = ap (λ (l : List ℕ). missed probe n last ending (cut l)) e ∙ ap (missed probe n last ending) (cut-line text after feeds)

miss-some : (probe : Probe) (n : ℕ) (last : Option ℕ) (text : List ℕ) → 0 < length text
    → misses_from probe Finished n last [] text ≡ (miss_said probe n last text >>= λ miss. Ok (miss ∷ []))
miss-some probe n last [] h = absurd (omega arith)
miss-some probe n last (byte ∷ bytes) h = refl

miss-last : (probe : Probe) (n : ℕ) (last : Option ℕ) (text before after : List ℕ) → TakesLine line.Last text before after
    → missed probe n last Finished (cut before) ≡ (miss_said probe n last text >>= λ miss. Ok (miss ∷ []))
miss-last probe n last text before after h =
    ap (λ (bytes : List ℕ). missed probe n last Finished (cut bytes)) h.0 ∙ ap (missed probe n last Finished) (cut-rest text h.1) ∙ miss-some probe n last text h.2

miss-long : (probe : Probe) (n : ℕ) (last : Option ℕ) (lines : List (List ℕ)) (rest : List ℕ) → n ≤ 1000000 → BeginsTooLong lines rest
    → misses_from probe Finished n last lines rest ≡ Err (end.Refused n 10 1025)
miss-long probe n last [] [] few long = absurd (omega (arith, long))
miss-long probe n last [] (byte ∷ bytes) few long = ap (λ (r : Result Miss End). r >>= λ miss. Ok (miss ∷ [])) (limited-long n (byte ∷ bytes) _ few long)
miss-long probe n last (first ∷ more) rest few long =
    ap (λ (r : Result Miss End). r >>= followed probe Finished (n + 1) (record { lines = more; rest = rest })) (limited-long n first _ few long)

-- a line was read and taken
pub next_line : (f : Follows) (miss : Miss) (probe : Probe) (n : ℕ) (last : Option ℕ) (text : List ℕ) (a b : Option (List ℕ)) → WhereTold a b (TextGives (Ok (Some f)) n text)
    → Ok miss ≡ miss_said probe n last text → WhereTold a b (LineGives f miss probe n last)
next_line follows.Lines miss probe n last text a b p e = WhereTold-map a b p (λ x y h. record {
  front = text ++ 10 ∷ [];
  taken = h.0 ∙ sym (append_assoc text (10 ∷ []) y);
  read = λ ending rest.
      miss-whole probe ending n last text rest ((text ++ 10 ∷ []) ++ rest) (append_assoc text (10 ∷ []) rest) h.1 ∙ ap (λ (r : Result Miss End). r >>= followed probe ending (n + 1) (cut rest)) (sym e);
})
next_line follows.Nothing miss probe n last text a b p e = WhereTold-map a b p (λ x y h. record {
  read = miss-last probe n last text x y h ∙ ap (λ (r : Result Miss End). r >>= λ m. Ok (m ∷ [])) (sym e);
  all = h.3;
})

-- a line was read and refused
pub next_refused : (f : Follows) (e : End) (probe : Probe) (n : ℕ) (last : Option ℕ) (text : List ℕ) (a b : Option (List ℕ)) → WhereTold a b (TextGives (Ok (Some f)) n text)
    → Err e ≡ miss_said probe n last text → IsRefusal e → WhereTold a b (EndsBy e (missed probe n last))
next_refused follows.Lines e probe n last text a b p is r = WhereTold-map a b p (λ x y h.
    EndsBy-refusal e (missed probe n last) x y r
    (miss-whole probe Finished n last text y x h.0 h.1 ∙ ap (λ (s : Result Miss End). s >>= followed probe Finished (n + 1) (cut y)) (sym is)))
next_refused follows.Nothing e probe n last text a b p is r = WhereTold-map a b p (λ x y h.
    EndsBy-refusal e (missed probe n last) x y r (miss-last probe n last text x y h ∙ ap (λ (s : Result Miss End). s >>= λ m. Ok (m ∷ [])) (sym is)))

-- a line is too long, or breaks off
pub next_ends : (e : End) (probe : Probe) (n : ℕ) (last : Option ℕ) (text : List ℕ) (a b : Option (List ℕ)) → n ≤ 1000000
    → WhereTold a b (TextGives (Err e) n text) → WhereTold a b (EndsBy e (missed probe n last))
next_ends (end.Whole count) probe n last text a b few p = p
next_ends (end.Refused m code at) probe n last text a b few p = WhereTold-map a b p (λ x y h. miss-long probe n last (cut x).lines (cut x).rest few h.1 ∙ ap (λ (e : End). let r : Result (List Miss) End = Err e in r) (sym h.0))
next_ends end.Broken probe n last text a b few p = WhereTold-map a b p (λ x y h. record {
  front = text;
  taken = h.taken;
  read = ap (missed probe n last Failed) (cut-rest text h.line) ∙ broken-within n text few h.short;
})

-- ---- beyond the last line that may be

past-from : (probe : Probe) (last : Option ℕ) (lines : List (List ℕ)) (rest : List ℕ) → ((lines ≡ []) → rest ≢ []) → misses_from probe Finished 1000001 last lines rest ≡ Err (end.Refused 1000001 11 1)
past-from probe last [] [] some = absurd (some refl refl)
past-from probe last [] (byte ∷ bytes) some = refl
past-from probe last (first ∷ more) rest some = refl

-- there is a line too many
pub past_line : (probe : Probe) (last : Option ℕ) (a left : Option (List ℕ)) (held : List ℕ) → 0 < length held → Filled true a (prepend_known held left)
    → WhereTold a (prepend_known held left) (EndsBy (end.Refused 1000001 11 1) (missed probe 1000001 last))
past_line probe last a left held h p =
    WhereTold-then a (prepend_known held left) (prepend_known held left) p (told-some left held h)
    (λ x y z e f. ap (λ (l : List ℕ). missed probe 1000001 last Finished (cut l)) e.0 ∙ past-from probe last (cut y).lines (cut y).rest (cut-some y f))

-- ---- the line of the slice

abbrev opened : Ending → Cut → Probe → Result Located End
opened ending behind probe = with_misses probe (missed probe 2 None ending behind)

slice-whole : (shape : Shape) (initial : ℕ) (sets : List ParamSet) (ending : Ending) (text after before : List ℕ) → before ≡ text ++ 10 ∷ after → HasNoFeed text
    → located shape initial sets ending (cut before) ≡ (slice_said shape initial sets text >>= opened ending (cut after))
slice-whole shape initial sets ending text after before e feeds =
    ap (λ (l : List ℕ). located shape initial sets ending (cut l)) e ∙ ap (located shape initial sets ending) (cut-line text after feeds)

slice-some : (shape : Shape) (initial : ℕ) (sets : List ParamSet) (text : List ℕ) → 0 < length text
    → located_lines shape initial sets Finished [] text ≡ (slice_said shape initial sets text >>= λ probe. with_misses probe (Ok []))
slice-some shape initial sets [] h = absurd (omega arith)
slice-some shape initial sets (byte ∷ bytes) h = refl

slice-last : (shape : Shape) (initial : ℕ) (sets : List ParamSet) (text before after : List ℕ) → TakesLine line.Last text before after
    → located shape initial sets Finished (cut before) ≡ (slice_said shape initial sets text >>= λ probe. with_misses probe (Ok []))
slice-last shape initial sets text before after h =
    ap (λ (bytes : List ℕ). located shape initial sets Finished (cut bytes)) h.0 ∙ ap (located shape initial sets Finished) (cut-rest text h.1) ∙ slice-some shape initial sets text h.2

slice-long : (shape : Shape) (initial : ℕ) (sets : List ParamSet) (lines : List (List ℕ)) (rest : List ℕ) → BeginsTooLong lines rest
    → located_lines shape initial sets Finished lines rest ≡ Err (end.Refused 1 10 1025)
slice-long shape initial sets [] [] long = absurd (omega (arith, long))
slice-long shape initial sets [] (byte ∷ bytes) long =
    ap (λ (r : Result Probe End). r >>= λ probe. with_misses probe (Ok [])) (limited-long 1 (byte ∷ bytes) _ (lit≤ tt) long)
slice-long shape initial sets (first ∷ more) rest long =
    ap (λ (r : Result Probe End). r >>= opened Finished (record { lines = more; rest = rest })) (limited-long 1 first _ (lit≤ tt) long)

-- the line was read and taken
pub slice_line : (f : Follows) (probe : Probe) (shape : Shape) (initial : ℕ) (sets : List ParamSet) (text : List ℕ) (a b : Option (List ℕ)) → WhereTold a b (TextGives (Ok (Some f)) 1 text)
    → Ok probe ≡ slice_said shape initial sets text → WhereTold a b (SliceGives f probe (located shape initial sets))
slice_line follows.Lines probe shape initial sets text a b p e = WhereTold-map a b p (λ x y h. record {
  front = text ++ 10 ∷ [];
  taken = h.0 ∙ sym (append_assoc text (10 ∷ []) y);
  read = λ ending rest.
      slice-whole shape initial sets ending text rest ((text ++ 10 ∷ []) ++ rest) (append_assoc text (10 ∷ []) rest) h.1 ∙ ap (λ (r : Result Probe End). r >>= opened ending (cut rest)) (sym e);
})
slice_line follows.Nothing probe shape initial sets text a b p e = WhereTold-map a b p (λ x y h. record {
  read = slice-last shape initial sets text x y h ∙ ap (λ (r : Result Probe End). r >>= λ q. with_misses q (Ok [])) (sym e);
  all = h.3;
})

-- the line was read and refused
pub slice_refused : (f : Follows) (e : End) (shape : Shape) (initial : ℕ) (sets : List ParamSet) (text : List ℕ) (a b : Option (List ℕ)) → WhereTold a b (TextGives (Ok (Some f)) 1 text)
    → Err e ≡ slice_said shape initial sets text → IsRefusal e → WhereTold a b (EndsBy e (located shape initial sets))
slice_refused follows.Lines e shape initial sets text a b p is r = WhereTold-map a b p (λ x y h.
    EndsBy-refusal e (located shape initial sets) x y r
    (slice-whole shape initial sets Finished text y x h.0 h.1 ∙ ap (λ (s : Result Probe End). s >>= opened Finished (cut y)) (sym is)))
slice_refused follows.Nothing e shape initial sets text a b p is r = WhereTold-map a b p (λ x y h.
    EndsBy-refusal e (located shape initial sets) x y r (slice-last shape initial sets text x y h ∙ ap (λ (s : Result Probe End). s >>= λ q. with_misses q (Ok [])) (sym is)))

-- the line is too long, or breaks off
pub slice_ends : (e : End) (shape : Shape) (initial : ℕ) (sets : List ParamSet) (text : List ℕ) (a b : Option (List ℕ))
    → WhereTold a b (TextGives (Err e) 1 text) → WhereTold a b (EndsBy e (located shape initial sets))
slice_ends (end.Whole count) shape initial sets text a b p = p
slice_ends (end.Refused m code at) shape initial sets text a b p = WhereTold-map a b p (λ x y h. slice-long shape initial sets (cut x).lines (cut x).rest h.1 ∙ ap (λ (e : End). let r : Result Located End = Err e in r) (sym h.0))
slice_ends end.Broken shape initial sets text a b p = WhereTold-map a b p (λ x y h. record {
  front = text;
  taken = h.taken;
  read = ap (located shape initial sets Failed) (cut-rest text h.line) ∙ broken-within 1 text (lit≤ tt) h.short;
})

-- ---- all lines

pub led_by-ends : (misses : List Miss) → KeepsEnds (led_by misses)
led_by-ends misses e = refl

pub led_by-append : (a b : List Miss) (r : Result (List Miss) End) → led_by a (led_by b r) ≡ led_by (a ++ b) r
led_by-append a b (Ok more) = ap (λ (l : List Miss). let r : Result (List Miss) End = Ok l in r) (sym (append_assoc a b more))
led_by-append a b (Err e) = refl

-- misses that were read, one line after another
abbrev pub Missed : Probe → ℕ → Option ℕ → List Miss → (before after : List ℕ) → Type 0
Missed probe n last misses before after = Takes (missed probe 2 None) (missed probe n last) (led_by misses) before after

-- none is read yet
pub none_missed : (probe : Probe) (a : Option (List ℕ)) (misses : List Miss) → misses ≡ [] → WhereTold a a (Missed probe 2 None misses)
none_missed probe a misses none = subst (λ (m : List Miss). WhereTold a a (Missed probe 2 None m)) (sym none) (told a)
  where
    same : (r : Result (List Miss) End) → r ≡ led_by [] r
    same (Ok more) = refl
    same (Err e) = refl

    told : (x : Option (List ℕ)) → WhereTold x x (Missed probe 2 None [])
    told None = tt
    told (Some xs) = record { front = []; taken = refl; read = λ ending rest. same (missed probe 2 None ending (cut rest)) }

-- one more
pub one_missed : (f : Follows) (probe : Probe) (n : ℕ) (last : Option ℕ) (misses misses' : List Miss) (miss : Miss) (a b c : Option (List ℕ)) → f ≡ follows.Lines → misses' ≡ misses ++ miss ∷ []
    → WhereTold a b (Missed probe n last misses) → WhereTold b c (LineGives f miss probe n last) → WhereTold a c (Missed probe (n + 1) (Some miss.index) misses')
one_missed f probe n last misses misses' miss a b c lines e p q =
    subst (λ (m : List Miss). WhereTold a c (Missed probe (n + 1) (Some miss.index) m)) (sym e)
    (WhereTold-then a b c p (subst (λ (g : Follows). WhereTold b c (LineGives g miss probe n last)) lines q) (λ x y z t u.
    takes_after (missed probe 2 None) (missed probe n last) (missed probe (n + 1) (Some miss.index)) (led_by misses) (led_by (miss ∷ [])) (led_by (misses ++ miss ∷ [])) x y z (led_by-append misses (miss ∷ [])) t u))

-- these are all, with some more
pub all_missed : (probe : Probe) (n : ℕ) (last : Option ℕ) (misses more misses' : List Miss) (a b c : Option (List ℕ)) → misses' ≡ misses ++ more → WhereTold a b (Missed probe n last misses)
    → WhereTold b c (IsAll (missed probe n last) more) → WhereTold a c (IsAll (missed probe 2 None) misses')
all_missed probe n last misses more misses' a b c e p q =
    WhereTold-then a b c p q (λ x y z t u. all_after (missed probe 2 None) (missed probe n last) (led_by misses) misses' more x y z (ap (λ (l : List Miss). let r : Result (List Miss) End = Ok l in r) (sym e)) t u)

-- the last one
pub last_missed : (f : Follows) (probe : Probe) (n : ℕ) (last : Option ℕ) (misses misses' : List Miss) (miss : Miss) (a b c : Option (List ℕ)) → f ≡ follows.Nothing → misses' ≡ misses ++ miss ∷ []
    → WhereTold a b (Missed probe n last misses) → WhereTold b c (LineGives f miss probe n last) → WhereTold a c (IsAll (missed probe 2 None) misses')
last_missed f probe n last misses misses' miss a b c nothing e p q =
    all_missed probe n last misses (miss ∷ []) misses' a b c e p (subst (λ (g : Follows). WhereTold b c (LineGives g miss probe n last)) nothing q)

-- they end behind these
pub ends_missed : (e : End) (probe : Probe) (n : ℕ) (last : Option ℕ) (misses : List Miss) (a b c : Option (List ℕ)) → WhereTold a b (Missed probe n last misses)
    → WhereTold b c (EndsBy e (missed probe n last)) → WhereTold a c (EndsBy e (missed probe 2 None))
ends_missed e probe n last misses a b c p q =
    WhereTold-then a b c p q (λ x y z t u. ends_after e (missed probe 2 None) (missed probe n last) (led_by misses) x y z (led_by-ends misses) t u)

-- the slice, and then its misses
pub all_located : (probe : Probe) (shape : Shape) (initial : ℕ) (sets : List ParamSet) (misses : List Miss) (a b c : Option (List ℕ))
    → WhereTold a b (SliceGives follows.Lines probe (located shape initial sets)) → WhereTold b c (IsAll (missed probe 2 None) misses)
    → WhereTold a c (IsAll (located shape initial sets) (record { probe = probe; misses = misses }))
all_located probe shape initial sets misses a b c p q =
    WhereTold-then a b c p q (λ x y z t u. all_after (located shape initial sets) (missed probe 2 None) (with_misses probe) _ misses x y z refl t u)

-- the slice, and then an end, or no memory
pub stop_located : (s : Stop) (probe : Probe) (shape : Shape) (initial : ℕ) (sets : List ParamSet) (misses : List Miss) (a b c : Option (List ℕ))
    → WhereTold a b (SliceGives follows.Lines probe (located shape initial sets)) → WhereTold b c (MissesGive (Err s) probe misses)
    → WhereTold a c (LocatedGives (Err s) (located shape initial sets) misses)
stop_located (stop.Ended e) probe shape initial sets misses a b c p q =
    WhereTold-then a b c p q (λ x y z t u. ends_after e (located shape initial sets) (missed probe 2 None) (with_misses probe) x y z (λ e. refl) t u)
stop_located stop.NoMemory probe shape initial sets misses a b c p q = WhereTold-then a b c p q (λ x y z t u. tt)
