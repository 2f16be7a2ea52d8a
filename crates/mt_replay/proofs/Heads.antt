-- The configuration at the front of a job.
use Rattle.std.proofs.Common.{ℕ, ◌+◌, ◌<◌, ◌≤◌, ◌≡◌, ◌≢◌, Bool, true, false, cond, List, [], ◌∷◌, ◌++◌, length, take, drop, Option, Some, None, inl, inr, refl, sym, ap, ◌∙◌, subst, arith, append_assoc, append-nil, length-append}
use Rattle.std.specs.Str.{bytes_eq}
use Rattle.std.proofs.lemmas.Slice.Eq.{bytes_eq-Decides}
use Rattle.std.proofs.lemmas.List.{take-append-drop, take-append-le, take_all, drop_all, drop-append-le}
use Rattle.std.specs.Io.KnownBytes.{prepend_known}
use Rattle.mt_port.specs.Streams.{WhereTold}
use Rattle.mt_port.specs.Inner.Streams.{WhereTold-then, WhereTold-map}
use Rattle.mt_replay.specs.Input.{Ending, Finished, Failed, Cut, cut, separator, Job, Parted, Whole, preceded_by, parted, parted_at_end, job_of}
use Rattle.mt_replay.specs.Inner.Reading.{HasNoFeed}
use Rattle.mt_replay.specs.Inner.Head.{ByteGives, IsTooLong, Parts, EndsWith, Exceeds, HeadBreaks}
use Rattle.mt_replay.proofs.Lines.{Filled, cut-line, cut-rest, cut-long, BeginsWith}

pub preceded_by-nil : (job : Job) → preceded_by [] job ≡ job
preceded_by-nil (Parted config script) = refl
preceded_by-nil (Whole bytes) = refl

pub preceded_by-again : (a b : List ℕ) (job : Job) → preceded_by a (preceded_by b job) ≡ preceded_by (a ++ b) job
preceded_by-again a b (Parted config script) = ap (λ (l : List ℕ). Parted l script) (sym (append_assoc a b config))
preceded_by-again a b (Whole bytes) = ap Whole (sym (append_assoc a b bytes))

-- a first line that is a separator
pub job-separator : (ending : Ending) (line rest : List ℕ) → HasNoFeed line → bytes_eq line separator ≡ true → job_of ending (line ++ 10 ∷ rest) ≡ Parted [] (cut rest)
job-separator ending line rest feeds is =
    ap (λ (k : Cut). parted ending k.lines k.rest) (cut-line line rest feeds)
    ∙ ap (λ (b : Bool). cond b (Parted [] (cut rest)) (preceded_by (line ++ 10 ∷ []) (job_of ending rest))) is

-- another first line
pub job-line : (ending : Ending) (line rest : List ℕ) → HasNoFeed line → bytes_eq line separator ≡ false → job_of ending (line ++ 10 ∷ rest) ≡ preceded_by (line ++ 10 ∷ []) (job_of ending rest)
job-line ending line rest feeds is =
    ap (λ (k : Cut). parted ending k.lines k.rest) (cut-line line rest feeds)
    ∙ ap (λ (b : Bool). cond b (Parted [] (cut rest)) (preceded_by (line ++ 10 ∷ []) (job_of ending rest))) is

-- no whole line
pub job-rest : (ending : Ending) (line : List ℕ) → HasNoFeed line → job_of ending line ≡ parted_at_end ending line
job-rest ending line feeds = ap (λ (k : Cut). parted ending k.lines k.rest) (cut-rest line feeds)

-- ---- what was taken so far

-- Whole lines that are no separator, and a line that goes on.
pub record Begun (whole line : List ℕ) : Type 0 where
  pub feeds : HasNoFeed line
  pub job : (ending : Ending) (rest : List ℕ) → job_of ending ((whole ++ line) ++ rest) ≡ preceded_by whole (job_of ending (line ++ rest))

pub Begun-none : Begun [] []
Begun-none = record { feeds = tt; job = λ ending rest. sym (preceded_by-nil (job_of ending rest)) }

-- the configuration has at least n bytes, but for a separator that may not be whole
abbrev pub HasBytes : ℕ → Job → Type 0
HasBytes n (Parted config script) = n ≤ length config + 5
HasBytes n (Whole bytes) = n ≤ length bytes

HasBytes-preceded : (n : ℕ) (front : List ℕ) (job : Job) → HasBytes n job → HasBytes (length front + n) (preceded_by front job)
HasBytes-preceded n front (Parted config script) h = omega (arith, h, length-append front config)
HasBytes-preceded n front (Whole bytes) h = omega (arith, h, length-append front bytes)

front_bytes : (n : ℕ) (front : List ℕ) (job : Job) → n ≤ length front → HasBytes n (preceded_by front job)
front_bytes n front (Parted config script) h = omega (arith, h, length-append front config)
front_bytes n front (Whole bytes) h = omega (arith, h, length-append front bytes)

pub too_long_job : (job : Job) → HasBytes 65542 job → IsTooLong job
too_long_job (Parted config script) h = omega (arith, h)
too_long_job (Whole bytes) h = h

HasNoFeed-push : (xs : List ℕ) (y : ℕ) → HasNoFeed xs → y ≢ 10 → HasNoFeed (xs ++ y ∷ [])
HasNoFeed-push [] y h e = (e, tt)
HasNoFeed-push (x ∷ xs) y h e = (h.0, HasNoFeed-push xs y h.1 e)

-- one more byte of the line
pub Begun-byte : (whole line : List ℕ) (byte : ℕ) → byte ≢ 10 → Begun whole line → Begun whole (line ++ byte ∷ [])
Begun-byte whole line byte other b = record {
  feeds = HasNoFeed-push line byte b.feeds other;
  job = λ ending rest.
      ap (job_of ending) (ap (λ (l : List ℕ). l ++ rest) (sym (append_assoc whole line (byte ∷ []))) ∙ append_assoc (whole ++ line) (byte ∷ []) rest)
      ∙ b.job ending (byte ∷ rest) ∙ ap (λ (l : List ℕ). preceded_by whole (job_of ending l)) (sym (append_assoc line (byte ∷ []) rest));
}

-- the line is whole, and no separator
pub Begun-line : (whole line : List ℕ) → bytes_eq line separator ≡ false → Begun whole line → Begun (whole ++ line ++ 10 ∷ []) []
Begun-line whole line is b = record {
  feeds = tt;
  job = λ ending rest.
      ap (λ (l : List ℕ). job_of ending (l ++ rest)) (append-nil ((whole ++ line) ++ 10 ∷ []))
      ∙ ap (job_of ending) (append_assoc (whole ++ line) (10 ∷ []) rest)
      ∙ b.job ending (10 ∷ rest)
      ∙ ap (preceded_by whole) (job-line ending line rest b.feeds is)
      ∙ preceded_by-again whole (line ++ 10 ∷ []) (job_of ending rest)
      ∙ ap (λ (l : List ℕ). preceded_by l (job_of ending rest)) (sym (append_assoc whole line (10 ∷ [])));
}

whole_parted : (whole : List ℕ) (script : Cut) → preceded_by whole (Parted [] script) ≡ Parted whole script
whole_parted whole script = ap (λ (l : List ℕ). Parted l script) (append-nil whole)

-- the line is a separator
pub begun_parts : (whole line : List ℕ) → bytes_eq line separator ≡ true → Begun whole line → (ending : Ending) (rest : List ℕ) → job_of ending (((whole ++ line) ++ 10 ∷ []) ++ rest) ≡ Parted whole (cut rest)
begun_parts whole line is b ending rest =
    ap (job_of ending) (append_assoc (whole ++ line) (10 ∷ []) rest) ∙ b.job ending (10 ∷ rest) ∙ ap (preceded_by whole) (job-separator ending line rest b.feeds is) ∙ whole_parted whole (cut rest)

no_script : Cut
no_script = record { lines = []; rest = [] }

begun_end : (ending : Ending) (whole line : List ℕ) → Begun whole line → job_of ending (whole ++ line) ≡ preceded_by whole (parted_at_end ending line)
begun_end ending whole line b =
    ap (job_of ending) (sym (append-nil (whole ++ line))) ∙ b.job ending [] ∙ ap (λ (l : List ℕ). preceded_by whole (job_of ending l)) (append-nil line) ∙ ap (preceded_by whole) (job-rest ending line b.feeds)

pub begun_parts_at_end : (whole line : List ℕ) → bytes_eq line separator ≡ true → Begun whole line → job_of Finished (whole ++ line) ≡ Parted whole (record { lines = []; rest = [] })
begun_parts_at_end whole line is b =
    begun_end Finished whole line b ∙ ap (λ (t : Bool). preceded_by whole (cond t (Parted [] (record { lines = []; rest = [] })) (Whole line))) is ∙ whole_parted whole (record { lines = []; rest = [] })

pub begun_whole : (whole line : List ℕ) → bytes_eq line separator ≡ false → Begun whole line → job_of Finished (whole ++ line) ≡ Whole (whole ++ line)
begun_whole whole line is b =
    begun_end Finished whole line b ∙ ap (λ (t : Bool). preceded_by whole (cond t (Parted [] (record { lines = []; rest = [] })) (Whole line))) is

pub begun_breaks : (whole line : List ℕ) → Begun whole line → job_of Failed (whole ++ line) ≡ Whole (whole ++ line)
begun_breaks whole line b = begun_end Failed whole line b

-- ---- a configuration that is too long

separator_is : (line : List ℕ) → bytes_eq line separator ≡ true → length line ≡ 5
separator_is line is = let d = bytes_eq-Decides line separator in let same : line ≡ separator = grind (arith, d) in ap length same

at_end_bytes : (n : ℕ) (ending : Ending) (rest : List ℕ) (t : Bool) → bytes_eq rest separator ≡ t → n ≤ length rest → HasBytes n (parted_at_end ending rest)
at_end_bytes n Finished rest true is h = rw is (omega (arith, separator_is rest is, h))
at_end_bytes n Finished rest false is h = rw is h
at_end_bytes n Failed rest t is h = h

line_bytes : (n : ℕ) (ending : Ending) (first : List ℕ) (more : List (List ℕ)) (rest : List ℕ) (t : Bool) → bytes_eq first separator ≡ t → n ≤ length first → HasBytes n (parted ending (first ∷ more) rest)
line_bytes n ending first more rest true is h = rw is (omega (arith, separator_is first is, h))
line_bytes n ending first more rest false is h = rw is (front_bytes n (first ++ 10 ∷ []) (parted ending more rest) (omega (arith, h, length-append first (10 ∷ []))))

parted_bytes : (n : ℕ) (ending : Ending) (lines : List (List ℕ)) (rest : List ℕ) → BeginsWith n lines rest → HasBytes n (parted ending lines rest)
parted_bytes n ending [] rest h = at_end_bytes n ending rest (bytes_eq rest separator) refl h
parted_bytes n ending (first ∷ more) rest h = line_bytes n ending first more rest (bytes_eq first separator) refl h

pub begun_bytes : (whole line : List ℕ) → Begun whole line → (ending : Ending) (rest : List ℕ) → HasBytes (length (whole ++ line)) (job_of ending ((whole ++ line) ++ rest))
begun_bytes whole line b ending rest =
    let tail = parted_bytes (length line) ending (cut (line ++ rest)).lines (cut (line ++ rest)).rest (cut-long line rest b.feeds) in
    let all = HasBytes-preceded (length line) whole (job_of ending (line ++ rest)) tail in
    subst (λ (n : ℕ). HasBytes n (job_of ending ((whole ++ line) ++ rest))) (sym (length-append whole line)) (subst (HasBytes (length whole + length line)) (sym (b.job ending rest)) all)

-- ---- with the place of the line in the bytes that are kept

pub kept-is : (start : ℕ) (kept : List ℕ) → take start kept ++ drop start kept ≡ kept
kept-is start kept = take-append-drop start kept

-- what was taken: these bytes are kept
abbrev pub Keeps : Option (List ℕ) → Option (List ℕ) → List ℕ → Type 0
Keeps a b kept = WhereTold a b (λ before after. before ≡ kept ++ after)

-- a held byte is taken
told_byte : (left : Option (List ℕ)) (held held' : List ℕ) (byte : ℕ) → held ≡ byte ∷ held' → WhereTold (prepend_known held left) (prepend_known held' left) (λ before after. before ≡ byte ∷ after)
told_byte None held held' byte e = tt
told_byte (Some xs) held held' byte e = ap (λ (l : List ℕ). l ++ xs) e

pub keeps_byte : (a b left : Option (List ℕ)) (held held' kept : List ℕ) (byte : ℕ) → Keeps a b kept → Filled true b (prepend_known held left) → held ≡ byte ∷ held'
    → Keeps a (prepend_known held' left) (kept ++ byte ∷ [])
keeps_byte a b left held held' kept byte p q e =
    WhereTold-then a b (prepend_known held' left) p (WhereTold-then b (prepend_known held left) (prepend_known held' left) q (told_byte left held held' byte e) (λ x y z m n. m.0 ∙ n))
    (λ x y z m n. m ∙ ap (λ (l : List ℕ). kept ++ l) n ∙ sym (append_assoc kept (byte ∷ []) z))

pub head_parts : (start : ℕ) (kept : List ℕ) (a b : Option (List ℕ)) → bytes_eq (drop start kept) separator ≡ true → Begun (take start kept) (drop start kept) → Keeps a b (kept ++ 10 ∷ [])
    → WhereTold a b (Parts (take start kept))
head_parts start kept a b is begun p = WhereTold-map a b p (λ x y e. record {
  front = kept ++ 10 ∷ [];
  taken = e;
  job = λ ending rest. ap (λ (l : List ℕ). job_of ending ((l ++ 10 ∷ []) ++ rest)) (sym (kept-is start kept)) ∙ begun_parts (take start kept) (drop start kept) is begun ending rest;
})

ends_kept : (kept : List ℕ) (a b c : Option (List ℕ)) → Keeps a b kept → Filled false b c → WhereTold a c (λ before after. (before ≡ kept) × (after ≡ []))
ends_kept kept a b c p q = WhereTold-then a b c p q (λ x y z e f. (e ∙ ap (λ (l : List ℕ). kept ++ l) (f.0 ∙ f.1 refl) ∙ append-nil kept, f.1 refl))

pub head_parts_at_end : (start : ℕ) (kept : List ℕ) (a b c : Option (List ℕ)) → bytes_eq (drop start kept) separator ≡ true → Begun (take start kept) (drop start kept) → Keeps a b kept → Filled false b c
    → WhereTold a c (EndsWith (Parted (take start kept) (record { lines = []; rest = [] })))
head_parts_at_end start kept a b c is begun p q = WhereTold-map a c (ends_kept kept a b c p q) (λ x y e. record {
  job = ap (job_of Finished) (e.0 ∙ sym (kept-is start kept)) ∙ begun_parts_at_end (take start kept) (drop start kept) is begun;
  all = e.1;
})

pub head_whole : (start : ℕ) (kept : List ℕ) (a b c : Option (List ℕ)) → bytes_eq (drop start kept) separator ≡ false → Begun (take start kept) (drop start kept) → Keeps a b kept → Filled false b c
    → WhereTold a c (EndsWith (Whole kept))
head_whole start kept a b c is begun p q = WhereTold-map a c (ends_kept kept a b c p q) (λ x y e. record {
  job = ap (job_of Finished) (e.0 ∙ sym (kept-is start kept)) ∙ begun_whole (take start kept) (drop start kept) is begun ∙ ap Whole (kept-is start kept);
  all = e.1;
})

pub head_breaks : (start : ℕ) (kept : List ℕ) (a b c : Option (List ℕ)) → length kept < 65542 → Begun (take start kept) (drop start kept) → Keeps a b kept → WhereTold b c (λ before after. before ≡ after)
    → WhereTold a c HeadBreaks
head_breaks start kept a b c short begun p q = WhereTold-then a b c p q (λ x y z e f. record {
  front = kept;
  taken = e ∙ ap (λ (l : List ℕ). kept ++ l) f;
  job = ap (job_of Failed) (sym (kept-is start kept)) ∙ begun_breaks (take start kept) (drop start kept) begun ∙ ap Whole (kept-is start kept);
  short = short;
})

pub head_exceeds : (start : ℕ) (kept : List ℕ) (a b : Option (List ℕ)) → length kept ≡ 65542 → Begun (take start kept) (drop start kept) → Keeps a b kept → WhereTold a b Exceeds
head_exceeds start kept a b full begun p = WhereTold-map a b p (λ x y e. record {
  front = kept;
  taken = e;
  long = λ ending rest. too_long_job _ (subst (λ (n : ℕ). HasBytes n (job_of ending (kept ++ rest))) (ap length (kept-is start kept) ∙ full)
      (subst (λ (l : List ℕ). HasBytes (length (take start kept ++ drop start kept)) (job_of ending (l ++ rest))) (kept-is start kept) (begun_bytes (take start kept) (drop start kept) begun ending rest)));
})

-- one more byte is kept
take-within : (n : ℕ) (xs ys : List ℕ) → n ≤ length xs → take n (xs ++ ys) ≡ take n xs
take-within n xs ys h = take-append-le n xs ys h

drop-within : (n : ℕ) (xs ys : List ℕ) → n ≤ length xs → drop n (xs ++ ys) ≡ drop n xs ++ ys
drop-within n xs ys h = drop-append-le n xs ys h

pub next_byte : (start : ℕ) (kept kept' : List ℕ) (byte : ℕ) → start ≤ length kept → byte ≢ 10 → kept' ≡ kept ++ byte ∷ [] → Begun (take start kept) (drop start kept) → Begun (take start kept') (drop start kept')
next_byte start kept kept' byte h other e b =
    rw e (rw (take-within start kept (byte ∷ []) h, drop-within start kept (byte ∷ []) h) (Begun-byte (take start kept) (drop start kept) byte other b))

pub next_line : (start start' : ℕ) (kept kept' : List ℕ) → bytes_eq (drop start kept) separator ≡ false → kept' ≡ kept ++ 10 ∷ [] → start' ≡ length kept' → Begun (take start kept) (drop start kept)
    → Begun (take start' kept') (drop start' kept')
next_line start start' kept kept' is e f b =
    let whole : take start kept ++ drop start kept ++ 10 ∷ [] ≡ kept' = ap (λ (l : List ℕ). l ++ 10 ∷ []) (kept-is start kept) ∙ sym e in
    let front : take start' kept' ≡ take start kept ++ drop start kept ++ 10 ∷ [] = take_all start' kept' (omega (arith, f)) ∙ sym whole in
    let none : drop start' kept' ≡ [] = drop_all start' kept' (omega (arith, f)) in
    rw (front, none) (Begun-line (take start kept) (drop start kept) is b)

pub next_begun : (start start' byte : ℕ) (kept kept' : List ℕ) → start ≤ length kept → ByteGives (Some start') start byte kept kept' → Begun (take start kept) (drop start kept) → Begun (take start' kept') (drop start' kept')
next_begun start start' byte kept kept' h p b = elim p.1 [
  | inl go ↦ rw go.1 (next_byte start kept kept' byte h go.0 p.0 b)
  | inr is ↦ next_line start start' kept kept' is.1 (p.0 ∙ ap (λ (x : ℕ). kept ++ x ∷ []) is.0) is.2 b
]

pub next_within : (start start' byte : ℕ) (kept kept' : List ℕ) → start ≤ length kept → ByteGives (Some start') start byte kept kept' → start' ≤ length kept'
next_within start start' byte kept kept' h p = elim p.1 [
  | inl go ↦ omega (arith, go.1, h, ap length p.0, length-append kept (byte ∷ []))
  | inr is ↦ omega (arith, is.2)
]
