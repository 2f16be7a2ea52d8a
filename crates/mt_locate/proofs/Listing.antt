-- Lists of faults that are written part by part.
use Rattle.std.proofs.Common.{◌≡◌, ℕ, ◌+◌, ◌<◌, ◌≤◌, List, [], ◌∷◌, ◌++◌, length, take, drop, get_or, Option, Bool, true, false, Result, Ok, Err, IfOk, refl, sym, ap, ◌∙◌, subst, append_assoc, append-nil, arith}
use Rattle.std.specs.Prelude.{OnErr, IsErr, if◌then◌else◌}
use Rattle.std.specs.List.{flat_map}
use Rattle.std.proofs.lemmas.List.{take_more, take_all, take-append-drop, length-append}
use Rattle.std.proofs.lemmas.Grind.{flat_map-append}
use Rattle.std.proofs.lemmas.List.Elements.{filter-append}
use Rattle.std.specs.Io.KnownBytes.{Appends}
use Rattle.mt_word.specs.declared.Width.{Width}
use Rattle.mt_fault.specs.declared.fault.Fault.{Fault}
use Rattle.mt_port.specs.declared.stream.Failed.{Failed}
use Rattle.mt_port.specs.Causes.{HasCause, Rose}
use Rattle.mt_port.specs.Gathering.{Gathers}
use Rattle.mt_port.specs.Streams.{AppendsFront}
use Rattle.mt_port.specs.Inner.Streams.{Appends-nil, Appends-trans, AppendsFront-after, AppendsFront-more}
use Rattle.mt_locate.specs.declared.probe.Probe.{Probe}
use Rattle.mt_locate.specs.declared.probe.Miss.{Miss}
use Rattle.mt_locate.specs.Listed.{explains, explaining, fault_line, fault_lines}
use Rattle.mt_locate.specs.Inner.Listing.{Change, change, lines_of, AreWritten, Lists}

-- ---- texts that are gathered

Gathers-none : (held : Option (List ℕ)) (waits : List ℕ) → Gathers held held waits waits []
Gathers-none held waits = record { given = []; all = append-nil waits; appended = Appends-nil held }

Gathers-then : (a b c : Option (List ℕ)) (u v w text more : List ℕ) → Gathers a b u v text → Gathers b c v w more → Gathers a c u w (text ++ more)
Gathers-then a b c u v w text more p q = record {
  given = p.given ++ q.given;
  all = sym (append_assoc u text more) ∙ ap (λ (l : List ℕ). l ++ more) p.all ∙ append_assoc p.given v more ∙ ap (λ (l : List ℕ). p.given ++ l) q.all ∙ sym (append_assoc p.given q.given w);
  appended = Appends-trans a b c p.given q.given p.appended q.appended;
}

-- a text is gathered, and then a proper front of what waits and of another is written
front_after : (a b c : Option (List ℕ)) (u v text more : List ℕ) → Gathers a b u v text → AppendsFront b c (v ++ more) → AppendsFront a c (u ++ (text ++ more))
front_after a b c u v text more p q =
    let all : p.given ++ (v ++ more) ≡ u ++ (text ++ more) =
    sym (append_assoc p.given v more) ∙ ap (λ (l : List ℕ). l ++ more) (sym p.all) ∙ append_assoc u text more in
    subst (AppendsFront a c) all (AppendsFront-after a b c p.given (v ++ more) p.appended q)

-- a proper front of what waits and of a text is one with more text
front_more : (a b : Option (List ℕ)) (u text more : List ℕ) → AppendsFront a b (u ++ text) → AppendsFront a b (u ++ (text ++ more))
front_more a b u text more p = subst (AppendsFront a b) (append_assoc u text more) (AppendsFront-more a b (u ++ text) more p)

-- ---- faults one after another

explaining-append : (probe : Probe) (misses : List Miss) (xs ys : List Fault) → explaining probe misses (xs ++ ys) ≡ explaining probe misses xs ++ explaining probe misses ys
unfolding explaining
explaining-append probe misses xs ys = filter-append (explains probe misses) xs ys

fault_lines-append : (width : Width) (xs ys : List Fault) → fault_lines width (xs ++ ys) ≡ fault_lines width xs ++ fault_lines width ys
unfolding fault_lines
fault_lines-append width xs ys = flat_map-append (fault_line width) xs ys

lines_of-append : (probe : Probe) (misses : List Miss) (xs ys : List Fault) → lines_of probe misses (xs ++ ys) ≡ lines_of probe misses xs ++ lines_of probe misses ys
lines_of-append probe misses xs ys = ap (fault_lines probe.width) (explaining-append probe misses xs ys) ∙ fault_lines-append probe.width (explaining probe misses xs) (explaining probe misses ys)

-- ---- what a sink has so far

-- Some faults are listed, and the sink did not fail.
pub record Done (probe : Probe) (misses : List Miss) (faults : List Fault) (c : Change) (found : ℕ) : Type 0 where
  pub listed : AreWritten probe misses faults c found
  pub kept : c.faults' ≡ c.faults

pub Done-none : (probe : Probe) (misses : List Miss) (held : Option (List ℕ)) (waits : List ℕ) (faults : ℕ) → Done probe misses [] (change held held waits waits faults faults) 0
unfolding explaining fault_lines
Done-none probe misses held waits faults = record { listed = record { text = Gathers-none held waits; number = refl }; kept = refl }

pub Done-from : (probe : Probe) (misses : List Miss) (faults : List Fault) (c : Change) (n : ℕ) → Lists probe misses faults c (Ok n) → Done probe misses faults c n
Done-from probe misses faults c n l = record { listed = l.ok; kept = l.cause.kept }

pub Lists-from : (probe : Probe) (misses : List Miss) (faults : List Fault) (c : Change) (n : ℕ) → Done probe misses faults c n → Lists probe misses faults c (Ok n)
Lists-from probe misses faults c n d = record {
  ok = d.listed;
  err = tt;
  cause = let k = d.kept in record { later = omega (arith, k); failed = tt; kept = d.kept };
}

-- two lists, one after the other
pub Done-then : (probe : Probe) (misses : List Miss) (xs ys : List Fault) (a b c : Option (List ℕ)) (u v w : List ℕ) (i j k m n : ℕ)
    → Done probe misses xs (change a b u v i j) m → Done probe misses ys (change b c v w j k) n → Done probe misses (xs ++ ys) (change a c u w i k) (m + n)
Done-then probe misses xs ys a b c u v w i j k m n p q = record {
  listed = record {
    text = subst (Gathers a c u w) (sym (lines_of-append probe misses xs ys)) (Gathers-then a b c u v w (lines_of probe misses xs) (lines_of probe misses ys) p.listed.text q.listed.text);
    number = let e = ap (length {A = Fault}) (explaining-append probe misses xs ys) in let s = p.listed.number in let t = q.listed.number in omega (arith, e, s, t, length-append (explaining probe misses xs) (explaining probe misses ys));
  };
  kept = q.kept ∙ p.kept;
}

-- a list that fails after another one, before a third
pub Lists-fails : (probe : Probe) (misses : List Miss) (xs ys zs : List Fault) (a b c : Option (List ℕ)) (u v w : List ℕ) (i j k m : ℕ) (e : Failed)
    → Done probe misses xs (change a b u v i j) m → Lists probe misses ys (change b c v w j k) (Err e) → Lists probe misses (xs ++ (ys ++ zs)) (change a c u w i k) (Err e)
Lists-fails probe misses xs ys zs a b c u v w i j k m e p q = record {
  ok = tt;
  err =
      let rest : List ℕ = lines_of probe misses zs in
      let later = front_more b c v (lines_of probe misses ys) rest q.err in
      let front = front_after a b c u v (lines_of probe misses xs) (lines_of probe misses ys ++ rest) p.listed.text later in
      let all : lines_of probe misses (xs ++ (ys ++ zs)) ≡ lines_of probe misses xs ++ (lines_of probe misses ys ++ rest) =
      lines_of-append probe misses xs (ys ++ zs) ∙ ap (λ (l : List ℕ). lines_of probe misses xs ++ l) (lines_of-append probe misses ys zs) in
      subst (λ (l : List ℕ). AppendsFront a c (u ++ l)) (sym all) front;
  cause = let s = p.kept in let t = q.cause.later in record {
    later = omega (arith, s, t);
    failed = subst (λ (f : ℕ). Rose f k) p.kept q.cause.failed;
    kept = tt;
  };
}

-- ---- a loop over the elements of a list

abbrev front_of : {X : Type 0} → (X → List Fault) → List X → ℕ → List Fault
front_of faults xs i = flat_map faults (take i xs)

one_more : {X : Type 0} (faults : X → List Fault) (xs : List X) (i : ℕ) (x d : X) → i < length xs → x ≡ get_or xs i d → front_of faults xs (i + 1) ≡ front_of faults xs i ++ faults x
one_more faults xs i x d less is =
    ap (flat_map faults) (take_more xs i d less) ∙ flat_map-append faults (take i xs) (get_or xs i d ∷ [])
    ∙ ap (λ l. flat_map faults (take i xs) ++ l) (append-nil (faults (get_or xs i d)) ∙ ap faults (sym is))

pub Done-more : {X : Type 0} (faults : X → List Fault) (xs : List X) (i : ℕ) (x d : X) (probe : Probe) (misses : List Miss) (a b c : Option (List ℕ)) (u v w : List ℕ) (r s t m n : ℕ)
    → i < length xs → x ≡ get_or xs i d → Done probe misses (flat_map faults (take i xs)) (change a b u v r s) m → Lists probe misses (faults x) (change b c v w s t) (Ok n)
    → Done probe misses (flat_map faults (take (i + 1) xs)) (change a c u w r t) (m + n)
Done-more faults xs i x d probe misses a b c u v w r s t m n less is p q =
    subst (λ (l : List Fault). Done probe misses l (change a c u w r t) (m + n)) (sym (one_more faults xs i x d less is))
    (Done-then probe misses (front_of faults xs i) (faults x) a b c u v w r s t m n p (Done-from probe misses (faults x) (change b c v w s t) n q))

pub Lists-broken : {X : Type 0} (faults : X → List Fault) (xs : List X) (i : ℕ) (x d : X) (probe : Probe) (misses : List Miss) (a b c : Option (List ℕ)) (u v w : List ℕ) (r s t m : ℕ) (e : Failed)
    → i < length xs → x ≡ get_or xs i d → Done probe misses (flat_map faults (take i xs)) (change a b u v r s) m → Lists probe misses (faults x) (change b c v w s t) (Err e)
    → Lists probe misses (flat_map faults xs) (change a c u w r t) (Err e)
Lists-broken faults xs i x d probe misses a b c u v w r s t m e less is p q =
    let rest : List Fault = flat_map faults (drop (i + 1) xs) in
    let whole : front_of faults xs i ++ (faults x ++ rest) ≡ flat_map faults xs =
    sym (append_assoc (front_of faults xs i) (faults x) rest)
    ∙ ap (λ (l : List Fault). l ++ rest) (sym (one_more faults xs i x d less is))
    ∙ sym (flat_map-append faults (take (i + 1) xs) (drop (i + 1) xs))
    ∙ ap (flat_map faults) (take-append-drop (i + 1) xs) in
    subst (λ (l : List Fault). Lists probe misses l (change a c u w r t) (Err e)) whole (Lists-fails probe misses (front_of faults xs i) (faults x) rest a b c u v w r s t m e p q)

pub Lists-whole : {X : Type 0} (faults : X → List Fault) (xs : List X) (i : ℕ) (probe : Probe) (misses : List Miss) (c : Change) (m : ℕ) → length xs ≤ i
    → Done probe misses (flat_map faults (take i xs)) c m → Lists probe misses (flat_map faults xs) c (Ok m)
Lists-whole faults xs i probe misses c m all p =
    Lists-from probe misses (flat_map faults xs) c m (subst (λ (l : List _). Done probe misses (flat_map faults l) c m) (take_all i xs all) p)

-- a call answers the failure of a call
pub Lists-err : (probe : Probe) (misses : List Miss) (faults : List Fault) (c : Change) (e : Failed) (result : Result ℕ Failed) → IsErr result
    → Lists probe misses faults c (Err e) → Lists probe misses faults c result
Lists-err probe misses faults c e (Ok n) is l = let wrong : false ≡ true = is in absurd (cc)
Lists-err probe misses faults c e (Err f) is l = record { ok = tt; err = l.err; cause = record { later = l.cause.later; failed = l.cause.failed; kept = tt } }

-- ---- one fault

one_left_out : (probe : Probe) (misses : List Miss) (f : Fault) → explains probe misses f ≡ false → explaining probe misses (f ∷ []) ≡ []
unfolding explaining
one_left_out probe misses f e = ap (λ (b : Bool). if b then f ∷ [] else []) e

one_taken : (probe : Probe) (misses : List Miss) (f : Fault) → explains probe misses f ≡ true → explaining probe misses (f ∷ []) ≡ f ∷ []
unfolding explaining
one_taken probe misses f e = ap (λ (b : Bool). if b then f ∷ [] else []) e

no_lines : (width : Width) → fault_lines width [] ≡ []
unfolding fault_lines
no_lines width = refl

one_line : (width : Width) (f : Fault) → fault_lines width (f ∷ []) ≡ fault_line width f
unfolding fault_lines
one_line width f = append-nil (fault_line width f)

pub Lists-left_out : (probe : Probe) (misses : List Miss) (f : Fault) (held : Option (List ℕ)) (waits : List ℕ) (k : ℕ) → explains probe misses f ≡ false
    → Lists probe misses (f ∷ []) (change held held waits waits k k) (Ok 0)
Lists-left_out probe misses f held waits k e = record {
  ok = record {
    text = subst (Gathers held held waits waits) (sym (ap (fault_lines probe.width) (one_left_out probe misses f e) ∙ no_lines probe.width)) (Gathers-none held waits);
    number = sym (ap (length {A = Fault}) (one_left_out probe misses f e));
  };
  err = tt;
  cause = record { later = omega arith; failed = tt; kept = refl };
}

line_is : (probe : Probe) (misses : List Miss) (f : Fault) → explains probe misses f ≡ true → fault_line probe.width f ≡ lines_of probe misses (f ∷ [])
line_is probe misses f e = sym (ap (fault_lines probe.width) (one_taken probe misses f e) ∙ one_line probe.width f)

pub Lists-taken : (probe : Probe) (misses : List Miss) (f : Fault) (a b : Option (List ℕ)) (v w : List ℕ) (i j : ℕ) (u : Unit {0}) → explains probe misses f ≡ true
    → Gathers a b v w (fault_line probe.width f)
    → HasCause {T = Unit {0}} {E = Failed} i j (Ok u) → Lists probe misses (f ∷ []) (change a b v w i j) (Ok 1)
Lists-taken probe misses f a b v w i j u e text cause = record {
  ok = record { text = subst (Gathers a b v w) (line_is probe misses f e) text; number = sym (ap (length {A = Fault}) (one_taken probe misses f e)) };
  err = tt;
  cause = record { later = cause.later; failed = tt; kept = cause.kept };
}

pub Lists-cut : (probe : Probe) (misses : List Miss) (f : Fault) (a b : Option (List ℕ)) (v w : List ℕ) (i j : ℕ) (x : Failed) → explains probe misses f ≡ true
    → AppendsFront a b (v ++ fault_line probe.width f)
    → HasCause {T = Unit {0}} {E = Failed} i j (Err x) → Lists probe misses (f ∷ []) (change a b v w i j) (Err x)
Lists-cut probe misses f a b v w i j x e front cause = record {
  ok = tt;
  err = subst (λ (l : List ℕ). AppendsFront a b (v ++ l)) (line_is probe misses f e) front;
  cause = record { later = cause.later; failed = cause.failed; kept = tt };
}

-- ---- the same faults, or those that explain the same

pub Lists-of : (probe : Probe) (misses : List Miss) (xs ys : List Fault) (c : Change) (result : Result ℕ Failed) → xs ≡ ys → Lists probe misses xs c result → Lists probe misses ys c result
Lists-of probe misses xs ys c result e l = subst (λ (fs : List Fault). Lists probe misses fs c result) e l

pub Lists-same : (probe : Probe) (misses : List Miss) (xs ys : List Fault) (c : Change) (result : Result ℕ Failed) → explaining probe misses xs ≡ explaining probe misses ys
    → Lists probe misses xs c result → Lists probe misses ys c result
Lists-same probe misses xs ys c result e l = record {
  ok = of result l.ok;
  err = subst (λ (fs : List Fault). OnErr result (AppendsFront c.held c.held' (c.waits ++ fault_lines probe.width fs))) e l.err;
  cause = l.cause;
}
  where
    of : (r : Result ℕ Failed) → IfOk r (AreWritten probe misses xs c) → IfOk r (AreWritten probe misses ys c)
    of (Ok n) p = record {
      text = subst (λ (fs : List Fault). Gathers c.held c.held' c.waits c.waits' (fault_lines probe.width fs)) e p.text;
      number = p.number ∙ ap (length {A = Fault}) e;
    }
    of (Err f) p = tt

-- ---- the whole list

-- What is known once all faults are written, and the bytes that waited with them.
pub whole_text : (a b c : Option (List ℕ)) (waits text : List ℕ) → Gathers a b [] waits text → Appends b c waits → Appends a c text
whole_text a b c waits text p q = subst (Appends a c) (sym p.all) (Appends-trans a b c p.given waits p.appended q)

pub whole_front : (a b c : Option (List ℕ)) (waits text : List ℕ) → Gathers a b [] waits text → AppendsFront b c waits → AppendsFront a c text
whole_front a b c waits text p q = subst (AppendsFront a c) (sym p.all) (AppendsFront-after a b c p.given waits p.appended q)
