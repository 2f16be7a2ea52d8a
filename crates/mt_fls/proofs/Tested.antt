-- Intervals and foreground tests by all their sequences.
use Rattle.std.proofs.Common.{ℕ, zero, suc, ◌+◌, ◌*◌, ◌/◌, ◌%◌, ◌<◌, ◌≤◌, ◌≡◌, Bool, true, false, cond, List, [], ◌∷◌, ◌++◌, get_or, Option, Some, None, refl, sym, ap, ◌∙◌, subst, arith, inl, inr}
use Rattle.std.specs.Prelude.{◌||◌, nat_lt, All, Any, fold, is_some}
use Rattle.std.specs.List.{list_any}
use Rattle.std.proofs.Math.Nat.{mod-add-div, add-mul-mod_self_left, mod-eq_of_lt, mod-lt, mod_self}
use Rattle.std.proofs.lemmas.Bool.Decides.{nat_tests, leb_tells}
use Rattle.std.proofs.lemmas.List.Sums.{fold-append}
use Rattle.mt_window.specs.declared.reply.TestResult.{TestResult}
use Rattle.mt_window.specs.declared.reply.TestResult.TheVariants.{Ok, NotOk}
use Rattle.mt_window.specs.declared.reply.Detail.TheVariants.{Bgnd}
use Rattle.mt_blocks.specs.declared.pass.Position.{Position}
use Rattle.mt_blocks.specs.Slices.{next_of}
use Rattle.mt_fls.specs.State.{Setting, FlsTst, bgnd_spans}
use Rattle.mt_fls.specs.Event.{is_different, result_of, detail_after, going_on, passed, of_block}
use Rattle.mt_fls.specs.Tested.{End, IsResultOf, passed_all, IntervalsAreOfSequences, identifier, IdentifiersCount, Foreground, compared_all, ForegroundTestsAreOfSequences}

-- ---- a result by all sequences

-- whether a sequence found a difference
abbrev some_failed : List End → Bool
some_failed ends = list_any (λ (e : End). is_different e.found) ends

same_found : (o : Option ℕ) → is_different o ≡ false → o ≡ None
same_found None h = refl
same_found (Some addr) h = absurd cc

address_found : (o : Option ℕ) → is_different o ≡ true → (addr : ℕ) × (o ≡ Some addr)
address_found None h = absurd cc
address_found (Some addr) h = (addr, refl)

none_failed : (ends : List End) → All (λ (e : End). e.found ≡ None) ends → some_failed ends ≡ false
none_failed [] all = refl
none_failed (e ∷ ends) all =
    rw (ap is_different (all 0 e (omega arith)), none_failed ends (λ k d lt. all (suc k) d (omega (arith, lt)))) refl

all_same : (ends : List End) → some_failed ends ≡ false → All (λ (e : End). e.found ≡ None) ends
all_same [] h k d lt = absurd (omega (arith, lt))
all_same (e ∷ ends) h zero d lt = first_same (is_different e.found) refl h
  where
    first_same : (b : Bool) → is_different e.found ≡ b → (b || some_failed ends) ≡ false → e.found ≡ None
    first_same true is h = absurd cc
    first_same false is h = same_found e.found is
all_same (e ∷ ends) h (suc k) d lt = all_same ends (later (is_different e.found) h) k d (omega (arith, lt))
  where
    later : (b : Bool) → (b || some_failed ends) ≡ false → some_failed ends ≡ false
    later true h = absurd cc
    later false h = h

abbrev Differs : End → Type 0
Differs e = (addr : ℕ) × (e.found ≡ Some addr)

any_failed : (ends : List End) → Any Differs ends → some_failed ends ≡ true
any_failed [] (k, x, lt, at, p) = absurd (omega (arith, lt))
any_failed (e ∷ ends) (zero, x, lt, at, p) = rw (at, ap is_different p.1) refl
any_failed (e ∷ ends) (suc k, x, lt, at, p) = later (is_different e.found) (any_failed ends (k, x, omega (arith, lt), at, p))
  where
    later : (b : Bool) → some_failed ends ≡ true → (b || some_failed ends) ≡ true
    later true h = refl
    later false h = h

some_differs : (ends : List End) → some_failed ends ≡ true → Any Differs ends
some_differs [] h = absurd cc
some_differs (e ∷ ends) h = of (is_different e.found) refl h (some_differs ends)
  where
    of : (b : Bool) → is_different e.found ≡ b → (b || some_failed ends) ≡ true → (some_failed ends ≡ true → Any Differs ends) → Any Differs (e ∷ ends)
    of true is h rest = (0, e, omega arith, refl, address_found e.found is)
    of false is h rest = let a = rest h in (suc a.0, a.1, omega (arith, a.2), a.3, a.4)

ok_is : (failed : Bool) → result_of failed ≡ Ok → failed ≡ false
ok_is true h = absurd cc
ok_is false h = refl

not_ok_is : (failed : Bool) → result_of failed ≡ NotOk → failed ≡ true
not_ok_is true h = refl
not_ok_is false h = absurd cc

result_is : (ends : List End) → IsResultOf (result_of (some_failed ends)) ends
result_is ends = record {
  ok = (λ h. all_same ends (ok_is (some_failed ends) h), λ h. ap result_of (none_failed ends h));
  not_ok = (λ h. some_differs ends (not_ok_is (some_failed ends) h), λ h. ap result_of (any_failed ends h));
}

failed-append : (ends : List End) (last : End) → some_failed (ends ++ last ∷ []) ≡ (some_failed ends || is_different last.found)
failed-append [] last = either_none (is_different last.found)
  where
    either_none : (b : Bool) → (b || false) ≡ b
    either_none true = refl
    either_none false = refl
failed-append (e ∷ ends) last = ap (λ (b : Bool). is_different e.found || b) (failed-append ends last) ∙ either (is_different e.found)
  where
    either : (b : Bool) → (b || (some_failed ends || is_different last.found)) ≡ ((b || some_failed ends) || is_different last.found)
    either true = refl
    either false = refl

or_assoc : (a b c : Bool) → ((a || b) || c) ≡ (a || (b || c))
or_assoc true b c = refl
or_assoc false b c = refl

-- ---- intervals

-- what sequences that end no interval leave
record Goes (f g : FlsTst) (failed : Bool) : Type 0 where
  setting : g.setting ≡ f.setting
  completed : g.completed ≡ f.completed
  result : g.result ≡ f.result
  failed_is : g.failed ≡ (f.failed || failed)

one_goes : (f : FlsTst) (e : End) → is_some (next_of f.setting.config.atomic (bgnd_spans f) e.piece.place) ≡ true → Goes f (passed f e.piece e.found) (is_different e.found)
one_goes f e h = of (next_of f.setting.config.atomic (bgnd_spans f) e.piece.place) h
  where
    of : (next : Option Position) → is_some next ≡ true → Goes f (going_on (record f { detail = detail_after Bgnd e.piece e.found f.detail }) (f.failed || is_different e.found) next) (is_different e.found)
    of None h = absurd cc
    of (Some p) h = record { setting = refl; completed = refl; result = refl; failed_is = refl }

all_go : (ends : List End) (f : FlsTst) → All (λ (e : End). is_some (next_of f.setting.config.atomic (bgnd_spans f) e.piece.place) ≡ true) ends → Goes f (passed_all f ends) (some_failed ends)
all_go [] f all = record { setting = refl; completed = refl; result = refl; failed_is = none_more f.failed }
  where
    none_more : (b : Bool) → b ≡ (b || false)
    none_more true = refl
    none_more false = refl
all_go (e ∷ ends) f all =
    let here = one_goes f e (all 0 e (omega arith)) in
    let g = passed f e.piece e.found in
    let rest = all_go ends g (λ k d lt. subst (λ (x : Setting). is_some (next_of x.config.atomic (bgnd_spans (record f { setting = x })) (get_or ends k d).piece.place) ≡ true) (sym here.setting) (all (suc k) d (omega (arith, lt)))) in
    record {
      setting = rest.setting ∙ here.setting;
      completed = rest.completed ∙ here.completed;
      result = rest.result ∙ here.result;
      failed_is = rest.failed_is ∙ ap (λ (b : Bool). b || some_failed ends) here.failed_is ∙ or_assoc f.failed (is_different e.found) (some_failed ends);
    }

-- what the last sequence of an interval leaves
last_goes : (g : FlsTst) (e : End) → next_of g.setting.config.atomic (bgnd_spans g) e.piece.place ≡ None
    → ((passed g e.piece e.found).result ≡ result_of (g.failed || is_different e.found)) × ((passed g e.piece e.found).failed ≡ false)
last_goes g e none = (
  ap (λ (o : Option Position). (going_on (record g { detail = detail_after Bgnd e.piece e.found g.detail }) (g.failed || is_different e.found) o).result) none,
  ap (λ (o : Option Position). (going_on (record g { detail = detail_after Bgnd e.piece e.found g.detail }) (g.failed || is_different e.found) o).failed) none,
)

pub intervals_are_of_sequences : IntervalsAreOfSequences
intervals_are_of_sequences f ends last none h =
    let g = passed_all f ends in
    let goes = all_go ends f h.followed in
    let whole : passed_all f (ends ++ last ∷ []) ≡ passed g last.piece last.found = fold-append (λ x (e : End). passed x e.piece e.found) f ends (last ∷ []) in
    let ends_there : next_of g.setting.config.atomic (bgnd_spans g) last.piece.place ≡ None =
    subst (λ (x : Setting). next_of x.config.atomic (bgnd_spans (record f { setting = x })) last.piece.place ≡ None) (sym goes.setting) h.ends_pass in
    let end = last_goes g last ends_there in
    let failed : (g.failed || is_different last.found) ≡ some_failed (ends ++ last ∷ []) =
    ap (λ (b : Bool). b || is_different last.found) (goes.failed_is ∙ ap (λ (b : Bool). b || some_failed ends) none) ∙ sym (failed-append ends last) in
    let result : (passed_all f (ends ++ last ∷ [])).result ≡ result_of (some_failed (ends ++ last ∷ [])) = ap (λ (x : FlsTst). x.result) whole ∙ end.0 ∙ ap result_of failed in
    record {
      result = subst (λ (r : TestResult). IsResultOf r (ends ++ last ∷ [])) (sym result) (result_is (ends ++ last ∷ []));
      shown = goes.result;
      identifier = goes.completed;
      forgotten = ap (λ (x : FlsTst). x.failed) whole ∙ end.1;
    }

-- ---- identifiers

one_later : (m k : ℕ) → suc k % m ≡ (k % m + 1) % m
one_later m k =
    let whole = mod-add-div k m in
    let split : suc k ≡ (k % m + 1) + m * (k / m) = omega (arith, whole) in
    ap (λ (n : ℕ). n % m) split ∙ add-mul-mod_self_left (k % m + 1) m (k / m)

is_below : (a b : ℕ) → a < b → nat_lt a b ≡ true
is_below a b h = grind (arith, nat_tests)

not_below : (a b : ℕ) → b ≤ a → nat_lt a b ≡ false
not_below a b h = grind (arith, nat_tests)

pub identifiers_count : IdentifiersCount
identifiers_count end zero = sym (mod-eq_of_lt {n = 0} {m = end + 1} (omega arith))
identifiers_count end (suc k) =
    let here = identifiers_count end k in
    let id = identifier end k in
    let later : suc k % (end + 1) ≡ (id + 1) % (end + 1) = one_later (end + 1) k ∙ ap (λ (n : ℕ). (n + 1) % (end + 1)) (sym here) in
    let most : id < end + 1 = subst (λ (n : ℕ). n < end + 1) (sym here) (mod-lt k (omega arith)) in
    elim (leb_tells end id) [
      | inl h ↦ (
          let last : id + 1 ≡ end + 1 = (let above = h.1 in omega arith) in
          rw (not_below id end h.1) (sym (later ∙ ap (λ (n : ℕ). n % (end + 1)) last ∙ mod_self (end + 1))))
      | inr h ↦ rw (is_below id end h.1) (sym (later ∙ mod-eq_of_lt {n = id + 1} {m = end + 1} (let below = h.1 in omega arith)))
    ]

-- ---- foreground tests

-- what sequences that are not the last leave
record Compares (a b : Foreground) (failed : Bool) : Type 0 where
  fgnd : b.tested.fgnd ≡ a.tested.fgnd
  failed_is : b.failed ≡ (a.failed || failed)

abbrev step : Foreground → End → Foreground
step g e = record { tested = of_block.taken g.tested e.piece e.found g.failed; failed = of_block.failed e.piece e.found g.failed }

all_compare : (ends : List End) (g : Foreground) → All (λ (e : End). e.piece.last ≡ false) ends → Compares g (fold step g ends) (some_failed ends)
all_compare [] g all = record { fgnd = refl; failed_is = none_more g.failed }
  where
    none_more : (b : Bool) → b ≡ (b || false)
    none_more true = refl
    none_more false = refl
all_compare (e ∷ ends) g all =
    let last : e.piece.last ≡ false = all 0 e (omega arith) in
    let rest = all_compare ends (step g e) (λ k d lt. all (suc k) d (omega (arith, lt))) in
    record {
      fgnd = rest.fgnd ∙ ap (λ (b : Bool). cond b (result_of (g.failed || is_different e.found)) g.tested.fgnd) last;
      failed_is = rest.failed_is ∙ or_assoc g.failed (is_different e.found) (some_failed ends);
    }

pub foreground_tests_are_of_sequences : ForegroundTestsAreOfSequences
foreground_tests_are_of_sequences f ends last before is_last =
    let start : Foreground = record { tested = f; failed = false } in
    let g = fold step start ends in
    let goes = all_compare ends start before in
    let whole : compared_all f (ends ++ last ∷ []) ≡ step g last = fold-append step start ends (last ∷ []) in
    let failed : (g.failed || is_different last.found) ≡ some_failed (ends ++ last ∷ []) = ap (λ (b : Bool). b || is_different last.found) goes.failed_is ∙ sym (failed-append ends last) in
    let result : (compared_all f (ends ++ last ∷ [])).tested.fgnd ≡ result_of (some_failed (ends ++ last ∷ [])) =
    ap (λ (x : Foreground). x.tested.fgnd) whole ∙ ap (λ (b : Bool). cond b (result_of (g.failed || is_different last.found)) g.tested.fgnd) is_last ∙ ap result_of failed in
    record {
      result = subst (λ (r : TestResult). IsResultOf r (ends ++ last ∷ [])) (sym result) (result_is (ends ++ last ∷ []));
      shown = goes.fgnd;
    }
