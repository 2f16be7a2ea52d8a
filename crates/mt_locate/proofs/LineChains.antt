-- A chain of readings of a line, step by step.
use Rattle.std.proofs.Common.{◌≡◌, ℕ, Bool, true, false, refl, inl, inr, subst}
use Rattle.std.specs.Prelude.{◌⊎◌, List, ◌∷◌, Option, Some, None, Result, Ok, Err, MatchResult}
use Rattle.mt_text.specs.Tokens.{Token}
use Rattle.mt_locate.specs.declared.refusal.LocateKind.{LocateKind}
use Rattle.mt_locate.specs.declared.refusal.LocateRefusal.{LocateRefusal}
use Rattle.mt_locate.specs.LocateLines.{◌>>=◌, refuse, unless}
use Rattle.mt_locate.specs.LineRules.{Rule, AreKept, IsLeastBroken, TellsTheFirst, place_or}

-- what a chain answers, its first reading has answered
pub bind_ok : {A B : Type 0} (r : Result A LocateRefusal) (f : A → Result B LocateRefusal) (y : B) → (r >>= f) ≡ Ok y → (x : A) × (r ≡ Ok x) × (f x ≡ Ok y)
bind_ok (Ok x) f y h = (x, refl, h)
bind_ok (Err e) f y h = absurd cc

-- a value that breaks no rule
pub unless_ok : {A : Type 0} (broken : Bool) (kind : LocateKind) (place : ℕ) (r : Result A LocateRefusal) (x : A)
    → unless broken kind place r ≡ Ok x → (broken ≡ false) × (r ≡ Ok x)
unless_ok false kind place r x h = (refl, h)
unless_ok true kind place r x h = absurd cc

-- the answer of a reading of a token is that of the token's rules
abbrev pub Judges : {A : Type 0} → ℕ → Option Token → List Rule → Result A LocateRefusal → Type 0
Judges end t rules r = MatchResult r (λ _. AreKept rules) (λ e. (e.place ≡ place_or end t) × IsLeastBroken e.kind rules)

-- Where a chain is refused, its first reading is, by the rules of its token, or a later one.
pub tells : {A B : Type 0} (end : ℕ) (t : Option Token) (rules : List Rule) (more : List (Option Token × List Rule))
    (r : Result A LocateRefusal) (f : A → Result B LocateRefusal) (e : LocateRefusal)
    → Judges end t rules r → (r >>= f) ≡ Err e → ((x : A) → r ≡ Ok x → f x ≡ Err e → TellsTheFirst end more e) → TellsTheFirst end ((t, rules) ∷ more) e
tells end t rules more (Ok x) f e j h next = inr (j, next x refl h)
tells end t rules more (Err d) f e j h next =
    let same : d ≡ e = cc in inl (subst (λ (q : LocateRefusal). (q.place ≡ place_or end t) × IsLeastBroken q.kind rules) same j)
