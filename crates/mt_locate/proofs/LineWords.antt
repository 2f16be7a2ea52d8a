-- Tokens of a line, taken one after another.
use Rattle.std.proofs.Common.{◌≡◌, ℕ, zero, suc, ◌+◌, ◌≤◌, true, false, List, [], ◌∷◌, drop, Some, None, Result, Ok, Err, refl, sym, ap, ◌∙◌, arith, is_err}
use Rattle.std.specs.Prelude.{slice_get}
use Rattle.std.proofs.lemmas.List.{drop-drop}
use Rattle.mt_text.specs.Tokens.{Token}
use Rattle.mt_text.specs.declared.token.Token.{Token as CodeToken}
use Rattle.mt_text.specs.declared.cursor.Cursor.{Cursor}
use Rattle.mt_text.specs.declared.line.LineRefusal.{LineRefusal}
use Rattle.mt_text.specs.Cursors.{left, Takes}

-- a token is taken from the tokens behind k
pub taken : (ts rest : List Token) (k : ℕ) (t : Token) → t ∷ rest ≡ drop k ts → rest ≡ drop (k + 1) ts
taken ts rest k t e = ap (drop 1) e ∙ drop-drop 1 k ts

pub taken_ok : (old new : Cursor) (r : Result CodeToken LineRefusal) (ts : List Token) (k : ℕ) → left old ≡ drop k ts → Takes old new r → is_err r ≡ false → left new ≡ drop (k + 1) ts
taken_ok old new (Ok t) ts k e takes ok = taken ts (left new) k _ (sym takes ∙ e)
taken_ok old new (Err f) ts k e takes ok = absurd (cc)

pub taken_err : (old new : Cursor) (r : Result CodeToken LineRefusal) → Takes old new r → is_err r ≡ true → left old ≡ []
taken_err old new (Ok t) takes err = absurd (cc)
taken_err old new (Err f) takes err = takes.0

-- the token with an index
pub here : (ts : List Token) (k i : ℕ) (t : Token) (rest : List Token) → t ∷ rest ≡ drop k ts → k ≡ i → Some t ≡ slice_get ts i
here ts k i t rest e same = at ts k t rest e ∙ ap (slice_get ts) same
  where
    at : (ts : List Token) (k : ℕ) (t : Token) (rest : List Token) → t ∷ rest ≡ drop k ts → Some t ≡ slice_get ts k
    at [] zero t rest e = absurd (cc)
    at [] (suc k) t rest e = absurd (cc)
    at (x ∷ ts) zero t rest e = let f : t ≡ x = cc in ap (λ (y : Token). Some y) f
    at (x ∷ ts) (suc k) t rest e = at ts k t rest e

pub past_end : (ts : List Token) (k i : ℕ) → [] ≡ drop k ts → k ≤ i → None ≡ slice_get ts i
past_end [] k i e h = refl
past_end (x ∷ ts) zero i e h = absurd (cc)
past_end (x ∷ ts) (suc k) zero e h = absurd (omega (arith, h))
past_end (x ∷ ts) (suc k) (suc i) e h = past_end ts k i e (omega (arith, h))
