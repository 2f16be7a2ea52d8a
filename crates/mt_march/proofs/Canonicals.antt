-- The canonical text is a text of its march.
use Rattle.std.proofs.Common.{◌≡◌, ℕ, List, [], ◌∷◌, ◌++◌, sym, subst, ◌∙◌, codes, inl, inr}
use Rattle.std.proofs.lemmas.Bool.{cases_Bool}
use Rattle.std.proofs.lemmas.Slice.Eq.{bytes_eq-Decides}
use Rattle.std.specs.Str.{bytes_eq}
use Rattle.mt_march.specs.declared.march.Element.{Element}
use Rattle.mt_march.specs.Grammar.{Token, march_tokens, IsMarch, Spells, SpellsMarch}
use Rattle.mt_march.specs.Canonical.{shown, text_of, canonical}
use Rattle.mt_march.proofs.Spelled.{spells_space, spells_token}
use Rattle.mt_march.proofs.Places.{one_march}

spells_shown : (token : Token) (text : List ℕ) (tokens : List Token) → Spells text tokens → Spells (shown token ++ text) (token ∷ tokens)
spells_shown token text tokens h =
    elim (cases_Bool (bytes_eq token (codes ";"))) [
      | inl same ↦ let is : token ≡ codes ";" = (bytes_eq-Decides token (codes ";")).0 same in subst (λ (t : Token). Spells (shown t ++ text) (t ∷ tokens)) (sym is) (spells_token (codes ";") (32 ∷ text) tokens (spells_space text tokens h))
      | inr other ↦ rw other (spells_token token text tokens h)
    ]

pub text_spells : (tokens : List Token) → Spells (text_of tokens) tokens
text_spells [] = tt
text_spells (token ∷ tokens) = spells_shown token (text_of tokens) tokens (text_spells tokens)

pub canonical_spells : (es : List Element) → IsMarch es → SpellsMarch (canonical es) es
canonical_spells es h = (h, text_spells (march_tokens es))

pub spells_one : (text : List ℕ) (a b : List Element) → SpellsMarch text a → SpellsMarch text b → a ≡ b
spells_one text a b ha hb = sym (one_march text a ha) ∙ one_march text b hb
