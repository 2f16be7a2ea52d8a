-- Where the spaces of the canonical text stand.
use Rattle.std.proofs.Common.{◌≡◌, ℕ, zero, suc, ◌==◌, Bool, true, false, not, List, [], ◌∷◌, ◌++◌, get_or, refl, sym, ◌∙◌, arith, codes, eq-eqb, eqb-true, sub-one}
use Rattle.std.specs.Prelude.{◌↔◌, ◌&&◌}
use Rattle.std.proofs.lemmas.Bool.{and_parts}
use mathlib.Core.Bool.{beq}
use Rattle.mt_march.specs.declared.march.Op.{Op}
use Rattle.mt_march.specs.declared.march.Op.TheVariants.{R0, R1, W0, W1}
use Rattle.mt_march.specs.declared.march.Order.{Order}
use Rattle.mt_march.specs.declared.march.Order.TheVariants.{Up, Down, Either}
use Rattle.mt_march.specs.declared.march.Element.{Element}
use Rattle.mt_march.specs.Grammar.{Token, order_token, op_token, more_ops, all_ops, element_tokens, more_elements}
use Rattle.mt_march.specs.Canonical.{shown, text_of, canonical}
use Rattle.mt_march.specs.Laws.{SpacesFollowSemicolons}

-- whether each byte is a space exactly after a semicolon; the byte before these
abbrev spaced : ℕ → List ℕ → Bool
spaced before [] = not (before == 59)
spaced before (b ∷ bs) = beq (b == 32) (before == 59) && spaced b bs

-- a text that goes on well after a byte that is neither a space nor a semicolon
abbrev GoesOn : List ℕ → Type 0
GoesOn text = (before : ℕ) → (before == 59) ≡ false → spaced before text ≡ true

op_spaced : (op : Op) (rest : List ℕ) → GoesOn rest → GoesOn (shown (op_token op) ++ rest)
op_spaced R0 rest h before e = rw e (h 48 refl)
op_spaced R1 rest h before e = rw e (h 49 refl)
op_spaced W0 rest h before e = rw e (h 48 refl)
op_spaced W1 rest h before e = rw e (h 49 refl)

more_ops_spaced : (ops : List Op) (tokens : List Token) → GoesOn (text_of tokens) → GoesOn (text_of (more_ops ops tokens))
more_ops_spaced [] tokens h before e = rw e (h 41 refl)
more_ops_spaced (op ∷ ops) tokens h before e = rw e (op_spaced op (text_of (more_ops ops tokens)) (more_ops_spaced ops tokens h) 44 refl)

all_ops_spaced : (ops : List Op) (tokens : List Token) → GoesOn (text_of tokens) → GoesOn (text_of (all_ops ops tokens))
all_ops_spaced [] tokens h before e = rw e (h 41 refl)
all_ops_spaced (op ∷ ops) tokens h before e = op_spaced op (text_of (more_ops ops tokens)) (more_ops_spaced ops tokens h) before e

-- an order, and the parenthesis after it
order_spaced : (order : Order) (rest : List ℕ) → GoesOn rest → GoesOn (shown (order_token order) ++ (codes "(" ++ rest))
order_spaced Up rest h before e = rw e (h 40 refl)
order_spaced Down rest h before e = rw e (h 40 refl)
order_spaced Either rest h before e = rw e (h 40 refl)

element_spaced : (element : Element) (tokens : List Token) → GoesOn (text_of tokens) → GoesOn (text_of (element_tokens element tokens))
element_spaced element tokens h = order_spaced element.order (text_of (all_ops element.ops.items tokens)) (all_ops_spaced element.ops.items tokens h)

elements_spaced : (elements : List Element) → GoesOn (text_of (more_elements elements))
elements_spaced [] before e = rw e refl
elements_spaced (element ∷ elements) before e = rw e (element_spaced element (more_elements elements) (elements_spaced elements) 32 refl)

march_spaced : (march : List Element) → spaced 0 (canonical march) ≡ true
march_spaced [] = refl
march_spaced (element ∷ elements) = element_spaced element (more_elements elements) (elements_spaced elements) 123 refl

-- ---- byte by byte

alike : (a b : Bool) → beq a b ≡ true → a ≡ b
alike true true h = refl
alike true false h = absurd cc
alike false true h = absurd cc
alike false false h = refl

no_semicolon : (before : ℕ) → not (before == 59) ≡ true → before ≡ 59 → ⊥
no_semicolon before h e = let t : (before == 59) ≡ true = eq-eqb before 59 e in let f : not true ≡ true = rw t at h in cc

-- a byte is a space exactly where the byte before it is a semicolon
spaced_at : (before : ℕ) (text : List ℕ) → spaced before text ≡ true → (i : ℕ) → (get_or text i 0 ≡ 32) ↔ (get_or (before ∷ text) i 0 ≡ 59)
spaced_at before [] h zero = (λ e. absurd cc, λ e. absurd (no_semicolon before h e))
spaced_at before [] h (suc i) = (λ e. absurd cc, λ e. absurd cc)
spaced_at before (b ∷ bs) h zero =
    let same = alike (b == 32) (before == 59) (and_parts (beq (b == 32) (before == 59)) (spaced b bs) h).0 in
    (λ e. eqb-true before 59 (sym same ∙ eq-eqb b 32 e), λ e. eqb-true b 32 (same ∙ eq-eqb before 59 e))
spaced_at before (b ∷ bs) h (suc i) = spaced_at b bs (and_parts (beq (b == 32) (before == 59)) (spaced b bs) h).1 i

pub spaces_follow_semicolons : SpacesFollowSemicolons
spaces_follow_semicolons march zero = let at = spaced_at 0 (canonical march) (march_spaced march) zero in (λ e. absurd (let f : 0 ≡ 59 = at.0 e in cc), λ h. absurd (omega (arith, h.0)))
spaces_follow_semicolons march (suc i) =
    let at = spaced_at 0 (canonical march) (march_spaced march) (suc i) in
    rw sub-one (λ e. (omega arith, at.0 e), λ h. at.1 h.1)
