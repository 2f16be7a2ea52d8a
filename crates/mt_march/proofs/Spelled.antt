-- The machine takes the texts of the grammar and no others.
use Rattle.std.proofs.Common.{◌≡◌, ℕ, ◌+◌, eqb, cond, List, [], ◌∷◌, ◌++◌, Option, Some, None, refl, sym, ap, subst, ◌⊎◌, inl, inr, codes}
use Rattle.std.specs.List.{AllByRecursion}
use Rattle.std.specs.Option.{option_and_then}
use Rattle.std.proofs.lemmas.Bool.{cases_Bool, eqb-true}
use Rattle.mt_march.specs.declared.march.Op.{Op}
use Rattle.mt_march.specs.declared.march.Element.{Element}
use Rattle.mt_march.specs.declared.spelling.Expects.{Expects}
use Rattle.mt_march.specs.declared.spelling.Expects.TheVariants.{Brace, Direction, Parenthesis, Letter, Digit, Comma, Semicolon, Nothing}
use Rattle.mt_march.specs.Grammar.{Token, op_token, more_ops, all_ops, element_tokens, more_elements, IsNonEmpty, IsMarch, Spells, SpellsMarch}
use Rattle.mt_march.specs.Machine.{next, fault, fault_at_end, goes_on}
use Rattle.mt_march.specs.Scan.{first}
use Rattle.mt_march.specs.Value.{op_of, parts}

abbrev pub run : Expects → List ℕ → Option Expects
run s [] = Some s
run s (b ∷ bs) = option_and_then (λ after. run after bs) (next s b)

-- ---- the fault and the run

at_end : (s : Expects) (place : ℕ) → fault_at_end s place ≡ None → run s [] ≡ Some Nothing
at_end Nothing place h = refl
at_end Brace place h = absurd cc
at_end Direction place h = absurd cc
at_end Parenthesis place h = absurd cc
at_end Letter place h = absurd cc
at_end Digit place h = absurd cc
at_end Comma place h = absurd cc
at_end Semicolon place h = absurd cc

on_then : (o : Option Expects) (place : ℕ) (rest : Expects → Option ℕ) (tail : Expects → Option Expects) → ((s : Expects) → rest s ≡ None → tail s ≡ Some Nothing) → goes_on o place rest ≡ None → option_and_then tail o ≡ Some Nothing
on_then None place rest tail step h = absurd cc
on_then (Some s) place rest tail step h = step s h

pub run_from_fault : (s : Expects) (place : ℕ) (text : List ℕ) → fault s place text ≡ None → run s text ≡ Some Nothing
run_from_fault s place [] h = at_end s place h
run_from_fault s place (b ∷ bs) h = on_then (next s b) place (λ after. fault after (place + 1) bs) (λ after. run after bs) (λ after. run_from_fault after (place + 1) bs) h

-- ---- spaces and tokens

AreSpaces : List ℕ → Type 0
AreSpaces = AllByRecursion (λ byte. byte ≡ 32)

pub spells_space : (text : List ℕ) (tokens : List Token) → Spells text tokens → Spells (32 ∷ text) tokens
spells_space text [] h = (refl, h)
spells_space text (token ∷ tokens) h = (32 ∷ h.0, h.1, (refl, h.2), ap (λ (t : List ℕ). 32 ∷ t) h.3, h.4)

-- one token that stands at the front
pub spells_token : (token text : List ℕ) (tokens : List Token) → Spells text tokens → Spells (token ++ text) (token ∷ tokens)
spells_token token text tokens h = ([], text, tt, refl, h)

-- ---- what the machine takes is spelled

abbrev direction_tokens : List Element → List Token
direction_tokens [] = []
direction_tokens (e ∷ es) = element_tokens e (more_elements es)

abbrev AreElements : List Element → Type 0
AreElements = AllByRecursion (λ e. IsNonEmpty e.ops.items)

-- what is left spells the rest of a march
abbrev Claim : Expects → List ℕ → List Op → List Element → Type 0
Claim Brace text ops es = (ops ≡ []) × SpellsMarch text es
Claim Direction text ops es = (ops ≡ []) × IsMarch es × Spells text (direction_tokens es)
Claim Parenthesis text ops es = IsNonEmpty ops × AreElements es × Spells text (codes "(" ∷ all_ops ops (more_elements es))
Claim Letter text ops es = IsNonEmpty ops × AreElements es × Spells text (all_ops ops (more_elements es))
Claim Digit text ops es = AreElements es × ((letter : ℕ) → (letter ≡ 114) ⊎ (letter ≡ 119) → Spells (letter ∷ text) (op_token (op_of letter (first text)) ∷ more_ops ops (more_elements es)))
Claim Comma text ops es = AreElements es × Spells text (more_ops ops (more_elements es))
Claim Semicolon text ops es = (ops ≡ []) × AreElements es × Spells text (more_elements es)
Claim Nothing text ops es = (ops ≡ []) × (es ≡ []) × Spells text []

chosen : {P : Type 0} (b n : ℕ) (s : Expects) (rest : Option Expects) (tail : Expects → Option Expects) → option_and_then tail (cond (eqb b n) (Some s) rest) ≡ Some Nothing
    → (b ≡ n → tail s ≡ Some Nothing → P) → (option_and_then tail rest ≡ Some Nothing → P) → P
chosen b n s rest tail h here there =
    elim (cases_Bool (eqb b n)) [ inl e ↦ here (eqb-true b n e) (rw e at h) | inr e ↦ there (rw e at h) ]

none_left : {P : Type 0} (tail : Expects → Option Expects) → option_and_then tail None ≡ Some Nothing → P
none_left tail h = absurd cc

brace_step : (bs : List ℕ) (ops : List Op) (es : List Element) → Claim Direction bs ops es → Claim Brace (123 ∷ bs) ops es
brace_step bs ops [] h = absurd h.1.0
brace_step bs ops (e ∷ es) h = (h.0, (h.1, ([], bs, tt, refl, h.2)))

digit_step : (digit : ℕ) (bs : List ℕ) (ops : List Op) (es : List Element) → (digit ≡ 48) ⊎ (digit ≡ 49) → Claim Comma bs ops es → Claim Digit (digit ∷ bs) ops es
digit_step digit bs ops es is h =
    let T : ℕ → ℕ → Type 0 = λ l d. Spells (l ∷ d ∷ bs) (op_token (op_of l d) ∷ more_ops ops (more_elements es)) in (
      h.0,
      λ letter which.
          elim which [
            | inl l ↦ elim is [ inl d ↦ subst (λ x. T x digit) (sym l) (subst (λ x. T 114 x) (sym d) ([], bs, tt, refl, h.1)) | inr d ↦ subst (λ x. T x digit) (sym l) (subst (λ x. T 114 x) (sym d) ([], bs, tt, refl, h.1)) ]
            | inr l ↦ elim is [ inl d ↦ subst (λ x. T x digit) (sym l) (subst (λ x. T 119 x) (sym d) ([], bs, tt, refl, h.1)) | inr d ↦ subst (λ x. T x digit) (sym l) (subst (λ x. T 119 x) (sym d) ([], bs, tt, refl, h.1)) ]
          ],
    )

comma_step : (bs : List ℕ) (ops : List Op) (es : List Element) → Claim Letter bs ops es → Claim Comma (44 ∷ bs) ops es
comma_step bs [] es h = absurd h.0
comma_step bs (op ∷ ops) es h = (h.1, ([], bs, tt, refl, h.2))

close_step : (bs : List ℕ) (ops : List Op) (es : List Element) → Claim Semicolon bs ops es → Claim Comma (41 ∷ bs) ops es
close_step bs [] es h = (h.1, ([], bs, tt, refl, h.2))
close_step bs (op ∷ ops) es h = absurd cc

semicolon_step : (bs : List ℕ) (ops : List Op) (es : List Element) → Claim Direction bs ops es → Claim Semicolon (59 ∷ bs) ops es
semicolon_step bs ops [] h = absurd h.1.0
semicolon_step bs ops (e ∷ es) h = (h.0, h.1.1, ([], bs, tt, refl, h.2))

end_step : (bs : List ℕ) (ops : List Op) (es : List Element) → Claim Nothing bs ops es → Claim Semicolon (125 ∷ bs) ops es
end_step bs ops [] h = (h.0, tt, ([], bs, tt, refl, h.2))
end_step bs ops (e ∷ es) h = absurd cc

-- the claim for the whole of a text
abbrev ClaimAt : Expects → List ℕ → Type 0
ClaimAt s text = Claim s text (parts text).0 (parts text).1

-- the claim at a byte that is known
at_byte : (s : Expects) (b n : ℕ) (bs : List ℕ) → b ≡ n → ClaimAt s (n ∷ bs) → ClaimAt s (b ∷ bs)
at_byte s b n bs e h = subst (λ (x : ℕ). ClaimAt s (x ∷ bs)) (sym e) h

pub claim : (s : Expects) (text : List ℕ) → run s text ≡ Some Nothing → ClaimAt s text
claim Brace [] h = absurd cc
claim Direction [] h = absurd cc
claim Parenthesis [] h = absurd cc
claim Letter [] h = absurd cc
claim Digit [] h = absurd cc
claim Comma [] h = absurd cc
claim Semicolon [] h = absurd cc
claim Nothing [] h = (refl, refl, tt)
claim Brace (b ∷ bs) h =
    chosen b 32 Brace _ (λ after. run after bs) h (λ e t. let c = claim Brace bs t in at_byte Brace b 32 bs e (c.0, (c.1.0, spells_space bs _ c.1.1)))
    (λ h2. chosen b 123 Direction _ (λ after. run after bs) h2 (λ e t. at_byte Brace b 123 bs e (brace_step bs _ _ (claim Direction bs t)))
    (none_left (λ after. run after bs)))
claim Direction (b ∷ bs) h =
    chosen b 32 Direction _ (λ after. run after bs) h (λ e t. let c = claim Direction bs t in at_byte Direction b 32 bs e (c.0, c.1, spells_space bs _ c.2))
    (λ h2. chosen b 117 Parenthesis _ (λ after. run after bs) h2 (λ e t. let c = claim Parenthesis bs t in at_byte Direction b 117 bs e (refl, (tt, (c.0, c.1)), ([], bs, tt, refl, c.2)))
    (λ h3. chosen b 100 Parenthesis _ (λ after. run after bs) h3 (λ e t. let c = claim Parenthesis bs t in at_byte Direction b 100 bs e (refl, (tt, (c.0, c.1)), ([], bs, tt, refl, c.2)))
    (λ h4. chosen b 42 Parenthesis _ (λ after. run after bs) h4 (λ e t. let c = claim Parenthesis bs t in at_byte Direction b 42 bs e (refl, (tt, (c.0, c.1)), ([], bs, tt, refl, c.2)))
    (none_left (λ after. run after bs)))))
claim Parenthesis (b ∷ bs) h =
    chosen b 32 Parenthesis _ (λ after. run after bs) h (λ e t. let c = claim Parenthesis bs t in at_byte Parenthesis b 32 bs e (c.0, c.1, spells_space bs (codes "(" ∷ all_ops (parts bs).0 (more_elements (parts bs).1)) c.2))
    (λ h2. chosen b 40 Letter _ (λ after. run after bs) h2 (λ e t. let c = claim Letter bs t in at_byte Parenthesis b 40 bs e (c.0, c.1, ([], bs, tt, refl, c.2)))
    (none_left (λ after. run after bs)))
claim Letter (b ∷ bs) h =
    chosen b 32 Letter _ (λ after. run after bs) h (λ e t. let c = claim Letter bs t in at_byte Letter b 32 bs e (c.0, c.1, spells_space bs _ c.2))
    (λ h2. chosen b 114 Digit _ (λ after. run after bs) h2 (λ e t. let c = claim Digit bs t in at_byte Letter b 114 bs e (tt, c.0, c.1 114 (inl refl)))
    (λ h3. chosen b 119 Digit _ (λ after. run after bs) h3 (λ e t. let c = claim Digit bs t in at_byte Letter b 119 bs e (tt, c.0, c.1 119 (inr refl)))
    (none_left (λ after. run after bs))))
claim Digit (b ∷ bs) h =
    chosen b 48 Comma _ (λ after. run after bs) h (λ e t. at_byte Digit b 48 bs e (digit_step 48 bs _ _ (inl refl) (claim Comma bs t)))
    (λ h2. chosen b 49 Comma _ (λ after. run after bs) h2 (λ e t. at_byte Digit b 49 bs e (digit_step 49 bs _ _ (inr refl) (claim Comma bs t)))
    (none_left (λ after. run after bs)))
claim Comma (b ∷ bs) h =
    chosen b 32 Comma _ (λ after. run after bs) h (λ e t. let c = claim Comma bs t in at_byte Comma b 32 bs e (c.0, spells_space bs _ c.1))
    (λ h2. chosen b 44 Letter _ (λ after. run after bs) h2 (λ e t. at_byte Comma b 44 bs e (comma_step bs _ _ (claim Letter bs t)))
    (λ h3. chosen b 41 Semicolon _ (λ after. run after bs) h3 (λ e t. at_byte Comma b 41 bs e (close_step bs _ _ (claim Semicolon bs t)))
    (none_left (λ after. run after bs))))
claim Semicolon (b ∷ bs) h =
    chosen b 32 Semicolon _ (λ after. run after bs) h (λ e t. let c = claim Semicolon bs t in at_byte Semicolon b 32 bs e (c.0, c.1, spells_space bs _ c.2))
    (λ h2. chosen b 59 Direction _ (λ after. run after bs) h2 (λ e t. at_byte Semicolon b 59 bs e (semicolon_step bs _ _ (claim Direction bs t)))
    (λ h3. chosen b 125 Nothing _ (λ after. run after bs) h3 (λ e t. at_byte Semicolon b 125 bs e (end_step bs _ _ (claim Nothing bs t)))
    (none_left (λ after. run after bs))))
claim Nothing (b ∷ bs) h =
    chosen b 32 Nothing _ (λ after. run after bs) h (λ e t. let c = claim Nothing bs t in at_byte Nothing b 32 bs e (c.0, c.1, spells_space bs [] c.2))
    (none_left (λ after. run after bs))
