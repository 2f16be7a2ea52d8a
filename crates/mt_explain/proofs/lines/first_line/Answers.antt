use Rattle.std.proofs.Common.{◌≡◌, ℕ, ◌+◌, List, [], ◌∷◌, take, drop, sym, ap, ap₂, ◌∙◌, arith}
use Rattle.std.proofs.lemmas.List.{drop_all}
use Rattle.mt_verify.specs.Lines.{lines}
use Rattle.mt_explain.proofs.LineLemmas.{first_line as first_line_lem}
use Rattle.mt_explain.proofs.lines.first_line.Goals as goal

abbrev both : List ℕ → List ℕ → List (List ℕ)
both line behind = line ∷ lines behind

pub returns-then-len-text-clause-lines : goal.returns-then-len-text-clause-lines
returns-then-len-text-clause-lines c =
    let text = c.args.text.now in
    let len = c.line_len-len.ensures.len in
    let none : drop (c.line_len-len.result + 1) text ≡ [] = drop_all (c.line_len-len.result + 1) text (omega (arith, c.if-len-text.true)) in
    first_line_lem text c.requires
    ∙ ap₂ both (ap (λ (n : ℕ). take n text) (sym len) ∙ sym c.split_at.ensures.front) (ap (λ (n : ℕ). drop (n + 1) text) (sym len) ∙ none)

pub returns-clause-lines : goal.returns-clause-lines
returns-clause-lines c =
    let text = c.args.text.now in
    let len = c.line_len-len.ensures.len in
    first_line_lem text c.requires
    ∙ ap₂ both (ap (λ (n : ℕ). take n text) (sym len) ∙ sym c.split_at.ensures.front) (ap (λ (n : ℕ). drop (n + 1) text) (sym len) ∙ sym c.split_at-2.ensures.back)
