use Rattle.std.proofs.Common.{◌+◌, ℕ, not, sym, ap, ◌∙◌}
use Rattle.mt_explain.specs.Lines.{is_separator}
use Rattle.mt_explain.proofs.LineLemmas.{prefix_len-map}
use Rattle.mt_explain.proofs.lines.head_len.Goals as goal

pub returns-clause-value : goal.returns-clause-value
returns-clause-value c =
    ap (λ (n : ℕ). n + 1) (c.len_to_separator.ensures.value ∙ sym (prefix_len-map (λ line. line.now) (λ line. not (is_separator line)) c.args.file.now))
