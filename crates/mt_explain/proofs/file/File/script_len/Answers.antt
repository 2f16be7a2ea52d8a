use Rattle.std.proofs.Common.{not, sym, ap, ◌∙◌}
use Rattle.std.specs.List.{position_or_len}
use Rattle.std.proofs.lemmas.List.{drop-map}
use Rattle.mt_explain.specs.Lines.{is_separator}
use Rattle.mt_explain.proofs.LineLemmas.{prefix_len-map}
use Rattle.mt_explain.proofs.MarkLemmas.{texts}
use Rattle.mt_explain.proofs.file.File.script_len.Goals as goal

pub returns-clause-value : goal.returns-clause-value
returns-clause-value c =
    c.len_to_separator.ensures.value
    ∙ sym (prefix_len-map (λ line. line.now) (λ line. not (is_separator line)) c.body.result.now)
    ∙ ap (λ file. position_or_len is_separator (texts file)) c.body.ensures
    ∙ ap (position_or_len is_separator) (sym (drop-map (λ line. line.now) c.args.self.now.head c.args.self.now.lines.now))
