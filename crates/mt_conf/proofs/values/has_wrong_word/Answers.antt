use Rattle.std.proofs.Common.{rules}
use Rattle.mt_conf.specs.Rules.{wrong_word_in_set, wrong_word}
use Rattle.mt_conf.proofs.values.has_wrong_word.Goals as goal

pub returns-else-is_no_word : goal.returns-else-is_no_word
unfolding wrong_word
returns-else-is_no_word c =
    let found = c.any_table.ensures (wrong_word_in_set c.width_at-width.result) (λ x answer call. search rules) in
    let first = c.is_no_word.ensures in
    rw (← c.width_at-width.ensures, ← first, c.if-is_no_word.false) found
