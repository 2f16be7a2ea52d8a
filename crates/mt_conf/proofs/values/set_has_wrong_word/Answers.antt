use Rattle.std.proofs.Common.{rules}
use Rattle.std.specs.Prelude.{codes}
use Rattle.mt_conf.specs.Rules.{no_word, wrong_word_in_set}
use Rattle.mt_conf.proofs.values.set_has_wrong_word.Goals as goal

pub returns-else-is_no_word : goal.returns-else-is_no_word
unfolding wrong_word_in_set
returns-else-is_no_word c =
    let found = c.any_table.ensures (no_word c.args.width (codes "fill")) (λ x answer call. search rules) in
    search rules
