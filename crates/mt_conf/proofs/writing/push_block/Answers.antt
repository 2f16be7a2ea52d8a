use Rattle.std.specs.Prelude.{codes}
use Rattle.mt_hex.specs.Digits.{word_text}
use Rattle.mt_conf.specs.Canonical.{number_entry, text_entry, header, policy_name, block_text}
use Rattle.mt_conf.proofs.Parts.{five_parts}
use Rattle.mt_conf.proofs.writing.push_block.Goals as goal

pub returns-clause-text : goal.returns-clause-text
unfolding block_text
returns-clause-text c =
    five_parts c.args.out.now.items c.push_header.new.out.items c.push_number_entry.new.out.items c.push_number_entry-2.new.out.items c.push_text_entry.new.out.items c.push_word_entry.new.out.items
    (header (codes "[[set.block]]")) (number_entry (codes "first") c.args.block.now.span.first) (number_entry (codes "last") c.args.block.now.span.last)
    (text_entry (codes "policy") (policy_name c.args.block.now.policy)) (text_entry (codes "fill") (word_text c.args.width c.args.block.now.fill))
    c.push_header.ensures.text c.push_number_entry.ensures.text c.push_number_entry-2.ensures.text (rw c.policy_name.ensures.value at c.push_text_entry.ensures.text) c.push_word_entry.ensures.text
