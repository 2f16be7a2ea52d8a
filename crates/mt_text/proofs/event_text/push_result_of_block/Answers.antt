use Rattle.std.specs.Prelude.{codes, decimal}
use Rattle.mt_text.proofs.PieceLemmas.{one_word_more}
use Rattle.mt_text.proofs.event_text.push_result_of_block.Goals as goal

pub returns-clause-text : goal.returns-clause-text
returns-clause-text c = one_word_more c.args.out.now.items c.push_ram_service.new.out.items c.push_argument.new.out.items c.args.spaced (codes "ram") (codes "GetTestResultPerBlock") (decimal c.args.block) c.push_ram_service.ensures.text c.push_argument.ensures.text
