use Rattle.mt_cover.proofs.Table.{coverage}
use Rattle.mt_cover.proofs.laws.each_tabled_fault_is_caught.Goals as goal

pub returns : goal.returns
returns c = coverage (record {
  own_words = c.other_words_do_not_matter.ensures.answers;
  last = c.last_access_decides.ensures;
  march = c.march_on_kept_cells.ensures;
  cells = c.kept_cells.ensures;
})
