use Rattle.mt_fault.proofs.ItemLemmas.{words_append, passes-append, passes_cut}
use Rattle.mt_fault.proofs.laws.test_accesses_may_be_cut.Goals as goal

pub returns : goal.returns
returns c = record {
  words = words_append;
  split = passes-append;
  checks = λ width fault first later earlier xs placed inside. passes_cut width fault first later earlier placed xs inside;
}
