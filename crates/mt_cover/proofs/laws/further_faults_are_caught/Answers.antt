use Rattle.mt_cover.proofs.Below.{Laws}
use Rattle.mt_cover.proofs.Further.{further, one_direction}
use Rattle.mt_cover.proofs.laws.further_faults_are_caught.Goals as goal

laws : goal.After-kept_cells → Laws
laws c = record {
  own_words = c.other_words_do_not_matter.ensures.answers;
  last = c.last_access_decides.ensures;
  march = c.march_on_kept_cells.ensures;
  cells = c.kept_cells.ensures;
}

pub returns-clause-classes : goal.returns-clause-classes
returns-clause-classes c = further (laws c)

pub returns-clause-transition : goal.returns-clause-transition
returns-clause-transition c = one_direction (laws c)
