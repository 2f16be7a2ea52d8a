use Rattle.mt_conf.proofs.Fields.{fields_are_entries}
use Rattle.mt_conf.proofs.laws.fields_are_entries.Goals as goal

pub returns : goal.returns
returns c = fields_are_entries c.refusals_are_of_texts.ensures.unrefused
