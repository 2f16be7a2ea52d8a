use Rattle.mt_conf.proofs.Keyed.{keys_are_listed}
use Rattle.mt_conf.proofs.laws.accepted_keys_are_listed.Goals as goal

pub returns : goal.returns
returns c = keys_are_listed
