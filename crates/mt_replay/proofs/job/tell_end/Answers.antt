use Rattle.mt_replay.proofs.job.tell_end.Goals as goal

pub returns-in-Broken : goal.returns-in-Broken
returns-in-Broken g c = rw c.in-Broken.is c.tell-in-Broken.ensures
