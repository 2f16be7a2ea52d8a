use Rattle.mt_seq.proofs.Urgent.{dropped_serve, urgent_waits_are_short}
use Rattle.mt_seq.proofs.laws.urgent_requests_wait_shortly.Goals as goal

pub returns-clause-serves : goal.returns-clause-serves
returns-clause-serves c = dropped_serve

pub returns-clause-short : goal.returns-clause-short
returns-clause-short c = urgent_waits_are_short
