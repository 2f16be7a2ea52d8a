use Rattle.std.proofs.Common.{ap}
use Rattle.mt_locate.specs.Suspects.{evidence_of, told_by}
use Rattle.mt_locate.proofs.evidence.evidence_with.Goals as goal

pub returns-in-None-clause-evidence : goal.returns-in-None-clause-evidence
unfolding evidence_of
returns-in-None-clause-evidence c = ap (λ r. told_by c.args.probe.now.first r c.args.miss.word) c.in-None.ensures.read

pub returns-in-Some-clause-evidence : goal.returns-in-Some-clause-evidence
unfolding evidence_of
returns-in-Some-clause-evidence c = ap (λ r. told_by c.args.probe.now.first r c.args.miss.word) c.in-Some.ensures.read
