use Rattle.std.proofs.Common.{ap, sym, ◌∙◌}
use Rattle.std.specs.Option.{option_copied}
use Rattle.mt_locate.proofs.Suspicion.{evidence_first, evidence_none}
use Rattle.mt_locate.proofs.evidence.evidence_of.Goals as goal

pub returns-in-None-clause-evidence : goal.returns-in-None-clause-evidence
returns-in-None-clause-evidence c = evidence_none c.args.probe.now c.args.misses.now (sym c.first.ensures.value ∙ ap option_copied c.in-None.is)

pub returns-in-Some-clause-evidence : goal.returns-in-Some-clause-evidence
returns-in-Some-clause-evidence c =
    c.evidence_with.ensures.evidence ∙ evidence_first c.args.probe.now c.args.misses.now c.in-Some.miss.now (sym c.in-Some.ensures.value)
