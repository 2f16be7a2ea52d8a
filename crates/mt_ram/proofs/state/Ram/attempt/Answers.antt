use Rattle.std.proofs.Common.{◌≡◌, sym, subst, true, Option}
use Rattle.std.specs.Prelude.{is_some}
use Rattle.mt_seq.specs.declared.sequence.Verdict.{Verdict}
use Rattle.mt_ram.proofs.Drops.{whole}
use Rattle.mt_ram.proofs.state.Ram.attempt.Goals as goal

pub returns-clause-whole : goal.returns-clause-whole
returns-clause-whole g c = λ no. subst (λ (o : Option Verdict). is_some o ≡ true) (sym c.try_slice.ensures.verdict) (whole _ _ _ _ no)
