use Rattle.std.proofs.Common.{◌∙◌, sym, ap, subst}
use Rattle.mt_blocks.specs.declared.config.ParamSet.{ParamSet}
use Rattle.mt_blocks.specs.Slices.{IsValid}
use Rattle.mt_blocks.specs.Accepted.{spans_of}
use Rattle.mt_ram.specs.State.{RamTst, set_of}
use Rattle.mt_ram.proofs.state.Ram.take_verdict.Goals as goal

pub invariant_of-self : goal.invariant_of-self
invariant_of-self c =
    let same = ap (λ (r : RamTst). set_of r) (c.self-2.view_is ∙ c.take_result-last.ensures.leaves) in
    let inv = c.self-2.invariant in
    record {
      accepted = inv.accepted;
      selected = inv.selected;
      results = inv.results;
      place = subst (λ (set : ParamSet). IsValid set.atomic (spans_of set.blocks) c.args.next) (sym same) c.requires.place;
      failure = tt;
      low = inv.low;
      high = inv.high;
    }
