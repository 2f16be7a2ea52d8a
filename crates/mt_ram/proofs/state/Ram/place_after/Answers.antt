use Rattle.std.proofs.Common.{◌∙◌, List, sym, ap, subst}
use Rattle.mt_blocks.specs.declared.config.ParamSet.{ParamSet}
use Rattle.mt_blocks.specs.declared.config.Block.{Block}
use Rattle.mt_blocks.specs.Slices.{AreSpans, IsValid, next_of, or_start}
use Rattle.mt_blocks.specs.Accepted.{spans_of}
use Rattle.mt_ram.specs.State.{set_of, spans_in}
use Rattle.mt_ram.proofs.state.Ram.place_after.Goals as goal

pub returns-clause-valid : goal.returns-clause-valid
returns-clause-valid c =
    let r = c.args.self.now in
    let spans = subst (λ (x : ParamSet). AreSpans x.atomic (spans_of x.blocks)) c.set-set.ensures.set c.set-set.ensures.spans in
    let next = ap (λ (l : List Block). or_start (next_of c.set-set.result.now.atomic (spans_of l) c.args.at)) c.as_slice.ensures
    ∙ ap (λ (x : ParamSet). or_start (next_of x.atomic (spans_of x.blocks) c.args.at)) c.set-set.ensures.set in
    subst (IsValid (set_of r).atomic (spans_in r)) (sym (c.or_start.ensures ∙ ap or_start c.following.ensures.next ∙ next))
    (c.passes_go_on.ensures (set_of r).atomic (spans_in r) c.args.at spans c.requires).again
