use Rattle.std.proofs.Common.{◌≡◌, ◌∷◌, List, subst, sym}
use Rattle.mt_blocks.specs.declared.config.Block.{Block}
use Rattle.mt_blocks.specs.Slices.{AreSpans, from_place, from_next, piece_at}
use Rattle.mt_blocks.specs.Accepted.{spans_of}
use Rattle.mt_cut.proofs.Sets.{are_spans}
use Rattle.mt_cut.proofs.Places.{holds-step}
use Rattle.mt_cut.proofs.step.step_at.Goals as goal

pub following-requires-clause-blocks : goal.following-requires-clause-blocks
following-requires-clause-blocks c =
    subst (λ (b : List Block). AreSpans c.args.set.now.atomic (spans_of b)) (sym c.as_slice.ensures) (are_spans c.args.set.now c.requires.set)

pub returns-clause-rest : goal.returns-clause-rest
returns-clause-rest c =
    let set = c.args.set.now in
    let at = c.args.at in
    let next = c.following.result in
    let is = subst (λ (b : List Block). from_place set.atomic (spans_of b) at ≡ piece_at set.atomic (spans_of b) at ∷ from_next set.atomic (spans_of b) next)
    c.as_slice.ensures c.following.ensures.rest in
    holds-step set at next c.hold_at.result is c.hold_at.ensures.hold
