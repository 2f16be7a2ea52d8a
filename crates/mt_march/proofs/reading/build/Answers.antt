use Rattle.std.proofs.Common.{◌≡◌, ◌∙◌, ◌+◌, ◌∷◌, drop, get_or, length}
use Rattle.mt_march.specs.Building.{element_count}
use Rattle.std.proofs.lemmas.List.{drop_more}
use Rattle.mt_march.specs.Value.{parts}
use Rattle.mt_march.proofs.Room.{room_more}
use Rattle.mt_march.proofs.reading.build.Goals as goal

pub loop-i-preserved : goal.loop-i-preserved
loop-i-preserved c =
    let i = c.loop-i.i in
    let text = c.args.text.now in
    let d : drop i text ≡ get_or text i 0 ∷ drop (i + 1) text = drop_more text i 0 c.loop-i-test.true in
    let whole = rw d at c.loop-i.invariant.whole in
    let room = room_more (i + 1) (element_count c.loop-i.builder) (length c.loop-i.builder.ops.items) (get_or text i 0) (drop (i + 1) text) (rw d at c.loop-i.invariant.room) c.loop-i.invariant.elements c.loop-i.invariant.ops in
    record {
      whole = c.step-builder.ensures.whole (parts (drop (i + 1) text)) ∙ rw (c.first.ensures, c.split_at.ensures.back) whole;
      room = rw (c.step-builder.ensures.elements, c.step-builder.ensures.ops) room.more;
      elements = rw c.step-builder.ensures.elements room.elements;
      ops = rw c.step-builder.ensures.ops room.ops;
    }
