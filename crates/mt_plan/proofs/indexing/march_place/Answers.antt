use Rattle.std.proofs.Common.{◌≡◌, ◌*◌, ◌<◌, ◌≤◌, length, Some, arith, refl}
use Rattle.std.specs.Prelude.{slice_get}
use Rattle.std.proofs.lemmas.Option.{slice_get_read}
use Rattle.mt_plan.proofs.Standing.{march_place_is, march_past, march_done}
use Rattle.mt_plan.proofs.indexing.march_place.Goals as goal

pub returns-then-left-n-clause-place : goal.returns-then-left-n-clause-place
returns-then-left-n-clause-place c =
    let es = c.args.march.now.elements.items in
    let part = c.loop-part.part in
    let within : part < length es = rw (← c.as_slice-element-items.ensures.value) c.loop-part-test.true in
    let here : slice_get es part ≡ Some c.element-item.result = slice_get_read es (length es) part c.element-item.result refl within (rw (← c.as_slice-element-items.ensures.value) c.element-item.is) in
    let inner : c.loop-part.left < c.args.n * length c.element-item.result.ops.items = rw c.as_slice.ensures.value at c.if-left-n.true in
    rw c.as_slice.ensures.value (march_place_is c.args.march.now c.args.n part c.loop-part.left c.args.i c.element-item.result here within inner c.loop-part.invariant).stands

pub returns-then-left-n-clause-index : goal.returns-then-left-n-clause-index
returns-then-left-n-clause-index c =
    let es = c.args.march.now.elements.items in
    let part = c.loop-part.part in
    let within : part < length es = rw (← c.as_slice-element-items.ensures.value) c.loop-part-test.true in
    let here : slice_get es part ≡ Some c.element-item.result = slice_get_read es (length es) part c.element-item.result refl within (rw (← c.as_slice-element-items.ensures.value) c.element-item.is) in
    let inner : c.loop-part.left < c.args.n * length c.element-item.result.ops.items = rw c.as_slice.ensures.value at c.if-left-n.true in
    rw c.as_slice.ensures.value (march_place_is c.args.march.now c.args.n part c.loop-part.left c.args.i c.element-item.result here within inner c.loop-part.invariant).index

pub loop-part-preserved : goal.loop-part-preserved
loop-part-preserved c =
    let es = c.args.march.now.elements.items in
    let part = c.loop-part.part in
    let within : part < length es = rw (← c.as_slice-element-items.ensures.value) c.loop-part-test.true in
    let here : slice_get es part ≡ Some c.element-item.result = slice_get_read es (length es) part c.element-item.result refl within (rw (← c.as_slice-element-items.ensures.value) c.element-item.is) in
    let past : c.args.n * length c.element-item.result.ops.items ≤ c.loop-part.left = rw c.as_slice.ensures.value at c.if-left-n.false in
    rw c.as_slice.ensures.value (march_past c.args.march.now c.args.n part c.loop-part.left c.args.i c.element-item.result here past c.loop-part.invariant)

pub unreachable-requires : goal.unreachable-requires
unreachable-requires c =
    let es = c.args.march.now.elements.items in
    let over : length es ≤ c.loop-part.part = rw (← c.as_slice-element-items.ensures.value) c.loop-part-test.false in
    let under : c.loop-part.part ≤ length es = rw (← c.as_slice-element-items.ensures.value) c.loop-part.auto.part-end in
    march_done c.args.march.now c.args.n c.loop-part.part c.loop-part.left c.args.i (omega arith) c.loop-part.invariant c.requires.within
