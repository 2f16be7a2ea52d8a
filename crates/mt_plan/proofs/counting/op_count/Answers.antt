use Rattle.std.proofs.Common.{◌≡◌, ◌<◌, length, get_or, arith, ap, ◌∙◌}
use Rattle.mt_march.specs.declared.march.Element.{Element}
use Rattle.mt_plan.proofs.Counts.{ops_taken}
use Rattle.mt_plan.proofs.counting.op_count.Goals as goal

pub loop-element-preserved : goal.loop-element-preserved
loop-element-preserved c =
    let es = c.args.march.now.elements.items in
    let i = c.loop-element.element-index in
    let within : i < length es = rw (← c.as_slice-element-items.ensures.value) c.loop-element-test.true in
    let here : c.element-item.result ≡ get_or es i c.element-item.result = rw (← c.as_slice-element-items.ensures.value) c.element-item.is in
    let len : length c.as_slice.result.now ≡ length (get_or es i c.element-item.result).ops.items = ap length c.as_slice.ensures.value ∙ ap (λ (e : Element). length e.ops.items) here in
    record {
      count = omega (arith, ops_taken es i c.element-item.result within, len);
      few = omega arith;
    }
