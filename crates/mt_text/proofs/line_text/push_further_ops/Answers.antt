use Rattle.std.proofs.Common.{arith}
use Rattle.mt_text.proofs.PieceLemmas.{op_written}
use Rattle.mt_text.proofs.line_text.push_further_ops.Goals as goal

pub loop-op-preserved : goal.loop-op-preserved
loop-op-preserved c = record {
  text = op_written c.args.width c.args.ops.now c.loop-op.op-index _ c.loop-op.out.items c.push.new.self.items c.push_op.new.out.items _ c.loop-op-test.true c.push.ensures.items c.push_op.ensures.text c.loop-op.invariant.text;
  short = (let m = c.push.ensures.len in let n = c.push_op.ensures.short in omega (arith, c.loop-op.invariant.short));
}
