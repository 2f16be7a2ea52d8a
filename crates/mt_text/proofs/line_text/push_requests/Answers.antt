use Rattle.std.proofs.Common.{arith}
use Rattle.mt_text.proofs.PieceLemmas.{request_written}
use Rattle.mt_text.proofs.line_text.push_requests.Goals as goal

pub loop-request-preserved : goal.loop-request-preserved
loop-request-preserved c = record {
  text = request_written c.args.width c.args.requests.now c.loop-request.request-index c.request-item.result c.loop-request.out.items c.push_request.new.out.items _ c.loop-request-test.true c.request-item.is c.push_request.ensures.text c.loop-request.invariant.text;
  short = (let n = c.push_request.ensures.short in omega (arith, c.loop-request.invariant.short));
}
