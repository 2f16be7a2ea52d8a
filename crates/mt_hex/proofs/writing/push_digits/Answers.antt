use Rattle.std.proofs.Common.{◌-◌, arith, refl}
use Rattle.mt_hex.proofs.HexLemmas.{hex_written, hex_none}
use Rattle.mt_hex.proofs.writing.push_digits.Goals as goal

pub loop-left-preserved : goal.loop-left-preserved
loop-left-preserved g c = record {
  text = hex_written c.loop-left.out.items c.push.new.self.items c.args.out.now.items c.loop-left.left (c.loop-left.left - 1) c.args.word c.digit_byte.result c.args.digits c.loop-left-test.true refl c.digit_byte.ensures c.push.ensures.items c.loop-left.invariant.text;
  len = (let e = c.push.ensures.items in let m = c.push.ensures.len in omega (arith, c.loop-left.invariant.len));
  few = omega (arith, c.loop-left.invariant.few);
}

pub returns-clause-text : goal.returns-clause-text
returns-clause-text g c = hex_none c.loop-left.out.items c.args.out.now.items c.loop-left.left c.args.word c.args.digits (omega arith) c.loop-left.invariant.text
