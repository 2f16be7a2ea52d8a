use Rattle.std.proofs.Common.{arith}
use Rattle.std.proofs.lemmas.Fmt.{decimal_digit}
use Rattle.mt_hex.proofs.writing.push_number.Goals as goal

pub returns-then-n-lt10-clause-text : goal.returns-then-n-lt10-clause-text
returns-then-n-lt10-clause-text g c = rw (decimal_digit c.args.n (omega (arith, c.if-n-lt10.true))) c.push.ensures.items
