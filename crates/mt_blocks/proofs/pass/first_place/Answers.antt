use Rattle.std.proofs.Common.{arith, map}
use Rattle.mt_blocks.proofs.Passes.{from_first}
use Rattle.mt_blocks.proofs.Cuts.{pass_short}
use Rattle.mt_blocks.proofs.pass.first_place.Goals as goal

pub returns-clause-all : goal.returns-clause-all
returns-clause-all g c = λ K ok. from_first K (map g.T.HasSpan.span_of c.args.blocks.now) 0 ok.some

pub returns-clause-few : goal.returns-clause-few
returns-clause-few g c = λ K ok. omega (arith, pass_short K 0 (map g.T.HasSpan.span_of c.args.blocks.now) ok.some ok.limit, ok.few)
