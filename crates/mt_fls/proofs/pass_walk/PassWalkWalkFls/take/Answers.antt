use Rattle.std.proofs.Common.{ap, arith}
use Rattle.mt_blocks.specs.Slices.{Piece}
use Rattle.mt_seq.specs.Compare.{compare_hold}
use Rattle.mt_fls.specs.State.{bgnd_spans}
use Rattle.mt_fls.proofs.Walks.{next_of_group, first_is, hold_small}
use Rattle.mt_fls.proofs.pass_walk.PassWalkWalkFls.take.Goals as goal

pub returns-clause-most : goal.returns-clause-most
returns-clause-most c = λ x more s.
    let f = c.args.callee.now in
    let n = next_of_group c.passes_go_on.ensures c.args.self.now f c.requires.fits c.requires.some in
    omega (arith, n.some, ap (λ (p : Piece). compare_hold p.slice.n) (first_is _ x _ more _ n.split s), hold_small f.setting.config.atomic (bgnd_spans f) c.args.self.now.at c.requires.fits.spans)
