use Rattle.std.proofs.Common.{◌+◌, ◌-◌, ap, ◌∙◌}
use Rattle.mt_unit.specs.Checksums.{shifted_by}
use Rattle.mt_unit.proofs.Checksums.{one_shift}
use Rattle.mt_unit.proofs.crc.taken_in.Goals as goal

pub loop-index-preserved : goal.loop-index-preserved
loop-index-preserved c =
    ap (shifted_by (8 - (c.loop-index._index + 1))) c.shifted-left.ensures
    ∙ one_shift 8 c.loop-index._index c.loop-index.left c.loop-index-test.true
    ∙ c.loop-index.invariant
