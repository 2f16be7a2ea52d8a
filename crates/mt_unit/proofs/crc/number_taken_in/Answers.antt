use Rattle.std.proofs.Common.{ℕ, ◌+◌, ◌-◌, ap, ◌∙◌}
use Rattle.std.specs.Prelude.{◌/◌}
use Rattle.mt_unit.specs.Checksums.{all_taken_in, in_bytes}
use Rattle.mt_unit.proofs.Checksums.{one_byte}
use Rattle.mt_unit.proofs.crc.number_taken_in.Goals as goal

pub loop-index-preserved : goal.loop-index-preserved
loop-index-preserved c =
    ap (λ (r : ℕ). all_taken_in r (in_bytes (c.args.size - (c.loop-index._index + 1)) (c.loop-index.left / 256))) c.taken_in-reached.ensures
    ∙ one_byte c.args.size c.loop-index._index c.loop-index.reached c.loop-index.left c.loop-index-test.true
    ∙ c.loop-index.invariant
