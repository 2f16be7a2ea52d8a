use Rattle.std.proofs.Common.{◌≡◌, Bool, true, ap, sym, ◌∙◌, inl, inr}
use Rattle.std.specs.Prelude.{◌⊎◌}
use Rattle.mt_word.specs.Word.{has_bit}
use Rattle.mt_plan.specs.declared.algorithm.Act.{Act}
use Rattle.mt_plan.specs.declared.algorithm.Act.TheVariants.{WriteFlipped, ReadFlipped}
use Rattle.mt_plan.specs.Lists.{is_flipped}
use Rattle.mt_decoder.specs.BitModel.{flipped_if}
use Rattle.mt_locate.proofs.LaneBits.{has_not}
use Rattle.mt_locate.proofs.lanes.wanted.Goals as goal

flipped : (act : Act) → (act ≡ WriteFlipped) ⊎ (act ≡ ReadFlipped) → is_flipped act ≡ true
flipped act (inl e) = ap is_flipped e
flipped act (inr e) = ap is_flipped e

pub returns-in-WriteFlipped : goal.returns-in-WriteFlipped
returns-in-WriteFlipped c = λ l h. has_not c.args.back l c.ranges.back.fits h ∙ ap (λ (b : Bool). flipped_if b (has_bit c.args.back l)) (sym (flipped c.args.act c.in-WriteFlipped.is))
