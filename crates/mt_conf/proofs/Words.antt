-- Words of texts fit.
use Rattle.std.proofs.Common.{◌≡◌, ℕ, List, Option, Some, None, refl, lit<}
use Rattle.std.specs.Prelude.{unwrap_or}
use Rattle.mt_word.specs.declared.Width.{Width}
use Rattle.mt_word.specs.declared.Width.TheVariants.{W8, W16, W32, W64}
use Rattle.mt_word.specs.Word.{Fits}
use Rattle.mt_hex.specs.Hex.{word_of}
use Rattle.mt_hex.specs.Laws.{WordsFit}
use Rattle.mt_conf.specs.Outcome.{word_or_zero}

zero_fits : (w : Width) → Fits w 0
zero_fits W8 = lit< tt
zero_fits W16 = lit< tt
zero_fits W32 = lit< tt
zero_fits W64 = lit< tt

word_fits_by : WordsFit → (w : Width) (text : List ℕ) (o : Option ℕ) → word_of w text ≡ o → Fits w (unwrap_or o 0)
word_fits_by fit w text None h = zero_fits w
word_fits_by fit w text (Some x) h = fit w text x h

pub word_fits : WordsFit → (w : Width) (text : List ℕ) → Fits w (word_or_zero w text)
word_fits fit w text = word_fits_by fit w text (word_of w text) refl
