-- Replies are told apart.
use Rattle.std.proofs.Common.{◌≡◌, ℕ, List, get_or, refl, ap, arith}
use Rattle.mt_text.specs.Separators.{NamesDiffer, DetailsDiffer}

pub names_differ : NamesDiffer
names_differ = refl

pub details_differ : DetailsDiffer
details_differ = record {
  sides = λ block addr other place e. let first : 98 ≡ 102 = ap (λ (text : List ℕ). get_or text 0 0) e in absurd (omega arith);
  background = λ block addr e. let first : 98 ≡ 110 = ap (λ (text : List ℕ). get_or text 0 0) e in absurd (omega arith);
  foreground = λ block addr e. let first : 102 ≡ 110 = ap (λ (text : List ℕ). get_or text 0 0) e in absurd (omega arith);
}
