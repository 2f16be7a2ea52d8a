use Rattle.std.proofs.Common.{◌≡◌, ◌*◌, ℕ, List, length, arith, replicate, ap, sym, ◌∙◌}
use Rattle.mt_word.specs.declared.Width.{Width}
use Rattle.mt_word.specs.Packed.{WordList, width_bytes}
use Rattle.mt_word.proofs.PackedLemmas.{all_one, length-fresh}
use Rattle.mt_word.proofs.packed.Words.filled.Goals as goal

pub loop-at-init : goal.loop-at-init
loop-at-init c =
    let bytes = c.in-Ok.bytes in
    let size : length bytes.items ≡ width_bytes c.args.width * c.args.count = sym bytes.ok.0 ∙ c.in-Ok.ensures.len ∙ ap (λ n. n * c.args.count) c.bytes_a_word.ensures in
    record {
      width = cc;
      long = length-fresh c.args.width bytes.items c.args.count size;
      word = c.requires;
      set = λ k h. omega arith;
    }

whole : (l : WordList) (width : Width) (words : List ℕ) → l.width ≡ width → l.words ≡ words → l ≡ record { width = width; words = words }
whole l width words e f =
    let by_width : Width → WordList = λ w. record { width = w; words = l.words } in
    let by_words : List ℕ → WordList = λ ws. record { width = width; words = ws } in
    ap by_width e ∙ ap by_words f

pub returns : goal.returns
returns c =
    let kept = c.loop-at.invariant in
    whole c.loop-at.words c.args.width _ kept.width (all_one c.loop-at.words.words c.args.count c.args.word kept.long (λ k h. kept.set k (omega arith)))
