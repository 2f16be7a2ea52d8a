use Rattle.std.proofs.Common.{◌∙◌, sym}
use Rattle.mt_word.proofs.PackedLemmas.{bytes_there, unpacked-at}
use Rattle.mt_word.proofs.packed.Words.get.Goals as goal

pub word_of-requires : goal.word_of-requires
word_of-requires c =
    let there = rw (← c.self.view_is) at c.requires in
    rw c.deref.ensures.value (bytes_there c.self.inside.width c.self.inside.bytes.items c.args.at there)

pub returns : goal.returns
returns c =
    let there = rw (← c.self.view_is) at c.requires in
    let word = rw c.deref.ensures.value at c.word_of.ensures in
    rw (← c.self.view_is) (word ∙ sym (unpacked-at c.self.inside.width c.self.inside.bytes.items c.args.at there))
