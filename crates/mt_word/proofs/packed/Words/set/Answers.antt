use Rattle.mt_word.proofs.PackedLemmas.{bytes_there}
use Rattle.mt_word.proofs.packed.Words.set.Goals as goal

pub put_word-requires-clause-at : goal.put_word-requires-clause-at
put_word-requires-clause-at c =
    let there = rw (← c.self.view_is) at c.requires.at in
    rw c.deref_mut.ensures.value (bytes_there c.self.inside.width c.self.inside.bytes.items c.args.at there)
