use Rattle.std.proofs.Common.{sym}
use Rattle.mt_word.proofs.PackedLemmas.{length-unpacked}
use Rattle.mt_word.proofs.packed.Words.len.Goals as goal

pub returns : goal.returns
returns c = rw (← c.self.view_is, c.bytes_a_word.ensures, c.len.ensures, c.self.inside.bytes.ok.0) (sym (length-unpacked c.self.inside.width c.self.inside.bytes.items))
