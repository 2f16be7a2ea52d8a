use Rattle.std.proofs.Common.{append_assoc}
use Rattle.mt_text.specs.Canonical.{canonical}
use Rattle.mt_gen.proofs.line.push_ram_tick.Goals as goal

pub returns : goal.returns
unfolding canonical
returns c =
    rw (c.push_bytes.ensures, c.push_word.ensures.text, c.push.ensures.items, c.push_numbered-3.ensures.text, c.push_numbered-2.ensures.text, c.push_numbered.ensures.text, c.requires) (simp append_assoc)
