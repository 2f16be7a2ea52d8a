use Rattle.std.proofs.Common.{◌≡◌, ◌++◌, drop}
use Rattle.mt_draw.specs.Escaped.{escaped}
use Rattle.mt_draw.proofs.canvas.Canvas.words.Given as goal

abbrev pub invariant-loop-byte : goal.invariant-loop-byte
invariant-loop-byte l = l.self-inside.text.items ++ escaped (drop l.byte-index l.words) ≡ l.initial.self-inside.text.items ++ escaped l.words
