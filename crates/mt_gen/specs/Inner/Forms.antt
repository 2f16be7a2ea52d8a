-- The forms of a generated line.
use Rattle.std.specs.Prelude.{ℕ, ◌<◌, ◌≡◌, All}
use Rattle.mt_text.specs.declared.line.Line.{Line}
use Rattle.mt_gen.specs.Script.{ram_tick, fls_tick, write_line, read_line, copy_line, result_line, lines_behind}

-- which form a line has
pub data IsOfAForm (line : Line) : Type 0 where
  RamTick : (offset addr word : ℕ) → offset < 512 → addr < 256 → word < 65536 → line ≡ ram_tick offset addr word → IsOfAForm line
  FlsTick : (offset addr : ℕ) → offset < 8 → addr < 64 → line ≡ fls_tick offset addr → IsOfAForm line
  Writes : (addr word : ℕ) → addr < 256 → word < 65536 → line ≡ write_line addr word → IsOfAForm line
  Reads : (addr : ℕ) → addr < 256 → line ≡ read_line addr → IsOfAForm line
  Copies : (src dst : ℕ) → src < 256 → dst < 256 → line ≡ copy_line src dst → IsOfAForm line
  Asks : line ≡ result_line → IsOfAForm line

-- each drawn line has one
abbrev pub LinesAreOfForms : Type 0
LinesAreOfForms = (count x : ℕ) → All IsOfAForm (lines_behind count x)
