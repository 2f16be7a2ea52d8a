-- What a source of generated lines has to give.
use Rattle.std.specs.Prelude.{ℕ, List, ◌++◌, drop}
use Rattle.mt_gen.specs.declared.source.GenSource.{GenSource}
use Rattle.mt_gen.specs.Script.{lines_behind, text_of}

-- what is left of the line at hand, and the lines behind it
abbrev pub gen_left : GenSource → List ℕ
gen_left s = drop s.given s.text.items ++ text_of (lines_behind s.behind s.number)
