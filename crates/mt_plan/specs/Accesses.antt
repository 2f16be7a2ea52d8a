-- The steps of a plan as test accesses of a memory.
use Rattle.std.specs.Prelude.{ℕ, ◌+◌}
use Rattle.mt_word.specs.declared.Width.{Width}
use Rattle.mt_word.specs.Word.{complement_of}
use Rattle.mt_fault.specs.Items.{Item, Check, Store}
use Rattle.mt_plan.specs.declared.algorithm.Act.{Act}
use Rattle.mt_plan.specs.declared.algorithm.Act.TheVariants.{WritePlain, WriteFlipped, ReadPlain, ReadFlipped}
use Rattle.mt_plan.specs.declared.algorithm.Step.{Step}

-- a step on the word at an address, where `back` is the cell's background word
abbrev pub act_on : Width → ℕ → ℕ → Act → Item
act_on width addr back WritePlain = Store addr back
act_on width addr back WriteFlipped = Store addr (complement_of width back)
act_on width addr back ReadPlain = Check addr back
act_on width addr back ReadFlipped = Check addr (complement_of width back)

-- a step of a plan on the words from `first` on, where `back` gives each cell its background word
abbrev pub item_of : Width → ℕ → (ℕ → ℕ) → Step → Item
item_of width first back step = act_on width (first + step.cell) (back step.cell) step.act
