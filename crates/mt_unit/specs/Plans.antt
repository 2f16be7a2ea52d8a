-- Plans: the steps of an algorithm in bytes, as a control unit has them.
use Rattle.std.specs.Prelude.{ℕ, ◌+◌, ◌*◌, ◌/◌, Bool, true, false, List, map}
use Rattle.mt_fault.specs.Faulty.{is_odd}
use Rattle.mt_plan.specs.declared.algorithm.Act.{Act}
use Rattle.mt_plan.specs.declared.algorithm.Act.TheVariants.{ReadPlain, ReadFlipped, WritePlain, WriteFlipped}
use Rattle.mt_plan.specs.declared.algorithm.Algorithm.{Algorithm}
use Rattle.mt_plan.specs.declared.algorithm.Step.{Step}
use Rattle.mt_plan.specs.Plan.{steps_of}

-- what is done to the cell: bit 0 is 1 for the complement of the background word, bit 1 for a write
abbrev pub act_bits : Act → ℕ
act_bits ReadPlain = 0
act_bits ReadFlipped = 1
act_bits WritePlain = 2
act_bits WriteFlipped = 3

-- the byte of a step: the number of its cell, and these two bits below
abbrev pub byte_of : Step → ℕ
byte_of step = 4 * step.cell + act_bits step.act

-- the plan of an algorithm for n cells
unfoldable pub plan_of : Algorithm → ℕ → List ℕ
plan_of alg n = map byte_of (steps_of alg n)

-- what two bits say: whether it is a write, and whether of the complement
abbrev pub act_with : Bool → Bool → Act
act_with false false = ReadPlain
act_with false true = ReadFlipped
act_with true false = WritePlain
act_with true true = WriteFlipped

-- the step that a byte says
abbrev pub step_in : ℕ → Step
step_in byte = record { cell = byte / 4; act = act_with (is_odd (byte / 2)) (is_odd byte) }
