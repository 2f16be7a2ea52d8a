-- The numbers of a control unit's tables, in the order in which its C files have them.
use Rattle.std.specs.Prelude.{ℕ, ◌+◌, ◌-◌, ◌/◌, ◌%◌, ◌==◌, Bool, true, false, ◌||◌, List, [], ◌∷◌, ◌++◌, length, map, min, max, filter}
use Rattle.std.specs.List.{flat_map, list_any, range_with_len}
use Rattle.mt_plan.specs.declared.algorithm.Algorithm.{Algorithm}
use Rattle.mt_plan.specs.declared.algorithm.Algorithm.TheVariants.{Checkerboard, March as Marches, WalkPath, Galpat, TransparentGalpat}
use Rattle.mt_plan.specs.declared.algorithm.Policy.{Policy}
use Rattle.mt_plan.specs.declared.algorithm.Policy.TheVariants.{NonDestructive, Destructive}
use Rattle.mt_blocks.specs.declared.config.Block.{Block}
use Rattle.mt_blocks.specs.declared.config.FlashBlock.{FlashBlock}
use Rattle.mt_blocks.specs.declared.config.FlsConfig.{FlsConfig}
use Rattle.mt_blocks.specs.declared.config.ParamSet.{ParamSet}
use Rattle.mt_blocks.specs.declared.span.Span.{Span}
use Rattle.mt_plan.specs.Plan.{hold_of}
use Rattle.mt_seq.specs.Sequence.{is_transparent}
use Rattle.mt_unit.specs.Checksums.{checksum}
use Rattle.mt_unit.specs.Plans.{plan_of}
use Rattle.mt_unit.specs.StateTables.{fls_table, ram_table}

-- how many words a span has, in how many slices of at most so many words, and how many words the last of these has
abbrev pub words_in : Span → ℕ
words_in span = span.last - span.first + 1

abbrev pub slices_in : ℕ → Span → ℕ
slices_in atomic span = (words_in span + atomic - 1) / atomic

abbrev pub rest_in : ℕ → Span → ℕ
rest_in atomic span = (words_in span - 1) % atomic + 1

-- whether a set has a plan for so many cells: for a whole slice, and for the last slice of each block
abbrev pub is_needed : ParamSet → ℕ → Bool
is_needed set n = n == set.atomic || list_any (λ (b : Block). rest_in set.atomic b.span == n) set.blocks

-- the lengths below n for which it has one, so that the plan for n cells is behind as many others
abbrev pub lengths_below : ParamSet → ℕ → List ℕ
lengths_below set n = filter (is_needed set) (range_with_len 1 (n - 1))

abbrev pub lengths_of : ParamSet → List ℕ
lengths_of set = lengths_below set 65

abbrev pub place_of : ParamSet → ℕ → ℕ
place_of set n = length (lengths_below set n)

-- the numbers of algorithms and of policies
abbrev pub algorithm_number : Algorithm → ℕ
algorithm_number Checkerboard = 1
algorithm_number (Marches march) = 2
algorithm_number WalkPath = 3
algorithm_number Galpat = 4
algorithm_number TransparentGalpat = 5

abbrev pub bit_of : Bool → ℕ
bit_of true = 1
bit_of false = 0

abbrev pub policy_number : Policy → ℕ
policy_number NonDestructive = 0
policy_number Destructive = 1

-- a plan: how many steps, on how many cells, and the checksum over both
abbrev pub plan_row : Algorithm → ℕ → List ℕ
plan_row alg n = length (plan_of alg n) ∷ n ∷ checksum 1 (plan_of alg n ++ n ∷ []) ∷ []

-- a block: its first word, its slices, the place of the last one's plan, its policy, and its fill
abbrev pub block_row : ParamSet → Block → List ℕ
block_row set b =
    b.span.first ∷ slices_in set.atomic b.span ∷ place_of set (rest_in set.atomic b.span) ∷ policy_number b.policy ∷ b.fill ∷ []

abbrev pub blocks_table : ParamSet → List ℕ
blocks_table set = flat_map (block_row set) set.blocks

-- a set: its algorithm, background, sizes and retries, the place of a whole slice's plan, and how many plans and blocks it has
abbrev pub set_fields : ParamSet → List ℕ
set_fields set =
    algorithm_number set.alg ∷ bit_of (is_transparent set.alg) ∷ set.background ∷ set.atomic ∷ set.cells ∷ set.retries
    ∷ place_of set set.atomic ∷ length (lengths_of set) ∷ length set.blocks ∷ []

abbrev pub set_row : ParamSet → List ℕ
set_row set = set_fields set ++ checksum 8 (set_fields set ++ blocks_table set) ∷ []

-- the tables of a set, before the rows of all sets
abbrev pub set_tables : ParamSet → List ℕ
set_tables set = flat_map (plan_of set.alg) (lengths_of set) ++ flat_map (plan_row set.alg) (lengths_of set) ++ blocks_table set

-- all tables of RamTst: those of each set, the sets, the state table, and what leads to them
unfoldable pub ram_numbers : List ParamSet → List ℕ
ram_numbers sets = flat_map set_tables sets ++ flat_map set_row sets ++ ram_table ++ length sets ∷ checksum 1 ram_table ∷ []

-- a flash block: its first word, its copy's, its slices, and the words of the last
abbrev pub flash_row : ℕ → FlashBlock → List ℕ
flash_row atomic b = b.span.first ∷ b.copy ∷ slices_in atomic b.span ∷ rest_in atomic b.span ∷ []

abbrev pub flash_table : FlsConfig → List ℕ
flash_table fls = flat_map (flash_row fls.atomic) fls.bgnd ++ flat_map (flash_row fls.atomic) fls.fgnd

abbrev pub fls_fields : FlsConfig → List ℕ
fls_fields fls = fls.atomic ∷ fls.cells ∷ fls.interval_end ∷ length fls.bgnd ∷ length fls.fgnd ∷ []

-- all tables of FlsTst: its blocks, the state table, and what leads to them
unfoldable pub fls_numbers : FlsConfig → List ℕ
fls_numbers fls = flash_table fls ++ fls_table ++ fls_fields fls ++ checksum 8 (fls_fields fls ++ flash_table fls) ∷ checksum 1 fls_table ∷ []

-- for how many accesses the longest slice of a block holds interrupts, and of a set
abbrev pub lock_of : Algorithm → ℕ → Block → ℕ
lock_of alg atomic b = hold_of alg b.policy (min (words_in b.span) atomic)

abbrev pub greatest_from : ℕ → List ℕ → ℕ
greatest_from most [] = most
greatest_from most (x ∷ xs) = greatest_from (max most x) xs

abbrev pub longest_lock : ParamSet → ℕ
longest_lock set = greatest_from 0 (map (lock_of set.alg set.atomic) set.blocks)
