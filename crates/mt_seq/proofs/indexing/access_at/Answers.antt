use Rattle.std.proofs.Common.{◌≡◌, ◌+◌, ◌-◌, ◌<◌, ◌≤◌, ℕ, Some, arith, ap, sym, ◌∙◌, length}
use Rattle.mt_fault.specs.Items.{Store}
use Rattle.mt_plan.specs.declared.algorithm.Policy.{Policy}
use Rattle.mt_plan.specs.declared.algorithm.Policy.TheVariants.{NonDestructive, Destructive}
use Rattle.mt_plan.specs.Plan.{steps_of}
use Rattle.mt_seq.specs.declared.sequence.Slice.{Slice}
use Rattle.mt_seq.specs.declared.sequence.Job.{Job}
use Rattle.mt_seq.specs.Sequence.{saving, sequence_hold}
use Rattle.mt_seq.specs.Stepping.{item_at}
use Rattle.mt_seq.proofs.Attempts.{hold_is_long}
use Rattle.mt_seq.proofs.Lengths.{hold_is, length-saving}
use Rattle.mt_seq.proofs.Moves.{saving_item, ending_item}
use Rattle.mt_seq.proofs.indexing.access_at.Goals as goal

-- a place behind the algorithm's accesses is one of the writes that end the sequence
in_ending : (job : Job) (slice : Slice) (index from steps : ℕ) → index < sequence_hold job slice.n → from ≡ length (saving job.policy slice)
    → steps ≡ length (steps_of job.alg slice.n) → from + steps ≤ index → index - (from + steps) < slice.n
in_ending job slice index from steps within f s behind =
    omega (arith, hold_is job.policy slice (length (steps_of job.alg slice.n)), hold_is_long job slice.n)

-- where a sequence keeps the words, its saving reads are as many as the slice has words
all_saved : (job : Job) (slice : Slice) (from : ℕ) → job.policy ≡ NonDestructive → from ≡ length (saving job.policy slice) → from ≡ slice.n
all_saved job slice from keeps f = f ∙ ap (λ (p : Policy). length (saving p slice)) keeps ∙ length-saving slice

pub tested_at-requires-clause-whole : goal.tested_at-requires-clause-whole
tested_at-requires-clause-whole c = λ keeps.
    let all = all_saved c.args.job.now c.args.slice c.saving_reads-testing_from.result keeps c.saving_reads-testing_from.ensures.count in
    c.requires.whole keeps (omega (arith, all, c.if-index-testing_from.false))

pub overflow_add-result-else-index-ending_from : goal.overflow_add-result-else-index-ending_from
overflow_add-result-else-index-ending_from c =
    omega (arith, in_ending c.args.job.now c.args.slice c.args.index _ _ c.requires.within c.saving_reads-testing_from.ensures.count (rw c.from.ensures at c.steps.ensures.length) (omega arith), c.requires.slice.inside)

pub last_word-requires : goal.last_word-requires
last_word-requires c = λ keeps.
    let all = all_saved c.args.job.now c.args.slice c.saving_reads-testing_from.result keeps c.saving_reads-testing_from.ensures.count in
    let within = in_ending c.args.job.now c.args.slice c.args.index _ _ c.requires.within c.saving_reads-testing_from.ensures.count (rw c.from.ensures at c.steps.ensures.length) (omega arith) in
    omega (arith, within, c.requires.whole keeps (omega (arith, all, c.if-index-testing_from.false)))

pub returns-then-index-testing_from-clause-item : goal.returns-then-index-testing_from-clause-item
returns-then-index-testing_from-clause-item c = λ differs.
    saving_item c.args.width (record { job = c.args.job.now; slice = c.args.slice; made = c.args.index; saved = c.args.saved.now; differs = differs })
    (omega (arith, c.saving_reads-testing_from.ensures.count, c.if-index-testing_from.true))

pub returns-then-index-ending_from-clause-item : goal.returns-then-index-ending_from-clause-item
returns-then-index-ending_from-clause-item c = λ differs.
    let job = c.args.job.now in
    let slice = c.args.slice in
    let place : length (saving job.policy slice) + (c.args.index - c.saving_reads-testing_from.result) ≡ c.args.index =
    omega (arith, c.saving_reads-testing_from.ensures.count, c.if-index-testing_from.false) in
    ap (λ (i : ℕ). item_at c.args.width (record { job = job; slice = slice; made = i; saved = c.args.saved.now; differs = differs })) (sym place)
    ∙ c.tested_at.ensures.item differs

pub returns-else-index-ending_from-clause-item : goal.returns-else-index-ending_from-clause-item
returns-else-index-ending_from-clause-item c = λ differs.
    let job = c.args.job.now in
    let slice = c.args.slice in
    let cell : ℕ = c.args.index - (c.saving_reads-testing_from.result + c.steps.result) in
    let steps : c.steps.result ≡ length (steps_of job.alg slice.n) = rw c.from.ensures at c.steps.ensures.length in
    let within : cell < slice.n = in_ending job slice c.args.index _ _ c.requires.within c.saving_reads-testing_from.ensures.count steps (omega arith) in
    ending_item c.args.width (record { job = job; slice = slice; made = c.args.index; saved = c.args.saved.now; differs = differs }) cell
    (omega (arith, c.saving_reads-testing_from.ensures.count, steps)) within
    ∙ ap (λ (w : ℕ). Some (Store (slice.first + cell) w)) (sym c.last_word.ensures)

pub returns-else-index-ending_from-clause-inside : goal.returns-else-index-ending_from-clause-inside
returns-else-index-ending_from-clause-inside c =
    omega (arith, in_ending c.args.job.now c.args.slice c.args.index _ _ c.requires.within c.saving_reads-testing_from.ensures.count (rw c.from.ensures at c.steps.ensures.length) (omega arith))

-- where the words are filled, there is no saving read
none_saved : (job : Job) (slice : Slice) (from : ℕ) → job.policy ≡ Destructive → from ≡ length (saving job.policy slice) → from ≡ 0
none_saved job slice from fills f = f ∙ ap (λ (p : Policy). length (saving p slice)) fills

pub returns-then-index-testing_from-clause-behind : goal.returns-then-index-testing_from-clause-behind
returns-then-index-testing_from-clause-behind c = λ behind. absurd (omega (arith, c.saving_reads-testing_from.ensures.few, c.if-index-testing_from.true))

pub returns-then-index-testing_from-clause-filling : goal.returns-then-index-testing_from-clause-filling
returns-then-index-testing_from-clause-filling c = λ fills.
    absurd (omega (arith, none_saved c.args.job.now c.args.slice _ fills c.saving_reads-testing_from.ensures.count, c.if-index-testing_from.true))

pub returns-then-index-ending_from-clause-saving : goal.returns-then-index-ending_from-clause-saving
returns-then-index-ending_from-clause-saving c = λ keeps early.
    absurd (omega (arith, all_saved c.args.job.now c.args.slice _ keeps c.saving_reads-testing_from.ensures.count, c.if-index-testing_from.false))

pub returns-else-index-ending_from-clause-saving : goal.returns-else-index-ending_from-clause-saving
returns-else-index-ending_from-clause-saving c = λ keeps early.
    absurd (omega (arith, all_saved c.args.job.now c.args.slice _ keeps c.saving_reads-testing_from.ensures.count, c.if-index-testing_from.false))
