-- The sets of an accepted configuration.
use Rattle.std.proofs.Common.{ℕ, ◌*◌, ◌<◌, ◌≤◌, ◌≡◌, List, length, sym, subst, arith}
use Rattle.std.proofs.lemmas.List.{length-map, get_or-map}
use Rattle.mt_port.specs.declared.board.Shape.{Shape}
use Rattle.mt_seq.specs.Sequence.{IsSoundJob, IsSoundSlice}
use Rattle.mt_blocks.specs.declared.span.Span.{Span}
use Rattle.mt_blocks.specs.declared.pass.Position.{Position}
use Rattle.mt_blocks.specs.declared.config.Block.{Block}
use Rattle.mt_blocks.specs.declared.config.ParamSet.{ParamSet}
use Rattle.mt_blocks.specs.Slices.{IsValid, piece_at, span_at, no_span}
use Rattle.mt_blocks.specs.Accepted.{IsAcceptedBlock, IsAcceptedSet, block_at, no_block, no_set, spans_of}
use Rattle.mt_seq.specs.declared.sequence.Job.{Job}
use Rattle.mt_seq.specs.Sequence.{sequence_hold}
use Rattle.mt_seq.specs.Laws.{SequencesAreShort}
use Rattle.mt_plan.specs.Plan.{IsAccepted}
use Rattle.mt_ram.specs.State.{RamTst, IsRam, set_of}
use Rattle.mt_ram.specs.Event.{job_in}
use Rattle.mt_ram.specs.Inner.Sets.{SetsAreCut, SlicesAreSound}

spans_at : (blocks : List Block) (i : ℕ) → i < length blocks → span_at (spans_of blocks) i ≡ (block_at blocks i).span
spans_at blocks i inside = get_or-map (λ (b : Block). b.span) blocks i no_block no_span inside

accepted_block : (shape : Shape) (set : ParamSet) (i : ℕ) → IsAcceptedSet shape set → i < length set.blocks → IsAcceptedBlock shape (block_at set.blocks i)
accepted_block shape set i ok inside = ok.blocks i no_block inside

pub accepted_spans : SetsAreCut
accepted_spans shape set limits ok =
    let many = length-map set.blocks (λ (b : Block). b.span) in
    record {
      some = ok.atomic_some;
      small = ok.atomic_small;
      few = omega (arith, many, ok.few);
      ordered = λ i h. let inside : i < length set.blocks = omega (arith, many, h) in
          subst (λ (s : Span). s.first ≤ s.last) (sym (spans_at set.blocks i inside)) (accepted_block shape set i ok inside).ordered;
      limit = λ i h. let inside : i < length set.blocks = omega (arith, many, h) in
          subst (λ (s : Span). s.last < 65536) (sym (spans_at set.blocks i inside)) (let low = (accepted_block shape set i ok inside).inside in omega (arith, low, limits.ram));
    }

block_there : (set : ParamSet) (at : Position) → IsValid set.atomic (spans_of set.blocks) at → at.block < length set.blocks
block_there set at valid = omega (arith, length-map set.blocks (λ (b : Block). b.span), valid.block)

sound_job : (shape : Shape) (set : ParamSet) (at : Position) → IsAcceptedSet shape set → IsValid set.atomic (spans_of set.blocks) at → IsSoundJob shape.width (job_in set at.block)
sound_job shape set at ok valid =
    let inside = block_there set at valid in
    record {
      accepted = ok.accepted;
      kept = λ h. ok.kept h at.block no_block inside;
      background = ok.background;
      fill = (accepted_block shape set at.block ok inside).fill;
    }

-- the words of a slice are words of the RAM
sound_slice : (shape : Shape) (set : ParamSet) (at : Position) → IsAcceptedSet shape set → IsValid set.atomic (spans_of set.blocks) at → IsSoundSlice shape.ram (piece_at set.atomic (spans_of set.blocks) at).slice
sound_slice shape set at ok valid =
    let inside = block_there set at valid in
    let block = accepted_block shape set at.block ok inside in
    let s = span_at (spans_of set.blocks) at.block in
    let ordered : s.first ≤ s.last = subst (λ (y : Span). y.first ≤ y.last) (sym (spans_at set.blocks at.block inside)) block.ordered in
    let low : s.last < shape.ram = subst (λ (y : Span). y.last < shape.ram) (sym (spans_at set.blocks at.block inside)) block.inside in
    record {
      some = omega (arith, valid.offset, ok.atomic_some);
      small = omega (arith, ok.atomic_small);
      inside = omega (arith, ordered, low, valid.offset);
    }

pub slices_are_sound : SlicesAreSound
slices_are_sound shape set at ok valid = record { job = sound_job shape set at ok valid; slice = sound_slice shape set at ok valid }

-- the selected set is an accepted one
pub accepted_set : (r : RamTst) → IsRam r → IsAcceptedSet r.setting.shape (set_of r)
accepted_set r ok = ok.accepted.sets r.selected no_set ok.selected

pub hold_small : SequencesAreShort → (job : Job) (n : ℕ) → IsAccepted job.alg → n ≤ 64 → sequence_hold job n ≤ 262 * 64
hold_small short job n accepted small = omega (arith, short job n accepted small, small)
