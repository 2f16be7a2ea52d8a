use Rattle.std.proofs.Common.{◌≡◌, ◌+◌, ℕ, Some, refl, ap, sym, ◌∙◌, length}
use Rattle.mt_word.specs.Word.{complement_of}
use Rattle.mt_plan.specs.Accesses.{act_on, item_of}
use Rattle.mt_seq.specs.Inner.Ground.{access_for}
use Rattle.mt_seq.specs.Sequence.{back_of, saving}
use Rattle.mt_seq.proofs.Moves.{testing_item}
use Rattle.mt_seq.proofs.Spans.{act_same}
use Rattle.mt_seq.proofs.indexing.tested_at.Goals as goal

pub returns-clause-item : goal.returns-clause-item
returns-clause-item c = λ differs.
    let job = c.args.job.now in
    let slice = c.args.slice in
    let step = c.step_at-step.result in
    let addr : ℕ = slice.first + c.from-2.result in
    let here : act_on c.args.width addr c.background-back.result step.act ≡ item_of c.args.width slice.first (back_of job c.args.saved.now) step =
    ap (λ (j : ℕ). act_on c.args.width (slice.first + j) c.background-back.result step.act) c.from-2.ensures
    ∙ ap (λ (w : ℕ). act_on c.args.width (slice.first + step.cell) w step.act) c.background-back.ensures in
    testing_item c.args.width (record { job = job; slice = slice; made = length (saving job.policy slice) + c.args.index; saved = c.args.saved.now; differs = differs }) c.args.index step refl
    (rw c.from.ensures at c.step_at-step.ensures.step)
    ∙ ap Some (sym (c.access_of.ensures.item
    ∙ ap (λ (w : ℕ). access_for addr w step.act) c.word_of.ensures.word
    ∙ act_same c.args.width addr c.background-back.result (complement_of c.args.width c.background-back.result) step.act refl
    ∙ here))
