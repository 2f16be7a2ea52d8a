use Rattle.std.proofs.Common.{◌≡◌, ◌+◌, ◌*◌, ◌<◌, ◌≤◌, ℕ, List, ◌∷◌, [], ◌++◌, length, take, Some, ap, sym, ◌∙◌, arith}
use Rattle.std.specs.Prelude.{slice_get}
use Rattle.std.proofs.Math.ListN.{length-set}
use Rattle.std.proofs.lemmas.List.{take_more, take_more_set}
use Rattle.std.proofs.lemmas.Option.{get_or_from_slice_get, slice_get_within}
use Rattle.mt_word.specs.declared.Width.{Width}
use Rattle.mt_word.specs.declared.Width.TheVariants.{W8, W16, W32, W64}
use Rattle.mt_word.specs.Word.{width_bits}
use Rattle.mt_plan.specs.declared.algorithm.Step.{Step}
use Rattle.mt_plan.specs.Cursor.{cells_of, made_by}
use Rattle.mt_plan.specs.Plan.{steps_of}
use Rattle.mt_locate.proofs.schedule.Schedule.new.Goals as goal

-- a word has at least 8 bits
few_words : (width : Width) (n : ℕ) → n * width_bits width ≤ 128 → n ≤ 16
few_words W8 n h = omega arith
few_words W16 n h = omega arith
few_words W32 n h = omega arith
few_words W64 n h = omega arith

pub loop-index-preserved : goal.loop-index-preserved
loop-index-preserved c =
    let steps : List Step = steps_of c.args.probe.now.alg c.args.probe.now.n in
    let i : ℕ = c.loop-index.index in
    let step : Step = c.next.result in
    let places : List Step = c.loop-index.places in
    let on : cells_of c.loop-index.cursor ≡ c.args.probe.now.n = c.loop-index.invariant.cells in
    let stands : made_by c.loop-index.cursor ≡ i = c.loop-index.invariant.made in
    let at : slice_get steps i ≡ Some step = rw (on, stands) at c.next.ensures.step in
    let room : i < length places = omega (arith, c.loop-index.invariant.size, c.steps-count.ensures.few, c.loop-index-test.true, few_words c.args.probe.now.width c.args.probe.now.n c.requires.bits, c.from-n.ensures) in
    record {
      cursor = c.next.ensures.cursor;
      cells = c.next.ensures.cells ∙ on;
      made = c.next.ensures.made ∙ ap (λ (k : ℕ). k + 1) stands;
      size = length-set places i step ∙ c.loop-index.invariant.size;
      kept = take_more_set places i step room
          ∙ ap (λ (front : List Step). front ++ step ∷ []) c.loop-index.invariant.kept
          ∙ ap (λ (x : Step). take i steps ++ x ∷ []) (sym (get_or_from_slice_get steps i step step at))
          ∙ sym (take_more steps i step (slice_get_within steps i step at));
    }
