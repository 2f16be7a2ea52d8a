use Rattle.std.proofs.Common.{ℕ, ◌≤◌, below_more, arith, get_or}
use Rattle.std.proofs.lemmas.List.Elements.{All-from_get_or, All-get_or}
use Rattle.std.proofs.lemmas.Nat.{le_or_l, le_or_r, or_lt}
use Rattle.std.specs.Prelude.{bit_or}
use Rattle.mt_word.specs.Word.{Fits, width_bits}
use Rattle.mt_engine.proofs.test.all_fit.Goals as goal

pub loop-word-preserved : goal.loop-word-preserved
loop-word-preserved c =
    let word : ℕ = get_or c.args.words.now c.loop-word.word-index 0 in (
      below_more
          _ _
          (λ k h.
          let before : get_or c.args.words.now k 0 ≤ c.loop-word.joined = c.loop-word.invariant.0 k h in
          let more : c.loop-word.joined ≤ bit_or c.loop-word.joined word = le_or_l c.loop-word.joined word in
          omega arith)
          (le_or_r c.loop-word.joined word),
      λ all.
          or_lt
          (width_bits c.args.width) c.loop-word.joined word (c.loop-word.invariant.1 all)
          (All-get_or (Fits c.args.width) c.args.words.now c.loop-word.word-index 0 c.loop-word-test.true all),
    )

pub returns-clause-yes : goal.returns-clause-yes
returns-clause-yes c = λ yes.
    All-from_get_or
    (Fits c.args.width) c.args.words.now 0
    (λ k h.
    let below : get_or c.args.words.now k 0 ≤ c.loop-word.joined = c.loop-word.invariant.0 k (omega arith) in
    let fits : Fits c.args.width c.loop-word.joined = c.fits.ensures.0 yes in
    omega arith)
