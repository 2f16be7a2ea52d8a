use Rattle.std.proofs.Common.{◌≡◌, ◌+◌, ℕ, List, [], length, take, Bor, ap, ◌∙◌, arith}
use Rattle.std.specs.List.{sum_by}
use Rattle.std.proofs.lemmas.List.{take_all}
use Rattle.std.proofs.lemmas.List.Sums.{sum_by_more}
use Rattle.mt_place.specs.Places.{byte_count}
use Rattle.mt_explain.proofs.MarkLemmas.{counted, texts}
use Rattle.mt_explain.proofs.file.byte_count.Goals as goal

abbrev size_of : Bor (List ℕ) → ℕ
size_of line = length line.now + 1

pub loop-line-preserved : goal.loop-line-preserved
loop-line-preserved c =
    let next = sum_by_more size_of c.args.lines.now c.loop-line.line-index (record { ref_ptr = (0, 0); now = [] }) c.loop-line-test.true in
    let before = c.loop-line.invariant in
    let after = c.saturating_sub-left.ensures in
    omega (arith, next, before, after)

pub returns : goal.returns
returns c =
    let all = take_all c.loop-line.line-index c.args.lines.now c.loop-line-test.false in
    let count : sum_by size_of (take c.loop-line.line-index c.args.lines.now) ≡ byte_count (texts c.args.lines.now) =
    ap (sum_by size_of) all ∙ counted c.args.lines.now in
    let before = c.loop-line.invariant in
    omega (arith, count, before)
