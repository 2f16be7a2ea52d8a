use Rattle.std.proofs.Common.{◌≡◌, ◌+◌, ℕ, List, [], length, take, get_or, Bor, ap, ◌∙◌, arith}
use Rattle.std.proofs.lemmas.List.{length-map}
use Rattle.std.proofs.lemmas.List.Sums.{sum_by_push}
use Rattle.mt_place.specs.Places.{byte_count}
use Rattle.mt_place.proofs.LineLemmas.{texts, line_here, more}
use Rattle.mt_place.proofs.mark.mark_at.Goals as goal

pub returns-then-rest-line-clause-lies : goal.returns-then-rest-line-clause-lies
returns-then-rest-line-clause-lies c =
    let here = ap (length {A = ℕ}) (line_here c.args.file.now c.loop-number.number (record { ref_ptr = (0, 0); now = [] }) c.loop-number-test.true) in
    let many = length-map c.args.file.now (λ (line : Bor (List ℕ)). line.now) in
    (omega arith, omega (arith, many), omega arith, omega (arith, here))

pub loop-number-preserved : goal.loop-number-preserved
loop-number-preserved c =
    let i = c.loop-number.number in
    let line = get_or c.args.file.now i (record { ref_ptr = (0, 0); now = [] }) in
    let next : byte_count (take (i + 1) (texts c.args.file.now)) ≡ byte_count (take i (texts c.args.file.now)) + (length line.now + 1) =
    ap byte_count (more c.args.file.now i (record { ref_ptr = (0, 0); now = [] }) c.loop-number-test.true)
    ∙ sum_by_push (λ (l : List ℕ). length l + 1) (take i (texts c.args.file.now)) line.now in
    omega (arith, next, c.loop-number.invariant)
