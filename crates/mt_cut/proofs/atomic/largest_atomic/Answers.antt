use Rattle.std.proofs.Common.{ℕ, ◌≡◌, refl, sym, ap, ◌∙◌, arith}
use Rattle.mt_cut.specs.Atomic.{largest_up_to}
use Rattle.mt_cut.proofs.Largest.{largest-yes, largest-no, largest-end, largest-start, largest-is, largest-none, no-largest}
use Rattle.mt_cut.proofs.atomic.largest_atomic.Goals as goal

pub loop-words-init : goal.loop-words-init
loop-words-init c = largest-start c.args.set.now c.args.wait

pub loop-words-preserved : goal.loop-words-preserved
loop-words-preserved c = c.loop-words.invariant ∙ largest-no c.args.set.now c.args.wait c.loop-words.words c.loop-words-test.true (sym c.if-waits_at_most.ensures)

found : goal.returns-then-waits_at_most-clause-value
found c = sym (c.loop-words.invariant ∙ largest-yes c.args.set.now c.args.wait c.loop-words.words c.loop-words-test.true (sym c.if-waits_at_most.ensures))

pub returns-then-waits_at_most-clause-value : goal.returns-then-waits_at_most-clause-value
returns-then-waits_at_most-clause-value c = found c

pub returns-then-waits_at_most-clause-largest : goal.returns-then-waits_at_most-clause-largest
returns-then-waits_at_most-clause-largest c = largest-is c.args.set.now c.args.wait c.loop-words.words (sym (found c))

pub returns-then-waits_at_most-clause-none : goal.returns-then-waits_at_most-clause-none
returns-then-waits_at_most-clause-none c =
    let is = largest-is c.args.set.now c.args.wait c.loop-words.words (sym (found c)) in
    (λ e. absurd (no-largest e), λ none. absurd (none c.loop-words.words is.some is.small is.waits))

not-found : goal.returns-clause-value
not-found c =
    let end = ap (λ (n : ℕ). largest_up_to n c.args.set.now c.args.wait) (let q : c.loop-words.words ≡ 0 = omega arith in q) in
    sym (c.loop-words.invariant ∙ end ∙ largest-end c.args.set.now c.args.wait)

pub returns-clause-value : goal.returns-clause-value
returns-clause-value c = not-found c

pub returns-clause-none : goal.returns-clause-none
returns-clause-none c = (λ _. largest-none c.args.set.now c.args.wait (sym (not-found c)), λ _. refl)
