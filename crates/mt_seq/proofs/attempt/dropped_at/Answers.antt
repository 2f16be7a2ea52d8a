use Rattle.std.proofs.Common.{◌≡◌, ◌+◌, ◌-◌, ℕ, Bool, Option, None, true, false, length, refl, ap, sym, ◌∙◌}
use Rattle.std.specs.Prelude.{find, ◌&&◌, if◌then◌else◌}
use Rattle.std.specs.List.{range_with_len}
use Rattle.mt_plan.specs.declared.algorithm.Policy.{Policy}
use Rattle.mt_plan.specs.Plan.{steps_of}
use Rattle.mt_port.specs.Board.{is_due}
use Rattle.mt_seq.specs.Attempts.{dropped_at, keeps_words}
use Rattle.mt_seq.proofs.Moments.{find_same, reached}
use Rattle.mt_seq.proofs.Attempts.{urgent}
use Rattle.mt_seq.proofs.attempt.dropped_at.Goals as goal

none_may : (may keeps : Bool) (o : Option ℕ) → may ≡ false → None ≡ (if may && keeps then o else None)
none_may may keeps o e = rw e

none_kept : (may : Bool) (o : Option ℕ) → None ≡ (if may && false then o else None)
none_kept true o = refl
none_kept false o = refl

pub returns-then-may : goal.returns-then-may
unfolding dropped_at
returns-then-may g c =
    let b = g.P.Port.state c.args.port.now in
    let range = range_with_len 1 (c.args.slice.n + length (steps_of c.args.alg.now c.args.slice.n) - 1) in
    let count : c.made.result ≡ b.count = c.made.ensures in
    c.first_moment.ensures
    ∙ find_same (reached c.made.result c.next_urgent.result) (urgent b) range
    (λ i. ap (λ (k : ℕ). is_due (k + i) c.next_urgent.result) count ∙ sym (c.next_urgent.ensures (b.count + i)))
    ∙ sym (ap (λ (p : Policy). if c.args.may && keeps_words p then find (urgent b) range else None) c.in-NonDestructive.is
    ∙ ap (λ (m : Bool). if m && true then find (urgent b) range else None) c.if-may.true)

pub returns-else-may : goal.returns-else-may
unfolding dropped_at
returns-else-may g c = none_may c.args.may (keeps_words c.args.frame.policy) _ c.if-may.false

pub returns-in-Destructive : goal.returns-in-Destructive
unfolding dropped_at
returns-in-Destructive g c =
    let b = g.P.Port.state c.args.port.now in
    none_kept c.args.may (find (urgent b) (range_with_len 1 (c.args.slice.n + length (steps_of c.args.alg.now c.args.slice.n) - 1)))
    ∙ sym (ap (λ (p : Policy). if c.args.may && keeps_words p then find (urgent b) (range_with_len 1 (c.args.slice.n + length (steps_of c.args.alg.now c.args.slice.n) - 1)) else None) c.in-Destructive.is)
