use Rattle.std.proofs.Common.{sym, ◌∙◌, arith}
use Rattle.mt_text.specs.Tokens.{tokens}
use Rattle.mt_text.specs.Cursors.{left, token_view}
use Rattle.mt_locate.proofs.LineWords.{taken_ok, taken_err, here, past_end}
use Rattle.mt_locate.proofs.words.token_at.Goals as goal

pub returns-then-is_err : goal.returns-then-is_err
returns-then-is_err c =
    past_end (tokens 1 c.args.text.now) c.loop.counter c.args.index
    (sym (taken_err c.loop.cursor c.next.new.self c.next.result c.next.ensures.took (sym c.is_err.ensures.value ∙ c.if-is_err.true)) ∙ c.loop.invariant) (omega (arith, c.loop-test.true))

pub loop-preserved : goal.loop-preserved
loop-preserved c =
    taken_ok c.loop.cursor c.next.new.self c.next.result (tokens 1 c.args.text.now) c.loop.counter c.loop.invariant c.next.ensures.took (sym c.is_err.ensures.value ∙ c.if-is_err.false)

pub returns-in-Ok : goal.returns-in-Ok
returns-in-Ok c =
    here (tokens 1 c.args.text.now) c.loop.counter c.args.index (token_view c.in-Ok.token) (left c.next-2.new.self) (sym c.in-Ok.ensures.took ∙ c.loop.invariant) (omega (arith, c.loop-test.false, c.loop.auto.counter-end))

pub returns-in-Err : goal.returns-in-Err
returns-in-Err c =
    past_end (tokens 1 c.args.text.now) c.loop.counter c.args.index (sym c.in-Err.ensures.took.0 ∙ c.loop.invariant) (omega (arith, c.loop.auto.counter-end))
