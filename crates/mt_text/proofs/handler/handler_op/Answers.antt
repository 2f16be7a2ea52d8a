use Rattle.std.proofs.Common.{◌∙◌, ap}
use Rattle.std.proofs.lemmas.Result.{err_from_is_err_and}
use Rattle.mt_text.specs.Forms.{step}
use Rattle.mt_text.specs.Lines.{op_form}
use Rattle.mt_text.proofs.LineLemmas.{op_form_goes_on}
use Rattle.mt_text.proofs.ReadLemmas.{none_taken, value_err}
use Rattle.mt_text.proofs.handler.handler_op.Goals as goal

pub returns-in_err-word-clause-reads : goal.returns-in_err-word-clause-reads
returns-in_err-word-clause-reads c =
    let p = err_from_is_err_and c.from_residual.result c.from_residual.ensures.1 in
    rw (p.1, p.2) (none_taken c.args.shape (op_form c.args.callee c.args.full) c.args.cursor.now c.next.new.self _ (op_form_goes_on c.args.callee c.args.full) c.in_err-word.ensures.took c.next.ensures.end)

pub returns-then-full-clause-reads : goal.returns-then-full-clause-reads
returns-then-full-clause-reads c =
    let broken = ap (λ full. step c.args.shape (op_form c.args.callee full) c.in_ok-word.word.bytes.now) c.if-full.true ∙ c.broken_when_full.ensures c.args.shape c.args.callee in
    rw c.refused.ensures (value_err c.args.shape (op_form c.args.callee c.args.full) c.args.cursor.now c.next.new.self c.in_ok-word.word c.broken_when_full.result (op_form_goes_on c.args.callee c.args.full) c.in_ok-word.ensures.took c.next.ensures.end broken)
