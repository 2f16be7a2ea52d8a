use Rattle.std.proofs.Common.{sym, ◌∙◌, codes}
use Rattle.std.proofs.lemmas.Result.{err_from_is_err_and}
use Rattle.mt_text.specs.Cursors.{left, end_of, token_view}
use Rattle.mt_text.specs.Forms.{mapped}
use Rattle.mt_text.specs.Reader.{read}
use Rattle.mt_text.specs.Lines.{op_form, app_op}
use Rattle.mt_text.specs.FlsServices.{fls_handler_call}
use Rattle.mt_text.specs.RamServices.{ram_handler_call}
use Rattle.mt_text.specs.declared.line.LineKind.TheVariants.{NotInHandler}
use Rattle.mt_port.specs.declared.request.HandlerOp.TheVariants.{App, Call}
use Rattle.mt_text.proofs.FormLemmas.{passed_over_barred, is_done_of_mapped}
use Rattle.mt_text.proofs.LineLemmas.{app_op_goes_on}
use Rattle.mt_text.proofs.ReadLemmas.{same_read, mapped_value, mapped_refusal}
use Rattle.mt_text.proofs.handler.fls_handler_op.Goals as goal

pub returns-in_err-fls_handler_call : goal.returns-in_err-fls_handler_call
unfolding op_form read
returns-in_err-fls_handler_call c =
    let p = err_from_is_err_and c.from_residual.result c.from_residual.ensures.1 in
    rw (p.1, p.2, sym c.is.ensures ∙ c.if-is.false, sym c.is-else-is.ensures ∙ c.if-is-2.true) (mapped_refusal c.args.shape _ (λ x. Call x) fls_handler_call _ _ _ _ c.in_err-fls_handler_call.ensures)

pub returns-in_ok-fls_handler_call : goal.returns-in_ok-fls_handler_call
unfolding op_form read
returns-in_ok-fls_handler_call c = rw (sym c.is.ensures ∙ c.if-is.false, sym c.is-else-is.ensures ∙ c.if-is-2.true) (mapped_value c.args.shape _ (λ x. Call x) fls_handler_call _ _ _ _ c.in_ok-fls_handler_call.ensures)

pub returns-in_err-app_op : goal.returns-in_err-app_op
unfolding op_form
returns-in_err-app_op c =
    let p = err_from_is_err_and c.from_residual-in_err-app_op.result c.from_residual-in_err-app_op.ensures.1 in
    rw (p.1, p.2) (same_read _ _ _ _ _ (passed_over_barred c.args.shape (end_of c.args.cursor.now) (codes "ram") (codes "fls") NotInHandler (mapped (λ x. Call x) ram_handler_call) (mapped (λ x. Call x) fls_handler_call) (mapped (λ x. App x) app_op) (token_view c.args.word.now) (left c.args.cursor.now) (sym c.is.ensures ∙ c.if-is.false) (sym c.is-else-is.ensures ∙ c.if-is-2.false) (is_done_of_mapped (λ x. App x) app_op app_op_goes_on)) (mapped_refusal c.args.shape _ (λ x. App x) app_op _ _ _ _ c.in_err-app_op.ensures))

pub returns-in_ok-app_op : goal.returns-in_ok-app_op
unfolding op_form
returns-in_ok-app_op c =
    same_read _ _ _ _ _ (passed_over_barred c.args.shape (end_of c.args.cursor.now) (codes "ram") (codes "fls") NotInHandler (mapped (λ x. Call x) ram_handler_call) (mapped (λ x. Call x) fls_handler_call) (mapped (λ x. App x) app_op) (token_view c.args.word.now) (left c.args.cursor.now) (sym c.is.ensures ∙ c.if-is.false) (sym c.is-else-is.ensures ∙ c.if-is-2.false) (is_done_of_mapped (λ x. App x) app_op app_op_goes_on)) (mapped_value c.args.shape _ (λ x. App x) app_op _ _ _ _ c.in_ok-app_op.ensures)
