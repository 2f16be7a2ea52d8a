use Rattle.std.proofs.Common.{sym, ◌∙◌}
use Rattle.std.proofs.lemmas.Result.{err_from_is_err_and}
use Rattle.mt_text.specs.Forms.{mapped}
use Rattle.mt_text.specs.Reader.{read}
use Rattle.mt_text.specs.Lines.{event, app_op, fault}
use Rattle.mt_text.specs.RamServices.{ram_call}
use Rattle.mt_text.specs.FlsServices.{fls_call}
use Rattle.mt_text.specs.declared.line.Event.TheVariants.{Ram, Fls, App, Inject}
use Rattle.mt_text.proofs.FormLemmas.{is_done_of_mapped}
use Rattle.mt_text.proofs.LineLemmas.{app_op_goes_on}
use Rattle.mt_text.proofs.ReadLemmas.{none_taken, one_taken, mapped_value, mapped_refusal}
use Rattle.mt_text.proofs.event.event.Goals as goal

pub returns-in_err-ram_call : goal.returns-in_err-ram_call
unfolding event read
returns-in_err-ram_call c =
    let p = err_from_is_err_and c.from_residual.result c.from_residual.ensures.1 in
    rw (p.1, p.2, sym c.is.ensures ∙ c.if-is.true) (mapped_refusal c.args.shape _ (λ x. Ram x) ram_call _ _ _ _ c.in_err-ram_call.ensures)

pub returns-in_ok-ram_call : goal.returns-in_ok-ram_call
unfolding event read
returns-in_ok-ram_call c = rw (sym c.is.ensures ∙ c.if-is.true) (mapped_value c.args.shape _ (λ x. Ram x) ram_call _ _ _ _ c.in_ok-ram_call.ensures)

pub returns-in_err-fls_call : goal.returns-in_err-fls_call
unfolding event read
returns-in_err-fls_call c =
    let p = err_from_is_err_and c.from_residual-in_err-fls_call.result c.from_residual-in_err-fls_call.ensures.1 in
    rw (p.1, p.2, sym c.is.ensures ∙ c.if-is.false, sym c.is-else-is.ensures ∙ c.if-is-2.true) (mapped_refusal c.args.shape _ (λ x. Fls x) fls_call _ _ _ _ c.in_err-fls_call.ensures)

pub returns-in_ok-fls_call : goal.returns-in_ok-fls_call
unfolding event read
returns-in_ok-fls_call c = rw (sym c.is.ensures ∙ c.if-is.false, sym c.is-else-is.ensures ∙ c.if-is-2.true) (mapped_value c.args.shape _ (λ x. Fls x) fls_call _ _ _ _ c.in_ok-fls_call.ensures)

pub returns-in_err-fault : goal.returns-in_err-fault
unfolding event read
returns-in_err-fault c =
    let p = err_from_is_err_and c.from_residual-in_err-fault.result c.from_residual-in_err-fault.ensures.1 in
    rw (p.1, p.2, sym c.is.ensures ∙ c.if-is.false, sym c.is-else-is.ensures ∙ c.if-is-2.false, sym c.is-else-is-2.ensures ∙ c.if-is-3.false, sym c.is-else-is-3.ensures ∙ c.if-is-4.false, sym c.is-else-is-4.ensures ∙ c.if-is-5.true) (mapped_refusal c.args.shape _ (λ x. Inject x) fault _ _ _ _ c.in_err-fault.ensures)

pub returns-in_ok-fault : goal.returns-in_ok-fault
unfolding event read
returns-in_ok-fault c = rw (sym c.is.ensures ∙ c.if-is.false, sym c.is-else-is.ensures ∙ c.if-is-2.false, sym c.is-else-is-2.ensures ∙ c.if-is-3.false, sym c.is-else-is-3.ensures ∙ c.if-is-4.false, sym c.is-else-is-4.ensures ∙ c.if-is-5.true) (mapped_value c.args.shape _ (λ x. Inject x) fault _ _ _ _ c.in_ok-fault.ensures)

pub returns-in_err-op : goal.returns-in_err-op
unfolding event read
returns-in_err-op c =
    let p = err_from_is_err_and c.from_residual-in_err-op.result c.from_residual-in_err-op.ensures.1 in
    rw (p.1, p.2, sym c.is.ensures ∙ c.if-is.false, sym c.is-else-is.ensures ∙ c.if-is-2.false, sym c.is-else-is-2.ensures ∙ c.if-is-3.false, sym c.is-else-is-3.ensures ∙ c.if-is-4.true) (none_taken c.args.shape (mapped (λ x. App x) app_op) c.args.cursor.now c.next.new.self _ (is_done_of_mapped (λ x. App x) app_op app_op_goes_on) c.in_err-op.ensures.took c.next.ensures.end)

pub returns-in_err-app_op : goal.returns-in_err-app_op
unfolding event read
returns-in_err-app_op c =
    let p = err_from_is_err_and c.from_residual-in_err-app_op.result c.from_residual-in_err-app_op.ensures.1 in
    rw (p.1, p.2, sym c.is.ensures ∙ c.if-is.false, sym c.is-else-is.ensures ∙ c.if-is-2.false, sym c.is-else-is-2.ensures ∙ c.if-is-3.false, sym c.is-else-is-3.ensures ∙ c.if-is-4.true) (one_taken c.args.shape (mapped (λ x. App x) app_op) c.args.cursor.now c.next.new.self c.app_op.new.cursor c.in_ok-op.op _ c.in_ok-op.ensures.took c.next.ensures.end (mapped_refusal c.args.shape _ (λ x. App x) app_op _ _ _ _ c.in_err-app_op.ensures))

pub returns-in_ok-app_op : goal.returns-in_ok-app_op
unfolding event read
returns-in_ok-app_op c = rw (sym c.is.ensures ∙ c.if-is.false, sym c.is-else-is.ensures ∙ c.if-is-2.false, sym c.is-else-is-2.ensures ∙ c.if-is-3.false, sym c.is-else-is-3.ensures ∙ c.if-is-4.true) (one_taken c.args.shape (mapped (λ x. App x) app_op) c.args.cursor.now c.next.new.self c.app_op.new.cursor c.in_ok-op.op _ c.in_ok-op.ensures.took c.next.ensures.end (mapped_value c.args.shape _ (λ x. App x) app_op _ _ _ _ c.in_ok-app_op.ensures))
