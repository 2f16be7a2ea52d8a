-- Forms of the table that don't end at once.
use Rattle.std.proofs.Common.{◌≡◌, Bool, true, false, refl}
use Rattle.mt_text.specs.Reader.{is_done}
use Rattle.mt_text.specs.Lines.{app_op, event, op_form}
use Rattle.mt_port.specs.declared.request.Module.{Module}
use Rattle.mt_port.specs.declared.request.Module.TheVariants.{RamTst, FlsTst}

pub app_op_goes_on : is_done app_op ≡ false
unfolding app_op
app_op_goes_on = refl

pub event_goes_on : is_done event ≡ false
unfolding event
event_goes_on = refl

pub op_form_goes_on : (m : Module) (full : Bool) → is_done (op_form m full) ≡ false
unfolding op_form
op_form_goes_on RamTst true = refl
op_form_goes_on RamTst false = refl
op_form_goes_on FlsTst true = refl
op_form_goes_on FlsTst false = refl
