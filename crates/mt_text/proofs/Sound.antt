-- The values of the table are sound, and so are the parts of a line.
use Rattle.std.proofs.Common.{Bool, true, false, refl}
use Rattle.mt_fault.specs.Placement.{IsWellPlaced}
use Rattle.mt_port.specs.declared.board.Shape.{Shape}
use Rattle.mt_port.specs.declared.request.Module.{Module}
use Rattle.mt_port.specs.declared.request.Module.TheVariants.{RamTst, FlsTst}
use Rattle.mt_port.specs.declared.request.HandlerOp.{HandlerOp}
use Rattle.mt_port.specs.declared.request.HandlerOp.TheVariants.{App as AppIn, Call}
use Rattle.mt_port.specs.Board.{IsSoundOp, IsSoundInHandler}
use Rattle.mt_text.specs.RamServices.{ram_call, ram_handler_call}
use Rattle.mt_text.specs.FlsServices.{fls_call, fls_handler_call}
use Rattle.mt_text.specs.Lines.{app_op, fault, event, op_form}
use Rattle.mt_text.specs.declared.line.Event.TheVariants.{Ram, Fls, App, Inject}
use Rattle.mt_text.specs.Accepted.{IsRamCall, IsFlsCall, IsSoundEvent, IsFor}
use Rattle.mt_text.proofs.Accepts.{Every, every_mapped}

pub app_ops : (shape : Shape) → Every shape (IsSoundOp shape) app_op
unfolding app_op
app_ops shape = (λ a h. h, (λ a h x k. (h, k), (λ a h x k. (h, k), (λ a h b k. (h, k), (λ a h. h, tt)))))

pub faults : (shape : Shape) → Every shape (IsWellPlaced shape.width shape.ram) fault
unfolding fault
faults shape = (
  λ v h b k. record { inside = (h, tt); apart = tt },
  (
    λ v h. record { inside = (h, tt); apart = tt },
    (
      λ v h. record { inside = (h, tt); apart = tt },
      (
        (λ a h v k. record { inside = (h, (k.0, tt)); apart = k.1 }, (λ a h v k. record { inside = (h, (k.0, tt)); apart = k.1 }, tt)),
        (
          (λ a h v k b i. record { inside = (h, (k.0, tt)); apart = k.1 }, (λ a h v k b i. record { inside = (h, (k.0, tt)); apart = k.1 }, tt)),
          (
            λ s j a h v k b i. record { inside = (h, (k.0, tt)); apart = k.1 },
            (
              λ a h x k. record { inside = ((h, tt), ((k, tt), tt)); apart = tt },
              (
                λ a h b k. (record { inside = ((h, tt), ((k.0, tt), tt)); apart = k.1 }, (record { inside = ((h, tt), ((k.0, tt), tt)); apart = k.1 }, tt)),
                (λ a h b k. record { inside = ((h, tt), ((k.0, tt), tt)); apart = k.1 }, tt),
              ),
            ),
          ),
        ),
      ),
    ),
  ),
)

pub ram_calls : (shape : Shape) → Every shape IsRamCall ram_call
unfolding ram_call
ram_calls shape = (tt, (tt, (tt, (tt, (tt, (tt, (tt, (tt, (λ n h. h, (tt, (tt, (tt, (λ n h. h, (λ n h. h, (tt, (λ n h. h, (tt, tt)))))))))))))))))

pub fls_calls : (shape : Shape) → Every shape IsFlsCall fls_call
unfolding fls_call
fls_calls shape = (tt, (tt, (λ n h. h, (tt, (tt, (tt, (tt, (tt, (tt, (tt, (tt, tt)))))))))))

pub events : (shape : Shape) → Every shape (IsSoundEvent shape) event
unfolding event
events shape = (
  every_mapped shape (IsSoundEvent shape) (λ c. Ram c) ram_call (ram_calls shape),
  (
    every_mapped shape (IsSoundEvent shape) (λ c. Fls c) fls_call (fls_calls shape),
    (
      (tt, (tt, tt)),
      (
        every_mapped shape (IsSoundEvent shape) (λ o. App o) app_op (app_ops shape),
        (every_mapped shape (IsSoundEvent shape) (λ f. Inject f) fault (faults shape), (tt, (λ a h x k. (h, k), (λ s h. h, tt)))),
      ),
    ),
  ),
)

-- an operation that a handler of the module may have
abbrev pub IsGoodOp : Shape → Module → HandlerOp → Type 0
IsGoodOp shape callee op = IsSoundInHandler shape op × IsFor callee op

ram_handler_calls : (shape : Shape) → Every shape (λ call. IsGoodOp shape RamTst (Call call)) ram_handler_call
unfolding ram_handler_call
ram_handler_calls shape = ((tt, (refl, tt)), ((tt, (refl, tt)), ((tt, (refl, tt)), ((tt, (refl, tt)), ((tt, (refl, tt)), ((tt, (refl, tt)), (λ n h. (tt, (refl, h)), tt)))))))

fls_handler_calls : (shape : Shape) → Every shape (λ call. IsGoodOp shape FlsTst (Call call)) fls_handler_call
unfolding fls_handler_call
fls_handler_calls shape = ((tt, (refl, tt)), ((tt, (refl, tt)), ((tt, (refl, tt)), ((tt, (refl, tt)), ((tt, (refl, tt)), ((tt, (refl, tt)), tt))))))

in_handler : (shape : Shape) (callee : Module) → Every shape (λ op. IsGoodOp shape callee (AppIn op)) app_op
unfolding app_op
in_handler shape callee = (λ a h. (h, tt), (λ a h x k. ((h, k), tt), (λ a h x k. ((h, k), tt), (λ a h b k. ((h, k), tt), (λ a h. (h, tt), tt)))))

pub operations : (shape : Shape) (callee : Module) (full : Bool) → Every shape (IsGoodOp shape callee) (op_form callee full)
unfolding op_form app_op
operations shape RamTst true = tt
operations shape FlsTst true = tt
operations shape RamTst false = (every_mapped shape (IsGoodOp shape RamTst) (λ c. Call c) ram_handler_call (ram_handler_calls shape), every_mapped shape (IsGoodOp shape RamTst) (λ o. AppIn o) app_op (in_handler shape RamTst))
operations shape FlsTst false = (every_mapped shape (IsGoodOp shape FlsTst) (λ c. Call c) fls_handler_call (fls_handler_calls shape), every_mapped shape (IsGoodOp shape FlsTst) (λ o. AppIn o) app_op (in_handler shape FlsTst))
