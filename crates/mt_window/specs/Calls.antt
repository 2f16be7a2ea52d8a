-- Which module a handler's call goes to.
use Rattle.mt_port.specs.declared.request.Module.{Module}
use Rattle.mt_port.specs.declared.request.Module.TheVariants.{RamTst, FlsTst}
use Rattle.mt_port.specs.declared.request.HandlerCall.{HandlerCall}
use Rattle.mt_port.specs.declared.request.HandlerCall.TheVariants.{RamAllow, RamStop, RamSuspend, RamResume, RamGetExecutionStatus, RamGetTestResult, RamGetTestResultPerBlock, FlsSuspend, FlsResume, FlsAbort, FlsGetCurrentState, FlsGetTestResultBgnd, FlsGetTestResultFgnd}

-- the module that takes a call
abbrev pub module_of : HandlerCall → Module
module_of RamAllow = RamTst
module_of RamStop = RamTst
module_of RamSuspend = RamTst
module_of RamResume = RamTst
module_of RamGetExecutionStatus = RamTst
module_of RamGetTestResult = RamTst
module_of (RamGetTestResultPerBlock block) = RamTst
module_of FlsSuspend = FlsTst
module_of FlsResume = FlsTst
module_of FlsAbort = FlsTst
module_of FlsGetCurrentState = FlsTst
module_of FlsGetTestResultBgnd = FlsTst
module_of FlsGetTestResultFgnd = FlsTst
