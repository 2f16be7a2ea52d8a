-- The services of FlsTst.
use Rattle.std.specs.Prelude.{ℕ, codes, List, [], ◌∷◌}
use Rattle.mt_text.specs.Values.{Num}
use Rattle.mt_text.specs.Forms.{Form, done, rows, value, Entry, Opens, Breaks}
use Rattle.mt_text.specs.RamServices.{bare, numbered}
use Rattle.mt_text.specs.declared.line.LineKind.TheVariants.{NotInHandler}
use Rattle.mt_text.specs.declared.line.FlsCall.{FlsCall}
use Rattle.mt_text.specs.declared.line.FlsCall.TheVariants.{Init, DeInit, StartFgnd, Abort, Suspend, Resume, GetCurrentState, GetTestResultBgnd, GetTestResultFgnd, GetErrorDetails, GetVersionInfo}
use Rattle.mt_text.specs.declared.names.FlsService.{FlsService}
use Rattle.mt_text.specs.declared.names.FlsService.TheVariants.{Init as IsInit, DeInit as IsDeInit, StartFgnd as IsStartFgnd, Abort as IsAbort, Suspend as IsSuspend, Resume as IsResume, GetCurrentState as IsGetCurrentState, GetTestResultBgnd as IsGetTestResultBgnd, GetTestResultFgnd as IsGetTestResultFgnd, GetErrorDetails as IsGetErrorDetails, GetVersionInfo as IsGetVersionInfo}
use Rattle.mt_port.specs.declared.request.HandlerCall.{HandlerCall}
use Rattle.mt_port.specs.declared.request.HandlerCall.TheVariants.{FlsSuspend, FlsResume, FlsAbort, FlsGetCurrentState, FlsGetTestResultBgnd, FlsGetTestResultFgnd}

-- how each service is spelled
abbrev pub fls_name : FlsService → List ℕ
fls_name IsInit = codes "Init"
fls_name IsDeInit = codes "DeInit"
fls_name IsStartFgnd = codes "StartFgnd"
fls_name IsAbort = codes "Abort"
fls_name IsSuspend = codes "Suspend"
fls_name IsResume = codes "Resume"
fls_name IsGetCurrentState = codes "GetCurrentState"
fls_name IsGetTestResultBgnd = codes "GetTestResultBgnd"
fls_name IsGetTestResultFgnd = codes "GetTestResultFgnd"
fls_name IsGetErrorDetails = codes "GetErrorDetails"
fls_name IsGetVersionInfo = codes "GetVersionInfo"

-- all of them
abbrev pub fls_services : List FlsService
fls_services = IsInit ∷ IsDeInit ∷ IsStartFgnd ∷ IsAbort ∷ IsSuspend ∷ IsResume ∷ IsGetCurrentState ∷ IsGetTestResultBgnd ∷ IsGetTestResultFgnd ∷ IsGetErrorDetails ∷ IsGetVersionInfo ∷ []

-- a service on a line
abbrev pub fls_entry : FlsService → Entry FlsCall
fls_entry IsInit = Opens (done Init)
fls_entry IsDeInit = Opens (done DeInit)
fls_entry IsStartFgnd = Opens (value Num (λ n. done (StartFgnd n)))
fls_entry IsAbort = Opens (done Abort)
fls_entry IsSuspend = Opens (done Suspend)
fls_entry IsResume = Opens (done Resume)
fls_entry IsGetCurrentState = Opens (done GetCurrentState)
fls_entry IsGetTestResultBgnd = Opens (done GetTestResultBgnd)
fls_entry IsGetTestResultFgnd = Opens (done GetTestResultFgnd)
fls_entry IsGetErrorDetails = Opens (done GetErrorDetails)
fls_entry IsGetVersionInfo = Opens (done GetVersionInfo)

-- what may stand behind the word `fls` on a line
unfoldable pub fls_call : Form FlsCall
fls_call = rows fls_name fls_entry fls_services

-- a service in a handler
abbrev pub fls_handler_entry : FlsService → Entry HandlerCall
fls_handler_entry IsInit = Breaks NotInHandler bare
fls_handler_entry IsDeInit = Breaks NotInHandler bare
fls_handler_entry IsStartFgnd = Breaks NotInHandler numbered
fls_handler_entry IsAbort = Opens (done FlsAbort)
fls_handler_entry IsSuspend = Opens (done FlsSuspend)
fls_handler_entry IsResume = Opens (done FlsResume)
fls_handler_entry IsGetCurrentState = Opens (done FlsGetCurrentState)
fls_handler_entry IsGetTestResultBgnd = Opens (done FlsGetTestResultBgnd)
fls_handler_entry IsGetTestResultFgnd = Opens (done FlsGetTestResultFgnd)
fls_handler_entry IsGetErrorDetails = Breaks NotInHandler bare
fls_handler_entry IsGetVersionInfo = Breaks NotInHandler bare

-- what may stand behind the word `fls` in a handler
unfoldable pub fls_handler_call : Form HandlerCall
fls_handler_call = rows fls_name fls_handler_entry fls_services
