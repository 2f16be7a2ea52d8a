-- The services of RamTst.
use Rattle.std.specs.Prelude.{ℕ, codes, List, [], ◌∷◌}
use Rattle.mt_text.specs.Values.{Num}
use Rattle.mt_text.specs.Forms.{Form, done, rows, value, Entry, Opens, Breaks}
use Rattle.mt_text.specs.declared.line.LineKind.TheVariants.{NotInHandler}
use Rattle.mt_text.specs.declared.line.RamCall.{RamCall}
use Rattle.mt_text.specs.declared.line.RamCall.TheVariants.{Init, DeInit, Stop, Allow, Suspend, Resume, GetExecutionStatus, GetTestResult, GetTestResultPerBlock, GetAlgParams, GetTestAlgorithm, GetNumberOfTestedCells, SelectAlgParams, ChangeNumberOfTestedCells, RunFullTest, RunPartialTest, GetVersionInfo}
use Rattle.mt_text.specs.declared.names.RamService.{RamService}
use Rattle.mt_text.specs.declared.names.RamService.TheVariants.{Init as IsInit, DeInit as IsDeInit, Stop as IsStop, Allow as IsAllow, Suspend as IsSuspend, Resume as IsResume, GetExecutionStatus as IsGetExecutionStatus, GetTestResult as IsGetTestResult, GetTestResultPerBlock as IsGetTestResultPerBlock, GetAlgParams as IsGetAlgParams, GetTestAlgorithm as IsGetTestAlgorithm, GetNumberOfTestedCells as IsGetNumberOfTestedCells, SelectAlgParams as IsSelectAlgParams, ChangeNumberOfTestedCells as IsChangeNumberOfTestedCells, RunFullTest as IsRunFullTest, RunPartialTest as IsRunPartialTest, GetVersionInfo as IsGetVersionInfo}
use Rattle.mt_port.specs.declared.request.HandlerCall.{HandlerCall}
use Rattle.mt_port.specs.declared.request.HandlerCall.TheVariants.{RamAllow, RamStop, RamSuspend, RamResume, RamGetExecutionStatus, RamGetTestResult, RamGetTestResultPerBlock}

-- how each service is spelled
abbrev pub ram_name : RamService → List ℕ
ram_name IsInit = codes "Init"
ram_name IsDeInit = codes "DeInit"
ram_name IsStop = codes "Stop"
ram_name IsAllow = codes "Allow"
ram_name IsSuspend = codes "Suspend"
ram_name IsResume = codes "Resume"
ram_name IsGetExecutionStatus = codes "GetExecutionStatus"
ram_name IsGetTestResult = codes "GetTestResult"
ram_name IsGetTestResultPerBlock = codes "GetTestResultPerBlock"
ram_name IsGetAlgParams = codes "GetAlgParams"
ram_name IsGetTestAlgorithm = codes "GetTestAlgorithm"
ram_name IsGetNumberOfTestedCells = codes "GetNumberOfTestedCells"
ram_name IsSelectAlgParams = codes "SelectAlgParams"
ram_name IsChangeNumberOfTestedCells = codes "ChangeNumberOfTestedCells"
ram_name IsRunFullTest = codes "RunFullTest"
ram_name IsRunPartialTest = codes "RunPartialTest"
ram_name IsGetVersionInfo = codes "GetVersionInfo"

-- all of them
abbrev pub ram_services : List RamService
ram_services = IsInit ∷ IsDeInit ∷ IsStop ∷ IsAllow ∷ IsSuspend ∷ IsResume ∷ IsGetExecutionStatus ∷ IsGetTestResult ∷ IsGetTestResultPerBlock ∷ IsGetAlgParams ∷ IsGetTestAlgorithm ∷ IsGetNumberOfTestedCells ∷ IsSelectAlgParams ∷ IsChangeNumberOfTestedCells ∷ IsRunFullTest ∷ IsRunPartialTest ∷ IsGetVersionInfo ∷ []

-- a service on a line
abbrev pub ram_entry : RamService → Entry RamCall
ram_entry IsInit = Opens (done Init)
ram_entry IsDeInit = Opens (done DeInit)
ram_entry IsStop = Opens (done Stop)
ram_entry IsAllow = Opens (done Allow)
ram_entry IsSuspend = Opens (done Suspend)
ram_entry IsResume = Opens (done Resume)
ram_entry IsGetExecutionStatus = Opens (done GetExecutionStatus)
ram_entry IsGetTestResult = Opens (done GetTestResult)
ram_entry IsGetTestResultPerBlock = Opens (value Num (λ n. done (GetTestResultPerBlock n)))
ram_entry IsGetAlgParams = Opens (done GetAlgParams)
ram_entry IsGetTestAlgorithm = Opens (done GetTestAlgorithm)
ram_entry IsGetNumberOfTestedCells = Opens (done GetNumberOfTestedCells)
ram_entry IsSelectAlgParams = Opens (value Num (λ n. done (SelectAlgParams n)))
ram_entry IsChangeNumberOfTestedCells = Opens (value Num (λ n. done (ChangeNumberOfTestedCells n)))
ram_entry IsRunFullTest = Opens (done RunFullTest)
ram_entry IsRunPartialTest = Opens (value Num (λ n. done (RunPartialTest n)))
ram_entry IsGetVersionInfo = Opens (done GetVersionInfo)

-- what may stand behind the word `ram` on a line
unfoldable pub ram_call : Form RamCall
ram_call = rows ram_name ram_entry ram_services

-- nothing more, behind a service that no handler calls
abbrev pub bare : Form HandlerCall
bare = done RamAllow

-- a number, and then nothing
abbrev pub numbered : Form HandlerCall
numbered = value Num (λ n. bare)

-- a service in a handler
abbrev pub ram_handler_entry : RamService → Entry HandlerCall
ram_handler_entry IsInit = Breaks NotInHandler bare
ram_handler_entry IsDeInit = Breaks NotInHandler bare
ram_handler_entry IsStop = Opens (done RamStop)
ram_handler_entry IsAllow = Opens (done RamAllow)
ram_handler_entry IsSuspend = Opens (done RamSuspend)
ram_handler_entry IsResume = Opens (done RamResume)
ram_handler_entry IsGetExecutionStatus = Opens (done RamGetExecutionStatus)
ram_handler_entry IsGetTestResult = Opens (done RamGetTestResult)
ram_handler_entry IsGetTestResultPerBlock = Opens (value Num (λ n. done (RamGetTestResultPerBlock n)))
ram_handler_entry IsGetAlgParams = Breaks NotInHandler bare
ram_handler_entry IsGetTestAlgorithm = Breaks NotInHandler bare
ram_handler_entry IsGetNumberOfTestedCells = Breaks NotInHandler bare
ram_handler_entry IsSelectAlgParams = Breaks NotInHandler numbered
ram_handler_entry IsChangeNumberOfTestedCells = Breaks NotInHandler numbered
ram_handler_entry IsRunFullTest = Breaks NotInHandler bare
ram_handler_entry IsRunPartialTest = Breaks NotInHandler numbered
ram_handler_entry IsGetVersionInfo = Breaks NotInHandler bare

-- what may stand behind the word `ram` in a handler
unfoldable pub ram_handler_call : Form HandlerCall
ram_handler_call = rows ram_name ram_handler_entry ram_services
