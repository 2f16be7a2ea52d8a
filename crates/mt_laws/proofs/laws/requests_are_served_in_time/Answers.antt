use Rattle.mt_window.specs.Waits.{ServesInTime}
use Rattle.mt_ram.specs.Event.{ticking, full_test}
use Rattle.mt_ram.specs.Laws.{PartialTestsServeInTime}
use Rattle.mt_fls.specs.Event as fls_event
use Rattle.mt_fls.specs.Laws.{ForegroundTestsServeInTime}
use Rattle.mt_machine.specs.declared.driven.Running.{Running}
use Rattle.mt_machine.specs.declared.driven.Running.TheVariants as rams
use Rattle.mt_machine.specs.declared.driven.FlsRunning.{FlsRunning}
use Rattle.mt_machine.specs.declared.driven.FlsRunning.TheVariants as flss
use Rattle.mt_machine.specs.Machine.{events_of, fls_events_of}
use Rattle.mt_laws.proofs.Latencies.{served_in_time}
use Rattle.mt_laws.proofs.laws.requests_are_served_in_time.Goals as goal

ram_calls : ServesInTime ticking → ServesInTime full_test → PartialTestsServeInTime → (call : Running) → ServesInTime (events_of call)
ram_calls tick full partial rams.Tick = tick
ram_calls tick full partial rams.Full = full
ram_calls tick full partial (rams.Partial block) = partial block

fls_calls : ServesInTime fls_event.ticking → ForegroundTestsServeInTime → (call : FlsRunning) → ServesInTime (fls_events_of call)
fls_calls tick foreground flss.Tick = tick
fls_calls tick foreground (flss.Foreground block) = foreground block

pub returns : goal.returns
returns c =
    let waits = c.waits_of_running_calls.ensures in
    let fls-waits = c.waits_of_running_calls-2.ensures in
    served_in_time (record { ram = ram_calls waits.tick waits.full waits.partial; fls = fls_calls fls-waits.tick fls-waits.foreground })
