-- The running calls of RamTst.
use Rattle.std.proofs.Common.{ℕ}
use Rattle.mt_seq.specs.declared.sequence.Verdict.{Verdict}
use Rattle.mt_window.specs.Events.{Running as Events}
use Rattle.mt_blocks.specs.Slices.{Piece}
use Rattle.mt_ram.specs.State.{RamTst}
use Rattle.mt_ram.specs.Event.{ticking, full_test, partial_test}
use Rattle.mt_machine.specs.declared.driven.Running.{Running}
use Rattle.mt_machine.specs.declared.driven.Running.TheVariants as rams
use Rattle.mt_machine.specs.Machine.{events_of}

-- what holds of each running call, by the call
pub each_call : (P : Events RamTst Piece Verdict → Type 0) → P ticking → P full_test → ((block : ℕ) → P (partial_test block)) → (call : Running) → P (events_of call)
each_call P tick full partial rams.Tick = tick
each_call P tick full partial rams.Full = full
each_call P tick full partial (rams.Partial block) = partial block
