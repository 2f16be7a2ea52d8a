-- The numbers with which the program ends.
use Rattle.std.specs.Prelude.{ℕ}
use Rattle.mt_replay.specs.declared.status.Status.{Status}
use Rattle.mt_replay.specs.declared.status.Status.TheVariants.{Done, Usage, BadConfig, BadScript, ReadFault, WriteFault, NoMemory, Differs}

abbrev pub exit_number : Status → ℕ
exit_number Done = 0
exit_number Usage = 2
exit_number (BadConfig code) = 3
exit_number (BadScript line code place) = 4
exit_number ReadFault = 5
exit_number WriteFault = 6
exit_number NoMemory = 7
exit_number (Differs line) = 8
