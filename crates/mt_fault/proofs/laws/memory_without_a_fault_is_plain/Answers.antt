use Rattle.mt_fault.proofs.PlainMemory.{plain_write, plain_read, plain_still, plain_answer}
use Rattle.mt_fault.proofs.laws.memory_without_a_fault_is_plain.Goals as goal

pub returns : goal.returns
returns c = record { write = plain_write; read = plain_read; still = plain_still; answers = plain_answer }
