use Rattle.mt_port.proofs.Operations.{ArePlain, read_answers, write_leaves, addition_leaves, copy_leaves, flash_answers}
use Rattle.mt_port.proofs.laws.operations_on_plain_memory.Goals as goal

pub returns : goal.returns
returns c =
    let law = c.memory_without_a_fault_is_plain.ensures in
    let plain : ArePlain = record { write = law.write; read = law.read; answers = law.answers } in
    record { read = read_answers plain; write = write_leaves plain; add = addition_leaves plain; copy = copy_leaves plain; flash = flash_answers plain }
