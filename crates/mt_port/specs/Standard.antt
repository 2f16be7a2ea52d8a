-- The streams over a reader and a writer of std.
use Rattle.std.specs.Prelude.{ℕ}
use Rattle.mt_port.specs.declared.standard.StdIn.{StdIn}
use Rattle.mt_port.specs.declared.standard.StdOut.{StdOut}

-- the reader that a source reads from
abbrev pub in_reader : {R : Type 0} → StdIn R → R
in_reader s = s.reader

-- how often it has failed
abbrev pub in_faults : {R : Type 0} → StdIn R → ℕ
in_faults s = s.faults

-- the writer that a sink writes to
abbrev pub out_writer : {W : Type 0} → StdOut W → W
out_writer s = s.writer

-- how often it has failed
abbrev pub out_faults : {W : Type 0} → StdOut W → ℕ
out_faults s = s.faults
