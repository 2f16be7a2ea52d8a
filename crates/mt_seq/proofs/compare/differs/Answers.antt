use Rattle.mt_port.specs.Inner.Streams.{Logs-append}
use Rattle.mt_seq.proofs.Makes.{touched}
use Rattle.mt_seq.proofs.compare.differs.Goals as goal

pub returns-clause-tape : goal.returns-clause-tape
returns-clause-tape g c = Logs-append _ _ _ _ _ (touched _ _ _ _ c.flash_read-word.ensures.tape) (touched _ _ _ _ c.flash_read-copied.ensures.tape)
