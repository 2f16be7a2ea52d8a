use Rattle.std.proofs.Common.{Ok}
use Rattle.mt_text.proofs.Parts.{ok_accepted}
use Rattle.mt_text.proofs.line.Line.read.Goals as goal

pub returns-in-Ok-clause-accepted : goal.returns-in-Ok-clause-accepted
returns-in-Ok-clause-accepted c = ok_accepted c.args.shape c.args.text.now (Ok (record { event = c.in-Ok.event; requests = c.event_of.new.out })) c.in-Ok.ensures
