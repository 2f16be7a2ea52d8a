use Rattle.std.proofs.Common.{sym, subst}
use Rattle.mt_replay.specs.declared.run.End.{End}
use Rattle.mt_replay.specs.Locate.{stop_text, stop_status}
use Rattle.mt_replay.specs.Replay.{Told}
use Rattle.mt_replay.proofs.locate.tell_end.Goals as goal

pub returns-in-Broken : goal.returns-in-Broken
returns-in-Broken g c =
    subst (λ (e : End). Told c.tell-in-Broken.result (stop_status e) (stop_text e) (g.K.Sink.held c.args.sink.now) (g.K.Sink.held c.tell-in-Broken.new.sink) (g.K.Sink.faults c.args.sink.now) (g.K.Sink.faults c.tell-in-Broken.new.sink))
    (sym c.in-Broken.is) c.tell-in-Broken.ensures

pub returns-in-Whole : goal.returns-in-Whole
returns-in-Whole g c =
    subst (λ (e : End). Told c.tell-in-Whole.result (stop_status e) (stop_text e) (g.K.Sink.held c.args.sink.now) (g.K.Sink.held c.tell-in-Whole.new.sink) (g.K.Sink.faults c.args.sink.now) (g.K.Sink.faults c.tell-in-Whole.new.sink))
    (sym c.in-Whole.is) c.tell-in-Whole.ensures
