use Rattle.std.proofs.Common.{sym, subst, ◌∙◌}
use Rattle.std.proofs.lemmas.Result.{on_ok_weaker, on_err_weaker}
use Rattle.std.specs.Io.KnownBytes.{Appends}
use Rattle.mt_port.specs.Streams.{AppendsFront}
use Rattle.mt_replay.proofs.Plays.{format_text-one}
use Rattle.mt_replay.proofs.run.format_line.Goals as goal

pub returns-clause-ok : goal.returns-clause-ok
returns-clause-ok g c = λ m number.
    on_ok_weaker c.put.result
    (λ ok. subst (Appends (g.K.Sink.held c.args.sink.now) (g.K.Sink.held c.put.new.sink)) (c.deref.ensures.0 ∙ c.push_line.ensures ∙ sym (format_text-one c.args.shape m number c.args.desk.now.line)) ok) c.put.ensures.ok

pub returns-clause-err : goal.returns-clause-err
returns-clause-err g c = λ m number.
    on_err_weaker c.put.result
    (λ front. subst (AppendsFront (g.K.Sink.held c.args.sink.now) (g.K.Sink.held c.put.new.sink)) (c.deref.ensures.0 ∙ c.push_line.ensures ∙ sym (format_text-one c.args.shape m number c.args.desk.now.line)) front) c.put.ensures.err
