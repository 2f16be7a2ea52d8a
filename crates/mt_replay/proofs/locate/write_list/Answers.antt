use Rattle.std.proofs.Common.{ℕ, ◌∙◌, ◌++◌, ap, subst, List}
use Rattle.std.proofs.lemmas.Result.{on_err_weaker}
use Rattle.mt_port.specs.Streams.{AppendsFront}
use Rattle.mt_port.specs.Inner.Streams.{AppendsFront-after}
use Rattle.mt_locate.specs.Listed.{fault_lines}
use Rattle.mt_replay.specs.Locate.{count_text, found_faults}
use Rattle.mt_replay.specs.Inner.Locates.{located_by}
use Rattle.mt_replay.proofs.locate.write_list.Goals as goal

pub returns-in-Ok-clause-err : goal.returns-in-Ok-clause-err
returns-in-Ok-clause-err g c =
    let lines = fault_lines c.args.shape.width (found_faults (located_by c.args.probe.now c.args.misses.now)) in
    on_err_weaker c.put.result
    (λ front. subst (AppendsFront (g.K.Sink.held c.args.sink.now) (g.K.Sink.held c.put.new.sink))
    (ap (λ (l : List ℕ). lines ++ l) (c.deref.ensures.0 ∙ c.found_line.ensures ∙ ap count_text c.in-Ok.ensures.number))
    (AppendsFront-after _ _ _ _ _ c.in-Ok.ensures.ok front)) c.put.ensures.err
