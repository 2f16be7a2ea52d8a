use Rattle.std.proofs.Common.{rules, ◌∙◌, subst}
use Rattle.mt_port.specs.Streams.{AppendsFront}
use Rattle.mt_conf.specs.Canonical.{set_text}
use Rattle.mt_conf.proofs.Parts.{front_of_all}
use Rattle.mt_conf.proofs.writing.write_sets.Goals as goal

pub returns-in_err-put-clause-err : goal.returns-in_err-put-clause-err
returns-in_err-put-clause-err g c =
    let old = g.K.Sink.held c.loop-set.sink in
    let new = g.K.Sink.held c.put.new.sink in
    let next = subst (AppendsFront old new) (c.deref.ensures.0 ∙ c.set_text.ensures) c.in_err-put.ensures.err in
    let front = front_of_all (set_text c.args.version c.args.shape.width) c.args.sets.now c.loop-set.set-index c.set-item.result c.set-item.result _ old new c.loop-set-test.true c.set-item.is c.loop-set.invariant.text next in
    search rules
