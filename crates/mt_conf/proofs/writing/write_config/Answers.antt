use Rattle.std.proofs.Common.{rules, ◌++◌, ◌∙◌, subst}
use Rattle.std.proofs.lemmas.Result.{on_err_weaker}
use Rattle.std.specs.Io.KnownBytes.{Appends}
use Rattle.mt_port.specs.Streams.{AppendsFront}
use Rattle.mt_port.specs.Inner.Streams.{Appends-trans, AppendsFront-after, AppendsFront-more}
use Rattle.mt_conf.specs.Canonical.{top_text, sets_text, fls_text, config_text}
use Rattle.mt_conf.proofs.writing.write_config.Goals as goal

pub returns-in_err-put-clause-err : goal.returns-in_err-put-clause-err
unfolding config_text
returns-in_err-put-clause-err g c =
    let config = c.args.config.now in
    let sets = sets_text config.version config.shape.width config.ram_tst.sets in
    let top = subst (AppendsFront (g.K.Sink.held c.args.sink.now) (g.K.Sink.held c.put.new.sink)) (c.deref.ensures.0 ∙ c.top_text.ensures) c.in_err-put.ensures.err in
    let front = AppendsFront-more _ _ (top_text config ++ sets) (fls_text config.fls_tst) (AppendsFront-more _ _ (top_text config) sets top) in
    search rules

pub returns-in_err-write_sets-clause-err : goal.returns-in_err-write_sets-clause-err
unfolding config_text
returns-in_err-write_sets-clause-err g c =
    let config = c.args.config.now in
    let sets = sets_text config.version config.shape.width config.ram_tst.sets in
    let top = subst (Appends (g.K.Sink.held c.args.sink.now) (g.K.Sink.held c.put.new.sink)) (c.deref.ensures.0 ∙ c.top_text.ensures) c.in_ok-put.ensures.ok in
    let next = rw c.as_slice-sets.ensures at c.in_err-write_sets.ensures.err in
    let front = AppendsFront-more _ _ (top_text config ++ sets) (fls_text config.fls_tst) (AppendsFront-after _ _ _ (top_text config) sets top next) in
    search rules

pub returns-clause-err : goal.returns-clause-err
unfolding config_text
returns-clause-err g c =
    let config = c.args.config.now in
    let sets = sets_text config.version config.shape.width config.ram_tst.sets in
    let top = subst (Appends (g.K.Sink.held c.args.sink.now) (g.K.Sink.held c.put.new.sink)) (c.deref.ensures.0 ∙ c.top_text.ensures) c.in_ok-put.ensures.ok in
    let next = rw c.as_slice-sets.ensures at c.in_ok-write_sets.ensures.ok in
    let last = rw (c.deref-2.ensures.0 ∙ c.fls_text.ensures) at c.put-2.ensures.err in
    on_err_weaker c.put-2.result (λ front. AppendsFront-after _ _ _ (top_text config ++ sets) (fls_text config.fls_tst) (Appends-trans _ _ _ (top_text config) sets top next) front) last
