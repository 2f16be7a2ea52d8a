use Rattle.std.proofs.Common.{ap, ◌∙◌, ◌≡◌, subst}
use Rattle.std.proofs.lemmas.Result.{on_ok_weaker, on_err_weaker}
use Rattle.std.specs.Io.KnownBytes.{Appends}
use Rattle.mt_port.specs.Streams.{AppendsFront}
use Rattle.mt_port.specs.Inner.Streams.{Appends-trans, AppendsFront-after, AppendsFront-more}
use Rattle.mt_cut.specs.Holds.{pass_holds}
use Rattle.mt_cut.specs.Cuts.{first_above}
use Rattle.mt_cut.specs.Atomic.{largest}
use Rattle.mt_replay.specs.Cut.{pass_text, largest_text, set_text}
use Rattle.mt_replay.proofs.Texts.{OnErr-any}
use Rattle.mt_replay.proofs.cut.write_set.Goals as goal

pub returns-in_err-write_pass-clause-err : goal.returns-in_err-write_pass-clause-err
unfolding set_text
returns-in_err-write_pass-clause-err g c =
    let set = c.args.set.now in
    let pass = pass_text c.args.ask.budget (pass_holds set) (first_above c.args.ask.budget (pass_holds set)) in
    OnErr-any c.from_residual.result (AppendsFront-more (g.K.Sink.held c.args.sink.now) (g.K.Sink.held c.write_pass.new.sink) pass (largest_text (largest set c.args.ask.wait)) c.in_err-write_pass.ensures.err)

pub returns-clause-ok : goal.returns-clause-ok
unfolding set_text
returns-clause-ok g c =
    let set = c.args.set.now in
    let pass = pass_text c.args.ask.budget (pass_holds set) (first_above c.args.ask.budget (pass_holds set)) in
    let line : c.deref.result.now ≡ largest_text (largest set c.args.ask.wait) = c.deref.ensures.0 ∙ c.largest_text.ensures ∙ ap largest_text c.largest_atomic.ensures.value in
    on_ok_weaker c.put.result
    (λ ok. Appends-trans (g.K.Sink.held c.args.sink.now) (g.K.Sink.held c.write_pass.new.sink) (g.K.Sink.held c.put.new.sink) pass (largest_text (largest set c.args.ask.wait))
    c.in_ok-write_pass.ensures.ok (subst (Appends (g.K.Sink.held c.write_pass.new.sink) (g.K.Sink.held c.put.new.sink)) line ok)) c.put.ensures.ok

pub returns-clause-err : goal.returns-clause-err
unfolding set_text
returns-clause-err g c =
    let set = c.args.set.now in
    let pass = pass_text c.args.ask.budget (pass_holds set) (first_above c.args.ask.budget (pass_holds set)) in
    let line : c.deref.result.now ≡ largest_text (largest set c.args.ask.wait) = c.deref.ensures.0 ∙ c.largest_text.ensures ∙ ap largest_text c.largest_atomic.ensures.value in
    on_err_weaker c.put.result
    (λ front. AppendsFront-after (g.K.Sink.held c.args.sink.now) (g.K.Sink.held c.write_pass.new.sink) (g.K.Sink.held c.put.new.sink) pass (largest_text (largest set c.args.ask.wait))
    c.in_ok-write_pass.ensures.ok (subst (AppendsFront (g.K.Sink.held c.write_pass.new.sink) (g.K.Sink.held c.put.new.sink)) line front)) c.put.ensures.err
