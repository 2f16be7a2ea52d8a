use Rattle.std.proofs.Common.{ℕ, List, Result, Ok, Err, subst, sym}
use Rattle.std.specs.Prelude.{OnErr}
use Rattle.std.specs.Io.KnownBytes.{Appends}
use Rattle.mt_word.specs.declared.Width.{Width}
use Rattle.mt_port.specs.declared.stream.Failed.{Failed}
use Rattle.mt_port.specs.Gathering.{Gathers}
use Rattle.mt_port.specs.Streams.{AppendsFront}
use Rattle.mt_locate.specs.Listed.{fault_lines, located, faults_of}
use Rattle.mt_locate.specs.Inner.Listing.{lines_of}
use Rattle.mt_locate.proofs.Listing.{whole_text, whole_front}
use Rattle.mt_locate.proofs.list.list_faults.Goals as goal

on_err : (result : Result ℕ Failed) {P : Type 0} → P → OnErr result P
on_err (Ok n) p = tt
on_err (Err e) p = p

pub returns-in_err-flush-clause-err : goal.returns-in_err-flush-clause-err
returns-in_err-flush-clause-err g c =
    let probe = c.args.probe.now in
    let misses = c.args.misses.now in
    let lines = lines_of probe misses (faults_of probe.width probe.first probe.n) in
    let text = subst (λ (u : List ℕ). Gathers (g.K.Sink.held c.args.sink.now) (g.K.Sink.held c.list_kinds.new.sink) u c.list_kinds.new.page.waiting lines) c.new-page.ensures c.in_ok-found.ensures.lists.ok.text in
    on_err c.from_residual-in_err-flush.result
    (subst (λ (w : Width). AppendsFront (g.K.Sink.held c.args.sink.now) (g.K.Sink.held c.flush.new.sink) (fault_lines w (located probe misses))) (sym c.requires.width)
    (whole_front _ _ _ c.list_kinds.new.page.waiting lines text c.in_err-flush.ensures.err))

pub returns-clause-ok : goal.returns-clause-ok
returns-clause-ok g c =
    let probe = c.args.probe.now in
    let misses = c.args.misses.now in
    let lines = lines_of probe misses (faults_of probe.width probe.first probe.n) in
    let text = subst (λ (u : List ℕ). Gathers (g.K.Sink.held c.args.sink.now) (g.K.Sink.held c.list_kinds.new.sink) u c.list_kinds.new.page.waiting lines) c.new-page.ensures c.in_ok-found.ensures.lists.ok.text in
    subst (λ (w : Width). Appends (g.K.Sink.held c.args.sink.now) (g.K.Sink.held c.flush.new.sink) (fault_lines w (located probe misses))) (sym c.requires.width)
    (whole_text _ _ _ c.list_kinds.new.page.waiting lines text c.in_ok-flush.ensures.ok)
