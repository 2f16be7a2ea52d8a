use Rattle.std.proofs.Common.{List, [], ap, subst, sym, ◌∙◌}
use Rattle.mt_fault.specs.declared.fault.Fault.{Fault}
use Rattle.mt_locate.specs.declared.evidence.Evidence.{Evidence}
use Rattle.mt_locate.specs.declared.unseen.Unseen.{Unseen}
use Rattle.std.specs.declared.option.Option.{Option}
use Rattle.mt_locate.specs.Listed.{explains}
use Rattle.mt_locate.specs.Moved.{IsFaultOfSlice}
use Rattle.mt_locate.specs.Suspects.{suspect}
use Rattle.mt_locate.specs.declared.probe.Miss.{Miss}
use Rattle.mt_locate.specs.Inner.Listing.{MayHaveTables}
use Rattle.mt_locate.proofs.Tested.{test_is, innocent}
use Rattle.mt_locate.proofs.list.is_explained.Goals as goal

pub stays_unseen-requires-clause-tables : goal.stays_unseen-requires-clause-tables
stays_unseen-requires-clause-tables c =
    (subst (λ (o : Option Unseen). MayHaveTables c.args.syndrome.now.probe.now c.args.syndrome.now.misses.now o) c.in-Some.is c.requires.ready.tables).1

pub stays_unseen-requires-clause-inside : goal.stays_unseen-requires-clause-inside
stays_unseen-requires-clause-inside c =
    let probe = c.args.syndrome.now.probe.now in
    subst (λ (f : Fault). IsFaultOfSlice probe.width probe.first probe.n f) (sym c.in-Some-to_disturbance.ensures) c.requires.inside

pub returns-clause-explained : goal.returns-clause-explained
returns-clause-explained c =
    let probe = c.args.syndrome.now.probe.now in
    let misses = c.args.syndrome.now.misses.now in
    let tables = subst (λ (o : Option Unseen). MayHaveTables probe misses o) c.in-Some.is c.requires.ready.tables in
    c.stays_unseen.ensures
    ∙ sym (c.bits_decide.ensures probe c.in-Some-to_disturbance.coupling c.requires.ready.accepted
    (subst (λ (f : Fault). IsFaultOfSlice probe.width probe.first probe.n f) (sym c.in-Some-to_disturbance.ensures) c.requires.inside))
    ∙ ap (explains probe []) c.in-Some-to_disturbance.ensures
    ∙ ap (λ (ms : List Miss). explains probe ms c.args.fault) (sym tables.0)

pub returns-then-is_suspect-clause-explained : goal.returns-then-is_suspect-clause-explained
returns-then-is_suspect-clause-explained c =
    let probe = c.args.syndrome.now.probe.now in
    let misses = c.args.syndrome.now.misses.now in
    test_is probe misses c.args.fault c.explains_by.result c.explains_by.ensures.exact

pub returns-else-is_suspect-clause-explained : goal.returns-else-is_suspect-clause-explained
returns-else-is_suspect-clause-explained c =
    let probe = c.args.syndrome.now.probe.now in
    let misses = c.args.syndrome.now.misses.now in
    c.if-is_suspect.false
    ∙ sym (innocent probe misses c.args.fault (λ e. c.culprits_are_suspects.ensures probe misses c.args.fault c.requires.ready.accepted c.requires.inside e)
    (ap (λ (e : Evidence). suspect e c.args.fault) (sym c.requires.ready.told) ∙ sym c.is_suspect.ensures ∙ c.if-is_suspect.false))
