use Rattle.std.proofs.Common.{◌≡◌, ◌∙◌, ap, arith}
use Rattle.mt_verify.specs.Lines.{feeds}
use Rattle.mt_window.specs.declared.log.Entry.TheVariants.{Own}
use Rattle.mt_replay.proofs.Traces.{compares_answer, entry_line}
use Rattle.mt_replay.proofs.replaying.compare_answer.Goals as goal

pub compare-requires-clause-few : goal.compare-requires-clause-few
compare-requires-clause-few g c =
    let few = c.compare_entries.ensures.few in
    let all = c.requires.few in
    let one : feeds c.deref.result.now ≡ 1 = ap feeds (c.deref.ensures.0 ∙ c.entry_text.ensures) ∙ entry_line _ _ _ in
    omega (arith, few, all, one)

pub returns-clause-compares : goal.returns-clause-compares
returns-clause-compares g c =
    compares_answer c.trace_lines_stand_in_order.ensures.more c.args.width c.args.number c.args.log.now (Own c.args.reply) c.deref.result.now _ _ _ _ _ _ c.compare_entries.ensures.compares (c.deref.ensures.0 ∙ c.entry_text.ensures) c.compare.ensures.stands

pub returns-clause-cause : goal.returns-clause-cause
returns-clause-cause g c = λ first h. c.compare.ensures.caused first (c.compare_entries.ensures.cause first h)

pub returns-clause-drained : goal.returns-clause-drained
returns-clause-drained g c = λ h. c.compare.ensures.drained (c.compare_entries.ensures.drained h)

pub returns-clause-few : goal.returns-clause-few
returns-clause-few g c =
    let few = c.compare_entries.ensures.few in
    let more = c.compare.ensures.few in
    let one : feeds c.deref.result.now ≡ 1 = ap feeds (c.deref.ensures.0 ∙ c.entry_text.ensures) ∙ entry_line _ _ _ in
    omega (arith, few, more, one)
