use Rattle.std.proofs.Common.{◌≡◌, ◌+◌, ◌∙◌, ap, arith, drop}
use Rattle.std.proofs.lemmas.List.{drop_more, drop_all}
use Rattle.mt_verify.specs.Lines.{feeds}
use Rattle.mt_replay.proofs.Traces.{so_far_none, so_far_next, so_far_all, entry_line}
use Rattle.mt_replay.proofs.replaying.compare_entries.Goals as goal

pub loop-entry-init : goal.loop-entry-init
loop-entry-init g c = record { so = so_far_none c.args.width c.args.number c.args.entries.now c.args.comparison.now _; cause = λ first h. h; drained = λ h. h; few = omega arith }

pub compare-requires-clause-few : goal.compare-requires-clause-few
compare-requires-clause-few g c =
    let few = c.loop-entry.invariant.few in
    let all = c.requires.few in
    let one : feeds c.deref.result.now ≡ 1 = ap feeds (c.deref.ensures.0 ∙ c.entry_text.ensures) ∙ entry_line _ _ _ in
    omega (arith, few, all, one, c.loop-entry-test.true)

pub loop-entry-preserved : goal.loop-entry-preserved
loop-entry-preserved g c =
    let all = c.args.entries.now in
    let k = c.loop-entry.entry-index in
    let inv = c.loop-entry.invariant in
    let few = inv.few in
    let more = c.compare.ensures.few in
    let one : feeds c.deref.result.now ≡ 1 = ap feeds (c.deref.ensures.0 ∙ c.entry_text.ensures) ∙ entry_line _ _ _ in
    record {
      so = so_far_next c.args.width c.args.number all (drop (k + 1) all) (drop k all) _ c.deref.result.now _ _ _ _ _ _ (drop_more all k _ c.loop-entry-test.true) (c.deref.ensures.0 ∙ c.entry_text.ensures)
          inv.so c.compare.ensures.stands;
      cause = λ first h. c.compare.ensures.caused first (inv.cause first h);
      drained = λ h. c.compare.ensures.drained (inv.drained h);
      few = omega (arith, few, more, one);
    }

pub returns-clause-compares : goal.returns-clause-compares
returns-clause-compares g c =
    let all = c.args.entries.now in
    let k = c.loop-entry.entry-index in
    so_far_all c.args.width c.args.number all (drop k all) _ _ _ _ (drop_all k all c.loop-entry-test.false) c.loop-entry.invariant.so
