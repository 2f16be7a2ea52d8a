use Rattle.std.proofs.Common.{ℕ, ◌∙◌, List, length, ap, refl, sym, arith}
use Rattle.mt_replay.proofs.Texts.{entries_text-nil, entries_text-more}
use Rattle.mt_replay.proofs.run.push_entries.Goals as goal

pub loop-entry-init : goal.loop-entry-init
loop-entry-init c = record {
  text = c.requires.empty ∙ sym (entries_text-nil c.args.width c.args.number);
  short = let none = ap (λ (l : List ℕ). length l) c.requires.empty in omega (arith, none);
}

pub loop-entry-preserved : goal.loop-entry-preserved
loop-entry-preserved c =
    let all = c.args.entries.now in
    let k = c.loop-entry.entry-index in
    record {
      text = c.push_entry.ensures.text ∙ entries_text-more c.trace_lines_stand_in_order.ensures.more c.args.width c.args.number all k _ c.loop-entry.page.items _ c.loop-entry-test.true c.loop-entry.invariant.text refl;
      short = omega (arith, c.push_entry.ensures.short, c.loop-entry.invariant.short);
    }
