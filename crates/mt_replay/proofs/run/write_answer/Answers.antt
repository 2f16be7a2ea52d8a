use Rattle.std.proofs.Common.{ℕ, ◌∙◌, ◌++◌, List, ap, sym, subst}
use Rattle.std.proofs.lemmas.Result.{on_ok_weaker, on_err_weaker}
use Rattle.std.specs.Io.KnownBytes.{Appends}
use Rattle.mt_port.specs.Streams.{AppendsFront}
use Rattle.mt_window.specs.declared.log.Entry.{Entry}
use Rattle.mt_window.specs.declared.log.Entry.TheVariants.{Own}
use Rattle.mt_text.specs.Trace.{entries_text, entry_text}
use Rattle.mt_replay.proofs.Texts.{entries_text-then}
use Rattle.mt_replay.proofs.run.write_answer.Goals as goal

-- what is on the page
pub returns-clause-ok : goal.returns-clause-ok
returns-clause-ok g c =
    let entries = ap (λ (l : List Entry). entries_text c.args.width c.args.number l) c.entries.ensures.entries in
    let page =
    c.deref.ensures.0
    ∙ c.push_entry.ensures.text
    ∙ ap (λ (l : List ℕ). l ++ entry_text c.args.width c.args.number (Own c.args.reply)) (c.push_entries.ensures.text ∙ entries)
    ∙ sym (entries_text-then c.trace_lines_stand_in_order.ensures.more c.args.width c.args.number c.args.log.now (Own c.args.reply)) in
    on_ok_weaker c.put.result (subst (Appends (g.K.Sink.held c.args.sink.now) (g.K.Sink.held c.put.new.sink)) page) c.put.ensures.ok

pub returns-clause-err : goal.returns-clause-err
returns-clause-err g c =
    let entries = ap (λ (l : List Entry). entries_text c.args.width c.args.number l) c.entries.ensures.entries in
    let page =
    c.deref.ensures.0
    ∙ c.push_entry.ensures.text
    ∙ ap (λ (l : List ℕ). l ++ entry_text c.args.width c.args.number (Own c.args.reply)) (c.push_entries.ensures.text ∙ entries)
    ∙ sym (entries_text-then c.trace_lines_stand_in_order.ensures.more c.args.width c.args.number c.args.log.now (Own c.args.reply)) in
    on_err_weaker c.put.result (subst (AppendsFront (g.K.Sink.held c.args.sink.now) (g.K.Sink.held c.put.new.sink)) page) c.put.ensures.err
