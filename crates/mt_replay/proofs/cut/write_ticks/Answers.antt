use Rattle.std.proofs.Common.{ℕ, ◌≡◌, ◌+◌, ◌≤◌, ◌∷◌, [], List, length, take, drop, subst, sym, ap, ◌∙◌}
use Rattle.std.specs.Prelude.{sum, All}
use Rattle.std.proofs.lemmas.Result.{on_ok_weaker, on_err_weaker}
use Rattle.std.proofs.lemmas.List.Elements.{All-drop}
use Rattle.mt_cut.specs.Holds.{holds_next, pass_holds}
use Rattle.mt_cut.specs.Cuts.{longest_runs}
use Rattle.mt_replay.specs.Cut.{count_text, ticks_text}
use Rattle.mt_replay.proofs.Texts.{OnErr-any}
use Rattle.mt_replay.proofs.Ticks.{Partly-next, Partly-cut, Partly-all, Partly-tick, Partly-count, left_text, ticks-more, ticks-done}
use Rattle.mt_replay.proofs.cut.write_ticks.Goals as goal

pub returns-in_err-put-in-Some-run_from-clause-err : goal.returns-in_err-put-in-Some-run_from-clause-err
returns-in_err-put-in-Some-run_from-clause-err g c =
    let set = c.args.set.now in
    let budget = c.args.budget in
    let inv = c.loop-next.invariant in
    let run = c.in-Some-run_from.run' in
    let is = c.in-Some-run_from.ensures.run in
    let rest = holds_next set c.loop-next.next in
    let more = holds_next set run.next in
    let here = ap (holds_next set) c.in-Some.is in
    let all = ticks_text (longest_runs budget (pass_holds set)) (pass_holds set) in
    let end = count_text (length (longest_runs budget (pass_holds set))) in
    let line = Partly-tick budget (c.loop-next.ticks + 1) run.slices run.accesses all rest more end c.deref.result.now (g.K.Sink.held c.args.sink.now) (g.K.Sink.held c.loop-next.sink)
    (ap (longest_runs budget) here ∙ c.in-Some-run_from.ensures.cut) (is.rest ∙ ap (λ (l : List ℕ). drop run.slices l) (sym here))
    (is.accesses ∙ ap (λ (l : List ℕ). sum (take run.slices l)) (sym here)) (c.deref.ensures.0 ∙ c.tick_text.ensures) inv.text in
    OnErr-any c.from_residual.result
    (Partly-cut all c.deref.result.now (left_text budget (c.loop-next.ticks + 1 + 1) more end) (g.K.Sink.held c.args.sink.now) (g.K.Sink.held c.loop-next.sink) (g.K.Sink.held c.put.new.sink)
    line c.in_err-put-in-Some-run_from.ensures.err)

pub loop-next-preserved : goal.loop-next-preserved
loop-next-preserved g c =
    let set = c.args.set.now in
    let budget = c.args.budget in
    let inv = c.loop-next.invariant in
    let run = c.in-Some-run_from.run' in
    let is = c.in-Some-run_from.ensures.run in
    let rest = holds_next set c.loop-next.next in
    let more = holds_next set run.next in
    let here = ap (holds_next set) c.in-Some.is in
    let cut : longest_runs budget rest ≡ run.slices ∷ longest_runs budget more = ap (longest_runs budget) here ∙ c.in-Some-run_from.ensures.cut in
    let behind : more ≡ drop run.slices rest = is.rest ∙ ap (λ (l : List ℕ). drop run.slices l) (sym here) in
    let all = ticks_text (longest_runs budget (pass_holds set)) (pass_holds set) in
    let end = count_text (length (longest_runs budget (pass_holds set))) in
    let line = Partly-tick budget (c.loop-next.ticks + 1) run.slices run.accesses all rest more end c.deref.result.now (g.K.Sink.held c.args.sink.now) (g.K.Sink.held c.loop-next.sink)
    cut behind (is.accesses ∙ ap (λ (l : List ℕ). sum (take run.slices l)) (sym here)) (c.deref.ensures.0 ∙ c.tick_text.ensures) inv.text in
    record {
      valid = is.valid;
      low = subst (All (λ (h : ℕ). h ≤ budget)) (sym behind) (All-drop (λ (h : ℕ). h ≤ budget) run.slices rest inv.low);
      same = ticks-more budget c.loop-next.ticks run.slices (length (longest_runs budget (pass_holds set))) rest more cut inv.same;
      few = inv.few;
      text = Partly-next all c.deref.result.now (left_text budget (c.loop-next.ticks + 1 + 1) more end) (g.K.Sink.held c.args.sink.now) (g.K.Sink.held c.loop-next.sink)
          (g.K.Sink.held c.put.new.sink) line c.in_ok-put-in-Some-run_from.ensures.ok;
      faults = c.in_ok-put-in-Some-run_from.ensures.cause.kept ∙ inv.faults;
    }

pub returns-clause-ok : goal.returns-clause-ok
returns-clause-ok g c =
    let set = c.args.set.now in
    let budget = c.args.budget in
    let inv = c.loop-next.invariant in
    let rest = holds_next set c.loop-next.next in
    let none = ap (holds_next set) c.in_default.is in
    let all = ticks_text (longest_runs budget (pass_holds set)) (pass_holds set) in
    let total = length (longest_runs budget (pass_holds set)) in
    let line = Partly-count budget (c.loop-next.ticks + 1) c.loop-next.ticks total all rest c.deref-2.result.now (g.K.Sink.held c.args.sink.now) (g.K.Sink.held c.loop-next.sink)
    none (ticks-done budget c.loop-next.ticks total rest none inv.same) (c.deref-2.ensures.0 ∙ c.count_text.ensures) inv.text in
    on_ok_weaker c.put-2.result
    (λ ok. Partly-all all (g.K.Sink.held c.args.sink.now) (g.K.Sink.held c.put-2.new.sink)
    (Partly-next all c.deref-2.result.now [] (g.K.Sink.held c.args.sink.now) (g.K.Sink.held c.loop-next.sink) (g.K.Sink.held c.put-2.new.sink) line ok)) c.put-2.ensures.ok

pub returns-clause-err : goal.returns-clause-err
returns-clause-err g c =
    let set = c.args.set.now in
    let budget = c.args.budget in
    let inv = c.loop-next.invariant in
    let rest = holds_next set c.loop-next.next in
    let none = ap (holds_next set) c.in_default.is in
    let all = ticks_text (longest_runs budget (pass_holds set)) (pass_holds set) in
    let total = length (longest_runs budget (pass_holds set)) in
    let line = Partly-count budget (c.loop-next.ticks + 1) c.loop-next.ticks total all rest c.deref-2.result.now (g.K.Sink.held c.args.sink.now) (g.K.Sink.held c.loop-next.sink)
    none (ticks-done budget c.loop-next.ticks total rest none inv.same) (c.deref-2.ensures.0 ∙ c.count_text.ensures) inv.text in
    on_err_weaker c.put-2.result
    (λ front. Partly-cut all c.deref-2.result.now [] (g.K.Sink.held c.args.sink.now) (g.K.Sink.held c.loop-next.sink) (g.K.Sink.held c.put-2.new.sink) line front) c.put-2.ensures.err
