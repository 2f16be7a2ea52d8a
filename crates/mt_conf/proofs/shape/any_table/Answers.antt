use Rattle.std.proofs.Common.{◌≡◌, ◌∙◌, true, false, sym, ap, take, get_or, take_all}
use Rattle.std.specs.List.{list_any}
use Rattle.std.proofs.lemmas.List.Folds.{list_any_at, list_any_more}
use Rattle.toml.specs.View.{view}
use Rattle.mt_conf.specs.Rules.{in_table}
use Rattle.mt_conf.proofs.Lists.{list_any_map}
use Rattle.mt_conf.proofs.shape.any_table.Goals as goal

pub returns-then-passes : goal.returns-then-passes
returns-then-passes g c = λ p tests.
    let whole = list_any_map (in_table p) view c.array_at-value-items.result.now in
    let here : in_table p (view (get_or c.array_at-value-items.result.now c.loop-value.value-index c.value-item.result)) ≡ true = rw (← c.value-item.is) (sym (c.passes.ensures p tests) ∙ c.if-passes.true) in
    rw (← c.array_at-value-items.ensures, ← whole) (sym (list_any_at (λ v. in_table p (view v)) _ _ c.value-item.result c.loop-value-test.true here))

pub loop-value-preserved : goal.loop-value-preserved
loop-value-preserved g c = (
  c.loop-value.invariant.0,
  λ p tests.
      let here : in_table p (view (get_or c.array_at-value-items.result.now c.loop-value.value-index c.value-item.result)) ≡ false = rw (← c.value-item.is) (sym (c.passes.ensures p tests) ∙ c.if-passes.false) in
      let before = c.loop-value.invariant.1 p tests in
      list_any_more (λ v. in_table p (view v)) _ _ c.value-item.result c.loop-value-test.true ∙ rw (before, here),
)

pub returns : goal.returns
returns g c = λ p tests.
    let before = c.loop-value.invariant.1 p tests in
    let whole = list_any_map (in_table p) view c.array_at-value-items.result.now in
    let all : take c.loop-value.value-index c.array_at-value-items.result.now ≡ c.array_at-value-items.result.now = take_all _ _ c.loop-value-test.false in
    rw (← c.array_at-value-items.ensures, ← whole) (sym before ∙ ap (list_any (λ v. in_table p (view v))) all)
