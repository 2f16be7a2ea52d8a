use Rattle.std.proofs.Common.{◌≡◌, ℕ, List, [], get_or, take, option_map, Bor, refl, ap, ◌∙◌, subst, arith}
use Rattle.std.specs.Str.{str_to_ascii_lowercase}
use Rattle.std.proofs.lemmas.List.{length-map, take_all}
use Rattle.mt_place.specs.Names.{distance, edits, IsNearest}
use Rattle.mt_place.proofs.LineLemmas.{texts}
use Rattle.mt_place.proofs.NameLemmas.{step_taken, step_left}
use Rattle.mt_place.proofs.nearest.nearest.Goals as goal
use Rattle.mt_place.proofs.nearest.nearest.Goals.{then-edits-least+then-are_few, else-edits-least, else-edits-least-via-then-edits-least+else-are_few, else-edits-least-via-else-edits-least}

pub loop-name-init : goal.loop-name-init
loop-name-init c = record { nearest = λ k d below. absurd (omega arith); count = refl }

pub loop-name-preserved : goal.loop-name-preserved
loop-name-preserved c =
    let word = c.args.word.now in
    let names = c.args.names.now in
    let i = c.loop-name.name-index in
    let d : Bor (List ℕ) = record { ref_ptr = (0, 0); now = [] } in
    let name = (get_or names i d).now in
    let counted : c.in_ok-edits.edits ≡ edits word name =
    c.in_ok-edits.ensures ∙ ap (λ (s : List ℕ). distance s (str_to_ascii_lowercase name)) (c.as_str.ensures.value ∙ c.in_ok-lower.ensures.ok) in
    elim c.if-edits-least.branch [
      | then-edits-least+then-are_few w ↦ step_taken word names i d c.loop-name.best c.if-edits-least.best c.loop-name.least c.if-edits-least.least c.in_ok-edits.edits
          c.loop-name-test.true c.loop-name.invariant counted w.if-edits-least.true (w.are_few.ensures.0 w.if-are_few.true) w.best-is w.least-is
      | else-edits-least w ↦ step_left word names i d c.loop-name.best c.if-edits-least.best c.loop-name.least c.if-edits-least.least c.in_ok-edits.edits
          c.loop-name-test.true c.loop-name.invariant counted
          (λ below few. elim w.else-edits-least.branch [
            | else-edits-least-via-then-edits-least+else-are_few w' ↦ let no = w'.if-are_few.ensures.1 few in cc
            | else-edits-least-via-else-edits-least w' ↦ let above = w'.if-edits-least.false in absurd (omega (arith, above, below))
          ]) w.best-is w.least-is
    ]

pub returns : goal.returns
returns c =
    let names = texts c.args.names.now in
    let all : take c.loop-name.name-index names ≡ names = take_all c.loop-name.name-index names (let many = length-map c.args.names.now (λ (name : Bor (List ℕ)). name.now) in omega (arith, many)) in
    subst (λ (ns : List (List ℕ)). IsNearest c.args.word.now ns (option_map (λ name. name.now) c.loop-name.best)) all c.loop-name.invariant.nearest
