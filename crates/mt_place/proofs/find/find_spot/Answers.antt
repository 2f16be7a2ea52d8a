use Rattle.std.proofs.Common.{[], get_or, sym, ◌∙◌, subst}
use Rattle.mt_place.specs.declared.find.Target.TheVariants.{Header}
use Rattle.mt_place.specs.Keys.{IsSpotOf}
use Rattle.mt_place.proofs.LineLemmas.{texts}
use Rattle.mt_place.proofs.SpotLemmas.{header_shown, spot_of_file}
use Rattle.mt_place.proofs.find.find_spot.Goals as goal
use Rattle.mt_place.proofs.find.find_spot.Goals.{in-Header, in_default}

pub returns-then-eq-clause-spot : goal.returns-then-eq-clause-spot
returns-then-eq-clause-spot c =
    let file = c.args.file.now in
    let spot = c.spot_of.result in
    let shown = header_shown (get_or file c.loop-index.index (record { ref_ptr = (0, 0); now = [] })).now c.header_piece-header.result spot c.header_piece-header.ensures.part
    (record { column = c.spot_of.ensures.column; length = c.spot_of.ensures.length }) c.header_piece-header.ensures.gap
    (sym c.starts_with.ensures.value ∙ c.if-starts_with.true) in
    elim c.match-matches.branch [
      | in-Header w ↦ subst (λ t. IsSpotOf (texts file) t spot) (sym w.in-Header.is)
          (spot_of_file file c.loop-index.index (record { ref_ptr = (0, 0); now = [] }) Header spot c.loop-index-test.true (c.spot_of.ensures.line, shown.0, shown.1))
      | in_default w ↦ absurd (let no = w.matches-is in let yes = c.if-matches.true in cc)
    ]

pub returns-else-starts_with-clause-spot : goal.returns-else-starts_with-clause-spot
returns-else-starts_with-clause-spot c =
    spot_of_file c.args.file.now c.loop-index.index (record { ref_ptr = (0, 0); now = [] }) c.args.target c.in-Some.spot c.loop-index-test.true c.in-Some.ensures.spot
