use Rattle.std.proofs.Common.{ℕ, List, [], map, refl, ap, sym, ◌∙◌, subst}
use Rattle.mt_march.specs.declared.march.Element.{Element}
use Rattle.mt_plan.specs.declared.line.Line.{Line}
use Rattle.mt_plan.specs.declared.line.Line.TheVariants.{EachCell, OnCell, WalkBase, GalpatBase}
use Rattle.mt_plan.specs.declared.algorithm.Step.{Step}
use Rattle.mt_plan.specs.Accesses.{item_of}
use Rattle.mt_plan.specs.Cursor.{element_under, span_steps}
use Rattle.mt_seq.specs.Inner.Ground.{IsGround, item_on}
use Rattle.mt_seq.specs.Sequence.{back_of}
use Rattle.mt_seq.specs.Stepping.{job_of}
use Rattle.mt_seq.proofs.Makes.{Makes-same}
use Rattle.mt_seq.proofs.SpanRuns.{course_opaque, ground_is, items_are, items_opaque, span_same}
use Rattle.mt_seq.proofs.course.Course.make_span.Goals as goal

pub walk_base-requires-clause-ground : goal.walk_base-requires-clause-ground
walk_base-requires-clause-ground g c =
    let job = job_of c.args.alg.now c.args.frame in
    subst (IsGround (g.P.Port.state c.args.port.now) (record { first = c.args.self.now.slice.first; n = c.args.self.now.slice.n; width = c.args.width; background = c.args.frame.background; transparent = c.args.self.now.transparent }))
    (sym c.as_slice-saved.ensures.value) (ground_is job c.args.self.now (g.P.Port.state c.args.port.now) c.args.width _ c.requires.course c.requires.ready c.requires.width c.requires.from)

pub galpat_base-requires-clause-ground : goal.galpat_base-requires-clause-ground
galpat_base-requires-clause-ground g c =
    let job = job_of c.args.alg.now c.args.frame in
    subst (IsGround (g.P.Port.state c.args.port.now) (record { first = c.args.self.now.slice.first; n = c.args.self.now.slice.n; width = c.args.width; background = c.args.frame.background; transparent = c.args.self.now.transparent }))
    (sym c.as_slice-saved.ensures.value) (ground_is job c.args.self.now (g.P.Port.state c.args.port.now) c.args.width _ c.requires.course c.requires.ready c.requires.width c.requires.from)

pub returns-in-EachCell : goal.returns-in-EachCell
returns-in-EachCell g c =
    let job = job_of c.args.alg.now c.args.frame in
    let s = c.args.self.now in
    let line : Line = EachCell c.in-EachCell.even c.in-EachCell.odd in
    let span : List Step = span_steps (element_under s.steps) s.slice.n line in
    Makes-same
    (ap (λ (saved : List ℕ). map (item_on (record { first = s.slice.first; n = s.slice.n; width = c.args.width; background = c.args.frame.background; transparent = s.transparent }) saved) span) c.as_slice-saved.ensures.value
    ∙ items_are job s c.args.width span c.requires.course
    ∙ ap (map (item_of c.args.width s.slice.first (back_of job s.saved.items))) (span_same job s line c.requires.course c.in-EachCell.ensures.line))
    refl c.each_cell.ensures

pub returns-in-WalkBase : goal.returns-in-WalkBase
returns-in-WalkBase g c =
    let job = job_of c.args.alg.now c.args.frame in
    let s = c.args.self.now in
    let line : Line = WalkBase c.in-WalkBase.flipped c.in-WalkBase.base in
    let span : List Step = span_steps (element_under s.steps) s.slice.n line in
    Makes-same
    (ap (λ (saved : List ℕ). map (item_on (record { first = s.slice.first; n = s.slice.n; width = c.args.width; background = c.args.frame.background; transparent = s.transparent }) saved) span) c.as_slice-saved.ensures.value
    ∙ items_are job s c.args.width span c.requires.course
    ∙ ap (map (item_of c.args.width s.slice.first (back_of job s.saved.items))) (span_same job s line c.requires.course c.in-WalkBase.ensures.line))
    refl c.walk_base.ensures

pub returns-in-GalpatBase : goal.returns-in-GalpatBase
returns-in-GalpatBase g c =
    let job = job_of c.args.alg.now c.args.frame in
    let s = c.args.self.now in
    let line : Line = GalpatBase c.in-GalpatBase.flipped c.in-GalpatBase.base in
    let span : List Step = span_steps (element_under s.steps) s.slice.n line in
    Makes-same
    (ap (λ (saved : List ℕ). map (item_on (record { first = s.slice.first; n = s.slice.n; width = c.args.width; background = c.args.frame.background; transparent = s.transparent }) saved) span) c.as_slice-saved.ensures.value
    ∙ items_are job s c.args.width span c.requires.course
    ∙ ap (map (item_of c.args.width s.slice.first (back_of job s.saved.items))) (span_same job s line c.requires.course c.in-GalpatBase.ensures.line))
    refl c.galpat_base.ensures

pub returns-in-OnCell : goal.returns-in-OnCell
returns-in-OnCell g c =
    let job = job_of c.args.alg.now c.args.frame in
    let s = c.args.self.now in
    let line : Line = OnCell c.in-OnCell.cell in
    let opaque = course_opaque job s c.requires.course (c.in-OnCell.ensures.march refl) in
    Makes-same
    (ap (λ (e : Element). map (item_on (record { first = s.slice.first; n = s.slice.n; width = c.args.width; background = c.args.frame.background; transparent = s.transparent }) []) (span_steps e s.slice.n line)) c.element.ensures
    ∙ items_opaque job s c.args.width (span_steps (element_under s.steps) s.slice.n line) c.requires.course opaque
    ∙ ap (map (item_of c.args.width s.slice.first (back_of job s.saved.items))) (span_same job s line c.requires.course c.in-OnCell.ensures.line))
    refl c.on_cells.ensures
