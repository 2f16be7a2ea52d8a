use Rattle.std.proofs.Common.{ℕ, ◌≡◌, ◌+◌, ◌*◌, List, [], map, length, refl, arith, ap, ◌∙◌, subst}
use Rattle.std.specs.List.{flat_map}
use Rattle.std.proofs.lemmas.List.{length-map}
use Rattle.mt_word.specs.declared.Width.{Width}
use Rattle.mt_word.specs.Word.{Fits}
use Rattle.mt_march.specs.declared.march.Op.{Op}
use Rattle.mt_plan.specs.Lists.{cells, ops_on}
use Rattle.mt_plan.specs.Rows.{cell_at}
use Rattle.mt_seq.specs.declared.span.Target.{Target}
use Rattle.mt_seq.specs.Inner.Ground.{item_on, operation}
use Rattle.mt_seq.proofs.Makes.{Makes-nil, Makes-same}
use Rattle.mt_seq.proofs.Spans.{MakesToo-steps, ground_after, operations_are, pieces_more, room_for_ops}
use Rattle.mt_seq.proofs.span.on_cells.Goals as goal

pub loop-place-init : goal.loop-place-init
loop-place-init g c = record {
  made = omega arith;
  does = Makes-nil (g.P.Port.state c.args.port.now) (g.P.Port.tape c.args.port.now) (g.met.P.Port.sound c.args.port.now);
}

pub operate_all-good-requires-clause-target : goal.operate_all-good-requires-clause-target
operate_all-good-requires-clause-target g c =
    let is = ground_after c.args.ground [] c.requires.ground c.loop-place.invariant.does in
    record {
      held = is.held;
      inside = omega (arith, is.inside, c.cell_of.ensures.inside, c.from-n.ensures, c.from.ensures);
      plain = subst (λ (w : Width). Fits w c.args.ground.background) is.width is.background;
      flipped = subst (λ (w : Width). Fits w c.flip-flipped.result) is.width c.flip-flipped.ensures.fits;
    }

pub operate_all-good-requires-clause-room : goal.operate_all-good-requires-clause-room
operate_all-good-requires-clause-room g c =
    rw c.as_slice-ops.ensures.value
    (room_for_ops (g.P.Port.state c.args.port.now).count (g.P.Port.state c.loop-place.port).count c.args.ground.n c.loop-place.place (length c.args.element.now.ops.items)
    c.loop-place.invariant.made c.requires.room (omega (arith, c.loop-place-test.true, c.from-n.ensures)))

pub loop-place-preserved : goal.loop-place-preserved
loop-place-preserved g c =
    let inv = c.loop-place.invariant in
    let ground = c.args.ground in
    let ops : List Op = c.args.element.now.ops.items in
    let cell : ℕ = cell_at c.args.element.now.order ground.n c.loop-place.place in
    let at : c.from.result ≡ cell = c.from.ensures ∙ c.cell_of.ensures.cell ∙ ap (λ (n : ℕ). cell_at c.args.element.now.order n c.loop-place.place) c.from-n.ensures in
    let target : Target = record { addr = ground.first + c.from.result; plain = ground.background; flipped = c.flip-flipped.result } in
    let same : map (operation target) c.as_slice-ops.result.now ≡ map (item_on ground []) (ops_on ops cell) =
    ap (map (operation target)) c.as_slice-ops.ensures.value
    ∙ operations_are ground target cell ops c.requires.opaque (ap (λ (k : ℕ). ground.first + k) at) refl c.flip-flipped.ensures.word in
    let long : length (map (operation target) c.as_slice-ops.result.now) ≡ length ops = length-map c.as_slice-ops.result.now (operation target) ∙ ap length c.as_slice-ops.ensures.value in
    let product : (c.loop-place.place + 1) * length ops ≡ c.loop-place.place * length ops + length ops = omega arith in
    record {
      made = omega (arith, c.operate_all-good.ensures.makes.count, inv.made, long, product);
      does = MakesToo-steps (item_on ground []) _ _ _ (g.met.P.Port.sound c.args.port.now) (pieces_more (λ (place : ℕ). ops_on ops (cell_at c.args.element.now.order ground.n place)) c.loop-place.place) same inv.does c.operate_all-good.ensures;
    }

pub returns : goal.returns
returns g c =
    let e : c.loop-place.place ≡ c.args.ground.n = omega arith in
    Makes-same (ap (λ (n : ℕ). map (item_on c.args.ground []) (flat_map (λ place. ops_on c.args.element.now.ops.items (cell_at c.args.element.now.order c.args.ground.n place)) (cells n))) e) refl c.loop-place.invariant.does
