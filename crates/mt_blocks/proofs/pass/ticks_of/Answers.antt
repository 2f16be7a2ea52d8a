use Rattle.std.proofs.Common.{◌≡◌, length, map, List, ◌∙◌, sym, ap, arith}
use Rattle.mt_seq.specs.declared.sequence.Slice.{Slice}
use Rattle.mt_blocks.specs.Slices.{Piece, piece_at, from_next, pass}
use Rattle.mt_blocks.specs.Groups.{ticks}
use Rattle.mt_blocks.proofs.Passes.{next_valid, pass-start, start_of-valid}
use Rattle.mt_blocks.proofs.Cuts.{opened, opened-ticks, next_step, turn_fits, turn_begins, small-pass, some-pass, pass_short}
use Rattle.mt_blocks.proofs.pass.ticks_of.Goals.{then-words-left, else-words-left}
use Rattle.mt_blocks.proofs.pass.ticks_of.Goals as goal

pub loop-next-init : goal.loop-next-init
loop-next-init g c =
    let K = c.args.atomic in
    let spans = map g.T.HasSpan.span_of c.args.blocks.now in
    let ok = c.requires.blocks in
    let all = ap (from_next K spans) c.first_place-next.ensures.first ∙ pass-start K spans ok.some in
    let same = ap (opened c.args.cells 0) all ∙ opened-ticks c.args.cells (pass K spans) (small-pass K c.args.cells 0 spans c.requires.cells) (some-pass K 0 spans ok.some) in
    record {
      valid = λ p e. start_of-valid K spans p ok (sym c.first_place-next.ensures.first ∙ e);
      same = omega (arith, same);
      room = omega (arith, ap (λ (l : List Piece). length l) all, pass_short K 0 spans ok.some ok.limit, ok.few);
    }

pub slice_at-requires-clause-valid : goal.slice_at-requires-clause-valid
slice_at-requires-clause-valid g c = c.loop-next.invariant.valid c.in-Some.place c.in-Some.is

pub loop-next-smaller : goal.loop-next-smaller
loop-next-smaller g c =
    let K = c.args.atomic in
    let spans = map g.T.HasSpan.span_of c.args.blocks.now in
    let e = next_step K spans c.loop-next.next c.in-Some.place c.following-next.result c.requires.blocks (c.loop-next.invariant.valid c.in-Some.place c.in-Some.is) c.in-Some.is c.following-next.ensures.next in
    omega (arith, ap (λ (l : List Piece). length l) e)

pub loop-next-preserved : goal.loop-next-preserved
loop-next-preserved g c =
    let K = c.args.atomic in
    let N = c.args.cells in
    let spans = map g.T.HasSpan.span_of c.args.blocks.now in
    let p = c.in-Some.place in
    let inv = c.loop-next.invariant in
    let valid = inv.valid p c.in-Some.is in
    let e = next_step K spans c.loop-next.next p c.following-next.result c.requires.blocks valid c.in-Some.is c.following-next.ensures.next in
    let n : c.from-words.result ≡ (piece_at K spans p).slice.n = c.from-words.ensures ∙ ap (λ (s : Slice). s.n) c.slice_at.ensures.slice in
    let total = ticks N (pass K spans) in
    let more = from_next K spans c.following-next.result in
    let here = from_next K spans c.loop-next.next in
    elim c.if-words-left.branch [
      | then-words-left w ↦ record {
        valid = λ q f. next_valid K spans p q c.requires.blocks valid (sym c.following-next.ensures.next ∙ f);
        same = turn_fits N c.loop-next.ticks c.loop-next.left c.from-words.result c.if-words-left.ticks c.if-words-left.left (piece_at K spans p) more here total e n w.if-words-left.true w.ticks-is w.left-is inv.same;
        room = omega (arith, ap (λ (l : List Piece). length l) e, inv.room, w.ticks-is);
      }
      | else-words-left w ↦ record {
        valid = λ q f. next_valid K spans p q c.requires.blocks valid (sym c.following-next.ensures.next ∙ f);
        same = turn_begins N c.loop-next.ticks c.loop-next.left c.from-words.result c.if-words-left.ticks c.if-words-left.left (piece_at K spans p) more here total e n w.if-words-left.false w.ticks-is w.left-is inv.same;
        room = omega (arith, ap (λ (l : List Piece). length l) e, inv.room, w.ticks-is);
      }
    ]
