use Rattle.std.proofs.Common.{◌∙◌, ap, sym, subst, Option, ◌∷◌, map}
use Rattle.std.specs.Prelude.{IfSome}
use Rattle.mt_blocks.specs.declared.pass.Position.{Position}
use Rattle.mt_blocks.specs.Slices.{IsValid, piece_at, from_next}
use Rattle.mt_blocks.proofs.Passes.{from_step, next-is_valid}
use Rattle.mt_blocks.proofs.pass.following.Goals as goal

pub returns-clause-valid : goal.returns-clause-valid
returns-clause-valid g c =
    let K = c.args.atomic in
    let spans = map g.T.HasSpan.span_of c.args.blocks.now in
    subst (λ (o : Option Position). IfSome o (IsValid K spans)) (sym c.next_place.ensures) (next-is_valid K spans c.args.at c.requires.blocks c.requires.valid)

pub returns-clause-rest : goal.returns-clause-rest
returns-clause-rest g c =
    let K = c.args.atomic in
    let spans = map g.T.HasSpan.span_of c.args.blocks.now in
    from_step K spans c.args.at c.requires.blocks c.requires.valid
    ∙ ap (λ (o : Option Position). piece_at K spans c.args.at ∷ from_next K spans o) (sym c.next_place.ensures)
