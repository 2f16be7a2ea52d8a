use Rattle.std.proofs.Common.{◌-◌, ◌<◌, ◌≤◌, length, take, refl, arith}
use Rattle.std.proofs.lemmas.List.{length-take-le}
use Rattle.mt_place.proofs.PartLemmas.{blank_in, first_at, part_in}
use Rattle.mt_place.proofs.entry.entry_of.Goals as goal

pub returns : goal.returns
returns c =
    let line = c.args.line.now in
    let at = c.index_of-equals.result in
    let fits = c.index_of-equals.ensures.fits in
    let inside : at < length line = let some = c.if-equals-line.false in omega (arith, some, fits) in
    let gap : c.key_piece.result.column - 1 ≤ at = let part = c.key_piece.ensures.part in omega (arith, part.1, length-take-le at line fits) in (
      part_in line at c.key_piece.result fits c.key_piece.ensures.part,
      c.value_piece.ensures.part,
      blank_in line (take at line) at (c.key_piece.result.column - 1) refl gap c.key_piece.ensures.gap,
      (at, omega arith, first_at 61 at line c.index_of-equals.ensures.value inside, c.key_piece.ensures.trimmed, c.value_piece.ensures.gap),
    )
