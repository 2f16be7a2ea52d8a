use Rattle.std.proofs.Common.{◌-◌, length, arith}
use Rattle.mt_place.proofs.PartLemmas.{blank_in}
use Rattle.mt_place.proofs.entry.header_piece.Goals as goal

pub returns-clause-gap : goal.returns-clause-gap
returns-clause-gap c =
    blank_in c.args.line.now c.before_comment.result.now (length c.before_comment.result.now) (c.key_piece.result.column - 1) c.before_comment.ensures.front
    (let part = c.key_piece.ensures.part in omega (arith, part.1)) c.key_piece.ensures.gap
