use Rattle.std.proofs.Common.{◌≡◌, drop}
use Rattle.mt_text.specs.Tokens.{tokens}
use Rattle.mt_text.specs.Cursors.{left}
use Rattle.mt_locate.proofs.words.token_at.Given as goal

abbrev pub invariant-loop : goal.invariant-loop
invariant-loop l = left l.cursor ≡ drop l.counter (tokens 1 l.text)
