use Rattle.mt_text.proofs.TokensOfLines.{tokens_are_of_line}
use Rattle.mt_text.proofs.laws.spelled_lines_have_their_tokens.Goals as goal

pub returns : goal.returns
returns c = tokens_are_of_line
