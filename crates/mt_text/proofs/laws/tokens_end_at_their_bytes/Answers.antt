use Rattle.mt_text.proofs.Cutting.{words_are_tokens, spaces_part, signs_are_tokens, comments_begin}
use Rattle.mt_text.proofs.laws.tokens_end_at_their_bytes.Goals as goal

pub returns-clause-words : goal.returns-clause-words
returns-clause-words c = words_are_tokens

pub returns-clause-spaces : goal.returns-clause-spaces
returns-clause-spaces c = spaces_part

pub returns-clause-signs : goal.returns-clause-signs
returns-clause-signs c = signs_are_tokens

pub returns-clause-comments : goal.returns-clause-comments
returns-clause-comments c = comments_begin
