-- The one text of a march.
use Rattle.std.specs.Prelude.{ℕ, List, [], ◌∷◌, ◌++◌, codes, if◌then◌else◌}
use Rattle.std.specs.Str.{bytes_eq}
use Rattle.mt_march.specs.declared.march.Element.{Element}
use Rattle.mt_march.specs.Grammar.{Token, march_tokens}

-- a space follows each semicolon, and no other token
abbrev pub shown : Token → List ℕ
shown token = if bytes_eq token (codes ";") then codes "; " else token

abbrev pub text_of : List Token → List ℕ
text_of [] = []
text_of (token ∷ tokens) = shown token ++ text_of tokens

abbrev pub canonical : List Element → List ℕ
canonical es = text_of (march_tokens es)
