-- Which bytes end a token, where a comment begins, and that fixed replies are told apart.
use Rattle.std.specs.Prelude.{ℕ, ◌+◌, ◌≡◌, ◌≢◌, ◌⊎◌, ◌==◌, ◌&&◌, not, Bool, true, List, [], ◌∷◌, ◌++◌, length, codes}
use Rattle.std.specs.List.{list_any, AllByRecursion}
use Rattle.std.specs.Str.{bytes_eq}
use Rattle.mt_window.specs.declared.reply.Refusal.TheVariants as refusal
use Rattle.mt_window.specs.declared.reply.ShownState.TheVariants as state
use Rattle.mt_window.specs.declared.reply.TestResult.TheVariants as result
use Rattle.mt_window.specs.declared.reply.AlgorithmName.TheVariants as algorithm
use Rattle.mt_window.specs.declared.reply.Detail.TheVariants as detail
use Rattle.mt_text.specs.Tokens.{tokens}
use Rattle.mt_text.specs.Lines.{is_comment}
use Rattle.mt_text.specs.Trace.{algorithm_name, detail_text, refusal_text, result_name, state_name}

-- a byte of a word: no space, no bracket and no semicolon
pub record IsOfWord (b : ℕ) : Type 0 where
  pub no_space : b ≢ 32
  pub no_opening : b ≢ 91
  pub no_closing : b ≢ 93
  pub no_semicolon : b ≢ 59

-- an opening or closing bracket, or a semicolon
abbrev pub IsSign : ℕ → Type 0
IsSign b = (b ≡ 91) ⊎ ((b ≡ 93) ⊎ (b ≡ 59))

-- bytes of a word are one token
abbrev pub WordsAreTokens : Type 0
WordsAreTokens = (place : ℕ) (word : List ℕ) → word ≢ [] → AllByRecursion IsOfWord word → tokens place word ≡ record { place = place; bytes = word } ∷ []

-- a space parts the tokens before it from those after it
abbrev pub SpacesPartTokens : Type 0
SpacesPartTokens = (place : ℕ) (before after : List ℕ) → tokens place (before ++ 32 ∷ after) ≡ tokens place before ++ tokens (place + length before + 1) after

-- so does a sign, which is a token of its own
abbrev pub SignsAreTokens : Type 0
SignsAreTokens =
    (place sign : ℕ) (before after : List ℕ) → IsSign sign
    → tokens place (before ++ sign ∷ after) ≡ tokens place before ++ record { place = place + length before; bytes = sign ∷ [] } ∷ tokens (place + length before + 1) after

-- a line is a comment exactly where its first byte that is no space is `#`
abbrev pub CommentsBeginAtTheirSign : Type 0
CommentsBeginAtTheirSign =
    (spaces more : List ℕ) (b : ℕ) → AllByRecursion (λ s. s ≡ 32) spaces → b ≢ 32 → is_comment (tokens 1 (spaces ++ b ∷ more)) ≡ (b == 35)

-- no two of some texts are one
abbrev pub differ : List (List ℕ) → Bool
differ [] = true
differ (text ∷ texts) = not (list_any (bytes_eq text) texts) && differ texts

-- the replies that are names
abbrev pub reply_names : List (List ℕ)
reply_names =
    codes "ok" ∷ codes "present" ∷ codes "none" ∷ codes "1.0.0"
    ∷ refusal_text refusal.Uninit ∷ refusal_text refusal.Status ∷ refusal_text refusal.Range
    ∷ state_name state.Uninit ∷ state_name state.Stopped ∷ state_name state.Running ∷ state_name state.Suspended ∷ state_name state.Init ∷ state_name state.Aborted
    ∷ result_name result.NotTested ∷ result_name result.Ok ∷ result_name result.NotOk ∷ result_name result.Undefined
    ∷ algorithm_name algorithm.Checkerboard ∷ algorithm_name algorithm.March ∷ algorithm_name algorithm.WalkPath ∷ algorithm_name algorithm.Galpat ∷ algorithm_name algorithm.TransparentGalpat
    ∷ []

abbrev pub NamesDiffer : Type 0
NamesDiffer = differ reply_names ≡ true

-- details of the background, of the foreground and of no comparison have different texts
pub record DetailsDiffer : Type 0 where
  pub sides : (block addr other place : ℕ) → detail_text (detail.Bgnd block addr) ≢ detail_text (detail.Fgnd other place)
  pub background : (block addr : ℕ) → detail_text (detail.Bgnd block addr) ≢ detail_text detail.Nothing
  pub foreground : (block addr : ℕ) → detail_text (detail.Fgnd block addr) ≢ detail_text detail.Nothing
