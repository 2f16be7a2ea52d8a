-- The table of the rules that a token may break, by what may stand at its place. Of the rules that it breaks, the least is told.
use Rattle.std.specs.Prelude.{◌≡◌, ℕ, ◌≤◌, nat_le, not, codes, true, if◌then◌else◌, List, [], ◌∷◌, length, ◌⊎◌}
use Rattle.std.specs.Str.{bytes_eq}
use Rattle.mt_port.specs.declared.board.Shape.{Shape}
use Rattle.mt_port.specs.declared.request.Module.{Module}
use Rattle.mt_port.specs.declared.request.Module.TheVariants.{RamTst, FlsTst}
use Rattle.mt_text.specs.declared.line.LineKind.{LineKind}
use Rattle.mt_text.specs.declared.line.LineKind.TheVariants.{Spelling, Number, Address, WordTooWide, OffsetsFall, TooManyRequests, TooManyOps, NotInHandler, FaultRefused}
use Rattle.mt_text.specs.Values.{Rule, value_rules, spot_rules, mark_rules}
use Rattle.mt_text.specs.Forms.{Form, done, none, row, barred, value, spot, mark}
use Rattle.mt_text.specs.Lines.{Part, Open, Operation, is_op_word, settled}

-- the numbers of the rules
abbrev pub kind_number : LineKind → ℕ
kind_number Spelling = 1
kind_number Number = 2
kind_number Address = 3
kind_number WordTooWide = 4
kind_number OffsetsFall = 5
kind_number TooManyRequests = 6
kind_number TooManyOps = 7
kind_number NotInHandler = 8
kind_number FaultRefused = 9

-- ---- in the place of an operation, in a handler of this module with so many operations before

-- the word of the other module
abbrev pub other_module : Module → List ℕ
other_module RamTst = codes "fls"
other_module FlsTst = codes "ram"

abbrev pub operation_rules : Module → ℕ → List ℕ → List Rule
operation_rules callee count bytes =
    (Spelling, not (is_op_word bytes))
    ∷ (TooManyOps, nat_le 8 count)
    ∷ (NotInHandler, bytes_eq bytes (other_module callee))
    ∷ []

-- ---- in any place

-- what may stand there: a word of the rows, and behind them what ends the rows
abbrev pub form_rules : {X : Type 0} → Shape → Form X → List ℕ → List Rule
form_rules shape (done x) bytes = (Spelling, true) ∷ []
form_rules shape none bytes = (Spelling, true) ∷ []
form_rules shape (row word form more) bytes = if bytes_eq bytes word then [] else form_rules shape more bytes
form_rules shape (barred word kind form more) bytes = if bytes_eq bytes word then (kind, true) ∷ [] else form_rules shape more bytes
form_rules shape (value slot form) bytes = value_rules shape slot bytes
form_rules shape (spot slot form) bytes = spot_rules shape slot bytes
form_rules shape (mark last count form) bytes = mark_rules last count bytes

-- a token where a line has come so far
abbrev pub token_rules : Shape → Form Part → List ℕ → List Rule
token_rules shape (done (Open m ev rs k)) bytes = if bytes_eq bytes (codes "]") then [] else operation_rules m 0 bytes
token_rules shape (done (Operation m ev rs k ops)) bytes = operation_rules m (length ops) bytes
token_rules shape form bytes = form_rules shape (settled form) bytes

-- ---- the rule that is told

-- the rule is broken
abbrev pub Breaks : List Rule → LineKind → Type 0
Breaks [] kind = ⊥
Breaks (rule ∷ rules) kind = ((rule.0 ≡ kind) × (rule.1 ≡ true)) ⊎ Breaks rules kind

-- the rule is broken, and no lower one
pub record IsLeastBroken (rules : List Rule) (kind : LineKind) : Type 0 where
  pub broken : Breaks rules kind
  pub least : (other : LineKind) → Breaks rules other → kind_number kind ≤ kind_number other

-- no rule is broken
abbrev pub BreaksNone : List Rule → Type 0
BreaksNone rules = (kind : LineKind) → ¬ Breaks rules kind
