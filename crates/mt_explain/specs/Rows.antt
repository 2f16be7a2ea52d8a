-- The row of the table that a refusal has.
use Rattle.std.specs.Prelude.{ℕ, suc, zero, ◌+◌, Bool, true, false, ◌==◌, ◌&&◌, List, [], ◌∷◌, ◌++◌, find, Option, Some, None}
use Rattle.mt_replay.specs.declared.status.Status.{Status}
use Rattle.mt_replay.specs.declared.status.Status.TheVariants.{Done, Usage, BadConfig, BadScript, ReadFault, WriteFault, NoMemory, Differs}
use Rattle.mt_explain.specs.declared.row.Book.{Book}
use Rattle.mt_explain.specs.declared.row.Book.TheVariants.{Configuration, March, Line, Trace}
use Rattle.mt_explain.specs.declared.row.Rule.{Rule}
use Rattle.mt_explain.specs.declared.row.Row.{Row}

-- the rule that a status gives
abbrev pub rule_of : Status → Option Rule
rule_of (BadConfig code) = Some (record { book = Configuration; number = code })
rule_of (BadScript line code place) = Some (record { book = Line; number = code })
rule_of (Differs line) = Some (record { book = Trace; number = 1 })
rule_of how = None

abbrev pub same_book : Book → Book → Bool
same_book Configuration Configuration = true
same_book March March = true
same_book Line Line = true
same_book Trace Trace = true
same_book a b = false

abbrev pub same_rule : Rule → Rule → Bool
same_rule a b = same_book a.book b.book && a.number == b.number

-- the rules of a book up to a number
abbrev pub rules_to : Book → ℕ → List Rule
rules_to book zero = []
rules_to book (suc n) = rules_to book n ++ (record { book = book; number = suc n } ∷ [])

-- the rules that there are: 19 of configurations, 5 of marches, 17 of lines, 1 of traces
unfoldable pub rules : List Rule
rules = rules_to Configuration 19 ++ rules_to March 5 ++ rules_to Line 17 ++ rules_to Trace 1

-- the rule, if there is such a one
abbrev pub known : Rule → Option Rule
known rule = find (same_rule rule) rules

-- the rule of a row
abbrev pub rule_in : Row → Rule
rule_in row = record { book = row.book; number = row.number }
