-- The requests that a board keeps.
use Rattle.std.specs.Prelude.{ℕ, List, if◌then◌else◌, fold, min, Option, Some, None}
use Rattle.mt_port.specs.declared.request.Request.{Request}

-- the lesser of an offset that may not be there and another one
abbrev pub lesser : Option ℕ → ℕ → Option ℕ
lesser None n = Some n
lesser (Some m) n = Some (min m n)

-- the least offset so far, and one more request
abbrev pub with_request : Option ℕ → Request → Option ℕ
with_request least r = if r.urgent then lesser least r.offset else least

-- the least offset of an urgent request, where there is one
abbrev pub least_urgent : List Request → Option ℕ
least_urgent requests = fold with_request None requests
