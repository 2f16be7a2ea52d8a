-- What the streams over memory hold, and at which places their calls fail.
use Rattle.std.specs.Prelude.{ℕ, ◌+◌, ◌-◌, ◌<◌, ◌≤◌, ◌≡◌, ◌==◌, ◌⊎◌, ◌↔◌, not, min, List, drop, length, filter, All, Contains, Result, IsErr, IfOk, OnOk, OnErr}
use Rattle.mt_port.specs.declared.memory.MemSource.{MemSource}
use Rattle.mt_port.specs.declared.memory.PlainSource.{PlainSource}
use Rattle.mt_port.specs.declared.memory.MemSink.{MemSink}
use Rattle.mt_port.specs.Causes.{Rose}

-- the bytes that are left
abbrev pub plain_left : PlainSource → List ℕ
plain_left s = drop s.given s.bytes.items

abbrev pub source_left : MemSource → List ℕ
source_left s = drop s.given s.bytes.items

-- the place of a source: how many bytes it has given
abbrev pub source_place : MemSource → ℕ
source_place s = s.given

-- the most bytes that it gives in one call
abbrev pub source_piece : MemSource → ℕ
source_piece s = s.piece

-- the places at which a call is still to fail, and how often one has failed
abbrev pub source_fails : MemSource → List ℕ
source_fails s = s.fails.items

abbrev pub source_faults : MemSource → ℕ
source_faults s = s.faults

-- the bytes that the sink holds; their number is its place
abbrev pub sink_bytes : MemSink → List ℕ
sink_bytes s = s.bytes.items

-- how many bytes it can hold
abbrev pub sink_room : MemSink → ℕ
sink_room s = s.room

abbrev pub sink_fails : MemSink → List ℕ
sink_fails s = s.fails.items

abbrev pub sink_faults : MemSink → ℕ
sink_faults s = s.faults

-- n is the most of `limit` bytes from a place that go past no place that is to fail
pub record StopsBefore (fails : List ℕ) (place limit n : ℕ) : Type 0 where
  pub most : n ≤ limit
  pub before : All (λ p. place < p → place + n ≤ p) fails
  pub short : (n ≡ limit) ⊎ Contains fails (place + n)

-- the places that are still to fail after a failure at one
abbrev pub without : ℕ → List ℕ → List ℕ
without place fails = filter (λ p. not (p == place)) fails

-- A read fails exactly at a place that is to fail, which has failed then, and nothing is given. Else it gives up to a piece, and goes past no such place.
pub record ReadsUpTo {E : Type 0} (old new : MemSource) (room : ℕ) (result : Result ℕ E) : Type 0 where
  pub failed : IsErr result ↔ Contains (source_fails old) (source_place old)
  pub once : OnErr result (source_fails new ≡ without (source_place old) (source_fails old))
  pub counted : OnErr result (Rose (source_faults old) (source_faults new))
  pub stays : OnErr result (source_place new ≡ source_place old)
  pub given : IfOk result (λ n. StopsBefore (source_fails old) (source_place old) (min (min room (length (source_left old))) (source_piece old)) n)
  pub place : IfOk result (λ n. source_place new ≡ source_place old + n)
  pub fails : OnOk result (source_fails new ≡ source_fails old)
  pub piece : source_piece new ≡ source_piece old

-- A write fails exactly at a place that is to fail, which has failed then, and each time where the sink is full. Else it takes what goes past neither.
pub record WritesUpTo {E : Type 0} (old new : MemSink) (piece : List ℕ) (result : Result ℕ E) : Type 0 where
  pub failed : IsErr result ↔ (Contains (sink_fails old) (length (sink_bytes old)) ⊎ (length (sink_bytes old) ≡ sink_room old))
  pub once : OnErr result (sink_fails new ≡ without (length (sink_bytes old)) (sink_fails old))
  pub counted : OnErr result (Rose (sink_faults old) (sink_faults new))
  pub taken : IfOk result (λ n. StopsBefore (sink_fails old) (length (sink_bytes old)) (min (length piece) (sink_room old - length (sink_bytes old))) n)
  pub fails : OnOk result (sink_fails new ≡ sink_fails old)
  pub room : sink_room new ≡ sink_room old
