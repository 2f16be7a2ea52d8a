-- Where requests are served and how long they wait, and in which order.
use Rattle.std.specs.Prelude.{ℕ, ◌+◌, ◌-◌, ◌<◌, ◌≤◌, ◌≡◌, ◌⊎◌, Bool, true, false, nat_le, List, [], ◌∷◌, ◌++◌, map, filter, find, length, All, Any, Option, Some, None}
use Rattle.mt_port.specs.declared.request.Request.{Request}
use Rattle.mt_port.specs.declared.request.HandlerOp.{HandlerOp}
use Rattle.mt_port.specs.Board.{Board, AreOrdered}
use Rattle.mt_window.specs.declared.log.Entry.{Entry}
use Rattle.mt_window.specs.declared.log.Entry.TheVariants.{Served, Inner, Own}
use Rattle.mt_window.specs.Serving.{Scene, cost}
use Rattle.mt_window.specs.Slices.{Tests, Attempt}
use Rattle.mt_window.specs.Events.{Running, event, event_attempts}

-- an event begins: nothing is entered and no test access made, and the offsets of its requests never fall
pub record IsFresh {C : Type 0} (s : Scene C) : Type 0 where
  pub empty : s.log ≡ []
  pub start : s.board.count ≡ 0
  pub ordered : AreOrdered s.board.left

-- the boundaries of an event: 0, and the end of each attempt
abbrev pub boundaries : List Attempt → List ℕ
boundaries made = 0 ∷ map (λ (a : Attempt). a.finish) made

-- the first boundary that an offset doesn't exceed
abbrev pub first_boundary : List Attempt → ℕ → Option ℕ
first_boundary made offset = find (λ boundary. nat_le offset boundary) (boundaries made)

-- a request that is served at a boundary, or at the end of an event with so many test accesses
abbrev pub served_at : Option ℕ → ℕ → ℕ → ℕ → Entry
served_at None last number offset = Served number last 0
served_at (Some place) last number offset = Served number place (place - offset)

-- how the requests of a line are served, the first of which has the number n
abbrev pub line_served : List Attempt → ℕ → ℕ → List Request → List Entry
line_served made last n [] = []
line_served made last n (r ∷ rs) = served_at (first_boundary made r.offset) last n r.offset ∷ line_served made last (n + 1) rs

-- the entries of requests, without those of their operations
abbrev pub is_service : Entry → Bool
is_service (Served number place wait) = true
is_service (Inner reply) = false
is_service (Own reply) = false

abbrev pub services : List Entry → List Entry
services log = filter is_service log

-- each request of an event is served at the first boundary that its offset doesn't exceed, or else with no wait at the event's end
abbrev pub ServesByOffset : {C X V : Type 0} → Running C X V → Type 0
ServesByOffset {C} r = (s : Scene C) → IsFresh s
    → services ((event r s).after.log) ≡ line_served (event_attempts r s) ((event r s).after.board.count) (s.board.taken + 1) s.board.left

-- a request's wait is 0, or below the length of the attempt that it meets: the one that ends at its place
abbrev pub IsShort : List Attempt → Entry → Type 0
IsShort made (Served number place wait) = (wait ≡ 0) ⊎ Any (λ (a : Attempt). (a.finish ≡ place) × (wait < a.made)) made
IsShort made (Inner reply) = Unit {0}
IsShort made (Own reply) = Unit {0}

-- each wait of an event of this call is so
abbrev pub WaitsAreShortIn : {C X V : Type 0} → Running C X V → Type 0
WaitsAreShortIn {C} r = (s : Scene C) → IsFresh s → All (IsShort (event_attempts r s)) ((event r s).after.log)

-- Where attempts are dropped in time: from each board whose requests left are all to come, an attempt that may be dropped ends at
-- most as many accesses after an urgent request falls due as it writes words back.
abbrev pub DropsInTime : {C X V : Type 0} → Tests C X V → Type 0
DropsInTime {C} {X} t = (c : C) (x : X) (b : Board) (n : ℕ) → t.restores c x ≡ Some n → All (λ (q : Request). b.count < q.offset) b.left
    → All (λ (q : Request). q.urgent ≡ true → b.count + (t.attempt true c x b).count ≤ q.offset + n) b.left

-- a request falls due in an attempt: above its first count, and at most at its end
pub record FallsIn (a : Attempt) (q : Request) : Type 0 where
  pub begun : a.finish < q.offset + a.made
  pub ended : q.offset ≤ a.finish

-- it is then served at the attempt's end, with a wait of at most n
pub record IsServedWithin (made : List Attempt) (q : Request) (a : Attempt) (n : ℕ) : Type 0 where
  pub place : first_boundary made q.offset ≡ Some a.finish
  pub soon : a.finish - q.offset ≤ n

-- an urgent request that meets an attempt which might be dropped waits at most the words that this writes back
abbrev pub IsUrgentlyServed : List Attempt → Request → Type 0
IsUrgentlyServed made q = q.urgent ≡ true → All (λ (a : Attempt). (n : ℕ) → a.restores ≡ Some n → FallsIn a q → IsServedWithin made q a n) made

-- where attempts are dropped in time, each is so
abbrev pub UrgentWaitsAreShortIn : {C X V : Type 0} → Running C X V → Type 0
UrgentWaitsAreShortIn {C} r = (s : Scene C) → IsFresh s → All (IsUrgentlyServed (event_attempts r s)) s.board.left

-- Where no attempt has more accesses than the sequence of its slice, none that an event makes has more than the stated length.
abbrev pub AttemptsAreWithin : {C X V : Type 0} → Tests C X V → Type 0
AttemptsAreWithin {C} {X} t = (may : Bool) (c : C) (x : X) (b : Board) → (t.attempt may c x b).count ≤ t.hold c x

abbrev pub MakesShortAttempts : {C X V : Type 0} → Running C X V → Type 0
MakesShortAttempts {C} r = (s : Scene C) → All (λ (a : Attempt). a.made ≤ a.whole) (event_attempts r s)

-- where the requests of this call's events are served, and how long they wait
pub record ServesInTime {C X V : Type 0} (r : Running C X V) : Type 0 where
  pub places : ServesByOffset r
  pub short : WaitsAreShortIn r
  pub urgent : UrgentWaitsAreShortIn r

-- an entry without what it tells: the number of a request, or an operation of one
abbrev pub kinds : List Entry → List (Option ℕ)
kinds [] = []
kinds (Served number place wait ∷ more) = Some number ∷ kinds more
kinds (Inner reply ∷ more) = None ∷ kinds more
kinds (Own reply ∷ more) = kinds more

-- the requests of a line, the first of which has the number n, each with its operations
abbrev pub line_kinds : ℕ → List Request → List (Option ℕ)
line_kinds n [] = []
line_kinds n (r ∷ rs) = Some n ∷ (map (λ (op : HandlerOp). None) r.ops.items ++ line_kinds (n + 1) rs)

-- each request of an event is served once, in the line's order, and each of its operations is done once, in order
abbrev pub ServesInOrder : {C X V : Type 0} → Running C X V → Type 0
ServesInOrder {C} r = (s : Scene C) → s.log ≡ [] → kinds ((event r s).after.log) ≡ line_kinds (s.board.taken + 1) s.board.left

-- all are taken, and none is left
pub record AreTaken (a b : Board) : Type 0 where
  pub none : b.left ≡ []
  pub taken : b.taken ≡ a.taken + length a.left

abbrev pub TakesAll : {C X V : Type 0} → Running C X V → Type 0
TakesAll {C} r = (s : Scene C) → AreTaken s.board ((event r s).after.board)

-- what an event leaves of the board
pub record LeavesBoard (a b : Board) : Type 0 where
  pub shape : b.shape ≡ a.shape
  pub fault : b.fault ≡ a.fault
  pub flash : b.flash ≡ a.flash
  pub held : b.held ≡ a.held
  pub defect : b.defect ≡ a.defect

abbrev pub KeepsBoard : {C X V : Type 0} → Running C X V → Type 0
KeepsBoard {C} r = (s : Scene C) → LeavesBoard s.board ((event r s).after.board)

-- the log has room for all requests of an event
abbrev pub AnEventHasRoom : Type 0
AnEventHasRoom = (requests : List Request) → length requests ≤ 16 → All (λ (r : Request). length r.ops.items ≤ 8) requests → cost requests ≤ 144
