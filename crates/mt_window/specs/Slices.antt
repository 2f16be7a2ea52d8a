-- Slices that a module tests one after another, each by attempts, with a boundary at the end of each attempt.
use Rattle.std.specs.Prelude.{ℕ, zero, suc, ◌+◌, Bool, true, false, List, [], ◌∷◌, ◌++◌, Option, Some, None, is_some, if◌then◌else◌}
use Rattle.mt_port.specs.declared.board.Touch.{Touch}
use Rattle.mt_port.specs.Board.{Board}
use Rattle.mt_window.specs.Serving.{Table, Scene, scene, serve_due}

-- an attempt at a slice: the words after it, its test accesses and how many they are, and its verdict, none where it was dropped
pub record Tried (V : Type 0) : Type 0 where
  pub words : List ℕ
  pub count : ℕ
  pub touches : List Touch
  pub verdict : Option V

-- How a module C tests slices of a kind X, where a sequence has a verdict of a kind V.
pub record Tests (C X V : Type 0) : Type 0 where
  -- the rows of its handlers' calls
  pub table : Table C
  -- whether it goes no further
  pub stops : C → Bool
  -- how often an attempt at a slice may be dropped in one event
  pub retries : C → ℕ
  -- how many accesses the whole sequence of a slice has
  pub hold : C → X → ℕ
  -- how many words an attempt that may be dropped writes back; none where no attempt at the slice is ever dropped
  pub restores : C → X → Option ℕ
  -- an attempt at a slice, which may be dropped or not
  pub attempt : Bool → C → X → Board → Tried V
  -- the module at the end of a slice with a verdict, where a slice of this test failed before or not
  pub taken : C → X → V → Bool → C
  -- whether a slice of this test failed, from then on
  pub failed : X → V → Bool → Bool

-- an attempt that was made: the count at its end, how many accesses it made, how many the whole sequence of its slice has, and where it
-- might be dropped how many words it writes back
pub record Attempt : Type 0 where
  pub finish : ℕ
  pub made : ℕ
  pub whole : ℕ
  pub restores : Option ℕ

-- what an event has come to: the board, the module and the entries; whether a slice of this test failed; the test accesses and the
-- attempts so far
pub record Trail (C : Type 0) : Type 0 where
  pub scene : Scene C
  pub failed : Bool
  pub touches : List Touch
  pub attempts : List Attempt

-- the board after an attempt, all of whose accesses were made under one hold
abbrev pub attempted : {V : Type 0} → Tried V → Board → Board
attempted a b = record b { words = a.words; count = b.count + a.count; since = b.count }

-- what the end of an attempt leaves: a dropped one leaves the module as it is
abbrev pub taken_by : {C X V : Type 0} → Tests C X V → C → X → Bool → Option V → C
taken_by t c x failed None = c
taken_by t c x failed (Some verdict) = t.taken c x verdict failed

abbrev pub failed_by : {C X V : Type 0} → Tests C X V → X → Bool → Option V → Bool
failed_by t x failed None = failed
failed_by t x failed (Some verdict) = t.failed x verdict failed

-- the attempt that is made next, and how it is kept
abbrev pub next_attempt : {C X V : Type 0} → Tests C X V → Bool → Trail C → X → Tried V
next_attempt t may g x = t.attempt may g.scene.callee x g.scene.board

abbrev pub kept_attempt : {C X V : Type 0} → Tests C X V → Bool → Trail C → X → Attempt
kept_attempt t may g x = record {
  finish = g.scene.board.count + (next_attempt t may g x).count;
  made = (next_attempt t may g x).count;
  whole = t.hold g.scene.callee x;
  restores = if may then t.restores g.scene.callee x else None;
}

-- the scene at the end of an attempt, before its boundary
abbrev pub scene_behind : {C X V : Type 0} → Tests C X V → Bool → Trail C → X → Scene C
scene_behind t may g x =
    scene (attempted (next_attempt t may g x) g.scene.board) (taken_by t g.scene.callee x g.failed (next_attempt t may g x).verdict) g.scene.log

-- one attempt, what its end leaves of the module, and its boundary
abbrev pub after_attempt : {C X V : Type 0} → Tests C X V → Bool → Trail C → X → Trail C
after_attempt t may g x = record {
  scene = serve_due t.table (scene_behind t may g x);
  failed = failed_by t x g.failed (next_attempt t may g x).verdict;
  touches = g.touches ++ (next_attempt t may g x).touches;
  attempts = g.attempts ++ kept_attempt t may g x ∷ [];
}

-- the attempts at a slice, of which so many may be dropped: up to the first that isn't, as long as the module goes on
abbrev pub tried : {C X V : Type 0} → Tests C X V → ℕ → X → Trail C → Trail C
tried t zero x g = if t.stops g.scene.callee then g else after_attempt t false g x
tried t (suc n) x g =
    if t.stops g.scene.callee then g
    else (if is_some (next_attempt t true g x).verdict then after_attempt t true g x else tried t n x (after_attempt t true g x))

-- slices in their order
abbrev pub slices : {C X V : Type 0} → Tests C X V → List X → Trail C → Trail C
slices t [] g = g
slices t (x ∷ more) g = slices t more (tried t (t.retries g.scene.callee) x g)

-- the same tests, where the module never stops
abbrev pub unstopped : {C X V : Type 0} → Tests C X V → Tests C X V
unstopped t = record t { stops = λ c. false }

-- a test begins, where a slice of it failed before or not
abbrev pub started : {C : Type 0} → Bool → Scene C → Trail C
started failed s = record { scene = s; failed = failed; touches = []; attempts = [] }
