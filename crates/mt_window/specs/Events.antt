-- One running event of a module.
use Rattle.std.specs.Prelude.{ℕ, Bool, false, List}
use Rattle.mt_port.specs.declared.board.Touch.{Touch}
use Rattle.mt_window.specs.declared.reply.Reply.{Reply}
use Rattle.mt_window.specs.Serving.{Scene, scene, serve_due, serve_left}
use Rattle.mt_port.specs.Board.{Board}
use Rattle.mt_window.specs.Slices.{Tests, Tried, Attempt, Trail, slices, started}

-- How a module answers a running call.
pub record Running (C X V : Type 0) : Type 0 where
  pub tests : Tests C X V
  -- the module when the event begins: its mark is cleared
  pub cleared : C → C
  -- by the module just after boundary 0: the slices that are to be tested, none where the call is refused
  pub work : C → List X
  -- and the module while they are tested
  pub inside : C → C
  -- by the module just after boundary 0, and the module after the last boundary: the module that goes on
  pub back : C → C → C
  -- the reply, by the module just after boundary 0 and the count of test accesses
  pub reply : C → ℕ → Reply

-- what an event leaves, and its reply
pub record Outcome (C : Type 0) : Type 0 where
  pub after : Scene C
  pub reply : Reply

-- the event begins: the mark is cleared, and boundary 0 is served
abbrev pub opened : {C X V : Type 0} → Running C X V → Scene C → Scene C
opened r s = serve_due r.tests.table (scene s.board (r.cleared s.callee) s.log)

-- the module looks at its state, and its test begins
abbrev pub entered : {C X V : Type 0} → Running C X V → Scene C → Trail C
entered r o = started false (scene o.board (r.inside o.callee) o.log)

-- the slices, from just after boundary 0
abbrev pub ran : {C X V : Type 0} → Running C X V → Scene C → Trail C
ran r o = slices r.tests (r.work o.callee) (entered r o)

-- after the last boundary the module goes back
abbrev pub returned : {C X V : Type 0} → Running C X V → Scene C → Scene C → Scene C
returned r o z = scene z.board (r.back o.callee z.callee) z.log

-- and the requests that are left are served
abbrev pub closed : {C X V : Type 0} → Running C X V → Scene C → Scene C → Scene C
closed r o z = serve_left r.tests.table (returned r o z)

-- the event, from just after boundary 0
abbrev pub event_from : {C X V : Type 0} → Running C X V → Scene C → Outcome C
event_from r o = record { after = closed r o (ran r o).scene; reply = r.reply o.callee ((ran r o).scene.board.count) }

-- the event
abbrev pub event : {C X V : Type 0} → Running C X V → Scene C → Outcome C
event r s = event_from r (opened r s)

-- its test accesses, and the attempts at its slices
abbrev pub event_touches : {C X V : Type 0} → Running C X V → Scene C → List Touch
event_touches r s = (ran r (opened r s)).touches

abbrev pub event_attempts : {C X V : Type 0} → Running C X V → Scene C → List Attempt
event_attempts r s = (ran r (opened r s)).attempts

-- the same call, where attempts at slices are others
abbrev pub exchanged : {C X V : Type 0} → Running C X V → (Bool → C → X → Board → Tried V) → Running C X V
exchanged r attempt = record r { tests = record (r.tests) { attempt = attempt } }
