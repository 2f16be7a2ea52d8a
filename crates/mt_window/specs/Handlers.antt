-- What handlers do, apart from how they are run: the module sees their calls alone, and the memory the application's operations alone.
use Rattle.std.specs.Prelude.{◌≡◌, ◌+◌, ◌%◌, ◌^◌, nat_le, List, [], ◌∷◌, ◌++◌, length, take, filter, fold, Some, slice_get}
use Rattle.std.specs.List.{flat_map}
use Rattle.mt_port.specs.declared.request.AppOp.{AppOp}
use Rattle.mt_port.specs.declared.request.HandlerCall.{HandlerCall}
use Rattle.mt_port.specs.declared.request.HandlerOp.{HandlerOp}
use Rattle.mt_port.specs.declared.request.HandlerOp.TheVariants.{App, Call}
use Rattle.mt_port.specs.declared.request.Request.{Request}
use Rattle.mt_port.specs.Board.{Board, after_op}
use Rattle.mt_window.specs.declared.log.Entry.TheVariants.{Inner}
use Rattle.mt_window.specs.Serving.{Table, Scene, reply_by, operated_all}
use Rattle.mt_window.specs.Events.{Running, event, opened, ran}
use Rattle.mt_window.specs.Waits.{IsFresh}

-- the calls among some operations, and the operations of the application
abbrev pub calls_in : List HandlerOp → List HandlerCall
calls_in [] = []
calls_in (App op ∷ ops) = calls_in ops
calls_in (Call call ∷ ops) = call ∷ calls_in ops

abbrev pub apps_in : List HandlerOp → List AppOp
apps_in [] = []
apps_in (App op ∷ ops) = op ∷ apps_in ops
apps_in (Call call ∷ ops) = apps_in ops

-- all operations of some requests
abbrev pub ops_of : List Request → List HandlerOp
ops_of requests = flat_map (λ (r : Request). r.ops.items) requests

-- a module after the calls among some operations, and a board after those of the application
abbrev pub called : {C : Type 0} → Table C → C → List HandlerOp → C
called t c ops = fold t.next c (calls_in ops)

abbrev pub applied : Board → List HandlerOp → Board
applied b ops = fold after_op b (apps_in ops)

-- Operations are done, each once and in order: the module has had the calls, the memory the application's operations, and each
-- operation has one entry, with the reply of the module or the word of the memory as those before it have left them.
pub record AreDone {C : Type 0} (t : Table C) (ops : List HandlerOp) (a z : Scene C) : Type 0 where
  pub callee : z.callee ≡ called t a.callee ops
  pub board : z.board ≡ applied a.board ops
  pub kept : take (length a.log) z.log ≡ a.log
  pub size : length z.log ≡ length a.log + length ops
  pub entries : (before after : List HandlerOp) (op : HandlerOp) → ops ≡ before ++ op ∷ after
      → slice_get z.log (length a.log + length before) ≡ Some (Inner (reply_by t (applied a.board before) (called t a.callee before) op))

-- the operations of a handler are done so
abbrev pub HandlersAreDone : {C : Type 0} → Table C → Type 0
HandlersAreDone {C} t = (ops : List HandlerOp) (s : Scene C) → AreDone t ops s (operated_all t ops s)

-- the count of the application's operations rises by those of all handlers of an event, modulo 2 to the power 32
abbrev pub CountsOperations : {C X V : Type 0} → Running C X V → Type 0
CountsOperations {C} r = (s : Scene C)
    → (event r s).after.board.operations % 2 ^ 32 ≡ (s.board.operations + length (apps_in (ops_of s.board.left))) % 2 ^ 32

-- the mark is cleared, and then the calls come of the requests that are due at the start
abbrev pub OpensWithDue : {C X V : Type 0} → Running C X V → Type 0
OpensWithDue {C} r = (s : Scene C) → IsFresh s
    → (opened r s).callee ≡ called r.tests.table (r.cleared s.callee) (ops_of (filter (λ (q : Request). nat_le q.offset 0) s.board.left))

-- a request that is left after the last boundary meets the module that has gone back
abbrev pub EndsWithLeft : {C X V : Type 0} → Running C X V → Type 0
EndsWithLeft {C} r = (s : Scene C) → let z = (ran r (opened r s)).scene in
    (event r s).after.callee ≡ called r.tests.table (r.back ((opened r s).callee) z.callee) (ops_of z.board.left)
