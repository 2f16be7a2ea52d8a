-- The serving of requests at a boundary and at an event's end.
use Rattle.std.specs.Prelude.{ℕ, false, List, [], ◌∷◌, ◌++◌, ◌≡◌, ◌≤◌, ◌+◌, ◌-◌, ◌%◌, ◌^◌, length, drop, All, if◌then◌else◌, nat_le}
use Rattle.mt_port.specs.declared.board.Shape.{Shape}
use Rattle.mt_port.specs.declared.request.Module.{Module}
use Rattle.mt_port.specs.declared.request.HandlerCall.{HandlerCall}
use Rattle.mt_port.specs.declared.request.HandlerOp.{HandlerOp}
use Rattle.mt_port.specs.declared.request.HandlerOp.TheVariants.{App, Call}
use Rattle.mt_port.specs.declared.request.Request.{Request}
use Rattle.mt_port.specs.declared.request.Due.{Due}
use Rattle.mt_port.specs.declared.request.Answer.{Answer}
use Rattle.mt_port.specs.declared.request.Answer.TheVariants as answers
use Rattle.mt_port.specs.Board.{Board, AreOrdered, IsSoundOp, op_words, op_answer}
use Rattle.mt_window.specs.Calls.{module_of}
use Rattle.mt_window.specs.declared.reply.Reply.{Reply}
use Rattle.mt_window.specs.declared.reply.Reply.TheVariants as reply
use Rattle.mt_window.specs.declared.reply.Value.TheVariants as value
use Rattle.mt_window.specs.declared.log.Entry.{Entry}
use Rattle.mt_window.specs.declared.log.Entry.TheVariants.{Served, Inner}

-- the reply and the next state for a state of a module and a call
pub record Table (C : Type 0) : Type 0 where
  pub reply : C → HandlerCall → Reply
  pub next : C → HandlerCall → C

-- the board, the module and the entries so far
pub record Scene (C : Type 0) : Type 0 where
  pub board : Board
  pub callee : C
  pub log : List Entry

abbrev pub scene : {C : Type 0} → Board → C → List Entry → Scene C
scene board callee log = record { board = board; callee = callee; log = log }

-- the reply to an operation of the application
abbrev pub given : Answer → Reply
given answers.Done = reply.Done
given (answers.Word w) = reply.Value (value.Word w)

-- what one operation of a handler does to the words and to the module, and its reply
abbrev pub words_by : Board → HandlerOp → List ℕ
words_by b (App op) = op_words b op
words_by b (Call call) = b.words

-- how many operations of the application were done, modulo 2 to the power 32
abbrev pub operations_by : Board → HandlerOp → ℕ
operations_by b (App op) = (b.operations + 1) % 2 ^ 32
operations_by b (Call call) = b.operations

abbrev pub callee_by : {C : Type 0} → Table C → C → HandlerOp → C
callee_by t c (App op) = c
callee_by t c (Call call) = t.next c call

abbrev pub reply_by : {C : Type 0} → Table C → Board → C → HandlerOp → Reply
reply_by t b c (App op) = given (op_answer b op)
reply_by t b c (Call call) = t.reply c call

-- one operation of a handler
abbrev pub operated : {C : Type 0} → Table C → Scene C → HandlerOp → Scene C
operated t s op =
    record {
      board = record (s.board) { words = words_by s.board op; operations = operations_by s.board op };
      callee = callee_by t s.callee op;
      log = s.log ++ Inner (reply_by t s.board s.callee op) ∷ [];
    }

-- all operations, in order
abbrev pub operated_all : {C : Type 0} → Table C → List HandlerOp → Scene C → Scene C
operated_all t [] s = s
operated_all t (op ∷ ops) s = operated_all t ops (operated t s op)

-- a request that was handed out is entered
abbrev pub begun : {C : Type 0} → Due → ℕ → Board → C → List Entry → Scene C
begun due wait board callee log = record { board = board; callee = callee; log = log ++ Served due.number due.at wait ∷ [] }

-- the first request left is served
abbrev pub served : {C : Type 0} → Table C → Request → ℕ → Scene C → Scene C
served t r wait s =
    operated_all t r.ops.items
    (begun (record { number = s.board.taken + 1; at = s.board.count; request = r }) wait
    (record (s.board) { left = drop 1 s.board.left; taken = s.board.taken + 1 }) s.callee s.log)

-- the requests left, as long as they are due
abbrev pub due_served : {C : Type 0} → Table C → List Request → Scene C → Scene C
due_served t [] s = s
due_served t (r ∷ rs) s = if nat_le r.offset s.board.count then due_served t rs (served t r (s.board.count - r.offset) s) else s

-- the requests left, with no wait
abbrev pub left_served : {C : Type 0} → Table C → List Request → Scene C → Scene C
left_served t [] s = s
left_served t (r ∷ rs) s = left_served t rs (served t r 0 s)

-- a boundary
abbrev pub serve_due : {C : Type 0} → Table C → Scene C → Scene C
serve_due t s = due_served t s.board.left s

-- an event's end
abbrev pub serve_left : {C : Type 0} → Table C → Scene C → Scene C
serve_left t s = left_served t s.board.left s

-- how many entries the requests left will make
abbrev pub cost : List Request → ℕ
cost [] = 0
cost (r ∷ rs) = 1 + length r.ops.items + cost rs

-- an operation with its addresses in range and its words fitting, or a call of the module
abbrev pub IsSoundHandlerOp : Shape → Module → HandlerOp → Type 0
IsSoundHandlerOp shape kind (App op) = IsSoundOp shape op
IsSoundHandlerOp shape kind (Call call) = module_of call ≡ kind

-- The requests left can be served: interrupts are free, the log has room for an entry for each of them and for each of
-- their operations, addresses are in range and words fit, each call is one of the module, and offsets never fall.
pub record IsReady (kind : Module) (b : Board) (log : List Entry) : Type 0 where
  pub free : b.held ≡ false
  pub room : length log + cost b.left ≤ 256
  pub sound : All (λ r. All (IsSoundHandlerOp b.shape kind) r.ops.items) b.left
  pub ordered : AreOrdered b.left

-- between events no request is left, and interrupts are free
pub record IsIdle (b : Board) : Type 0 where
  pub none : b.left ≡ []
  pub free : b.held ≡ false
