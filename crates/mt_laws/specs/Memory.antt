-- The application's memory: what its operations find and leave, with no test, no fault and no module, but for the fills of destructive blocks.
use Rattle.std.specs.Prelude.{ℕ, ◌+◌, ◌≡◌, ◌≤◌, List, [], ◌∷◌, map, flat_map, length, All, Contains, Option, None}
use Rattle.mt_fault.specs.declared.fault.Fault.{Fault}
use Rattle.mt_port.specs.declared.board.Shape.{Shape}
use Rattle.mt_port.specs.declared.request.AppOp.{AppOp}
use Rattle.mt_port.specs.declared.request.Answer.{Answer}
use Rattle.mt_port.specs.declared.request.HandlerOp.{HandlerOp}
use Rattle.mt_port.specs.declared.request.HandlerOp.TheVariants.{App, Call}
use Rattle.mt_port.specs.declared.request.Request.{Request}
use Rattle.mt_port.specs.Board.{Board, powered_up, op_words, op_answer}
use Rattle.mt_plan.specs.declared.algorithm.Policy.TheVariants.{Destructive}
use Rattle.mt_seq.specs.declared.sequence.Slice.{Slice}
use Rattle.mt_seq.specs.Laws.{filled}
use Rattle.mt_window.specs.declared.log.Entry.{Entry}
use Rattle.mt_window.specs.declared.log.Entry.TheVariants.{Served, Inner, Own}
use Rattle.mt_window.specs.declared.reply.Reply.{Reply}
use Rattle.mt_window.specs.Serving.{given}
use Rattle.mt_blocks.specs.declared.config.ParamSet.{ParamSet}
use Rattle.mt_blocks.specs.Accepted.{block_at, spans_of}
use Rattle.mt_blocks.specs.Slices.{Piece, pass}
use Rattle.mt_ram.specs.State.{set_of}
use Rattle.mt_text.specs.declared.line.Event.{Event}
use Rattle.mt_text.specs.declared.line.Event.TheVariants as event
use Rattle.mt_text.specs.declared.line.Line.{Line}
use Rattle.mt_conf.specs.declared.config.Config.{Config}
use Rattle.mt_conf.specs.Accepted.{IsAcceptedConfig}
use Rattle.mt_machine.specs.Machine.{Machine, Step, started, played}
use Rattle.mt_laws.specs.Plain.{InjectsNothing}

-- ---- a plain memory

-- a memory without a fault that holds these words
abbrev pub plain : Shape → (words flash : List ℕ) → Board
plain shape words flash = record (powered_up shape 0 None) { words = words; flash = flash }

-- What is done to the application's memory: an operation of its own, or the fill of a slice whose sequence has ended.
pub data Deed : Type 0 where
  Operates : (op : AppOp) → Deed
  Fills : (slice : Slice) (word : ℕ) → Deed

abbrev pub words_by_deed : Shape → (words flash : List ℕ) → Deed → List ℕ
words_by_deed shape words flash (Operates op) = op_words (plain shape words flash) op
words_by_deed shape words flash (Fills slice word) = filled words slice word

-- the words after deeds that are done in order, and the answers of the operations among them
abbrev pub words_after : Shape → (words flash : List ℕ) → List Deed → List ℕ
words_after shape words flash [] = words
words_after shape words flash (deed ∷ more) = words_after shape (words_by_deed shape words flash deed) flash more

abbrev pub answers_of : Shape → (words flash : List ℕ) → List Deed → List Answer
answers_of shape words flash [] = []
answers_of shape words flash (Operates op ∷ more) = op_answer (plain shape words flash) op ∷ answers_of shape (words_by_deed shape words flash (Operates op)) flash more
answers_of shape words flash (Fills slice word ∷ more) = answers_of shape (filled words slice word) flash more

-- the operations among deeds, and how many fills there are
abbrev pub operations_among : List Deed → List AppOp
operations_among [] = []
operations_among (Operates op ∷ more) = op ∷ operations_among more
operations_among (Fills slice word ∷ more) = operations_among more

abbrev pub fills_among : List Deed → ℕ
fills_among [] = 0
fills_among (Operates op ∷ more) = fills_among more
fills_among (Fills slice word ∷ more) = fills_among more + 1

-- a slice of a destructive block of a set, and the block's fill
pub record IsFillOf (set : ParamSet) (slice : Slice) (word : ℕ) : Type 0 where
  pub piece : Piece
  pub inside : Contains (pass set.atomic (spans_of set.blocks)) piece
  pub same : piece.slice ≡ slice
  pub policy : (block_at set.blocks piece.place.block).policy ≡ Destructive
  pub fill : (block_at set.blocks piece.place.block).fill ≡ word

abbrev pub IsDeedOf : ParamSet → Deed → Type 0
IsDeedOf set (Operates op) = Unit {0}
IsDeedOf set (Fills slice word) = IsFillOf set slice word

-- ---- the operations of a line, in the order of its text

-- all that handlers do, and the application's operations among it
abbrev pub handled : List Request → List HandlerOp
handled requests = flat_map (λ r. r.ops.items) requests

abbrev pub operations_in : List HandlerOp → List AppOp
operations_in [] = []
operations_in (App op ∷ more) = op ∷ operations_in more
operations_in (Call call ∷ more) = operations_in more

-- those of a line: its own, or those of its requests' handlers
abbrev pub operations_of : Event → List Request → List AppOp
operations_of (event.App op) requests = op ∷ []
operations_of other requests = operations_in (handled requests)

-- ---- their answers in the trace

-- the replies to what handlers do, in order, and those to the application's operations among them
abbrev pub inner_replies : List Entry → List Reply
inner_replies [] = []
inner_replies (Served number at wait ∷ more) = inner_replies more
inner_replies (Inner reply ∷ more) = reply ∷ inner_replies more
inner_replies (Own reply ∷ more) = inner_replies more

abbrev pub replies_in : List HandlerOp → List Reply → List Reply
replies_in (App op ∷ more) (reply ∷ replies) = reply ∷ replies_in more replies
replies_in (Call call ∷ more) (reply ∷ replies) = replies_in more replies
replies_in ops replies = []

-- the line's own reply
abbrev pub own_replies : List Entry → List Reply
own_replies [] = []
own_replies (Served number at wait ∷ more) = own_replies more
own_replies (Inner reply ∷ more) = own_replies more
own_replies (Own reply ∷ more) = reply ∷ own_replies more

abbrev pub replies_of : Event → List Request → List Entry → List Reply
replies_of (event.App op) requests entries = own_replies entries
replies_of other requests entries = replies_in (handled requests) (inner_replies entries)

-- ---- a replay

-- A step does the application's operations in order, and between them it fills slices of destructive blocks of the selected set, at most one
-- for each attempt at a slice. Its answers and the words behind it are those of a plain memory on which this is done.
pub record IsPlain (m : Machine) (line : Line) (s : Step) : Type 0 where
  pub deeds : List Deed
  pub operations : operations_among deeds ≡ operations_of line.event s.requests
  pub fills : All (IsDeedOf (set_of m.modules.ram)) deeds
  pub few : fills_among deeds ≤ length s.attempts
  pub answers : replies_of line.event s.requests s.entries ≡ map given (answers_of m.board.shape m.board.words m.board.flash deeds)
  pub words : s.after.board.words ≡ words_after m.board.shape m.board.words m.board.flash deeds

-- so do all steps of some lines, in order
abbrev pub ArePlain : Machine → List Line → List Step → Type 0
ArePlain m [] [] = Unit {0}
ArePlain m (line ∷ lines) (s ∷ steps) = IsPlain m line s × ArePlain s.after lines steps
ArePlain m lines steps = ⊥

-- Where the board has no fault at the start and no line injects one, the application finds a plain memory.
abbrev pub MemoryIsPlain : Type 0
MemoryIsPlain = (c : Config) (defect : Option Fault) (lines : List Line) → IsAcceptedConfig c → (started c defect).board.fault ≡ None → All InjectsNothing lines
    → ArePlain (started c defect) lines (played (started c defect) lines).steps
