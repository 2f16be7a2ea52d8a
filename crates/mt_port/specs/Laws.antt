-- Laws of the application's operations on a memory without a fault.
use Rattle.std.specs.Prelude.{◌≡◌, ◌≢◌, ◌<◌, ◌+◌, ◌%◌, ◌^◌, ℕ, length, true, None, Option, slice_index}
use Rattle.mt_word.specs.Word.{width_bits, has_bit}
use Rattle.mt_fault.specs.declared.fault.Fault.{Fault}
use Rattle.mt_port.specs.declared.board.Shape.{Shape}
use Rattle.mt_port.specs.declared.request.AppOp.{AppOp}
use Rattle.mt_port.specs.declared.request.AppOp.TheVariants.{Read, Write, Add, Copy, Flash}
use Rattle.mt_port.specs.declared.request.Answer.{Answer}
use Rattle.mt_port.specs.declared.request.Answer.TheVariants.{Done, Word}
use Rattle.mt_port.specs.Board.{Board, op_answer, after_op, powered_up}

-- a board whose RAM has no fault
pub record IsFaultless (b : Board) : Type 0 where
  pub none : b.fault ≡ None
  pub sized : length b.words ≡ b.shape.ram

-- a word of the RAM
abbrev pub ram : Board → ℕ → ℕ
ram b a = slice_index b.words a

-- after an operation an address has this word, and all others have the words that they had
pub record Leaves (b : Board) (op : AppOp) (addr word : ℕ) : Type 0 where
  pub here : ram (after_op b op) addr ≡ word
  pub others : (a : ℕ) → a ≢ addr → ram (after_op b op) a ≡ ram b a

-- an operation answers, and leaves this word at an address and all others as they were
pub record Does (b : Board) (op : AppOp) (answer : Answer) (addr word : ℕ) : Type 0 where
  pub answers : op_answer b op ≡ answer
  pub leaves : Leaves b op addr word

-- a read answers its word, and leaves all words
abbrev pub ReadsAnswer : Type 0
ReadsAnswer = (b : Board) (addr : ℕ) → IsFaultless b → Does b (Read addr) (Word (ram b addr)) addr (ram b addr)

-- a write leaves its word
abbrev pub WritesLeave : Type 0
WritesLeave = (b : Board) (addr x : ℕ) → IsFaultless b → addr < b.shape.ram → Does b (Write addr x) Done addr x

-- an addition answers and leaves the sum, modulo 2 to the width
abbrev pub AdditionsLeaveSums : Type 0
AdditionsLeaveSums = (b : Board) (addr x : ℕ) → IsFaultless b → addr < b.shape.ram
    → let sum = (ram b addr + x) % 2 ^ width_bits b.shape.width in Does b (Add addr x) (Word sum) addr sum

-- a copy answers the word of its source, and leaves it at its destination
abbrev pub CopiesLeaveTheirSource : Type 0
CopiesLeaveTheirSource = (b : Board) (src dst : ℕ) → IsFaultless b → dst < b.shape.ram
    → Does b (Copy src dst) (Word (ram b src)) dst (ram b src)

-- a read of the flash answers its word, and leaves all words of the RAM
abbrev pub FlashReadsAnswer : Type 0
FlashReadsAnswer = (b : Board) (addr : ℕ) → IsFaultless b → (a : ℕ) → Does b (Flash addr) (Word (slice_index b.flash addr)) a (ram b a)

-- in a new flash each bit is 1
abbrev pub FlashBeginsErased : Type 0
FlashBeginsErased = (shape : Shape) (initial : ℕ) (defect : Option Fault) (addr bit : ℕ) → addr < shape.flash → bit < width_bits shape.width
    → has_bit (slice_index (powered_up shape initial defect).flash addr) bit ≡ true
