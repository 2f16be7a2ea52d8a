-- The generated script, for a memory of 256 words of 16 bits and a flash of 64 words.
use Rattle.std.specs.Prelude.{ℕ, zero, suc, ◌%◌, ◌==◌, nat_lt, if◌then◌else◌, codes, false, List, [], ◌∷◌, ◌++◌}
use Rattle.std.specs.List.{flat_map}
use Rattle.mt_word.specs.declared.Width.TheVariants.{W16}
use Rattle.mt_port.specs.declared.board.Shape.{Shape}
use Rattle.mt_port.specs.declared.request.AppOp.TheVariants.{Read, Write, Add, Copy, Flash}
use Rattle.mt_port.specs.declared.request.HandlerOp.{HandlerOp}
use Rattle.mt_port.specs.declared.request.HandlerOp.TheVariants as handler
use Rattle.mt_port.specs.declared.request.Request.{Request}
use Rattle.mt_text.specs.declared.line.RamCall.TheVariants.{Init, Allow, GetTestResult}
use Rattle.mt_text.specs.declared.line.FlsCall.TheVariants as fls
use Rattle.mt_text.specs.declared.line.Event.TheVariants.{Ram, Fls, TickRam, TickFls, App}
use Rattle.mt_text.specs.declared.line.Line.{Line}
use Rattle.mt_text.specs.Canonical.{canonical}
use Rattle.mt_text.specs.Lines.{line}
use Rattle.mt_gen.specs.Numbers.{next, drawn_form, drawn_address, drawn_word}

-- the job's memory
abbrev pub job_shape : Shape
job_shape = record { width = W16; ram = 256; flash = 64 }

-- ---- the forms of lines

-- one ordinary request at an offset, and the operations of its handler
abbrev pub interrupt : ℕ → List HandlerOp → List Request
interrupt offset ops = record { offset = offset; urgent = false; ops = record { items = ops } } ∷ []

-- a tick of RamTst with a request, whose handler reads a word and adds to it
abbrev pub ram_tick : (offset addr word : ℕ) → Line
ram_tick offset addr word = line TickRam (interrupt offset (handler.App (Read addr) ∷ handler.App (Add addr word) ∷ []))

-- a tick of FlsTst with a request, whose handler reads a flash word
abbrev pub fls_tick : (offset addr : ℕ) → Line
fls_tick offset addr = line TickFls (interrupt offset (handler.App (Flash addr) ∷ []))

abbrev pub write_line : (addr word : ℕ) → Line
write_line addr word = line (App (Write addr word)) []

abbrev pub read_line : (addr : ℕ) → Line
read_line addr = line (App (Read addr)) []

abbrev pub copy_line : (src dst : ℕ) → Line
copy_line src dst = line (App (Copy src dst)) []

-- the overall result is asked for
abbrev pub result_line : Line
result_line = line (Ram GetTestResult) []

-- ---- the lines

-- the line of a form, with an address and a word
abbrev pub line_of_form : (form addr word : ℕ) → Line
line_of_form form addr word =
    if nat_lt form 3 then ram_tick (word % 512) addr word
    else (if form == 3 then write_line addr word
    else (if form == 4 then read_line addr
    else (if form == 5 then fls_tick (word % 8) (addr % 64)
    else (if form == 6 then result_line
    else copy_line addr (word % 256)))))

-- the line of a number
unfoldable pub drawn_line : ℕ → Line
drawn_line x = line_of_form (drawn_form x) (drawn_address x) (drawn_word x)

-- so many lines behind that of a number
unfoldable pub lines_behind : (count x : ℕ) → List Line
lines_behind zero x = []
lines_behind (suc count) x = drawn_line (next x) ∷ lines_behind count (next x)

-- the modules are initialized and tests are allowed
abbrev pub first_lines : List Line
first_lines = line (Ram Init) [] ∷ line (Fls fls.Init) [] ∷ line (Ram Allow) [] ∷ []

-- the 20,000 lines of the script with a number
unfoldable pub script : ℕ → List Line
script number = first_lines ++ lines_behind 19997 number

-- ---- the bytes

-- each line in canonical form, with a line feed
abbrev pub text_of : List Line → List ℕ
text_of lines = flat_map (λ l. canonical W16 l ++ codes "\n") lines
