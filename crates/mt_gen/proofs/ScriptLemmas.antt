-- What holds of each line of a script.
use Rattle.std.proofs.Common.{◌≡◌, ℕ, zero, suc, ◌+◌, ◌/◌, ◌%◌, ◌==◌, ◌<◌, ◌≤◌, Bool, true, false, cond, nat_lt, List, [], ◌∷◌, length, All, Ok, refl, ap, ◌∙◌, add-one, arith, lit≤, length-append}
use Rattle.std.proofs.lemmas.List.Elements.{All-nil, All-cons, All-append, All-from_recursion}
use Rattle.std.proofs.lemmas.Fmt.{length-decimal-le}
use Rattle.std.specs.Fmt.{decimal}
use Rattle.mt_word.specs.declared.Width.TheVariants.{W16}
use Rattle.mt_hex.specs.Digits.{hex_text, digit_byte}
use Rattle.mt_port.specs.Board.{IsSoundInHandler, AreSoundRequests}
use Rattle.mt_port.specs.declared.request.AppOp.TheVariants.{Read, Add, Flash}
use Rattle.mt_port.specs.declared.request.HandlerOp.{HandlerOp}
use Rattle.mt_port.specs.declared.request.HandlerOp.TheVariants as handler
use Rattle.mt_port.specs.declared.request.Module.{Module}
use Rattle.mt_port.specs.declared.request.Module.TheVariants.{RamTst, FlsTst}
use Rattle.mt_port.specs.declared.request.Request.{Request}
use Rattle.mt_text.specs.Accepted.{IsAccepted, IsFor, IsRequest}
use Rattle.mt_text.specs.Canonical.{canonical}
use Rattle.mt_text.specs.Lines.{line_of}
use Rattle.mt_text.specs.declared.line.Line.{Line}
use Rattle.mt_gen.specs.Numbers.{next, drawn_form, drawn_address, drawn_word}
use Rattle.mt_gen.specs.Inner.Forms.{IsOfAForm, RamTick, FlsTick, Writes, Reads, Copies, Asks, LinesAreOfForms}
use Rattle.mt_gen.specs.Script.{job_shape, interrupt, ram_tick, fls_tick, write_line, read_line, copy_line, result_line, line_of_form, drawn_line, lines_behind, first_lines, script}

-- ---- all lines of a script

-- what holds of the line of each number holds of all lines behind a number
behind_all : (P : Line → Type 0) → ((x : ℕ) → P (drawn_line x)) → (count x : ℕ) → All P (lines_behind count x)
unfolding lines_behind
behind_all P h zero x = All-nil P
behind_all P h (suc count) x = All-cons P (drawn_line (next x)) (lines_behind count (next x)) (h (next x)) (behind_all P h count (next x))

-- what holds of the first lines too holds of a script
pub script_all : (P : Line → Type 0) → All P first_lines → ((x : ℕ) → P (drawn_line x)) → (number : ℕ) → All P (script number)
unfolding script
script_all P first drawn number = All-append P first_lines (lines_behind 19997 number) first (behind_all P drawn 19997 number)

length-lines_behind : (count x : ℕ) → length (lines_behind count x) ≡ count
unfolding lines_behind
length-lines_behind zero x = refl
length-lines_behind (suc count) x = ap suc (length-lines_behind count (next x))

pub length-script : (number : ℕ) → length (script number) ≡ 20000
unfolding script
length-script number = ap (λ n. suc (suc (suc n))) (length-lines_behind 19997 number)

pub lines_behind-more : (count x : ℕ) → lines_behind (count + 1) x ≡ drawn_line (next x) ∷ lines_behind count (next x)
unfolding lines_behind
lines_behind-more count x = rw add-one refl

-- ---- by form

-- what holds of a line of each form holds of the line of a form
pub record OfEachForm (P : Line → Type 0) : Type 0 where
  pub ram : (offset addr word : ℕ) → offset < 512 → addr < 256 → word < 65536 → P (ram_tick offset addr word)
  pub fls : (offset addr : ℕ) → offset < 8 → addr < 64 → P (fls_tick offset addr)
  pub write : (addr word : ℕ) → addr < 256 → word < 65536 → P (write_line addr word)
  pub read : (addr : ℕ) → addr < 256 → P (read_line addr)
  pub copy : (src dst : ℕ) → src < 256 → dst < 256 → P (copy_line src dst)
  pub result : P result_line

either : (P : Line → Type 0) (b : Bool) (l m : Line) → P l → P m → P (cond b l m)
either P true l m h k = h
either P false l m h k = k

of_form : (P : Line → Type 0) → OfEachForm P → (f addr word : ℕ) → addr < 256 → word < 65536 → P (line_of_form f addr word)
of_form P each f addr word a w =
    either P (nat_lt f 3) _ _ (each.ram (word % 512) addr word (omega arith) a w)
    (either P (f == 3) _ _ (each.write addr word a w)
    (either P (f == 4) _ _ (each.read addr a)
    (either P (f == 5) _ _ (each.fls (word % 8) (addr % 64) (omega arith) (omega arith))
    (either P (f == 6) _ _ each.result
    (each.copy addr (word % 256) a (omega arith))))))

pub of_number : (P : Line → Type 0) → OfEachForm P → (x : ℕ) → P (drawn_line x)
unfolding drawn_line
of_number P each x = of_form P each (drawn_form x) (drawn_address x) (drawn_word x) (omega arith) (omega arith)

each_form : OfEachForm IsOfAForm
each_form = record {
  ram = λ offset addr word o a w. RamTick offset addr word o a w refl;
  fls = λ offset addr o a. FlsTick offset addr o a refl;
  write = λ addr word a w. Writes addr word a w refl;
  read = λ addr a. Reads addr a refl;
  copy = λ src dst s d. Copies src dst s d refl;
  result = Asks refl;
}

pub lines_are_of_forms : LinesAreOfForms
lines_are_of_forms = behind_all IsOfAForm (of_number IsOfAForm each_form)

-- ---- lines are accepted

-- one sound request
asked : (m : Module) (offset : ℕ) (ops : List HandlerOp) → offset < 512 → length ops ≤ 8 → All (IsFor m) ops → All (IsSoundInHandler job_shape) ops
    → AreSoundRequests job_shape (interrupt offset ops) × All (IsRequest m) (interrupt offset ops)
asked m offset ops o few calls sound = (
  record {
    few = lit≤ tt;
    ordered = (All-nil (λ (q : Request). offset ≤ q.offset), tt);
    sound = All-from_recursion (λ (r : Request). All (IsSoundInHandler job_shape) r.ops.items) (interrupt offset ops) (sound, tt);
  },
  All-from_recursion (IsRequest m) (interrupt offset ops) (record { number = omega arith; few = few; calls = calls }, tt),
)

accepted_ram : (offset addr word : ℕ) → offset < 512 → addr < 256 → word < 65536 → IsAccepted job_shape (ram_tick offset addr word)
accepted_ram offset addr word o a w =
    let ops : List HandlerOp = handler.App (Read addr) ∷ handler.App (Add addr word) ∷ [] in
    let r = asked RamTst offset ops o (lit≤ tt) (All-from_recursion (IsFor RamTst) ops (tt, (tt, tt))) (All-from_recursion (IsSoundInHandler job_shape) ops (a, ((a, w), tt))) in
    record { event = tt; requests = r.0; callees = r.1 }

accepted_fls : (offset addr : ℕ) → offset < 8 → addr < 64 → IsAccepted job_shape (fls_tick offset addr)
accepted_fls offset addr o a =
    let ops : List HandlerOp = handler.App (Flash addr) ∷ [] in
    let r = asked FlsTst offset ops (omega arith) (lit≤ tt) (All-from_recursion (IsFor FlsTst) ops (tt, tt)) (All-from_recursion (IsSoundInHandler job_shape) ops (a, tt)) in
    record { event = tt; requests = r.0; callees = r.1 }

-- no request
none : AreSoundRequests job_shape []
none = record { few = lit≤ tt; ordered = tt; sound = All-nil (λ (r : Request). All (IsSoundInHandler job_shape) r.ops.items) }

pub accepted_forms : OfEachForm (IsAccepted job_shape)
accepted_forms = record {
  ram = accepted_ram;
  fls = accepted_fls;
  write = λ addr word a w. record { event = (a, w); requests = none; callees = refl };
  read = λ addr a. record { event = a; requests = none; callees = refl };
  copy = λ src dst s d. record { event = (s, d); requests = none; callees = refl };
  result = record { event = tt; requests = none; callees = refl };
}

pub accepted_first : All (IsAccepted job_shape) first_lines
accepted_first =
    All-from_recursion (IsAccepted job_shape) first_lines (
      record { event = tt; requests = none; callees = refl },
      (
        record { event = tt; requests = none; callees = refl },
        (record { event = tt; requests = none; callees = refl }, tt),
      ),
    )

-- ---- lines are short

length-hex_text : (n word : ℕ) → length (hex_text n word) ≡ n
unfolding hex_text
length-hex_text zero word = refl
length-hex_text (suc n) word = length-append (hex_text n (word / 16)) (digit_byte (word % 16) ∷ []) ∙ omega (arith, length-hex_text n (word / 16))

three_digits : (n : ℕ) → n < 512 → length (decimal n) ≤ 3
three_digits n h = length-decimal-le 3 n (omega arith) (omega arith) (omega arith)

-- the canonical text of a line has at most 34 bytes
abbrev pub IsShort : Line → Type 0
IsShort line = length (canonical W16 line) ≤ 34

short_ram : (offset addr word : ℕ) → offset < 512 → addr < 256 → word < 65536 → IsShort (ram_tick offset addr word)
unfolding canonical
short_ram offset addr word o a w =
    let m = three_digits offset o in
    let n = three_digits addr (omega arith) in
    let k = length-hex_text 4 word in
    simp length-append (omega arith)

short_fls : (offset addr : ℕ) → offset < 8 → addr < 64 → IsShort (fls_tick offset addr)
unfolding canonical
short_fls offset addr o a =
    let m = three_digits offset (omega arith) in
    let n = three_digits addr (omega arith) in
    simp length-append (omega arith)

short_write : (addr word : ℕ) → addr < 256 → word < 65536 → IsShort (write_line addr word)
unfolding canonical
short_write addr word a w =
    let n = three_digits addr (omega arith) in
    let k = length-hex_text 4 word in
    simp length-append (omega arith)

short_read : (addr : ℕ) → addr < 256 → IsShort (read_line addr)
unfolding canonical
short_read addr a =
    let n = three_digits addr (omega arith) in
    simp length-append (omega arith)

short_copy : (src dst : ℕ) → src < 256 → dst < 256 → IsShort (copy_line src dst)
unfolding canonical
short_copy src dst s d =
    let m = three_digits src (omega arith) in
    let n = three_digits dst (omega arith) in
    simp length-append (omega arith)

pub short_forms : OfEachForm IsShort
unfolding canonical
short_forms = record { ram = short_ram; fls = short_fls; write = short_write; read = short_read; copy = short_copy; result = lit≤ tt }

pub short_first : All IsShort first_lines
unfolding canonical
short_first = All-from_recursion IsShort first_lines (lit≤ tt, (lit≤ tt, (lit≤ tt, tt)))

-- ---- lines are read back

-- a reader takes the canonical text of a line for that line
abbrev pub IsReadBack : Line → Type 0
IsReadBack line = line_of job_shape (canonical W16 line) ≡ Ok line
