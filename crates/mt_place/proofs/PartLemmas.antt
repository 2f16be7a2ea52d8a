-- Parts of a line, and its white space.
use Rattle.std.proofs.Common.{ℕ, ◌+◌, ◌-◌, ◌<◌, ◌≤◌, ◌≡◌, ◌==◌, T, eqb→eq, true, List, length, take, drop, get_or, sym, ap, ◌∙◌, subst, arith}
use Rattle.std.specs.Char.{is_ascii_whitespace}
use Rattle.std.specs.Str.{IsTrimAsciiStart}
use Rattle.std.specs.List.{position_or_len}
use Rattle.std.proofs.lemmas.List.Sums.{passes_at_first}
use Rattle.std.proofs.lemmas.List.{get_or-take, get_or-drop, length-drop, length-take-le, take-take, drop-take, take_rest}
use Rattle.mt_place.specs.declared.entry.Piece.{Piece}
use Rattle.mt_place.specs.Keys.{IsBlank}
use Rattle.mt_place.specs.Parts.{IsPart}

-- the first place of a byte has it
pub first_at : (byte at : ℕ) (line : List ℕ) → at ≡ position_or_len (λ b. b == byte) line → at < length line → get_or line at 0 ≡ byte
first_at byte at line is inside =
    let within : position_or_len (λ b. b == byte) line < length line = subst (λ (k : ℕ). k < length line) is inside in
    let passes = passes_at_first (λ b. b == byte) line 0 within in
    ap (λ (k : ℕ). get_or line k 0) is ∙ eqb→eq (get_or line (position_or_len (λ b. b == byte) line) 0) byte (subst T (sym passes) tt)

-- the white space at the start of what a line begins with is that of the line
pub blank_in : (line front : List ℕ) (n m : ℕ) → front ≡ take n line → m ≤ n → IsBlank front 0 m → IsBlank line 0 m
blank_in line front n m is fits blank = λ i low high.
    let same : get_or front i 0 ≡ get_or line i 0 = ap (λ (xs : List ℕ). get_or xs i 0) is ∙ get_or-take n line i 0 (omega arith) in
    subst (λ (b : ℕ). is_ascii_whitespace b ≡ true) same (blank i low high)

-- what stands between an index and the text after it
pub blank_after : (line rest : List ℕ) (from : ℕ) → from ≤ length line → IsTrimAsciiStart (take (length line - from) (drop from line)) rest
    → IsBlank line from (length line - length rest + 1 - 1)
blank_after line rest from fits trim = λ i low high.
    let h = subst (λ (s : List ℕ). IsTrimAsciiStart s rest) (take_rest line from) trim in
    let long : length rest + h.0 ≡ length line - from = h.2 ∙ length-drop from line in
    let at : from + (i - from) ≡ i = omega arith in
    let inside : i - from < h.0 = omega arith in
    subst (λ (b : ℕ). is_ascii_whitespace b ≡ true)
    (get_or-drop from line (i - from) 0 ∙ ap (λ (k : ℕ). get_or line k 0) at)
    (h.3 (i - from) inside)

cut : (line : List ℕ) (e n k : ℕ) → n + k ≤ e → take k (drop n (take e line)) ≡ take k (drop n line)
cut line e n k fits =
    let split : e ≡ n + (e - n) = omega arith in
    ap (λ (m : ℕ). take k (drop n (take m line))) split
    ∙ ap (take k) (drop-take n (e - n) line)
    ∙ take-take k (e - n) (drop n line) (omega arith)

-- a part of what a line begins with is a part of the line
pub part_in : (line : List ℕ) (e : ℕ) (piece : Piece) → e ≤ length line → IsPart (take e line) piece → IsPart line piece
part_in line e piece fits is =
    let long = length-take-le e line fits in
    let inside : piece.column - 1 + length piece.bytes.now ≤ e = omega (arith, is.1, long) in
    (is.0, omega arith, is.2 ∙ cut line e (piece.column - 1) (length piece.bytes.now) inside)
