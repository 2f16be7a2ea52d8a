-- Numbers, words, bits and spots as they are written spell themselves.
use Rattle.std.proofs.Common.{◌≡◌, ◌≢◌, ℕ, zero, suc, ◌+◌, ◌*◌, ◌/◌, ◌%◌, ◌^◌, ◌<◌, ◌≤◌, ◌==◌, not, ◌&&◌, Bool, true, false, List, [], ◌∷◌, ◌++◌, length, take, drop, Option, Some, refl, ap, ◌∙◌, inl, inr, arith, nat_le, nat_lt, lit<, eqb-true, codes, length-append, append_assoc}
use Rattle.std.specs.Prelude.{◌||◌, if◌then◌else◌, Option, None}
use Rattle.std.proofs.lemmas.Bool.{cases_Bool, or_cases}
use Rattle.std.proofs.lemmas.Bool.Decides.{nat_tests}
use Rattle.std.proofs.Math.Seq.{take-append_seam, drop-append-add}
use Rattle.std.proofs.lemmas.Fmt.{decimal_nonempty}
use Rattle.std.proofs.lemmas.Nat.{pow-add}
use Rattle.std.specs.List.{list_all, prefix_len}
use Rattle.std.specs.Fmt.{decimal}
use Rattle.mt_word.specs.declared.Width.{Width}
use Rattle.mt_word.specs.declared.Width.TheVariants.{W8, W16, W32, W64}
use Rattle.mt_word.specs.Word.{width_bits, Fits}
use Rattle.mt_fault.specs.declared.fault.Spot.{Spot}
use Rattle.mt_fault.specs.Placement.{IsSpot}
use Rattle.mt_port.specs.declared.board.Shape.{Shape}
use Rattle.mt_port.specs.Board.{IsWithinLimits}
use Rattle.mt_hex.specs.Hex.{is_digit, is_hex, hex_digit, hex, hex_of}
use Rattle.mt_text.specs.Tokens.{is_word, begins_word, number_of, point, parts, both as both_numbers, spot_of}
use Rattle.mt_hex.specs.Digits.{digit_byte, hex_text, word_text}
use Rattle.mt_text.specs.Canonical.{spot_text, bit_text}
use Rattle.mt_text.specs.Values.{Num, Addr, FlashAddr, OtherAddr, Data, Bit, RamSpot, OtherSpot, FlashSpot, mark_byte, value_at, spot_at}
use Rattle.mt_text.specs.LineTokens.{IsWriting}
use Rattle.mt_text.specs.Accepted.{IsNumber}
use Rattle.mt_text.proofs.Numbers.{both, number_of_text, text_begins_word, text_digits}
use Rattle.mt_text.proofs.Pieces.{is_text}
use Rattle.mt_text.proofs.Leading.{Reads, ReadsSpot}

-- ---- bytes of words

all_append : (t : ℕ → Bool) (xs ys : List ℕ) → list_all t xs ≡ true → list_all t ys ≡ true → list_all t (xs ++ ys) ≡ true
all_append t [] ys h k = k
all_append t (x ∷ xs) ys h k = let m = both (t x) (list_all t xs) h in rw (m.0, all_append t xs ys m.1 k) refl

all_more : (t u : ℕ → Bool) (xs : List ℕ) → ((x : ℕ) → t x ≡ true → u x ≡ true) → list_all t xs ≡ true → list_all u xs ≡ true
all_more t u [] w h = refl
all_more t u (x ∷ xs) w h = let m = both (t x) (list_all t xs) h in rw (w x m.0, all_more t u xs w m.1) refl

digit_is_word : (b : ℕ) → is_digit b ≡ true → is_word b ≡ true
digit_is_word b h = let m = both (nat_le 48 b) (nat_le b 57) h in grind (arith, nat_tests)

digit_is_no_point : (b : ℕ) → is_digit b ≡ true → not (b == 46) ≡ true
digit_is_no_point b h = let m = both (nat_le 48 b) (nat_le b 57) h in grind (arith, nat_tests)

text_of_words : (bytes : List ℕ) → 0 < length bytes → list_all is_word bytes ≡ true → is_text bytes ≡ true
text_of_words [] lt h = absurd (omega arith)
text_of_words (b ∷ bs) lt h = h

begins_of_text : (bytes : List ℕ) → is_text bytes ≡ true → begins_word bytes ≡ true
begins_of_text [] h = h
begins_of_text (b ∷ bs) h = (both (is_word b) (list_all is_word bs) h).0

wide : (n : ℕ) → n < 2 ^ 32 → n < 2 ^ 64
wide n lt = omega arith

decimal_words : (n : ℕ) → n < 2 ^ 32 → list_all is_word (decimal n) ≡ true
decimal_words n lt = all_more is_digit is_word (decimal n) digit_is_word (text_digits n (wide n lt))

pub decimal_is_text : (n : ℕ) → n < 2 ^ 32 → is_text (decimal n) ≡ true
decimal_is_text n lt = text_of_words (decimal n) (decimal_nonempty n (wide n lt)) (decimal_words n lt)

pub mark_is_text : (urgent : Bool) (n : ℕ) → n < 2 ^ 32 → is_text (mark_byte urgent ∷ decimal n) ≡ true
mark_is_text true n lt = decimal_words n lt
mark_is_text false n lt = decimal_words n lt

-- ---- hexadecimal digits

-- a test that every number below n passes
unfoldable pub check : (ℕ → Bool) → ℕ → Bool
check t zero = true
check t (suc n) = t n && check t n

pub checked : (t : ℕ → Bool) (n d : ℕ) → check t n ≡ true → d < n → t d ≡ true
unfolding check
checked t zero d h lt = absurd (omega arith)
checked t (suc n) d h lt =
    let m = both (t n) (check t n) h in
    elim (cases_Bool (d == n)) [
      | inl e ↦ let same : d ≡ n = eqb-true d n e in rw same m.0
      | inr e ↦ checked t n d m.1 (grind (arith, nat_tests))
    ]

glyph_is_hex : (d : ℕ) → d < 16 → is_hex (digit_byte d) ≡ true
unfolding check
glyph_is_hex d lt = checked (λ x. is_hex (digit_byte x)) 16 d refl lt

glyph_value : (d : ℕ) → d < 16 → hex_digit (digit_byte d) ≡ d
unfolding check
glyph_value d lt = eqb-true (hex_digit (digit_byte d)) d (checked (λ x. hex_digit (digit_byte x) == x) 16 d refl lt)

glyph_is_word : (d : ℕ) → d < 16 → is_word (digit_byte d) ≡ true
unfolding check
glyph_is_word d lt = checked (λ x. is_word (digit_byte x)) 16 d refl lt

mod_small : (w : ℕ) → w % 16 < 16
mod_small w = omega arith

one_all : (t : ℕ → Bool) (x : ℕ) → t x ≡ true → list_all t (x ∷ []) ≡ true
one_all t x h = rw h refl

hex_text_all : (t : ℕ → Bool) (n w : ℕ) → ((d : ℕ) → d < 16 → t (digit_byte d) ≡ true) → list_all t (hex_text n w) ≡ true
unfolding hex_text
hex_text_all t zero w h = refl
hex_text_all t (suc n) w h = all_append t (hex_text n (w / 16)) (digit_byte (w % 16) ∷ []) (hex_text_all t n (w / 16) h) (one_all t (digit_byte (w % 16)) (h (w % 16) (mod_small w)))

hex_text_length : (n w : ℕ) → length (hex_text n w) ≡ n
unfolding hex_text
hex_text_length zero w = refl
hex_text_length (suc n) w = let h = hex_text_length n (w / 16) in let m : length (hex_text n (w / 16) ++ digit_byte (w % 16) ∷ []) ≡ length (hex_text n (w / 16)) + 1 = length-append (hex_text n (w / 16)) (digit_byte (w % 16) ∷ []) in omega arith

hex_last : (acc : ℕ) (xs : List ℕ) (d : ℕ) → hex acc (xs ++ d ∷ []) ≡ 16 * hex acc xs + hex_digit d
hex_last acc [] d = refl
hex_last acc (x ∷ xs) d = hex_last (16 * acc + hex_digit x) xs d

power : (n : ℕ) → 16 ^ suc n ≡ 16 * 16 ^ n
power n = let s : suc n ≡ 1 + n = omega arith in ap (λ (k : ℕ). 16 ^ k) s ∙ pow-add 16 1 n

hex_value : (n w : ℕ) → w < 16 ^ n → hex 0 (hex_text n w) ≡ w
unfolding hex_text
hex_value zero w lt = omega arith
hex_value (suc n) w lt =
    let p : 16 ^ suc n ≡ 16 * 16 ^ n = power n in
    let small : w / 16 < 16 ^ n = omega arith in
    let v = hex_value n (w / 16) small in
    let g = glyph_value (w % 16) (mod_small w) in
    hex_last 0 (hex_text n (w / 16)) (digit_byte (w % 16)) ∙ omega arith

hex_of_text : (n w : ℕ) → 0 < n → n ≤ 16 → w < 16 ^ n → hex_of (hex_text n w) ≡ Some w
unfolding hex_of
hex_of_text n w lt le fits =
    let l = hex_text_length n w in
    let some : (length (hex_text n w) == 0) ≡ false = grind (arith, nat_tests) in
    let few : nat_lt 16 (length (hex_text n w)) ≡ false = grind (arith, nat_tests) in
    rw (some, few, hex_text_all is_hex n w glyph_is_hex, hex_value n w fits) refl

pub word_is_text : (width : Width) (w : ℕ) → is_text (word_text width w) ≡ true
word_is_text W8 w = text_of_words (hex_text 2 w) (let l = hex_text_length 2 w in omega arith) (hex_text_all is_word 2 w glyph_is_word)
word_is_text W16 w = text_of_words (hex_text 4 w) (let l = hex_text_length 4 w in omega arith) (hex_text_all is_word 4 w glyph_is_word)
word_is_text W32 w = text_of_words (hex_text 8 w) (let l = hex_text_length 8 w in omega arith) (hex_text_all is_word 8 w glyph_is_word)
word_is_text W64 w = text_of_words (hex_text 16 w) (let l = hex_text_length 16 w in omega arith) (hex_text_all is_word 16 w glyph_is_word)

pub word_of_text : (width : Width) (w : ℕ) → Fits width w → hex_of (word_text width w) ≡ Some w
word_of_text W8 w h = hex_of_text 2 w (lit< tt) (omega arith) h
word_of_text W16 w h = hex_of_text 4 w (lit< tt) (omega arith) h
word_of_text W32 w h = hex_of_text 8 w (lit< tt) (omega arith) h
word_of_text W64 w h = hex_of_text 16 w (lit< tt) (omega arith) h

-- ---- spots

point_of : (xs ys : List ℕ) → list_all is_digit xs ≡ true → prefix_len (λ x. not (x == 46)) (xs ++ 46 ∷ ys) ≡ length xs
point_of [] ys h = refl
point_of (x ∷ xs) ys h =
    let m = both (is_digit x) (list_all is_digit xs) h in
    rw (digit_is_no_point x m.0, point_of xs ys m.1) (omega arith)

point_is : (xs ys : List ℕ) → list_all is_digit xs ≡ true → point (xs ++ 46 ∷ ys) ≡ Some (length xs)
point_is xs ys h =
    let p = point_of xs ys h in
    let l : length (xs ++ 46 ∷ ys) ≡ length xs + suc (length ys) = length-append xs (46 ∷ ys) in
    let t : nat_lt (length xs) (length (xs ++ 46 ∷ ys)) ≡ true = grind (arith, nat_tests) in
    rw (p, t) refl

pair_of : (xs ys : List ℕ) (a b : ℕ) → list_all is_digit xs ≡ true → number_of xs ≡ Some a → number_of ys ≡ Some b → spot_of (xs ++ 46 ∷ ys) ≡ Some (a, b)
unfolding spot_of
pair_of xs ys a b h na nb =
    let first : take (length xs) (xs ++ 46 ∷ ys) ≡ xs = take-append_seam xs (46 ∷ ys) in
    let second : drop (length xs + 1) (xs ++ 46 ∷ ys) ≡ ys = drop-append-add xs (46 ∷ ys) 1 in
    ap (parts (xs ++ 46 ∷ ys)) (point_is xs ys h) ∙ ap (λ (t : List ℕ). both_numbers (number_of t) (number_of (drop (length xs + 1) (xs ++ 46 ∷ ys)))) first ∙ ap (λ (t : List ℕ). both_numbers (number_of xs) (number_of t)) second ∙ ap (λ (o : Option ℕ). both_numbers o (number_of ys)) na ∙ ap (both_numbers (Some a)) nb

spot_of_text : (a b : ℕ) → a < 2 ^ 32 → b < 2 ^ 32 → spot_of (decimal a ++ 46 ∷ decimal b) ≡ Some (a, b)
spot_of_text a b la lb = pair_of (decimal a) (decimal b) a b (text_digits a (wide a la)) (number_of_text a la) (number_of_text b lb)

plain_spot : Spot → List ℕ
plain_spot s = decimal s.word ++ 46 ∷ decimal s.bit

spot_plain : (s : Spot) → spot_text s ≡ plain_spot s
unfolding plain_spot
spot_plain s = append_assoc (decimal s.word) (codes ".") (decimal s.bit)

plain_is_text : (s : Spot) → s.word < 2 ^ 32 → s.bit < 2 ^ 32 → is_text (plain_spot s) ≡ true
unfolding plain_spot
plain_is_text s la lb =
    text_of_words (plain_spot s) (let l : length (decimal s.word ++ 46 ∷ decimal s.bit) ≡ length (decimal s.word) + length (46 ∷ decimal s.bit) = length-append (decimal s.word) (46 ∷ decimal s.bit) in let m = decimal_nonempty s.word (wide s.word la) in omega arith)
    (all_append is_word (decimal s.word) (46 ∷ decimal s.bit) (decimal_words s.word la) (decimal_words s.bit lb))

pub spot_is_text : (s : Spot) → s.word < 2 ^ 32 → s.bit < 2 ^ 32 → is_text (spot_text s) ≡ true
spot_is_text s la lb = ap is_text (spot_plain s) ∙ plain_is_text s la lb

spot_of_spot : (s : Spot) → s.word < 2 ^ 32 → s.bit < 2 ^ 32 → spot_of (spot_text s) ≡ Some (s.word, s.bit)
unfolding plain_spot
spot_of_spot s la lb = ap spot_of (spot_plain s) ∙ spot_of_text s.word s.bit la lb

-- ---- in their places

pub num_reads : (shape : Shape) (n : ℕ) → IsNumber n → Reads shape Num (decimal n) n
unfolding value_at
num_reads shape n lt = record { place = rw (text_begins_word n (wide n lt), number_of_text n lt) refl }

pub addr_reads : (shape : Shape) (n : ℕ) → IsWithinLimits shape → n < shape.ram → Reads shape Addr (decimal n) n
unfolding value_at
addr_reads shape n w lt =
    let small : n < 2 ^ 32 = (let l = w.ram in omega arith) in
    let t : nat_lt n shape.ram ≡ true = grind (arith, nat_tests) in
    record { place = rw (text_begins_word n (wide n small), number_of_text n small, t) refl }

pub flash_reads : (shape : Shape) (n : ℕ) → IsWithinLimits shape → n < shape.flash → Reads shape FlashAddr (decimal n) n
unfolding value_at
flash_reads shape n w lt =
    let small : n < 2 ^ 32 = (let l = w.flash in omega arith) in
    let t : nat_lt n shape.flash ≡ true = grind (arith, nat_tests) in
    record { place = rw (text_begins_word n (wide n small), number_of_text n small, t) refl }

pub other_reads : (shape : Shape) (a n : ℕ) → IsWithinLimits shape → n < shape.ram → a ≢ n → Reads shape (OtherAddr a) (decimal n) n
unfolding value_at
other_reads shape a n w lt ne =
    let small : n < 2 ^ 32 = (let l = w.ram in omega arith) in
    let t : nat_lt n shape.ram ≡ true = grind (arith, nat_tests) in
    let u : (n == a) ≡ false = grind (arith, nat_tests) in
    record { place = rw (text_begins_word n (wide n small), number_of_text n small, t, u) refl }

pub data_reads : (shape : Shape) (x : ℕ) → Fits shape.width x → Reads shape Data (word_text shape.width x) x
unfolding value_at
data_reads shape x h =
    let t : nat_lt x (2 ^ width_bits shape.width) ≡ true = grind (arith, nat_tests) in
    record { place = rw (begins_of_text (word_text shape.width x) (word_is_text shape.width x), word_of_text shape.width x h, t) refl }

-- digits that spell a word begin a word of the line
hex_is_word : (b : ℕ) → is_hex b ≡ true → is_word b ≡ true
hex_is_word b h =
    elim (or_cases (is_digit b) ((nat_le 97 b && nat_le b 102) || (nat_le 65 b && nat_le b 70)) h) [
      | inl digit ↦ digit_is_word b digit
      | inr letter ↦ elim (or_cases (nat_le 97 b && nat_le b 102) (nat_le 65 b && nat_le b 70) letter) [
        | inl small ↦ (let m = both (nat_le 97 b) (nat_le b 102) small in grind (arith, nat_tests))
        | inr large ↦ (let m = both (nat_le 65 b) (nat_le b 70) large in grind (arith, nat_tests))
      ]
    ]

-- where something is spelled, each byte is a digit
third : (a b c : Bool) (o : Option ℕ) (x : ℕ) → (if a then None else (if b then None else (if not c then None else o))) ≡ Some x → c ≡ true
third true b c o x h = absurd cc
third false true c o x h = absurd cc
third false false true o x h = refl
third false false false o x h = absurd cc

spelled_begins : (bytes : List ℕ) (x : ℕ) → hex_of bytes ≡ Some x → begins_word bytes ≡ true
unfolding hex_of
spelled_begins [] x h = absurd cc
spelled_begins (b ∷ bs) x h =
    let digits = third (length (b ∷ bs) == 0) (nat_lt 16 (length (b ∷ bs))) (list_all is_hex (b ∷ bs)) (Some (hex 0 (b ∷ bs))) x h in
    hex_is_word b (both (is_hex b) (list_all is_hex bs) digits).0

-- a word in any digits that spell it
pub written_reads : (shape : Shape) (write : ℕ → List ℕ) → IsWriting shape.width write → (x : ℕ) → Fits shape.width x → Reads shape Data (write x) x
unfolding value_at
written_reads shape write writes x h =
    let t : nat_lt x (2 ^ width_bits shape.width) ≡ true = grind (arith, nat_tests) in
    record { place = rw (spelled_begins (write x) x (writes x h), writes x h, t) refl }

pub canonical_writes : (width : Width) → IsWriting width (word_text width)
canonical_writes width x h = word_of_text width x h

pub bit_number : Bool → ℕ
bit_number true = 1
bit_number false = 0

pub bit_reads : (shape : Shape) (value : Bool) → Reads shape Bit (bit_text value) (bit_number value)
unfolding bit_number value_at
bit_reads shape true = record { place = refl }
bit_reads shape false = record { place = refl }

pub spot_small : (width : Width) (size : ℕ) (s : Spot) → size ≤ 65536 → IsSpot width size s → (s.word < 2 ^ 32) × (s.bit < 2 ^ 32)
spot_small W8 size s l h = let a = h.0 in let b = h.1.0 in (omega arith, omega arith)
spot_small W16 size s l h = let a = h.0 in let b = h.1.0 in (omega arith, omega arith)
spot_small W32 size s l h = let a = h.0 in let b = h.1.0 in (omega arith, omega arith)
spot_small W64 size s l h = let a = h.0 in let b = h.1.0 in (omega arith, omega arith)

pub spot_reads : (shape : Shape) (s : Spot) → IsWithinLimits shape → IsSpot shape.width shape.ram s → ReadsSpot shape RamSpot (spot_text s) s
unfolding spot_at
spot_reads shape s w h =
    let m = spot_small shape.width shape.ram s w.ram h in
    let a = h.0 in
    let b = h.1.0 in
    let t : nat_lt s.word shape.ram ≡ true = grind (arith, nat_tests) in
    let u : nat_lt s.bit (width_bits shape.width) ≡ true = grind (arith, nat_tests) in
    record { place = rw (begins_of_text (spot_text s) (spot_is_text s m.0 m.1), spot_of_spot s m.0 m.1, t, u) refl }

pub other_spot_reads : (shape : Shape) (first : ℕ) (s : Spot) → IsWithinLimits shape → IsSpot shape.width shape.ram s → first ≢ s.word → ReadsSpot shape (OtherSpot first) (spot_text s) s
unfolding spot_at
other_spot_reads shape first s w h ne =
    let m = spot_small shape.width shape.ram s w.ram h in
    let a = h.0 in
    let b = h.1.0 in
    let t : nat_lt s.word shape.ram ≡ true = grind (arith, nat_tests) in
    let u : nat_lt s.bit (width_bits shape.width) ≡ true = grind (arith, nat_tests) in
    let v : (s.word == first) ≡ false = grind (arith, nat_tests) in
    record { place = rw (begins_of_text (spot_text s) (spot_is_text s m.0 m.1), spot_of_spot s m.0 m.1, t, u, v) refl }

pub flash_spot_reads : (shape : Shape) (s : Spot) → IsWithinLimits shape → IsSpot shape.width shape.flash s → ReadsSpot shape FlashSpot (spot_text s) s
unfolding spot_at
flash_spot_reads shape s w h =
    let m = spot_small shape.width shape.flash s w.flash h in
    let a = h.0 in
    let b = h.1.0 in
    let t : nat_lt s.word shape.flash ≡ true = grind (arith, nat_tests) in
    let u : nat_lt s.bit (width_bits shape.width) ≡ true = grind (arith, nat_tests) in
    record { place = rw (begins_of_text (spot_text s) (spot_is_text s m.0 m.1), spot_of_spot s m.0 m.1, t, u) refl }
