-- Bytes of which some are put in place of others, and the words that they hold.
use Rattle.std.proofs.Common.{◌≡◌, ◌≢◌, ℕ, ◌+◌, ◌-◌, ◌*◌, ◌/◌, ◌^◌, ◌<◌, ◌≤◌, ◌⊎◌, inl, inr, List, [], ◌∷◌, ◌++◌, length, get_or, map, set, take, drop, refl, sym, ◌∙◌, ap, subst, arith, append_assoc, length-append, length-drop, length-set, get_or-set_same, get_or-set_other, replicate}
use Rattle.std.specs.List.{range_with_len, slice_range}
use Rattle.std.specs.Int.{w8, w16, w32, w64, from_le_bytes, to_le_bytes}
use Rattle.std.proofs.lemmas.Bool.{cases_eq, cases_lt}
use Rattle.std.proofs.lemmas.List.{take-append-le, drop-append-le, ext_get_or, length-take-le, take-take, get_or-replicate, length-replicate}
use Rattle.std.proofs.lemmas.Slice.{drop-append-drop}
use Rattle.std.proofs.lemmas.Nat.{from_le_bytes-to_le_bytes_2, from_le_bytes-to_le_bytes_4, from_le_bytes-to_le_bytes_8}
use Rattle.std.proofs.lemmas.List.FromFn.{length-map-range_with_len, get_or-map-range_with_len}
use Rattle.std.proofs.Math.Seq.{take-append_seam, drop-append_seam}
use Rattle.std.proofs.lemmas.List.{drop-take}
use Rattle.mt_word.specs.declared.Width.{Width}
use Rattle.mt_word.specs.declared.Width.TheVariants.{W8, W16, W32, W64}
use Rattle.mt_word.specs.Packed.{width_bytes, bytes_of, word_at, unpacked}

-- a chunk in place of n bytes
abbrev pub spliced : List ℕ → List ℕ → (at n : ℕ) → List ℕ
spliced xs chunk at n = take at xs ++ chunk ++ drop (at + n) xs

-- n bytes from a place on
abbrev pub window : List ℕ → (at n : ℕ) → List ℕ
window xs at n = slice_range xs at (at + n)

window-is : (xs : List ℕ) (at n : ℕ) → window xs at n ≡ take n (drop at xs)
window-is xs at n = let e : at + n - at ≡ n = omega arith in ap (λ k. take k (drop at xs)) e

pub spliced-length : (xs chunk : List ℕ) (at n : ℕ) → length chunk ≡ n → at + n ≤ length xs → length (spliced xs chunk at n) ≡ length xs
spliced-length xs chunk at n e room =
    omega (arith, length-append (take at xs ++ chunk) (drop (at + n) xs), length-append (take at xs) chunk, length-take-le at xs (omega arith), length-drop (at + n) xs)

pub spliced-here : (xs chunk : List ℕ) (at n : ℕ) → length chunk ≡ n → at + n ≤ length xs → window (spliced xs chunk at n) at n ≡ chunk
spliced-here xs chunk at n e room =
    let front : length (take at xs) ≡ at = length-take-le at xs (omega arith) in
    window-is (spliced xs chunk at n) at n
    ∙ ap (λ ys. take n (drop at ys)) (append_assoc (take at xs) chunk (drop (at + n) xs))
    ∙ ap (λ k. take n (drop k (take at xs ++ (chunk ++ drop (at + n) xs)))) (sym front)
    ∙ ap (take n) (drop-append_seam (take at xs) (chunk ++ drop (at + n) xs))
    ∙ ap (λ k. take k (chunk ++ drop (at + n) xs)) (sym e)
    ∙ take-append_seam chunk (drop (at + n) xs)

pub spliced-before : (xs chunk : List ℕ) (at n b : ℕ) → at + n ≤ length xs → b + n ≤ at → window (spliced xs chunk at n) b n ≡ window xs b n
spliced-before xs chunk at n b room before =
    let front : length (take at xs) ≡ at = length-take-le at xs (omega arith) in
    let longer : at ≤ length (take at xs ++ chunk) = omega (arith, length-append (take at xs) chunk) in
    let m : ℕ = at - b in
    let parts : b + m ≡ at = omega arith in
    let rest : length (drop b (take at xs)) ≡ m = omega (arith, length-drop b (take at xs)) in
    window-is (spliced xs chunk at n) b n
    ∙ ap (take n) (drop-append-le b (take at xs ++ chunk) (drop (at + n) xs) (omega arith))
    ∙ ap (λ ys. take n (ys ++ drop (at + n) xs)) (drop-append-le b (take at xs) chunk (omega arith))
    ∙ ap (take n) (append_assoc (drop b (take at xs)) chunk (drop (at + n) xs))
    ∙ take-append-le n (drop b (take at xs)) (chunk ++ drop (at + n) xs) (omega arith)
    ∙ ap (λ k. take n (drop b (take k xs))) (sym parts)
    ∙ ap (take n) (drop-take b m xs)
    ∙ take-take n m (drop b xs) (omega arith)
    ∙ sym (window-is xs b n)

pub spliced-behind : (xs chunk : List ℕ) (at n b : ℕ) → length chunk ≡ n → at + n ≤ length xs → at + n ≤ b → window (spliced xs chunk at n) b n ≡ window xs b n
spliced-behind xs chunk at n b e room behind =
    let whole : length (take at xs ++ chunk) ≡ at + n = omega (arith, length-append (take at xs) chunk, length-take-le at xs (omega arith)) in
    window-is (spliced xs chunk at n) b n
    ∙ ap (take n) (drop-append-drop (at + n) xs (take at xs ++ chunk) b behind whole)
    ∙ sym (window-is xs b n)

-- ---- words

pub length-unpacked : (width : Width) (bytes : List ℕ) → length (unpacked width bytes) ≡ length bytes / width_bytes width
unfolding unpacked
length-unpacked width bytes = length-map-range_with_len (word_at width bytes) 0 (length bytes / width_bytes width)

pub unpacked-at : (width : Width) (bytes : List ℕ) (i : ℕ) → i < length (unpacked width bytes) → get_or (unpacked width bytes) i 0 ≡ word_at width bytes i
unfolding unpacked
unpacked-at width bytes i h =
    let l : i < length bytes / width_bytes width = rw length-map-range_with_len at h in
    get_or-map-range_with_len (word_at width bytes) 0 (length bytes / width_bytes width) i i 0 l (omega arith)

-- the bytes of a word are there where the word is
pub bytes_there : (width : Width) (bytes : List ℕ) (i : ℕ) → i < length (unpacked width bytes) → width_bytes width * i + width_bytes width ≤ length bytes
bytes_there W8 bytes i h = omega (arith, length-unpacked W8 bytes)
bytes_there W16 bytes i h = omega (arith, length-unpacked W16 bytes)
bytes_there W32 bytes i h = omega (arith, length-unpacked W32 bytes)
bytes_there W64 bytes i h = omega (arith, length-unpacked W64 bytes)

pub word_there : (width : Width) (bytes : List ℕ) (i : ℕ) → width_bytes width * i + width_bytes width ≤ length bytes → i < length (unpacked width bytes)
word_there W8 bytes i h = omega (arith, length-unpacked W8 bytes)
word_there W16 bytes i h = omega (arith, length-unpacked W16 bytes)
word_there W32 bytes i h = omega (arith, length-unpacked W32 bytes)
word_there W64 bytes i h = omega (arith, length-unpacked W64 bytes)

-- words of the same bytes are one
same_bytes : (width : Width) (xs ys : List ℕ) (i j : ℕ) → bytes_of width xs i ≡ bytes_of width ys j → word_at width xs i ≡ word_at width ys j
unfolding word_at
same_bytes W8 xs ys i j e = ap (from_le_bytes w8) e
same_bytes W16 xs ys i j e = ap (from_le_bytes w16) e
same_bytes W32 xs ys i j e = ap (from_le_bytes w32) e
same_bytes W64 xs ys i j e = ap (from_le_bytes w64) e

-- two words lie apart
apart : (width : Width) (i k : ℕ) → k ≢ i → (width_bytes width * k + width_bytes width ≤ width_bytes width * i) ⊎ (width_bytes width * i + width_bytes width ≤ width_bytes width * k)
apart width i k h = elim (cases_lt k i) [ inl below ↦ inl (under width k i below) | inr above ↦ inr (under width i k (omega arith)) ]
  where
    under : (w : Width) (m n : ℕ) → m < n → width_bytes w * m + width_bytes w ≤ width_bytes w * n
    under W8 m n l = omega arith
    under W16 m n l = omega arith
    under W32 m n l = omega arith
    under W64 m n l = omega arith

other_bytes : (width : Width) (xs chunk : List ℕ) (i k : ℕ) → length chunk ≡ width_bytes width → width_bytes width * i + width_bytes width ≤ length xs → k ≢ i
    → bytes_of width (spliced xs chunk (width_bytes width * i) (width_bytes width)) k ≡ bytes_of width xs k
other_bytes width xs chunk i k e room h = elim (apart width i k h) [
  | inl before ↦ spliced-before xs chunk (width_bytes width * i) (width_bytes width) (width_bytes width * k) room before
  | inr behind ↦ spliced-behind xs chunk (width_bytes width * i) (width_bytes width) (width_bytes width * k) e room behind
]

-- the words, where the bytes of one are put in place
pub unpacked-spliced : (width : Width) (xs chunk : List ℕ) (i word : ℕ) → length chunk ≡ width_bytes width → width_bytes width * i + width_bytes width ≤ length xs
    → word_at width (spliced xs chunk (width_bytes width * i) (width_bytes width)) i ≡ word
    → unpacked width (spliced xs chunk (width_bytes width * i) (width_bytes width)) ≡ set (unpacked width xs) i word
unpacked-spliced width xs chunk i word e room is =
    let ys : List ℕ = spliced xs chunk (width_bytes width * i) (width_bytes width) in
    let bytes : length ys ≡ length xs = spliced-length xs chunk (width_bytes width * i) (width_bytes width) e room in
    let long : length (unpacked width ys) ≡ length (unpacked width xs) = length-unpacked width ys ∙ ap (λ n. n / width_bytes width) bytes ∙ sym (length-unpacked width xs) in
    let there : i < length (unpacked width xs) = word_there width xs i room in
    ext_get_or 0 _ _ (long ∙ sym (length-set (unpacked width xs) i word)) (λ k h.
    let in_xs : k < length (unpacked width xs) = omega arith in
    unpacked-at width ys k h ∙ elim (cases_eq k i) [
      | inl same ↦ rw same (is ∙ sym (get_or-set_same (unpacked width xs) i word 0 there))
      | inr other ↦ same_bytes width ys xs k k (other_bytes width xs chunk i k e room other) ∙ sym (unpacked-at width xs k in_xs) ∙ sym (get_or-set_other (unpacked width xs) i k word 0 other)
    ])

-- a word is put by its bytes
pub put_w8 : (xs ys : List ℕ) (i word : ℕ) → 1 * i + 1 ≤ length xs → ys ≡ spliced xs (word ∷ []) i 1 → unpacked W8 ys ≡ set (unpacked W8 xs) i word
unfolding word_at
put_w8 xs ys i word room put =
    let e : 1 * i ≡ i = omega arith in
    let at : ys ≡ spliced xs (word ∷ []) (1 * i) 1 = rw e put in
    ap (unpacked W8) at ∙ unpacked-spliced W8 xs (word ∷ []) i word refl room
    (ap (from_le_bytes w8) (spliced-here xs (word ∷ []) (1 * i) 1 refl room))

pub put_w16 : (xs ys chunk : List ℕ) (i word : ℕ) → 2 * i + 2 ≤ length xs → word < 2 ^ 16 → chunk ≡ to_le_bytes w16 word → ys ≡ spliced xs chunk (2 * i) 2
    → unpacked W16 ys ≡ set (unpacked W16 xs) i word
unfolding word_at
put_w16 xs ys chunk i word room fits bytes put =
    let long : length chunk ≡ 2 = ap length bytes in
    ap (unpacked W16) put ∙ unpacked-spliced W16 xs chunk i word long room
    (ap (from_le_bytes w16) (spliced-here xs chunk (2 * i) 2 long room ∙ bytes) ∙ from_le_bytes-to_le_bytes_2 word fits)

pub put_w32 : (xs ys chunk : List ℕ) (i word : ℕ) → 4 * i + 4 ≤ length xs → word < 2 ^ 32 → chunk ≡ to_le_bytes w32 word → ys ≡ spliced xs chunk (4 * i) 4
    → unpacked W32 ys ≡ set (unpacked W32 xs) i word
unfolding word_at
put_w32 xs ys chunk i word room fits bytes put =
    let long : length chunk ≡ 4 = ap length bytes in
    ap (unpacked W32) put ∙ unpacked-spliced W32 xs chunk i word long room
    (ap (from_le_bytes w32) (spliced-here xs chunk (4 * i) 4 long room ∙ bytes) ∙ from_le_bytes-to_le_bytes_4 word fits)

pub put_w64 : (xs ys chunk : List ℕ) (i word : ℕ) → 8 * i + 8 ≤ length xs → word < 2 ^ 64 → chunk ≡ to_le_bytes w64 word → ys ≡ spliced xs chunk (8 * i) 8
    → unpacked W64 ys ≡ set (unpacked W64 xs) i word
unfolding word_at
put_w64 xs ys chunk i word room fits bytes put =
    let long : length chunk ≡ 8 = ap length bytes in
    ap (unpacked W64) put ∙ unpacked-spliced W64 xs chunk i word long room
    (ap (from_le_bytes w64) (spliced-here xs chunk (8 * i) 8 long room ∙ bytes) ∙ from_le_bytes-to_le_bytes_8 word fits)

-- words that are all one word
pub all_one : (xs : List ℕ) (count word : ℕ) → length xs ≡ count → ((k : ℕ) → k < count → get_or xs k 0 ≡ word) → xs ≡ replicate count word
all_one xs count word long all =
    ext_get_or 0 _ _ (long ∙ sym (length-replicate count word)) (λ k h.
    let below : k < count = omega arith in
    all k below ∙ sym (get_or-replicate count k word 0 below))

-- how many words some bytes hold
pub length-fresh : (width : Width) (bytes : List ℕ) (count : ℕ) → length bytes ≡ width_bytes width * count → length (unpacked width bytes) ≡ count
length-fresh W8 bytes count e = omega (arith, length-unpacked W8 bytes)
length-fresh W16 bytes count e = omega (arith, length-unpacked W16 bytes)
length-fresh W32 bytes count e = omega (arith, length-unpacked W32 bytes)
length-fresh W64 bytes count e = omega (arith, length-unpacked W64 bytes)
