-- What is read is accepted.
use Rattle.std.proofs.Common.{◌≡◌, ◌≢◌, ℕ, ◌<◌, ◌≤◌, ◌^◌, ◌==◌, ◌||◌, nat_lt, nat_le, not, Bool, true, false, cond, List, length, drop, Option, Some, None, Ok, refl, ap, subst, inl, inr, arith}
use Rattle.std.specs.List.{list_all}
use Rattle.std.proofs.lemmas.Bool.{cases_Bool}
use Rattle.std.proofs.lemmas.Bool.Decides.{nat_tests}
use Rattle.std.specs.Str.{bytes_eq}
use Rattle.mt_word.specs.Word.{width_bits, Fits}
use Rattle.mt_fault.specs.declared.fault.Spot.{Spot}
use Rattle.mt_fault.specs.Placement.{IsSpot}
use Rattle.mt_port.specs.declared.board.Shape.{Shape}
use Rattle.mt_text.specs.declared.request.Mark.{Mark}
use Rattle.mt_hex.specs.Hex.{is_digit}
use Rattle.mt_text.specs.Tokens.{number_of, decimal, has_leading_zero}
use Rattle.mt_text.specs.Values.{Slot, Num, Addr, FlashAddr, OtherAddr, Data, Bit, SpotSlot, RamSpot, OtherSpot, FlashSpot, spelled_in, is_outside, is_too_wide, is_first_address, value_rules, size_of, is_first_word, spot_in, spot_rules, begins_urgent, mark_in, mark_rules, value_at, spot_at, mark_at}
use Rattle.mt_text.specs.Forms.{Form, done, none, row, barred, value, spot, mark, step, mapped}
use Rattle.mt_text.specs.Accepted.{IsNumber}
use Rattle.mt_text.proofs.Judging.{judged_ok, passed, after_option_map, after_mapped}

-- what is known of the number in a place
abbrev pub IsIn : Shape → Slot → ℕ → Type 0
IsIn shape Num n = IsNumber n
IsIn shape Addr n = n < shape.ram
IsIn shape FlashAddr n = n < shape.flash
IsIn shape (OtherAddr a) n = (n < shape.ram) × (a ≢ n)
IsIn shape Data n = Fits shape.width n
IsIn shape Bit n = Unit {0}

abbrev pub IsSpotIn : Shape → SpotSlot → Spot → Type 0
IsSpotIn shape RamSpot s = IsSpot shape.width shape.ram s
IsSpotIn shape (OtherSpot a) s = IsSpot shape.width shape.ram s × (a ≢ s.word)
IsSpotIn shape FlashSpot s = IsSpot shape.width shape.flash s

abbrev pub IsMark : ℕ → ℕ → ℕ → Type 0
IsMark last count n = IsNumber n × (last ≤ n) × (count < 16)

-- P holds of every value of the form
abbrev pub Every : {X : Type 0} → Shape → (X → Type 0) → Form X → Type 0
Every shape P (done x) = P x
Every shape P none = Unit {0}
Every shape P (row word form more) = Every shape P form × Every shape P more
Every shape P (barred word kind form more) = Every shape P more
Every shape P (value slot form) = (n : ℕ) → IsIn shape slot n → Every shape P (form n)
Every shape P (spot slot form) = (s : Spot) → IsSpotIn shape slot s → Every shape P (form s)
Every shape P (mark last count form) = (k : Mark) → IsMark last count k.offset → Every shape P (form k)

pub every_mapped : {X Y : Type 0} (shape : Shape) (P : Y → Type 0) (f : X → Y) (F : Form X) → Every shape (λ x. P (f x)) F → Every shape P (mapped f F)
every_mapped shape P f (done x) h = h
every_mapped shape P f none h = tt
every_mapped shape P f (row w g k) h = (every_mapped shape P f g h.0, every_mapped shape P f k h.1)
every_mapped shape P f (barred w b g k) h = every_mapped shape P f k h
every_mapped shape P f (value s g) h = λ n i. every_mapped shape P f (g n) (h n i)
every_mapped shape P f (spot s g) h = λ n i. every_mapped shape P f (g n) (h n i)
every_mapped shape P f (mark l c g) h = λ n i. every_mapped shape P f (g n) (h n i)

-- ---- what a token in its place tells

kept_if : {A : Type 0} (b : Bool) (o : Option A) (x : A) → cond b None o ≡ Some x → o ≡ Some x
kept_if true o x h = absurd cc
kept_if false o x h = h

small_if : (k n : ℕ) → cond (nat_lt k (2 ^ 32)) (Some k) None ≡ Some n → n < 2 ^ 32
small_if k n h =
    (elim (cases_Bool (nat_lt k (2 ^ 32))) [
      | inl e ↦ let q = rw e at h in let same : k ≡ n = cc in grind (arith, nat_tests)
      | inr e ↦ absurd (let q = rw e at h in cc)
    ])

pub number_small : (bytes : List ℕ) (n : ℕ) → number_of bytes ≡ Some n → IsNumber n
unfolding number_of
number_small bytes n h = small_if (decimal 0 bytes) n (kept_if (nat_lt 10 (length bytes)) _ n (kept_if (not (list_all is_digit bytes)) _ n (kept_if (has_leading_zero bytes) _ n h)))

below : (n m : ℕ) → not (nat_lt n m) ≡ false → n < m
below n m h = grind (arith, nat_tests)

other : (n a : ℕ) → (n == a) ≡ false → a ≢ n
other n a h = grind (arith, nat_tests)

-- what is spelled, and passes the tests of its place
in_slot : (shape : Shape) (slot : Slot) (bytes : List ℕ) (n : ℕ) → spelled_in slot bytes ≡ Some n → is_outside shape slot n ≡ false → is_too_wide shape slot n ≡ false → is_first_address slot n ≡ false → IsIn shape slot n
in_slot shape Num bytes n s o w f = number_small bytes n s
in_slot shape Addr bytes n s o w f = below n shape.ram o
in_slot shape FlashAddr bytes n s o w f = below n shape.flash o
in_slot shape (OtherAddr a) bytes n s o w f = (below n shape.ram o, other n a f)
in_slot shape Data bytes n s o w f = below n (2 ^ width_bits shape.width) w
in_slot shape Bit bytes n s o w f = tt

value_in : (shape : Shape) (slot : Slot) (bytes : List ℕ) (n : ℕ) → value_at shape slot bytes ≡ Ok n → IsIn shape slot n
unfolding value_at
value_in shape slot bytes n h =
    let m = judged_ok (value_rules shape slot bytes) (spelled_in slot bytes) n h in
    in_slot shape slot bytes n m.1 (passed (is_outside shape slot) (spelled_in slot bytes) n (assumption m) m.1) (passed (is_too_wide shape slot) (spelled_in slot bytes) n (assumption m) m.1)
    (passed (is_first_address slot) (spelled_in slot bytes) n (assumption m) m.1)

in_memory : (shape : Shape) (slot : SpotSlot) (s : Spot) → s.word < size_of shape slot → s.bit < width_bits shape.width → is_first_word slot s.word ≡ false → IsSpotIn shape slot s
in_memory shape RamSpot s w b f = (w, (b, tt))
in_memory shape (OtherSpot a) s w b f = ((w, (b, tt)), other s.word a f)
in_memory shape FlashSpot s w b f = (w, (b, tt))

neither : (a b : Bool) → (a || b) ≡ false → (a ≡ false) × (b ≡ false)
neither true b h = absurd cc
neither false b h = (refl, h)

spot_is_in : (shape : Shape) (slot : SpotSlot) (bytes : List ℕ) (s : Spot) → spot_at shape slot bytes ≡ Ok s → IsSpotIn shape slot s
unfolding spot_at
spot_is_in shape slot bytes s h =
    let m = judged_ok (spot_rules shape slot bytes) (spot_in bytes) s h in
    let inside = passed (λ (t : Spot). not (nat_lt t.word (size_of shape slot))) (spot_in bytes) s (assumption m) m.1 in
    let tests = neither (not (nat_lt s.bit (width_bits shape.width))) (is_first_word slot s.word)
    (passed (λ (t : Spot). not (nat_lt t.bit (width_bits shape.width)) || is_first_word slot t.word) (spot_in bytes) s (assumption m) m.1) in
    in_memory shape slot s (below s.word (size_of shape slot) inside) (below s.bit (width_bits shape.width) tests.0) tests.1

pub mark_is_in : (last count : ℕ) (bytes : List ℕ) (k : Mark) → mark_at last count bytes ≡ Ok k → IsMark last count k.offset
unfolding mark_at
mark_is_in last count bytes k h =
    let m = judged_ok (mark_rules last count bytes) (mark_in bytes) k h in
    let n = after_option_map (λ (n : ℕ). record { offset = n; urgent = begins_urgent bytes }) (number_of (drop 1 bytes)) k m.1 in
    let same : n.0 ≡ k.offset = ap (λ (x : Mark). x.offset) n.2 in
    let rises : nat_lt k.offset last ≡ false = passed (λ (j : Mark). nat_lt j.offset last) (mark_in bytes) k (assumption m) m.1 in
    let room : nat_le 16 count ≡ false = assumption m in
    (subst (λ (x : ℕ). IsNumber x) same (number_small (drop 1 bytes) n.0 n.1), grind (arith, nat_tests), grind (arith, nat_tests))

-- a step keeps what holds of every value
pub every_step : {X : Type 0} (shape : Shape) (P : X → Type 0) (F : Form X) (bytes : List ℕ) (G : Form X) → Every shape P F → step shape F bytes ≡ Ok G → Every shape P G
every_step shape P (done x) bytes G h k = absurd cc
every_step shape P none bytes G h k = absurd cc
every_step {X} shape P (row w g more) bytes G h k =
    elim (cases_Bool (bytes_eq bytes w)) [
      | inl e ↦ let q = rw e at k in let same : g ≡ G = cc in subst (λ (x : Form X). Every shape P x) same h.0
      | inr e ↦ every_step shape P more bytes G h.1 (rw e at k)
    ]
every_step shape P (barred w b g more) bytes G h k =
    elim (cases_Bool (bytes_eq bytes w)) [
      | inl e ↦ absurd (let q = rw e at k in cc)
      | inr e ↦ every_step shape P more bytes G h (rw e at k)
    ]
every_step {X} shape P (value slot form) bytes G h k =
    let m = after_mapped form (value_at shape slot bytes) G k in subst (λ (x : Form X). Every shape P x) m.2 (h m.0 (value_in shape slot bytes m.0 m.1))
every_step {X} shape P (spot slot form) bytes G h k =
    let m = after_mapped form (spot_at shape slot bytes) G k in subst (λ (x : Form X). Every shape P x) m.2 (h m.0 (spot_is_in shape slot bytes m.0 m.1))
every_step {X} shape P (mark last count form) bytes G h k =
    let m = after_mapped form (mark_at last count bytes) G k in subst (λ (x : Form X). Every shape P x) m.2 (h m.0 (mark_is_in last count bytes m.0 m.1))
