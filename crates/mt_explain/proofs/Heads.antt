-- What stands in a file before the separator is the configuration.
use Rattle.std.proofs.Common.{ℕ, suc, ◌+◌, ◌-◌, ◌≡◌, ◌==◌, T, eqb→eq, Bool, true, false, not, cond, List, [], ◌∷◌, ◌++◌, length, take, refl, sym, ap, ap₂, ◌∙◌, subst, arith}
use Rattle.std.specs.List.{position_or_len}
use Rattle.std.proofs.lemmas.List.{append_assoc}
use Rattle.std.proofs.lemmas.List.Sums.{sum_by-cons}
use Rattle.mt_verify.specs.Lines.{lines}
use Rattle.mt_place.specs.Places.{byte_count}
use Rattle.mt_replay.specs.Input.{Cut, cut, led, begun, Finished, Job, Parted, Whole, preceded_by, parted}
use Rattle.mt_explain.specs.Lines.{is_separator, head_len, with_last, HeadsAreConfigurations}
use Rattle.mt_explain.proofs.Scripts.{with_last-cons, lines-cut}

-- ---- the bytes of a file are its whole lines, with a line feed after each, and what is left

abbrev joined : List (List ℕ) → List ℕ → List ℕ
joined [] rest = rest
joined (line ∷ more) rest = line ++ 10 ∷ joined more rest

begun_joined : (byte : ℕ) (whole : List (List ℕ)) (rest : List ℕ) → byte ∷ joined whole rest ≡ joined (begun byte whole rest).lines (begun byte whole rest).rest
begun_joined byte [] rest = refl
begun_joined byte (line ∷ more) rest = refl

by_feed : (byte : ℕ) (feed : Bool) (k : Cut) → (byte == 10) ≡ feed
    → byte ∷ joined k.lines k.rest ≡ joined (cond feed (led [] k) (begun byte k.lines k.rest)).lines (cond feed (led [] k) (begun byte k.lines k.rest)).rest
by_feed byte true k is = ap (λ (b : ℕ). b ∷ joined k.lines k.rest) (eqb→eq byte 10 (subst T (sym is) tt))
by_feed byte false k is = begun_joined byte k.lines k.rest

bytes-cut : (bytes : List ℕ) → bytes ≡ joined (cut bytes).lines (cut bytes).rest
bytes-cut [] = refl
bytes-cut (byte ∷ bytes) = ap (λ (l : List ℕ). byte ∷ l) (bytes-cut bytes) ∙ by_feed byte (byte == 10) (cut bytes) refl

-- ---- the first separator ends the configuration

-- the lines before the first separator
abbrev before : List (List ℕ) → List (List ℕ)
before file = take (position_or_len is_separator file) file

before-separator : (line : List ℕ) (file : List (List ℕ)) → is_separator line ≡ true → before (line ∷ file) ≡ []
before-separator line file is = ap (λ (b : Bool). take (cond (not b) (1 + position_or_len is_separator file) 0) (line ∷ file)) is

before-other : (line : List ℕ) (file : List (List ℕ)) → is_separator line ≡ false → before (line ∷ file) ≡ line ∷ before file
before-other line file is =
    let next : 1 + position_or_len is_separator file ≡ suc (position_or_len is_separator file) = omega arith in
    ap (λ (b : Bool). take (cond (not b) (1 + position_or_len is_separator file) 0) (line ∷ file)) is
    ∙ ap (λ (n : ℕ). take n (line ∷ file)) next

abbrev front_of : List (List ℕ) → List ℕ → List ℕ
front_of file bytes = take (byte_count (before file)) bytes

take_beyond : (front rest : List ℕ) (n : ℕ) → take (length front + n) (front ++ rest) ≡ front ++ take n rest
take_beyond [] rest n = ap (λ (k : ℕ). take k rest) (let same : 0 + n ≡ n = omega arith in same)
take_beyond (b ∷ front) rest n =
    ap (λ (k : ℕ). take k (b ∷ (front ++ rest))) (let same : suc (length front) + n ≡ suc (length front + n) = omega arith in same)
    ∙ ap (λ (l : List ℕ). b ∷ l) (take_beyond front rest n)

front-separator : (line : List ℕ) (file : List (List ℕ)) (bytes : List ℕ) → is_separator line ≡ true → front_of (line ∷ file) bytes ≡ []
front-separator line file bytes is = ap (λ (l : List (List ℕ)). take (byte_count l) bytes) (before-separator line file is)

front-other : (line : List ℕ) (file : List (List ℕ)) (bytes : List ℕ) → is_separator line ≡ false
    → front_of (line ∷ file) (line ++ 10 ∷ bytes) ≡ (line ++ 10 ∷ []) ++ front_of file bytes
front-other line file bytes is =
    let count : byte_count (line ∷ before file) ≡ length line + suc (byte_count (before file)) =
    sum_by-cons (λ (l : List ℕ). length l + 1) line (before file) ∙ (let same : length line + 1 + byte_count (before file) ≡ length line + suc (byte_count (before file)) = omega arith in same) in
    ap (λ (l : List (List ℕ)). take (byte_count l) (line ++ 10 ∷ bytes)) (before-other line file is)
    ∙ ap (λ (n : ℕ). take n (line ++ 10 ∷ bytes)) count
    ∙ take_beyond line (10 ∷ bytes) (suc (byte_count (before file)))
    ∙ sym (append_assoc line (10 ∷ []) (front_of file bytes))

-- a job is parted, and the configuration is this
abbrev Holds : Job → List (List ℕ) → List ℕ → Type 0
Holds (Parted config script) file bytes = front_of file bytes ≡ config
Holds (Whole left) file bytes = Unit {0}

after_line : (line : List ℕ) (job : Job) (file : List (List ℕ)) (bytes : List ℕ) → is_separator line ≡ false → Holds job file bytes
    → Holds (preceded_by (line ++ 10 ∷ []) job) (line ∷ file) (line ++ 10 ∷ bytes)
after_line line (Parted config script) file bytes other holds = front-other line file bytes other ∙ ap (λ (l : List ℕ). (line ++ 10 ∷ []) ++ l) holds
after_line line (Whole left) file bytes other holds = tt

at_end : (rest : List ℕ) (is : Bool) → is_separator rest ≡ is → Holds (cond is (Parted [] (record { lines = []; rest = [] })) (Whole rest)) (rest ∷ []) rest
at_end rest true is = front-separator rest [] rest is
at_end rest false other = tt

at_line : (line : List ℕ) (more : List (List ℕ)) (rest : List ℕ) (is : Bool) → is_separator line ≡ is → Holds (parted Finished more rest) (with_last more rest) (joined more rest)
    → Holds (cond is (Parted [] (record { lines = more; rest = rest })) (preceded_by (line ++ 10 ∷ []) (parted Finished more rest))) (line ∷ with_last more rest) (joined (line ∷ more) rest)
at_line line more rest true is holds = front-separator line (with_last more rest) (joined (line ∷ more) rest) is
at_line line more rest false other holds = after_line line (parted Finished more rest) (with_last more rest) (joined more rest) other holds

holds : (whole : List (List ℕ)) (rest : List ℕ) → Holds (parted Finished whole rest) (with_last whole rest) (joined whole rest)
holds [] [] = tt
holds [] (byte ∷ rest) = at_end (byte ∷ rest) (is_separator (byte ∷ rest)) refl
holds (line ∷ more) rest =
    subst (λ (file : List (List ℕ)). Holds (parted Finished (line ∷ more) rest) file (joined (line ∷ more) rest)) (sym (with_last-cons line more rest))
    (at_line line more rest (is_separator line) refl (holds more rest))

pub heads_stand : HeadsAreConfigurations
heads_stand bytes config script e =
    let one : head_len (lines bytes) - 1 ≡ position_or_len is_separator (lines bytes) = omega arith in
    ap (λ (n : ℕ). take (byte_count (take n (lines bytes))) bytes) one
    ∙ ap₂ front_of (lines-cut bytes) (bytes-cut bytes)
    ∙ subst (λ (job : Job). Holds job (with_last (cut bytes).lines (cut bytes).rest) (joined (cut bytes).lines (cut bytes).rest)) e (holds (cut bytes).lines (cut bytes).rest)
