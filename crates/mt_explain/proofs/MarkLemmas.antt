-- Places in a part of a file.
use Rattle.std.proofs.Common.{ℕ, zero, suc, ◌+◌, ◌-◌, ◌≤◌, ◌≡◌, List, [], ◌∷◌, length, map, take, slice_get, unwrap_or, Option, Some, None, Result, Ok, Err, IfSome, IfOk, Bor, refl, sym, ap, ◌∙◌, subst, arith}
use Rattle.std.specs.List.{fold, sum_by}
use Rattle.std.proofs.lemmas.List.{take-map, length-take}
use Rattle.mt_place.specs.declared.mark.Mark.{Mark}
use Rattle.mt_place.specs.declared.note.Note.{Note}
use Rattle.mt_place.specs.Places.{IsIn, byte_count}

-- what references to texts point to
abbrev pub texts : List (Bor (List ℕ)) → List (List ℕ)
texts file = map (λ line. line.now) file

no_longer : (n k : ℕ) (file : List (List ℕ)) → length (unwrap_or (slice_get (take n file) k) []) ≤ length (unwrap_or (slice_get file k) [])
no_longer zero k file = omega arith
no_longer (suc n) k [] = omega arith
no_longer (suc n) zero (line ∷ file) = omega arith
no_longer (suc n) (suc k) (line ∷ file) = no_longer n k file

-- a place in the first lines of a file is one in the file
in_front : (n : ℕ) (file : List (List ℕ)) (mark : Mark) → IsIn (take n file) mark → IsIn file mark
in_front n file mark is =
    let fewer = length-take n file in
    let shorter = no_longer n (mark.line - 1) file in
    (is.0, omega (arith, fewer, is.1), is.2, omega (arith, shorter, is.3))

pub in_head : (n : ℕ) (file part : List (Bor (List ℕ))) (mark : Option Mark) → part ≡ take n file → IfSome mark (IsIn (texts part)) → IfSome mark (IsIn (texts file))
in_head n file part None is marked = marked
in_head n file part (Some mark) is marked =
    in_front n (texts file) mark (subst (λ (l : List (List ℕ)). IsIn l mark) (ap texts is ∙ sym (take-map (λ (line : Bor (List ℕ)). line.now) n file)) marked)

pub noted : {E : Type 0} (n : ℕ) (file part : List (Bor (List ℕ))) (read : Result Note E) → part ≡ take n file
    → IfOk read (λ note. IfSome note.mark (IsIn (texts part))) → IfOk read (λ note. IfSome note.mark (IsIn (texts file)))
noted n file part (Ok note) is marked = in_head n file part note.mark is marked
noted n file part (Err e) is marked = marked

-- how many bytes lines have, by their references
counted_from : (count : ℕ) (file : List (Bor (List ℕ)))
    → fold (λ (sum : ℕ) (line : Bor (List ℕ)). sum + (length line.now + 1)) count file ≡ fold (λ (sum : ℕ) (line : List ℕ). sum + (length line + 1)) count (texts file)
counted_from count [] = refl
counted_from count (line ∷ file) = counted_from (count + (length line.now + 1)) file

pub counted : (file : List (Bor (List ℕ))) → sum_by (λ (line : Bor (List ℕ)). length line.now + 1) file ≡ byte_count (texts file)
counted file = counted_from 0 file
