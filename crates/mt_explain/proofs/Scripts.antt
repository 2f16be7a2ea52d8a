-- The lines of a script are those of the file behind its configuration.
use Rattle.std.proofs.Common.{ℕ, suc, ◌+◌, ◌≡◌, ◌==◌, Bool, true, false, not, cond, List, [], ◌∷◌, ◌++◌, drop, refl, sym, ap, ◌∙◌, subst, arith}
use Rattle.std.specs.List.{onto_first, position_or_len}
use Rattle.mt_verify.specs.Lines.{lines}
use Rattle.mt_replay.specs.Input.{Cut, cut, led, begun, Finished, Job, Parted, Whole, separator, preceded_by, parted, parted_at_end, job_of}
use Rattle.mt_explain.specs.Lines.{is_separator, head_len, with_last, ScriptsFollowHeads}

pub with_last-cons : (first : List ℕ) (whole : List (List ℕ)) (rest : List ℕ) → with_last (first ∷ whole) rest ≡ first ∷ with_last whole rest
with_last-cons first whole [] = refl
with_last-cons first whole (byte ∷ rest) = refl

-- ---- the lines of a file are its whole lines, and what is left

onto : (byte : ℕ) (whole : List (List ℕ)) (rest : List ℕ) → onto_first byte (with_last whole rest) ≡ with_last (begun byte whole rest).lines (begun byte whole rest).rest
onto byte [] [] = refl
onto byte [] (next ∷ rest) = refl
onto byte (first ∷ whole) rest = ap (onto_first byte) (with_last-cons first whole rest) ∙ sym (with_last-cons (byte ∷ first) whole rest)

by_feed : (byte : ℕ) (feed : Bool) (k : Cut) → cond feed ([] ∷ with_last k.lines k.rest) (onto_first byte (with_last k.lines k.rest))
    ≡ with_last (cond feed (led [] k) (begun byte k.lines k.rest)).lines (cond feed (led [] k) (begun byte k.lines k.rest)).rest
by_feed byte true k = sym (with_last-cons [] k.lines k.rest)
by_feed byte false k = onto byte k.lines k.rest

pub lines-cut : (bytes : List ℕ) → lines bytes ≡ with_last (cut bytes).lines (cut bytes).rest
unfolding lines
lines-cut [] = refl
lines-cut (byte ∷ bytes) =
    ap (λ (l : List (List ℕ)). cond (byte == 10) ([] ∷ l) (onto_first byte l)) (lines-cut bytes) ∙ by_feed byte (byte == 10) (cut bytes)

-- ---- the first separator parts a file

-- what is behind the head of a file
abbrev behind : List (List ℕ) → List (List ℕ)
behind file = drop (head_len file) file

behind-separator : (first : List ℕ) (file : List (List ℕ)) → is_separator first ≡ true → behind (first ∷ file) ≡ file
behind-separator first file is =
    ap (λ (b : Bool). drop (cond (not b) (1 + position_or_len is_separator file) 0 + 1) (first ∷ file)) is

behind-other : (first : List ℕ) (file : List (List ℕ)) → is_separator first ≡ false → behind (first ∷ file) ≡ behind file
behind-other first file is =
    let n = position_or_len is_separator file in
    let next : 1 + n + 1 ≡ suc (n + 1) = omega arith in
    ap (λ (b : Bool). drop (cond (not b) (1 + n) 0 + 1) (first ∷ file)) is ∙ ap (λ (k : ℕ). drop k (first ∷ file)) next

-- a job is parted, and the script's lines are these
abbrev Stands : Job → List (List ℕ) → Type 0
Stands (Parted config script) file = behind file ≡ with_last script.lines script.rest
Stands (Whole bytes) file = Unit {0}

after_line : (front first : List ℕ) (job : Job) (file : List (List ℕ)) → is_separator first ≡ false → Stands job file → Stands (preceded_by front job) (first ∷ file)
after_line front first (Parted config script) file other stands = behind-other first file other ∙ stands
after_line front first (Whole bytes) file other stands = tt

at_end : (rest : List ℕ) (is : Bool) → is_separator rest ≡ is → Stands (cond is (Parted [] (record { lines = []; rest = [] })) (Whole rest)) (rest ∷ [])
at_end rest true is = behind-separator rest [] is
at_end rest false other = tt

at_line : (first : List ℕ) (more : List (List ℕ)) (rest : List ℕ) (is : Bool) → is_separator first ≡ is → Stands (parted Finished more rest) (with_last more rest)
    → Stands (cond is (Parted [] (record { lines = more; rest = rest })) (preceded_by (first ++ 10 ∷ []) (parted Finished more rest))) (first ∷ with_last more rest)
at_line first more rest true is stands = behind-separator first (with_last more rest) is
at_line first more rest false other stands = after_line (first ++ 10 ∷ []) first (parted Finished more rest) (with_last more rest) other stands

stands : (whole : List (List ℕ)) (rest : List ℕ) → Stands (parted Finished whole rest) (with_last whole rest)
stands [] [] = tt
stands [] (byte ∷ rest) = at_end (byte ∷ rest) (is_separator (byte ∷ rest)) refl
stands (first ∷ more) rest =
    subst (Stands (parted Finished (first ∷ more) rest)) (sym (with_last-cons first more rest)) (at_line first more rest (is_separator first) refl (stands more rest))

pub scripts_stand : ScriptsFollowHeads
scripts_stand bytes config script e =
    ap behind (lines-cut bytes) ∙ subst (λ (job : Job). Stands job (with_last (cut bytes).lines (cut bytes).rest)) e (stands (cut bytes).lines (cut bytes).rest)
