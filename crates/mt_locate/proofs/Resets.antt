-- Words that are written one after another.
use Rattle.std.proofs.Common.{ℕ, ◌+◌, ◌<◌, ◌≤◌, ◌≡◌, List, [], ◌∷◌, ◌++◌, set, drop, length, get_or, replicate, sym, ap, ◌∙◌, arith}
use Rattle.std.proofs.lemmas.List.{append_assoc, drop_more, drop_all, length-append, length-drop, length-replicate, replicate_more, append-nil}
use Rattle.std.proofs.Math.Seq.{set-append_seam}

-- a list with its first words replaced by x
abbrev pub started : List ℕ → ℕ → ℕ → List ℕ
started words x i = replicate i x ++ drop i words

pub length-started : (words : List ℕ) (x i : ℕ) → i ≤ length words → length (started words x i) ≡ length words
length-started words x i h =
    length-append (replicate i x) (drop i words)
    ∙ (let a = length-replicate i x in let b = length-drop i words in omega (arith, a, b, h))

pub started_more : (words : List ℕ) (x i : ℕ) → i < length words → set (started words x i) i x ≡ started words x (i + 1)
started_more words x i h =
    ap (λ (l : List ℕ). set (replicate i x ++ l) i x) (drop_more words i x h)
    ∙ ap (λ (k : ℕ). set (replicate i x ++ get_or words i x ∷ drop (i + 1) words) k x) (sym (length-replicate i x))
    ∙ set-append_seam (replicate i x) (get_or words i x) (drop (i + 1) words) x
    ∙ sym (append_assoc (replicate i x) (x ∷ []) (drop (i + 1) words))
    ∙ ap (λ (l : List ℕ). l ++ drop (i + 1) words) (replicate_more i x)

pub started_all : (words : List ℕ) (x n : ℕ) → length words ≡ n → started words x n ≡ replicate n x
started_all words x n size = ap (λ (l : List ℕ). replicate n x ++ l) (drop_all n words (omega (arith, size))) ∙ append-nil (replicate n x)
