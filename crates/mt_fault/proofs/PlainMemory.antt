-- Memory without a fault.
use Rattle.std.proofs.Common.{◌≡◌, ℕ, ◌<◌, List, [], ◌∷◌, length, refl, sym, ◌∙◌, None}
use Rattle.std.specs.Prelude.{slice_index, slice_set}
use Rattle.mt_fault.specs.History.{Read, Write}
use Rattle.mt_fault.specs.Faulty.{stored, words_after, answer}
use Rattle.mt_fault.proofs.Steps.{plain_none, plain_set, words_read}

-- no access
pub plain_still : (words : List ℕ) → words_after None words [] ≡ words
unfolding words_after stored
plain_still words = sym (plain_none words)

-- one write
pub plain_write : (words : List ℕ) (a x : ℕ) → a < length words → words_after None words (Write a x ∷ []) ≡ slice_set words a x
unfolding words_after stored
plain_write words a x l = sym (plain_set words a x l)

-- one read
pub plain_read : (words : List ℕ) (a : ℕ) → words_after None words (Read a ∷ []) ≡ words
plain_read words a = words_read None words a [] ∙ plain_still words

-- what a read answers
pub plain_answer : (words : List ℕ) (a : ℕ) → answer None words [] a ≡ slice_index words a
plain_answer words a = refl
