-- What the application's operations leave where the memory has no fault.
use Rattle.std.proofs.Common.{◌≡◌, ℕ, ◌+◌, ◌-◌, ◌%◌, ◌^◌, ◌<◌, List, [], ◌∷◌, length, get_or, set, Option, None, refl, ap, ◌∙◌, arith, eq-eqb}
use Rattle.std.proofs.lemmas.List.{get_or-set_same, get_or-set_other, get_or-replicate}
use Rattle.std.proofs.lemmas.Nat.Bits.{bit_at_ones}
use Rattle.mt_word.specs.Word.{width_bits, has_bit}
use Rattle.mt_fault.specs.declared.fault.Fault.{Fault}
use Rattle.mt_fault.specs.History.{Read, Write}
use Rattle.mt_fault.specs.Faulty.{words_after, answer}
use Rattle.mt_port.specs.declared.request.AppOp.{AppOp}
use Rattle.mt_port.specs.declared.request.AppOp.TheVariants as app
use Rattle.mt_port.specs.declared.request.Answer.TheVariants.{Word}
use Rattle.mt_port.specs.Board.{Board, op_words, powered_up}
use Rattle.mt_port.specs.Laws.{IsFaultless, Leaves, ReadsAnswer, WritesLeave, AdditionsLeaveSums, CopiesLeaveTheirSource, FlashReadsAnswer, FlashBeginsErased, ram}

-- what is known of single accesses without a fault
pub record ArePlain : Type 0 where
  pub write : (words : List ℕ) (a x : ℕ) → a < length words → words_after None words (Write a x ∷ []) ≡ set words a x
  pub read : (words : List ℕ) (a : ℕ) → words_after None words (Read a ∷ []) ≡ words
  pub answers : (words : List ℕ) (a : ℕ) → answer None words [] a ≡ get_or words a 0

-- an operation that sets a word, and one that sets none
leaves_set : (b : Board) (op : AppOp) (a x : ℕ) → a < length b.words → op_words b op ≡ set b.words a x → Leaves b op a x
leaves_set b op a x inside e = record {
  here = ap (λ (ws : List ℕ). get_or ws a 0) e ∙ get_or-set_same b.words a x 0 inside;
  others = λ other apart. ap (λ (ws : List ℕ). get_or ws other 0) e ∙ get_or-set_other b.words a other x 0 apart;
}

leaves_all : (b : Board) (op : AppOp) (a : ℕ) → op_words b op ≡ b.words → Leaves b op a (ram b a)
leaves_all b op a e = record {
  here = ap (λ (ws : List ℕ). get_or ws a 0) e;
  others = λ other apart. ap (λ (ws : List ℕ). get_or ws other 0) e;
}

module _ (plain : ArePlain) where
  -- the same accesses under a fault that is none
  writes : (fault : Option Fault) (words : List ℕ) (a x : ℕ) → fault ≡ None → a < length words → words_after fault words (Write a x ∷ []) ≡ set words a x
  writes fault words a x none inside = rw none (plain.write words a x inside)

  reads : (fault : Option Fault) (words : List ℕ) (a : ℕ) → fault ≡ None → words_after fault words (Read a ∷ []) ≡ words
  reads fault words a none = rw none (plain.read words a)

  answers : (fault : Option Fault) (words : List ℕ) (a : ℕ) → fault ≡ None → answer fault words [] a ≡ get_or words a 0
  answers fault words a none = rw none (plain.answers words a)

  -- a write of a word behind a read
  read_and_write : (b : Board) (from to x y : ℕ) → b.fault ≡ None → to < length b.words → x ≡ y
      → words_after b.fault (words_after b.fault b.words (Read from ∷ [])) (Write to x ∷ []) ≡ set b.words to y
  read_and_write b from to x y none inside same =
      ap (λ (ws : List ℕ). words_after b.fault ws (Write to x ∷ [])) (reads b.fault b.words from none)
      ∙ writes b.fault b.words to x none inside
      ∙ ap (λ (w : ℕ). set b.words to w) same

  inside_of : (b : Board) (a : ℕ) → IsFaultless b → a < b.shape.ram → a < length b.words
  inside_of b a known lt = omega (arith, known.sized)

  pub read_answers : ReadsAnswer
  read_answers b a known = record {
    answers = ap (λ (w : ℕ). Word w) (answers b.fault b.words a known.none);
    leaves = leaves_all b (app.Read a) a (reads b.fault b.words a known.none);
  }

  pub write_leaves : WritesLeave
  write_leaves b a x known lt =
      let inside = inside_of b a known lt in
      record { answers = refl; leaves = leaves_set b (app.Write a x) a x inside (writes b.fault b.words a x known.none inside) }

  pub addition_leaves : AdditionsLeaveSums
  addition_leaves b a x known lt =
      let inside = inside_of b a known lt in
      let same = ap (λ (w : ℕ). (w + x) % 2 ^ width_bits b.shape.width) (answers b.fault b.words a known.none) in
      record { answers = ap (λ (w : ℕ). Word w) same; leaves = leaves_set b (app.Add a x) a _ inside (read_and_write b a a _ _ known.none inside same) }

  pub copy_leaves : CopiesLeaveTheirSource
  copy_leaves b src dst known lt =
      let inside = inside_of b dst known lt in
      let same = answers b.fault b.words src known.none in
      record { answers = ap (λ (w : ℕ). Word w) same; leaves = leaves_set b (app.Copy src dst) dst _ inside (read_and_write b src dst _ _ known.none inside same) }

  pub flash_answers : FlashReadsAnswer
  flash_answers b addr known a = record { answers = refl; leaves = leaves_all b (app.Flash addr) a refl }

pub erased : FlashBeginsErased
unfolding powered_up has_bit
erased shape initial defect addr bit inside small =
    ap (λ (w : ℕ). has_bit w bit) (get_or-replicate shape.flash addr (2 ^ width_bits shape.width - 1) 0 inside)
    ∙ eq-eqb _ _ (bit_at_ones (width_bits shape.width) bit small)
