use Rattle.std.proofs.Common.{ℕ, ◌≡◌, ◌<◌, length, get_or}
use Rattle.mt_word.specs.Word.{Fits}
use Rattle.mt_word.proofs.packed.Words.filled.Given as goal

abbrev pub invariant-loop-at : goal.invariant-loop-at
invariant-loop-at l = record {
  width : l.words.width ≡ l.fn.width;
  long : length l.words.words ≡ l.count;
  word : Fits l.fn.width l.word;
  set : (k : ℕ) → k < l.at → get_or l.words.words k 0 ≡ l.word;
}
