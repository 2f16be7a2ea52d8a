use Rattle.std.proofs.Common.{ℕ, ◌<◌, ◌≤◌, get_or}
use Rattle.std.specs.Prelude.{All}
use Rattle.mt_word.specs.Word.{Fits}
use Rattle.mt_engine.proofs.test.all_fit.Given as goal

abbrev pub invariant-loop-word : goal.invariant-loop-word
invariant-loop-word l = ((k : ℕ) → k < l.word-index → get_or l.words k 0 ≤ l.joined) × (All (Fits l.width) l.words → Fits l.width l.joined)
