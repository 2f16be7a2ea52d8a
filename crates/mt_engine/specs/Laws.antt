-- What a test asks for, whatever it is answered.
use Rattle.std.specs.Prelude.{ℕ, ◌+◌, ◌<◌, ◌≤◌, ◌≡◌, ◌↔◌, ◌==◌, true, ◌&&◌, nat_lt, if◌then◌else◌, List, [], ◌∷◌, take, length, slice_get, slice_index}
use Rattle.mt_seq.specs.Attempts.{keeps_words}
use Rattle.mt_seq.specs.Sequence.{sequence_hold}
use Rattle.mt_seq.specs.Told.{all_agreed, sequence_told}
use Rattle.mt_engine.specs.declared.plan.Plan.{Plan}
use Rattle.mt_engine.specs.declared.test.Due.{Due}
use Rattle.mt_engine.specs.declared.test.Due.TheVariants.{Write, Ended}
use Rattle.mt_engine.specs.declared.test.Ending.TheVariants.{Pass, Fail, BrokenOff}
use Rattle.mt_engine.specs.Testing.{Testing, IsTest, answered, asked, broken_off, due, may_break_off, set_up}

-- a test once these answers were told, one after another
abbrev pub told : Testing → List ℕ → Testing
told t [] = t
told t (answer ∷ answers) = told (answered t answer) answers

-- what a test of a plan asks for that was answered so k times, or how it has ended
abbrev pub due_after : Plan → List ℕ → ℕ → Due
due_after plan answers k =
    let items = sequence_told plan.width plan.job plan.slice answers in
    if k == sequence_hold plan.job plan.slice.n then Ended (if all_agreed items answers then Pass else Fail) else asked (slice_get items k)

-- whatever the memory answers, a test asks for the accesses of its sequence, one after another, and then it ends
abbrev pub TestsAskForTheSequence : Type 0
TestsAskForTheSequence =
    (plan : Plan) (answers : List ℕ) (k : ℕ) → length answers ≡ sequence_hold plan.job plan.slice.n → k ≤ length answers
    → due (told (set_up plan) (take k answers)) ≡ due_after plan answers k

-- what a test asks for that was broken off k accesses ago
abbrev pub due_back : Testing → ℕ → Due
due_back t k =
    if nat_lt t.known.slice.n t.known.made && nat_lt k t.known.slice.n then Write (t.known.slice.first + k) (slice_index t.known.saved k)
    else Ended (if t.known.differs then Fail else BrokenOff)

-- whatever writes answer, a test that is broken off writes the saved words in rising order, where its algorithm has begun
abbrev pub BrokenTestsPutTheWordsBack : Type 0
BrokenTestsPutTheWordsBack =
    (t : Testing) (answers : List ℕ) (k : ℕ) → IsTest t → may_break_off t ≡ true → k ≤ length answers → k ≤ t.known.slice.n
    → due (told (broken_off t) (take k answers)) ≡ due_back t k

-- a test that was answered so far may be broken off exactly where it keeps the words, and more accesses are left than the
-- writes that put them back
abbrev pub MayBeBrokenOffBeforeTheWritesBack : Type 0
MayBeBrokenOffBeforeTheWritesBack =
    (plan : Plan) (answers : List ℕ) (k : ℕ) → length answers ≡ sequence_hold plan.job plan.slice.n → k ≤ length answers
    → (may_break_off (told (set_up plan) (take k answers)) ≡ true) ↔ ((keeps_words plan.job.policy ≡ true) × (k + plan.slice.n < length answers))

-- a test that is broken off after k answers ends, once the words are written back, with a failure exactly where one of the
-- checked reads so far answered another word
abbrev pub SeenDifferencesAreReported : Type 0
SeenDifferencesAreReported =
    (plan : Plan) (answers writes : List ℕ) (k : ℕ) → length answers ≡ sequence_hold plan.job plan.slice.n → k ≤ length answers
    → may_break_off (told (set_up plan) (take k answers)) ≡ true → length writes ≡ plan.slice.n
    → due (told (broken_off (told (set_up plan) (take k answers))) writes)
    ≡ Ended (if all_agreed (sequence_told plan.width plan.job plan.slice answers) (take k answers) then BrokenOff else Fail)
