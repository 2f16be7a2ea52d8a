-- What an attempt writes fits the words, so that it leaves the RAM sound.
use Rattle.std.proofs.Common.{ℕ, zero, suc, ◌+◌, ◌^◌, ◌<◌, ◌≤◌, Bool, true, false, cond, List, [], ◌∷◌, ◌++◌, get_or, take, All, Option, Some, None, sym, subst, ◌∙◌, append-nil, arith}
use Rattle.std.specs.Prelude.{slice_index, nat_lt}
use Rattle.std.proofs.lemmas.List.Elements.{All-head, All-tail, All-nil, All-map, All-append, All-take}
use Rattle.mt_word.specs.declared.Width.{Width}
use Rattle.mt_word.specs.declared.Width.TheVariants.{W8, W16, W32, W64}
use Rattle.mt_word.specs.Word.{width_bits, Fits}
use Rattle.mt_fault.specs.History.{History}
use Rattle.mt_fault.specs.Faulty.{answer}
use Rattle.mt_fault.specs.Items.{Item, Look, Check, Store, access_of, history}
use Rattle.mt_fault.specs.Memory.{WritesFit}
use Rattle.mt_fault.proofs.ItemLemmas.{history-cons}
use Rattle.mt_plan.specs.declared.algorithm.Act.{Act}
use Rattle.mt_plan.specs.declared.algorithm.Act.TheVariants.{WritePlain, WriteFlipped, ReadPlain, ReadFlipped}
use Rattle.mt_plan.specs.declared.algorithm.Step.{Step}
use Rattle.mt_plan.specs.declared.algorithm.Policy.{Policy}
use Rattle.mt_plan.specs.declared.algorithm.Policy.TheVariants.{NonDestructive, Destructive}
use Rattle.mt_plan.specs.Accesses.{act_on, item_of}
use Rattle.mt_plan.specs.Lists.{cells}
use Rattle.mt_plan.specs.Plan.{steps_of}
use Rattle.mt_port.specs.Board.{Board, memory_of}
use Rattle.mt_seq.specs.declared.sequence.Job.{Job}
use Rattle.mt_seq.specs.declared.sequence.Slice.{Slice}
use Rattle.mt_seq.specs.Sequence.{is_transparent, back_of, last_of, saving, saved_words, testing, ending, accesses_of, sequence, IsSoundJob}
use Rattle.mt_seq.specs.Attempts.{attempt, attempt_to, attempt_words, dropped_at}
use Rattle.mt_cover.specs.Detection.{HasSoundWords, AttemptsStaySound}
use Rattle.mt_cover.specs.Inner.MemoryLaws.{AnswersFit, KeepsSize, StaysSound}
use Rattle.mt_cover.proofs.Detection.{cells_below}

-- ---- accesses and histories

-- a write is of a word that fits
abbrev ItemFits : Width → Item → Type 0
ItemFits width (Look addr) = Unit {0}
ItemFits width (Check addr word) = Unit {0}
ItemFits width (Store addr word) = Fits width word

fits_onto : (width : Width) (items : List Item) (h : History) → All (ItemFits width) items → WritesFit width h → WritesFit width (history items ++ h)
unfolding history
fits_onto width [] h all rest = rest
fits_onto width (x ∷ xs) h all rest =
    subst (WritesFit width) (sym (history-cons x xs h)) (fits_onto width xs (access_of x ∷ h) (All-tail (ItemFits width) x xs all) (one x (All-head (ItemFits width) x xs all)))
  where
    one : (x : Item) → ItemFits width x → WritesFit width (access_of x ∷ h)
    one (Look addr) fit = rest
    one (Check addr word) fit = rest
    one (Store addr word) fit = (fit, rest)

writes_fit : (width : Width) (items : List Item) → All (ItemFits width) items → WritesFit width (history items)
writes_fit width items all = subst (WritesFit width) (append-nil (history items)) (fits_onto width items [] all tt)

-- ---- words

positive : (width : Width) → 0 < 2 ^ width_bits width
positive W8 = omega arith
positive W16 = omega arith
positive W32 = omega arith
positive W64 = omega arith

-- where there is no word, 0 is read
at_fits : (width : Width) (words : List ℕ) → All (Fits width) words → (i : ℕ) → Fits width (slice_index words i)
at_fits width [] all i = positive width
at_fits width (w ∷ words) all zero = All-head (Fits width) w words all
at_fits width (w ∷ words) all (suc i) = at_fits width words (All-tail (Fits width) w words all) i

saved_fits : AnswersFit → (b : Board) (policy : Policy) (slice : Slice) → HasSoundWords b → slice.first + slice.n ≤ b.shape.ram → All (Fits b.shape.width) (saved_words policy b.fault b.words slice)
saved_fits answers_fit b NonDestructive slice sound inside =
    All-map (Fits b.shape.width) (λ (cell : ℕ). answer b.fault b.words [] (slice.first + cell)) (cells slice.n)
    (λ k d h. let below = cells_below slice.n k d h in answers_fit (memory_of b) sound.memory (slice.first + get_or (cells slice.n) k d) (omega (arith, below, inside, sound.sized)))
saved_fits answers_fit b Destructive slice sound inside = All-nil (Fits b.shape.width)

back_fits : (width : Width) (job : Job) (saved : List ℕ) → IsSoundJob width job → All (Fits width) saved → (cell : ℕ) → Fits width (back_of job saved cell)
back_fits width job saved good fit cell = of (is_transparent job.alg)
  where
    of : (transparent : Bool) → Fits width (cond transparent (slice_index saved cell) job.background)
    of true = at_fits width saved fit cell
    of false = good.background

last_fits : (width : Width) (policy : Policy) (fill : ℕ) (saved : List ℕ) → Fits width fill → All (Fits width) saved → (cell : ℕ) → Fits width (last_of policy fill saved cell)
last_fits width NonDestructive fill saved fits fit cell = at_fits width saved fit cell
last_fits width Destructive fill saved fits fit cell = fits

-- ---- the accesses of an attempt

act_fits : (width : Width) (addr back : ℕ) (act : Act) → Fits width back → ItemFits width (act_on width addr back act)
act_fits width addr back WritePlain fit = fit
act_fits width addr back WriteFlipped fit = omega (arith, positive width)
act_fits width addr back ReadPlain fit = tt
act_fits width addr back ReadFlipped fit = tt

saving_fits : (width : Width) (policy : Policy) (slice : Slice) → All (ItemFits width) (saving policy slice)
saving_fits width NonDestructive slice = All-map (ItemFits width) (λ (cell : ℕ). Look (slice.first + cell)) (cells slice.n) (λ k d h. tt)
saving_fits width Destructive slice = All-nil (ItemFits width)

testing_fits : (width : Width) (job : Job) (slice : Slice) (saved : List ℕ) (steps : List Step) → IsSoundJob width job → All (Fits width) saved → All (ItemFits width) (testing width job slice saved steps)
testing_fits width job slice saved steps good fit =
    All-map (ItemFits width) (item_of width slice.first (back_of job saved)) steps
    (λ k d h. let s = get_or steps k d in act_fits width (slice.first + s.cell) (back_of job saved s.cell) s.act (back_fits width job saved good fit s.cell))

ending_fits : (width : Width) (job : Job) (slice : Slice) (saved : List ℕ) → IsSoundJob width job → All (Fits width) saved → All (ItemFits width) (ending job slice saved)
ending_fits width job slice saved good fit =
    All-map (ItemFits width) (λ (cell : ℕ). Store (slice.first + cell) (last_of job.policy job.fill saved cell)) (cells slice.n)
    (λ k d h. last_fits width job.policy job.fill saved good.fill fit (get_or (cells slice.n) k d))

sequence_fits : (b : Board) (job : Job) (slice : Slice) → IsSoundJob b.shape.width job → All (Fits b.shape.width) (saved_words job.policy b.fault b.words slice)
    → All (ItemFits b.shape.width) (sequence b job slice)
unfolding sequence accesses_of
sequence_fits b job slice good fit =
    let width = b.shape.width in
    let saved = saved_words job.policy b.fault b.words slice in
    let front = saving job.policy slice in
    let middle = testing width job slice saved (steps_of job.alg slice.n) in
    All-append (ItemFits width) (front ++ middle) (ending job slice saved)
    (All-append (ItemFits width) front middle (saving_fits width job.policy slice) (testing_fits width job slice saved (steps_of job.alg slice.n) good fit))
    (ending_fits width job slice saved good fit)

attempt_fits : (b : Board) (job : Job) (slice : Slice) (dropped : Option ℕ) → IsSoundJob b.shape.width job → All (Fits b.shape.width) (saved_words job.policy b.fault b.words slice)
    → All (ItemFits b.shape.width) (attempt_to b job slice dropped)
attempt_fits b job slice None good fit = sequence_fits b job slice good fit
attempt_fits b job slice (Some i) good fit =
    let back = ending job slice (saved_words job.policy b.fault b.words slice) in
    All-append (ItemFits b.shape.width) (take i (sequence b job slice)) (cond (nat_lt slice.n i) back [])
    (All-take (ItemFits b.shape.width) i (sequence b job slice) (sequence_fits b job slice good fit)) (of (nat_lt slice.n i))
  where
    of : (begun : Bool) → All (ItemFits b.shape.width) (cond begun (ending job slice (saved_words job.policy b.fault b.words slice)) [])
    of true = ending_fits b.shape.width job slice (saved_words job.policy b.fault b.words slice) good fit
    of false = All-nil (ItemFits b.shape.width)

pub attempts_stay_sound : AnswersFit → StaysSound → KeepsSize → AttemptsStaySound
unfolding attempt_words attempt
attempts_stay_sound answers_fit stays size may b job slice sound good at =
    let items = attempt_to b job slice (dropped_at may b job slice) in
    let fit = saved_fits answers_fit b job.policy slice sound at.inside in
    record {
      sized = size b.fault b.words (history items) ∙ sound.sized;
      memory = stays (memory_of b) (history items) sound.memory (writes_fit b.shape.width items (attempt_fits b job slice (dropped_at may b job slice) good fit));
    }
