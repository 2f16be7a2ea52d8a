-- How a control unit carries a plan out.
use Rattle.std.specs.Prelude.{ℕ, ◌+◌, ◌/◌, Bool, false, ◌&&◌, ◌||◌, List, [], ◌∷◌, ◌++◌, map, take, drop, length, if◌then◌else◌, Option, Some, None}
use Rattle.mt_word.specs.declared.Width.{Width}
use Rattle.mt_word.specs.Word.{complement_of}
use Rattle.mt_fault.specs.Faulty.{is_odd}
use Rattle.mt_fault.specs.Items.{Item, Check, Store}
use Rattle.mt_seq.specs.Attempts.{keeps_words}
use Rattle.mt_seq.specs.Sequence.{back_of, ending, saving, verdict_of}
use Rattle.mt_seq.specs.Told.{all_agreed}
use Rattle.mt_seq.specs.declared.sequence.Slice.{Slice}
use Rattle.mt_seq.specs.declared.sequence.Job.{Job}
use Rattle.mt_seq.specs.declared.sequence.Verdict.{Verdict}

-- the access that the loop makes for a byte of a plan, where `back` gives each cell its background word
abbrev pub access_for : Width → ℕ → (ℕ → ℕ) → ℕ → Item
access_for width first back byte =
    let word = if is_odd byte then complement_of width (back (byte / 4)) else back (byte / 4) in
    if is_odd (byte / 2) then Store (first + byte / 4) word else Check (first + byte / 4) word

-- Accesses that are made one after another, `made` of the attempt before them, and after each of which it is asked whether an
-- urgent interrupt waits: those that are made until it does, and whether it did.
abbrev pub polled : (ℕ → Bool) → ℕ → List Item → List Item
polled waits made [] = []
polled waits made (item ∷ more) = item ∷ (if waits (made + 1) then [] else polled waits (made + 1) more)

abbrev pub is_stopped : (ℕ → Bool) → ℕ → List Item → Bool
is_stopped waits made [] = false
is_stopped waits made (item ∷ more) = waits (made + 1) || is_stopped waits (made + 1) more

-- all but the last
abbrev pub but_last : List Item → List Item
but_last [] = []
but_last (item ∷ []) = []
but_last (item ∷ next ∷ more) = item ∷ but_last (next ∷ more)

-- What an attempt made, and its verdict; none if it was dropped.
pub record Carried : Type 0 where
  pub made : List Item
  pub verdict : Option Verdict

-- An attempt by a plan over a memory that answers so, where `waits i` says whether an urgent interrupt waits after i accesses.
-- The words are saved, where they are kept. Then each byte's access is made, and after each but the last it is asked. Then the
-- saved words, or the fill, are written.
abbrev pub carried : Width → Job → Slice → List ℕ → List ℕ → (ℕ → Bool) → Carried
carried width job slice plan answers waits =
    let heeded = λ (i : ℕ). keeps_words job.policy && waits i in
    let saves = saving job.policy slice in
    let saved = take (length saves) answers in
    let steps = map (access_for width slice.first (back_of job saved)) plan in
    if is_stopped heeded 0 saves then record { made = polled heeded 0 saves; verdict = None }
    else (if is_stopped heeded (length saves) (but_last steps)
    then record { made = saves ++ polled heeded (length saves) (but_last steps) ++ ending job slice saved; verdict = None }
    else record { made = saves ++ steps ++ ending job slice saved; verdict = Some (verdict_of (all_agreed steps (drop (length saves) answers))) })
