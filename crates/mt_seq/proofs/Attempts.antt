-- The accesses of an attempt.
use Rattle.std.proofs.Common.{ℕ, ◌≡◌, ◌+◌, ◌-◌, ◌*◌, ◌^◌, ◌<◌, ◌≤◌, Bool, true, false, List, [], ◌++◌, map, take, length, append-nil, refl, arith, ap, sym, ◌∙◌, subst, Option, Some, None}
use Rattle.std.specs.Prelude.{not, nat_lt, slice_index, if◌then◌else◌, find, ◌&&◌}
use Rattle.std.specs.List.{range_with_len}
use Rattle.std.proofs.lemmas.Bool.{lt-ltb, le-ltb}
use Rattle.std.proofs.lemmas.List.{take_all}
use Rattle.std.proofs.lemmas.List.Elements.{All-nil}
use Rattle.mt_word.specs.Word.{Fits}
use Rattle.mt_fault.specs.Faulty.{words_after}
use Rattle.mt_fault.specs.Items.{Item, Store, history, passes}
use Rattle.mt_plan.specs.Lists.{cells}
use Rattle.mt_plan.specs.Plan.{steps_of, hold_of, frame_of}
use Rattle.mt_plan.specs.declared.algorithm.Algorithm.{Algorithm}
use Rattle.mt_plan.specs.declared.algorithm.Policy.{Policy}
use Rattle.mt_plan.specs.declared.algorithm.Policy.TheVariants.{NonDestructive, Destructive}
use Rattle.mt_plan.proofs.Counts.{length-steps}
use Rattle.mt_port.specs.declared.board.Touch.{Touch}
use Rattle.mt_port.specs.Board.{Board, IsSound, Logs, is_urgent_due}
use Rattle.mt_seq.specs.declared.course.Course.{Course}
use Rattle.mt_seq.specs.declared.sequence.Slice.{Slice}
use Rattle.mt_seq.specs.declared.sequence.Frame.{Frame}
use Rattle.mt_seq.specs.declared.sequence.Job.{Job}
use Rattle.mt_seq.specs.Attempts.{backed_out, dropped_at, keeps_words}
use Rattle.mt_seq.specs.Makes.{Makes, after_all}
use Rattle.mt_seq.specs.Sequence.{saving, saved_words, ending, last_of, accesses_of, sequence, sequence_hold, IsSoundJob, IsSoundSlice}
use Rattle.mt_seq.specs.Stepping.{Stepping, begun, job_of, view_of, IsCourse, IsReady, IsUnderway, RunsOf}
use Rattle.mt_seq.specs.Tape.{touch_of}
use Rattle.mt_seq.proofs.Lengths.{length-sequence, length-saving, hold_is}
use Rattle.mt_seq.proofs.Makes.{Makes-append, Makes-same}
use Rattle.mt_seq.proofs.Moments.{IsFirst, found}
use Rattle.mt_seq.proofs.Underway.{underway_begun, saved_long}

-- the list of a sequence is as long as its hold
pub hold_length : (b : Board) (job : Job) (slice : Slice) → length (sequence b job slice) ≡ sequence_hold job slice.n
unfolding sequence sequence_hold
hold_length b job slice = length-sequence b job slice (steps_of job.alg slice.n) ∙ ap (λ (k : ℕ). k + frame_of job.policy slice.n) (length-steps job.alg slice.n)

pub hold_is_long : (job : Job) (n : ℕ) → sequence_hold job n ≡ length (steps_of job.alg n) + frame_of job.policy n
unfolding sequence_hold
hold_is_long job n = ap (λ (k : ℕ). k + frame_of job.policy n) (sym (length-steps job.alg n))

pub keeping_hold : (job : Job) (n : ℕ) → job.policy ≡ NonDestructive → sequence_hold job n ≡ length (steps_of job.alg n) + 2 * n
keeping_hold job n keeps = hold_is_long job n ∙ ap (λ (p : Policy). length (steps_of job.alg n) + frame_of p n) keeps

-- what a course has made that began on a board
pub record Made (job : Job) (slice : Slice) (k : ℕ) (b now : Board) (told tape : Option (List Touch)) (c : Course) : Type 0 where
  pub makes : Makes (take k (sequence b job slice)) b now told tape (not c.differs)
  pub saved : c.saved.items ≡ take k (saved_words job.policy b.fault b.words slice)

pub made_from : (job : Job) (slice : Slice) (k : ℕ) (c new : Course) (b now : Board) (told tape : Option (List Touch)) → IsSound b → view_of job c ≡ begun job slice
    → RunsOf job c b told new now tape → new.made ≡ k → Made job slice k b now told tape new
made_from job slice k c new b now told tape sound view runs made =
    let under : IsUnderway b told (view_of job new) now tape = runs.under b told sound (subst (λ (s : Stepping). IsUnderway b told s b told) (sym view) (underway_begun b told job slice sound)) in
    let e : new.slice ≡ slice = runs.slice ∙ ap (λ (s : Stepping). s.slice) view in
    record {
      makes = rw (← e, ← made) under.makes;
      saved = rw (← e, ← made) under.saved;
    }

pub made_whole : (job : Job) (slice : Slice) (k : ℕ) (c : Course) (b now : Board) (told tape : Option (List Touch)) → Made job slice k b now told tape c → k ≡ sequence_hold job slice.n
    → Makes (sequence b job slice) b now told tape (not c.differs)
made_whole job slice k c b now told tape made all =
    Makes-same (take_all k (sequence b job slice) (omega (arith, hold_length b job slice))) refl made.makes

-- the words that are put back
pub restored : (job : Job) (slice : Slice) (saved : List ℕ) → job.policy ≡ NonDestructive → map (λ (cell : ℕ). Store (slice.first + cell) (slice_index saved cell)) (cells slice.n) ≡ ending job slice saved
restored job slice saved keeps = sym (ap (λ (p : Policy). map (λ (cell : ℕ). Store (slice.first + cell) (last_of p job.fill saved cell)) (cells slice.n)) keeps)

-- a verdict of accesses is what it says
own : (items : List Item) (a b : Board) (ta tb : Option (List Touch)) (good : Bool) → Makes items a b ta tb good → Makes items a b ta tb (passes a.fault a.words [] items)
own items a b ta tb good m = Makes-same refl m.pass m

pub part_early : (job : Job) (slice : Slice) (k : ℕ) (c : Course) (b now : Board) (told tape : Option (List Touch)) → Made job slice k b now told tape c → k ≤ slice.n
    → Makes (backed_out b job slice k) b now told tape (passes b.fault b.words [] (backed_out b job slice k))
part_early job slice k c b now told tape made few =
    let none : nat_lt slice.n k ≡ false = le-ltb slice.n k few in
    own (backed_out b job slice k) b now told tape (not c.differs)
    (Makes-same (sym (ap (λ (t : Bool). take k (sequence b job slice) ++ (if t then ending job slice (saved_words job.policy b.fault b.words slice) else [])) none ∙ append-nil (take k (sequence b job slice)))) refl made.makes)

pub saved_all : (job : Job) (slice : Slice) (k : ℕ) (c : Course) (b now : Board) (told tape : Option (List Touch)) → Made job slice k b now told tape c → job.policy ≡ NonDestructive → slice.n < k
    → (c.saved.items ≡ saved_words job.policy b.fault b.words slice) × (length c.saved.items ≡ slice.n)
saved_all job slice k c b now told tape made keeps many =
    let long : length (saved_words job.policy b.fault b.words slice) ≡ slice.n = saved_long job.policy b.fault b.words slice ∙ ap (λ (p : Policy). length (saving p slice)) keeps ∙ length-saving slice in
    let all : c.saved.items ≡ saved_words job.policy b.fault b.words slice = made.saved ∙ take_all k (saved_words job.policy b.fault b.words slice) (omega arith) in
    (all, ap length all ∙ long)

pub part_late : (job : Job) (slice : Slice) (k : ℕ) (c : Course) (saved : List ℕ) (b now then' : Board) (told tape tape' : Option (List Touch)) → IsSound b → Made job slice k b now told tape c
    → job.policy ≡ NonDestructive → slice.n < k → saved ≡ c.saved.items
    → Makes (map (λ (cell : ℕ). Store (slice.first + cell) (slice_index saved cell)) (cells slice.n)) now then' tape tape' true
    → Makes (backed_out b job slice k) b then' told tape' (passes b.fault b.words [] (backed_out b job slice k))
part_late job slice k c saved b now then' told tape tape' sound made keeps many is back =
    let yes' : nat_lt slice.n k ≡ true = lt-ltb slice.n k many in
    let all : List ℕ = saved_words job.policy b.fault b.words slice in
    let words : saved ≡ all = is ∙ (saved_all job slice k c b now told tape made keeps many).0 in
    let put : map (λ (cell : ℕ). Store (slice.first + cell) (slice_index saved cell)) (cells slice.n) ≡ ending job slice all = restored job slice saved keeps ∙ ap (ending job slice) words in
    let items : take k (sequence b job slice) ++ ending job slice all ≡ backed_out b job slice k =
    sym (ap (λ (t : Bool). take k (sequence b job slice) ++ (if t then ending job slice all else [])) yes') in
    own (backed_out b job slice k) b then' told tape' _ (Makes-same items refl (Makes-append sound made.makes (Makes-same put refl back)))

-- accesses between a hold and a release
pub record Ran (items : List Item) (a d : Board) (ta td : Option (List Touch)) (good : Bool) : Type 0 where
  pub state : d ≡ record a { words = words_after a.fault a.words (history items); count = a.count + length items; since = a.count }
  pub pass : good ≡ passes a.fault a.words [] items
  pub tape : Logs ta td (map touch_of items)

pub ran : (items : List Item) {a b c d : Board} {ta tb tc td : Option (List Touch)} {pass : Bool}
    → a.held ≡ false → b ≡ record a { held = true; since = a.count } → tb ≡ ta
    → Makes items b c tb tc pass → d ≡ record c { held = false } → td ≡ tc → Ran items a d ta td pass
ran items {a} {b} {c} {d} {ta} {tb} {tc} {td} {pass} free e te m f tf = record {
  state = f ∙ ap (λ (x : Board). record x { held = false }) (m.state ∙ ap (λ (x : Board). after_all x items) e)
      ∙ ap (λ (h : Bool). record (after_all a items) { held = h; since = a.count }) (sym free);
  pass = m.pass ∙ ap (λ (x : Board). passes x.fault x.words [] items) e;
  tape = rw (← te, tf) m.tape;
}

-- whether interrupts are held, and since when, changes nothing
pub held_sequence : (a b : Board) (job : Job) (slice : Slice) → b ≡ record a { held = true; since = a.count } → sequence b job slice ≡ sequence a job slice
unfolding sequence accesses_of
held_sequence a b job slice e = ap (λ (x : Board). sequence x job slice) e

pub held_part : (a b : Board) (job : Job) (slice : Slice) (k : ℕ) → b ≡ record a { held = true; since = a.count } → backed_out b job slice k ≡ backed_out a job slice k
unfolding sequence accesses_of
held_part a b job slice k e = ap (λ (x : Board). backed_out x job slice k) e

-- ---- a course at its beginning

pub begin_ready : (b : Board) (alg : Algorithm) (frame : Frame) (slice : Slice) (c : Course) (count : ℕ) → b.held ≡ true → IsSoundJob b.shape.width (job_of alg frame) → IsSoundSlice b.shape.ram slice
    → view_of (job_of alg frame) c ≡ begun (job_of alg frame) slice → b.count + count < 2 ^ 32 → IsReady b (view_of (job_of alg frame) c) count
begin_ready b alg frame slice c count held job sound view room =
    let same : c.slice ≡ slice = ap (λ (s : Stepping). s.slice) view in
    record {
      held = held;
      inside = rw same sound.inside;
      background = job.background;
      fill = job.fill;
      fit = rw (ap (λ (s : Stepping). s.saved) view) (All-nil (Fits b.shape.width));
      room = room;
    }

pub course_end : (job : Job) (slice : Slice) (c : Course) → IsCourse job c → view_of job c ≡ begun job slice → c.ending_from + c.slice.n ≡ sequence_hold job slice.n
course_end job slice c is view =
    let same : c.slice ≡ slice = ap (λ (s : Stepping). s.slice) view in
    let here : c.ending_from + c.slice.n ≡ sequence_hold job c.slice.n = omega (arith, is.to, is.from, hold_is job.policy c.slice (length (steps_of job.alg c.slice.n)), hold_is_long job c.slice.n) in
    here ∙ ap (λ (s : Slice). sequence_hold job s.n) same

pub hold_count : (alg : Algorithm) (frame : Frame) (n m : ℕ) → m ≡ n → hold_of alg frame.policy m ≡ sequence_hold (job_of alg frame) n
unfolding sequence_hold
hold_count alg frame n m e = ap (hold_of alg frame.policy) e

-- ---- where an attempt is dropped

abbrev pub urgent : Board → ℕ → Bool
urgent b i = is_urgent_due (b.count + i) b.left

-- What is known of an attempt that is dropped.
pub record IsDropped (may : Bool) (b : Board) (job : Job) (slice : Slice) (i : ℕ) : Type 0 where
  pub may' : may ≡ true
  pub keeps : job.policy ≡ NonDestructive
  pub first : IsFirst (urgent b) 1 (slice.n + length (steps_of job.alg slice.n) - 1) i

is_dropped : (may : Bool) (policy : Policy) (b : Board) (n i : ℕ) → (if may && keeps_words policy then find (urgent b) (range_with_len 1 n) else None) ≡ Some i
    → (may ≡ true) × (policy ≡ NonDestructive) × IsFirst (urgent b) 1 n i
is_dropped true NonDestructive b n i e = (refl, refl, found (urgent b) 1 n i e)
is_dropped true Destructive b n i e = cc
is_dropped false NonDestructive b n i e = cc
is_dropped false Destructive b n i e = cc

pub dropped : (may : Bool) (b : Board) (job : Job) (slice : Slice) (i : ℕ) → dropped_at may b job slice ≡ Some i → IsDropped may b job slice i
unfolding dropped_at
dropped may b job slice i e =
    let is = is_dropped may job.policy b (slice.n + length (steps_of job.alg slice.n) - 1) i e in
    record { may' = is.0; keeps = is.1; first = is.2 }
