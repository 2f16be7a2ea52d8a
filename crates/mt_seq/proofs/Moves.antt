-- The next access of a course, and what the course is after it.
use Rattle.std.proofs.Common.{ℕ, ◌≡◌, ◌+◌, ◌-◌, ◌<◌, ◌≤◌, Bool, true, false, List, [], ◌∷◌, ◌++◌, length, length-append, refl, arith, ap, sym, ◌∙◌, Some}
use Rattle.std.specs.Prelude.{not, slice_get}
use mathlib.Core.Bool.{◌||◌}
use Rattle.mt_word.specs.declared.Width.{Width}
use Rattle.mt_fault.specs.Items.{Item, Look, Check, Store}
use Rattle.mt_plan.specs.declared.algorithm.Policy.{Policy}
use Rattle.mt_plan.specs.declared.algorithm.Policy.TheVariants.{NonDestructive, Destructive}
use Rattle.mt_plan.specs.declared.algorithm.Step.{Step}
use Rattle.mt_plan.specs.declared.cursor.Steps.{Steps}
use Rattle.mt_plan.specs.Lists.{cells}
use Rattle.mt_plan.specs.Plan.{steps_of}
use Rattle.mt_plan.specs.Cursor.{IsCursor, cells_of, made_by}
use Rattle.mt_plan.specs.Accesses.{item_of}
use Rattle.mt_plan.proofs.Counts.{length-steps, steps_few}
use Rattle.mt_plan.proofs.Items.{in_front, behind, at_map, at_cells}
use Rattle.mt_seq.specs.declared.course.Course.{Course}
use Rattle.mt_seq.specs.declared.sequence.Slice.{Slice}
use Rattle.mt_seq.specs.declared.sequence.Job.{Job}
use Rattle.mt_seq.specs.Sequence.{saving, testing, ending, back_of, last_of}
use Rattle.mt_seq.specs.Stepping.{Stepping, item_at, view_of, stepped, saved_after, agreed, IsCourse, IsMoved, IsNoLook}
use Rattle.mt_seq.proofs.Lengths.{length-saving, length-testing}

pub saving_at : (policy : Policy) (slice : Slice) (i : ℕ) → i < length (saving policy slice) → slice_get (saving policy slice) i ≡ Some (Look (slice.first + i))
saving_at NonDestructive slice i h = at_map (λ (cell : ℕ). Look (slice.first + cell)) (cells slice.n) i i (at_cells slice.n i (omega (arith, length-saving slice)))
saving_at Destructive slice i h = absurd (omega arith)

pub saving_few : (policy : Policy) (slice : Slice) → length (saving policy slice) ≤ slice.n
saving_few NonDestructive slice = omega (arith, length-saving slice)
saving_few Destructive slice = omega arith

-- ---- the accesses of a sequence by their indices

pub saving_item : (width : Width) (s : Stepping) → s.made < length (saving s.job.policy s.slice) → item_at width s ≡ Some (Look (s.slice.first + s.made))
unfolding item_at
saving_item width s h =
    let steps : List Step = steps_of s.job.alg s.slice.n in
    in_front (saving s.job.policy s.slice ++ testing width s.job s.slice s.saved steps) (ending s.job s.slice s.saved) s.made _
    (in_front (saving s.job.policy s.slice) (testing width s.job s.slice s.saved steps) s.made _ (saving_at s.job.policy s.slice s.made h))

pub testing_item : (width : Width) (s : Stepping) (i : ℕ) (t : Step) → s.made ≡ length (saving s.job.policy s.slice) + i
    → slice_get (steps_of s.job.alg s.slice.n) i ≡ Some t → item_at width s ≡ Some (item_of width s.slice.first (back_of s.job s.saved) t)
unfolding item_at
testing_item width s i t made at =
    let steps : List Step = steps_of s.job.alg s.slice.n in
    in_front (saving s.job.policy s.slice ++ testing width s.job s.slice s.saved steps) (ending s.job s.slice s.saved) s.made _
    (behind (saving s.job.policy s.slice) (testing width s.job s.slice s.saved steps) i s.made _ made
    (at_map (item_of width s.slice.first (back_of s.job s.saved)) steps i t at))

pub ending_item : (width : Width) (s : Stepping) (k : ℕ) → s.made ≡ length (saving s.job.policy s.slice) + length (steps_of s.job.alg s.slice.n) + k → k < s.slice.n
    → item_at width s ≡ Some (Store (s.slice.first + k) (last_of s.job.policy s.job.fill s.saved k))
unfolding item_at
ending_item width s k made h =
    let steps : List Step = steps_of s.job.alg s.slice.n in
    let long : length (saving s.job.policy s.slice ++ testing width s.job s.slice s.saved steps) + k ≡ s.made =
    omega (arith, length-append (saving s.job.policy s.slice) (testing width s.job s.slice s.saved steps), length-testing width s.job s.slice s.saved steps, made) in
    behind (saving s.job.policy s.slice ++ testing width s.job s.slice s.saved steps) (ending s.job s.slice s.saved) k s.made _ (sym long)
    (at_map (λ (cell : ℕ). Store (s.slice.first + cell) (last_of s.job.policy s.job.fill s.saved cell)) (cells s.slice.n) k k (at_cells s.slice.n k h))

-- ---- the next access of a course

pub item_saving : (width : Width) (job : Job) (c : Course) → IsCourse job c → c.made < c.testing_from → item_at width (view_of job c) ≡ Some (Look (c.slice.first + c.made))
item_saving width job c is h = saving_item width (view_of job c) (omega (arith, is.from))

pub item_testing : (width : Width) (job : Job) (c : Course) (t : Step) → IsCourse job c → c.testing_from ≤ c.made → c.made < c.ending_from
    → slice_get (steps_of job.alg c.slice.n) (made_by c.steps) ≡ Some t
    → item_at width (view_of job c) ≡ Some (item_of width c.slice.first (back_of job c.saved.items) t)
item_testing width job c t is from to at = testing_item width (view_of job c) (made_by c.steps) t (omega (arith, is.from, is.during from (omega arith))) at

pub item_ending : (width : Width) (job : Job) (c : Course) → IsCourse job c → c.ending_from ≤ c.made → c.made < c.ending_from + c.slice.n
    → item_at width (view_of job c) ≡ Some (Store (c.slice.first + (c.made - c.ending_from)) (last_of job.policy job.fill c.saved.items (c.made - c.ending_from)))
item_ending width job c is from to = ending_item width (view_of job c) (c.made - c.ending_from) (omega (arith, is.from, is.to)) (omega arith)

-- ---- the course after an access

or_false : (b : Bool) → (b || false) ≡ b
or_false true = refl
or_false false = refl

pub moved_look : (job : Job) (c : Course) (answer addr : ℕ) (d : Course) → IsCourse job c → c.made < c.testing_from → d.saved.items ≡ c.saved.items ++ answer ∷ []
    → IsMoved job c (Look addr) answer (record c { saved = d.saved; made = c.made + 1 })
moved_look job c answer addr d is h push =
    let long : length d.saved.items ≡ c.made + 1 = omega (arith, ap length push, length-append c.saved.items (answer ∷ []), is.part (omega arith)) in
    record {
      course = record {
        accepted = is.accepted;
        kept = is.kept;
        some = is.some;
        small = is.small;
        transparent = is.transparent;
        from = is.from;
        to = is.to;
        made = omega (arith, is.made, is.to);
        cursor = is.cursor;
        cells = is.cells;
        before = λ g. is.before (omega arith);
        during = λ f t. omega (arith, is.before (omega arith));
        part = λ g. long;
        whole = λ g. omega arith;
      };
      view = rw push (ap (λ (d : Bool). record (view_of job c) { made = c.made + 1; saved = c.saved.items ++ answer ∷ []; differs = d }) (sym (or_false c.differs)));
    }

-- a test access, and the cursor behind it
pub moved_test : (job : Job) (c : Course) (item : Item) (answer : ℕ) (good : Bool) (s : Steps) → IsCourse job c → c.testing_from ≤ c.made → c.made < c.ending_from → IsNoLook item
    → IsCursor job.alg s → cells_of s ≡ cells_of c.steps → made_by s ≡ made_by c.steps + 1 → good ≡ agreed item answer
    → IsMoved job c item answer (record c { steps = s; differs = c.differs || not good; made = c.made + 1 })
moved_test job c item answer good s is from to kind cursor cells next agrees = record {
  course = record {
    accepted = is.accepted;
    kept = is.kept;
    some = is.some;
    small = is.small;
    transparent = is.transparent;
    from = is.from;
    to = is.to;
    made = omega (arith, is.made);
    cursor = cursor;
    cells = cells ∙ is.cells;
    before = λ g. absurd (omega arith);
    during = λ f t. omega (arith, is.during from (omega arith), next);
    part = λ g. absurd (omega arith);
    whole = λ g. is.whole from;
  };
  view = rw agrees (ap (λ (l : List ℕ). record (view_of job c) { made = c.made + 1; saved = l; differs = c.differs || not (agreed item answer) }) (stay item kind));
}
  where
    stay : (x : Item) → IsNoLook x → c.saved.items ≡ saved_after c.saved.items x answer
    stay (Look addr) none = absurd none
    stay (Check addr word) none = refl
    stay (Store addr word) none = refl

-- a write at the end
pub moved_store : (job : Job) (c : Course) (addr word answer : ℕ) → IsCourse job c → c.ending_from ≤ c.made → c.made < c.ending_from + c.slice.n
    → IsMoved job c (Store addr word) answer (record c { made = c.made + 1 })
moved_store job c addr word answer is from to = record {
  course = record {
    accepted = is.accepted;
    kept = is.kept;
    some = is.some;
    small = is.small;
    transparent = is.transparent;
    from = is.from;
    to = is.to;
    made = omega arith;
    cursor = is.cursor;
    cells = is.cells;
    before = λ g. absurd (omega (arith, is.to));
    during = λ f t. absurd (omega arith);
    part = λ g. absurd (omega (arith, is.to));
    whole = λ g. is.whole (omega (arith, is.to));
  };
  view = ap (λ (d : Bool). record (view_of job c) { made = c.made + 1; differs = d }) (sym (or_false c.differs));
}

-- ---- what an access of a course is

pub course_few : (job : Job) (c : Course) → IsCourse job c → c.ending_from + c.slice.n < 17000
course_few job c is = omega (arith, is.to, is.from, saving_few job.policy c.slice, length-steps job.alg c.slice.n, steps_few job.alg c.slice.n is.accepted is.small, is.small)

pub part_few : (job : Job) (c : Course) → IsCourse job c → c.made < c.testing_from → length c.saved.items < 64
part_few job c is h = omega (arith, is.part (omega arith), is.from, saving_few job.policy c.slice, is.small)

pub kept_whole : (job : Job) (c : Course) → IsCourse job c → job.policy ≡ NonDestructive → c.testing_from ≡ c.slice.n
kept_whole job c is keeps = is.from ∙ ap (λ (p : Policy). length (saving p c.slice)) keeps ∙ length-saving c.slice

pub look_inside : (job : Job) (c : Course) → IsCourse job c → c.made < c.testing_from → c.made < c.slice.n
look_inside job c is h = omega (arith, is.from, saving_few job.policy c.slice)

-- where the next access is known, so is what comes after its answer
pub moved_view : (width : Width) (job : Job) (old new : Course) (x y : Item) (answer : ℕ) → item_at width (view_of job old) ≡ Some x → item_at width (view_of job old) ≡ Some y
    → IsMoved job old x answer new → view_of job new ≡ stepped (view_of job old) y answer
moved_view width job old new x y answer e f is = let same : x ≡ y = cc in is.view ∙ ap (λ (i : Item). stepped (view_of job old) i answer) same
