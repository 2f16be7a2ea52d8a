-- A course that makes a span of its algorithm's accesses.
use Rattle.std.proofs.Common.{ℕ, suc, ◌≡◌, ◌+◌, ◌≤◌, Bool, false, List, [], ◌∷◌, ◌++◌, map, take, length, append-nil, append_assoc, refl, arith, ap, sym, ◌∙◌, subst, Option, Some}
use Rattle.std.specs.Prelude.{All, not, slice_get, slice_index, if◌then◌else◌}
use mathlib.Core.Bool.{◌||◌}
use Rattle.std.proofs.lemmas.List.{length-map}
use Rattle.std.proofs.lemmas.List.Elements.{All-nil}
use Rattle.mt_word.specs.declared.Width.{Width}
use Rattle.mt_word.specs.Word.{Fits}
use Rattle.mt_plan.specs.declared.algorithm.Algorithm.{Algorithm}
use Rattle.mt_plan.specs.declared.algorithm.Algorithm.TheVariants.{Checkerboard, March, WalkPath, Galpat, TransparentGalpat}
use Rattle.mt_plan.specs.declared.algorithm.Step.{Step}
use Rattle.mt_plan.specs.declared.cursor.Steps.{Steps}
use Rattle.mt_plan.specs.declared.line.Line.{Line}
use Rattle.mt_plan.specs.Accesses.{item_of}
use Rattle.mt_plan.specs.Cursor.{Continues, IsCursor, IsMarch, cells_of, element_under, line_under, made_by, span_of, span_steps}
use Rattle.mt_plan.specs.Plan.{steps_of}
use Rattle.mt_plan.proofs.Items.{in_front, behind, at_map}
use Rattle.mt_port.specs.declared.board.Shape.{Shape}
use Rattle.mt_port.specs.declared.board.Touch.{Touch}
use Rattle.mt_port.specs.Board.{Board}
use Rattle.mt_seq.specs.declared.course.Course.{Course}
use Rattle.mt_seq.specs.declared.sequence.Job.{Job}
use Rattle.mt_seq.specs.declared.sequence.Slice.{Slice}
use Rattle.mt_seq.specs.declared.span.Ground.{Ground}
use Rattle.mt_seq.specs.Inner.Ground.{IsGround, item_on}
use Rattle.mt_seq.specs.Makes.{Makes}
use Rattle.mt_seq.specs.Sequence.{accesses_of, back_of, ending, is_transparent, saved_words, saving, sequence, testing}
use Rattle.mt_seq.specs.Stepping.{Stepping, view_of, IsCourse, IsReady, Runs, RunsOf}
use Rattle.mt_seq.proofs.Makes.{Makes-append}
use Rattle.mt_seq.proofs.Moves.{kept_whole}
use Rattle.mt_seq.proofs.Underway.{differs_more, take_more, whole_saved}

-- the items behind so many, one by one
take_on : {X Y : Type 0} (f : X → Y) (ys : List Y) (xs : List X) (i : ℕ) → ((k : ℕ) (x : X) → slice_get xs k ≡ Some x → slice_get ys (i + k) ≡ Some (f x))
    → take (i + length xs) ys ≡ take i ys ++ map f xs
take_on {X} {Y} f ys [] i at = ap (λ (k : ℕ). take k ys) (let e : i + 0 ≡ i = omega arith in e) ∙ sym (append-nil (take i ys))
take_on {X} {Y} f ys (x ∷ xs) i at =
    let here : slice_get ys i ≡ Some (f x) = ap (slice_get ys) (let e : i ≡ i + 0 = omega arith in e) ∙ at 0 x refl in
    let next : (k : ℕ) (y : X) → slice_get xs k ≡ Some y → slice_get ys (i + 1 + k) ≡ Some (f y) =
    λ k y h. ap (slice_get ys) (let e : i + 1 + k ≡ i + suc k = omega arith in e) ∙ at (suc k) y h in
    ap (λ (k : ℕ). take k ys) (let e : i + suc (length xs) ≡ i + 1 + length xs = omega arith in e)
    ∙ take_on f ys xs (i + 1) next
    ∙ ap (λ (l : List Y). l ++ map f xs) (take_more ys i (f x) here)
    ∙ append_assoc (take i ys) (f x ∷ []) (map f xs)

-- a step of the algorithm is an item of the sequence
at_sequence : (b : Board) (job : Job) (slice : Slice) (i k : ℕ) (t : Step) → slice_get (steps_of job.alg slice.n) i ≡ Some t → k ≡ length (saving job.policy slice) + i
    → slice_get (sequence b job slice) k ≡ Some (item_of b.shape.width slice.first (back_of job (saved_words job.policy b.fault b.words slice)) t)
unfolding sequence accesses_of
at_sequence b job slice i k t at place =
    let saved : List ℕ = saved_words job.policy b.fault b.words slice in
    let steps : List Step = steps_of job.alg slice.n in
    in_front (saving job.policy slice ++ testing b.shape.width job slice saved steps) (ending job slice saved) k _
    (behind (saving job.policy slice) (testing b.shape.width job slice saved steps) i k _ place (at_map (item_of b.shape.width slice.first (back_of job saved)) steps i t at))

-- the accesses of a span come next in each sequence that is under way
pub runs_span : (job : Job) (c d : Course) (span : List Step) (width : Width) (a b : Board) (ta tb : Option (List Touch)) (good : Bool)
    → IsCourse job c → c.testing_from ≤ c.made → c.made ≤ c.ending_from → width ≡ a.shape.width → Continues (steps_of job.alg c.slice.n) (made_by c.steps) span
    → Makes (map (item_of width c.slice.first (back_of job c.saved.items)) span) a b ta tb good
    → view_of job d ≡ record (view_of job c) { made = c.made + length span; differs = c.differs || not good } → RunsOf job c a ta d b tb
runs_span job c d span width a b ta tb good is from to wide next makes view =
    subst (λ (s : Stepping). Runs (view_of job c) a ta s b tb) (sym view) (record {
      job = refl;
      slice = refl;
      shape = makes.shape;
      held = makes.held;
      ahead = omega arith;
      count = omega (arith, makes.count, length-map span (item_of width c.slice.first (back_of job c.saved.items)));
      fit = λ fit. fit;
      under = λ begun told sound under. (
          let all : List ℕ = saved_words job.policy begun.fault begun.words c.slice in
          let whole : c.saved.items ≡ all = under.saved ∙ whole_saved job.policy begun.fault begun.words c.slice c.made (omega (arith, is.from)) in
          let same : width ≡ begun.shape.width = wide ∙ ap (λ (s : Shape). s.width) under.makes.shape in
          let item = item_of width c.slice.first (back_of job c.saved.items) in
          let at : (k : ℕ) (t : Step) → slice_get span k ≡ Some t → slice_get (sequence begun job c.slice) (c.made + k) ≡ Some (item t) = λ k t h.
          at_sequence begun job c.slice (made_by c.steps + k) (c.made + k) t (next k t h) (omega (arith, is.from, is.during from to))
          ∙ ap (λ (w : Width). Some (item_of w c.slice.first (back_of job all) t)) (sym same)
          ∙ ap (λ (l : List ℕ). Some (item_of width c.slice.first (back_of job l) t)) (sym whole) in
          record {
            saved = whole ∙ sym (whole_saved job.policy begun.fault begun.words c.slice (c.made + length span) (omega (arith, is.from)));
            makes = rw (take_on item (sequence begun job c.slice) span c.made at, ← differs_more c.differs good) (Makes-append sound under.makes makes);
          });
    })

-- a course behind a span
pub course_span : (job : Job) (c : Course) (s : Steps) (count : ℕ) (differs : Bool) → IsCourse job c → c.testing_from ≤ c.made → 1 ≤ count → c.made + count ≤ c.ending_from
    → IsCursor job.alg s → cells_of s ≡ cells_of c.steps → made_by s ≡ made_by c.steps + count
    → IsCourse job (record c { steps = s; differs = differs; made = c.made + count })
course_span job c s count differs is from some to cursor cells next = record {
  accepted = is.accepted;
  kept = is.kept;
  some = is.some;
  small = is.small;
  transparent = is.transparent;
  from = is.from;
  to = is.to;
  made = omega arith;
  cursor = cursor;
  cells = cells ∙ is.cells;
  before = λ g. absurd (omega arith);
  during = λ f t. omega (arith, is.during from (omega arith), next);
  part = λ g. absurd (omega arith);
  whole = λ g. is.whole from;
}

-- ---- what loops need

pub ground_is : (job : Job) (c : Course) (b : Board) (width : Width) (count : ℕ) → IsCourse job c → IsReady b (view_of job c) count → width ≡ b.shape.width → c.testing_from ≤ c.made
    → IsGround b (record { first = c.slice.first; n = c.slice.n; width = width; background = job.background; transparent = c.transparent }) c.saved.items
ground_is job c b width count is ready wide from = record {
  held = ready.held;
  inside = ready.inside;
  width = wide;
  background = subst (λ (w : Width). Fits w job.background) (sym wide) ready.background;
  fit = subst (λ (w : Width). All (Fits w) c.saved.items) (sym wide) ready.fit;
  known = λ clear. omega (arith, kept_whole job c is (is.kept (sym is.transparent ∙ clear)), is.whole from);
}

-- the items of a course's steps
pub items_are : (job : Job) (c : Course) (width : Width) (span : List Step) → IsCourse job c
    → map (item_on (record { first = c.slice.first; n = c.slice.n; width = width; background = job.background; transparent = c.transparent }) c.saved.items) span
    ≡ map (item_of width c.slice.first (back_of job c.saved.items)) span
items_are job c width span is =
    ap (λ (clear : Bool). map (item_of width c.slice.first (λ (cell : ℕ). if clear then slice_index c.saved.items cell else job.background)) span) is.transparent

march_opaque : (alg : Algorithm) → IsMarch alg → is_transparent alg ≡ false
march_opaque Checkerboard is = absurd is
march_opaque (March march) is = refl
march_opaque WalkPath is = absurd is
march_opaque Galpat is = absurd is
march_opaque TransparentGalpat is = absurd is

pub course_opaque : (job : Job) (c : Course) → IsCourse job c → IsMarch job.alg → c.transparent ≡ false
course_opaque job c is march = is.transparent ∙ march_opaque job.alg march

pub items_opaque : (job : Job) (c : Course) (width : Width) (span : List Step) → IsCourse job c → c.transparent ≡ false
    → map (item_on (record { first = c.slice.first; n = c.slice.n; width = width; background = job.background; transparent = c.transparent }) []) span
    ≡ map (item_of width c.slice.first (back_of job c.saved.items)) span
items_opaque job c width span is opaque =
    ap (λ (clear : Bool). map (item_of width c.slice.first (λ (cell : ℕ). if clear then slice_index [] cell else job.background)) span) opaque
    ∙ ap (λ (clear : Bool). map (item_of width c.slice.first (λ (cell : ℕ). if clear then slice_index c.saved.items cell else job.background)) span) (sym opaque ∙ is.transparent)

pub ground_opaque : (b : Board) (ground : Ground) (saved : List ℕ) → IsGround b ground saved → ground.transparent ≡ false → IsGround b ground []
ground_opaque b ground saved is opaque = record {
  held = is.held;
  inside = is.inside;
  width = is.width;
  background = is.background;
  fit = All-nil (Fits ground.width);
  known = λ clear. absurd (let no : ⊥ = cc in no);
}

-- the span of a line that is under way
pub span_same : (job : Job) (c : Course) (line : Line) → IsCourse job c → line ≡ line_under c.steps → span_steps (element_under c.steps) c.slice.n line ≡ span_of c.steps
span_same job c line is same =
    ap (span_steps (element_under c.steps) c.slice.n) same ∙ ap (λ (n : ℕ). span_steps (element_under c.steps) n (line_under c.steps)) (sym is.cells)
