-- Many accesses of a course, one more at a time.
use Rattle.std.proofs.Common.{ℕ, ◌≡◌, ◌+◌, ◌≤◌, List, length, refl, arith, ap, sym, ◌∙◌, subst, Option}
use Rattle.std.specs.Prelude.{All}
use Rattle.std.proofs.lemmas.List.Elements.{All-push}
use Rattle.mt_word.specs.Word.{Fits}
use Rattle.mt_word.specs.declared.Width.{Width}
use Rattle.mt_fault.specs.Items.{Item, Look, Check, Store}
use Rattle.mt_plan.specs.Plan.{steps_of}
use Rattle.mt_port.specs.declared.board.Touch.{Touch}
use Rattle.mt_port.specs.declared.board.Shape.{Shape}
use Rattle.mt_port.specs.Board.{Board}
use Rattle.mt_seq.specs.declared.course.Course.{Course}
use Rattle.mt_seq.specs.declared.sequence.Slice.{Slice}
use Rattle.mt_seq.specs.declared.sequence.Job.{Job}
use Rattle.mt_seq.specs.Sequence.{saving}
use Rattle.mt_seq.specs.Stepping.{Stepping, view_of, saved_after, IsCourse, IsReady, IsStep, IsStepOf, IsLookAnswer, Runs}
use Rattle.mt_seq.proofs.Underway.{underway_more}

pub runs_none : (s : Stepping) (a : Board) (told : Option (List Touch)) → Runs s a told s a told
runs_none s a told = record {
  job = refl;
  slice = refl;
  shape = refl;
  held = refl;
  ahead = omega arith;
  count = refl;
  fit = λ fit. fit;
  under = λ begun t sound is'. is';
}

fit_more : (b : Board) (width : Width) (saved : List ℕ) (item : Item) (answer : ℕ) → b.shape.width ≡ width → IsLookAnswer b item answer → All (Fits width) saved → All (Fits width) (saved_after saved item answer)
fit_more b width saved (Look addr) answer same is fit = All-push (Fits width) saved answer fit (subst (λ (w : Width). Fits w answer) same is.1)
fit_more b width saved (Check addr word) answer same is fit = fit
fit_more b width saved (Store addr word) answer same is fit = fit

pub runs_more : (old s t : Stepping) (a b d : Board) (ta tb td : Option (List Touch)) → Runs old a ta s b tb → IsStep s b tb t d td → Runs old a ta t d td
runs_more old s t a b d ta tb td runs step =
    let made : t.made ≡ s.made + 1 = ap (λ (x : Stepping). x.made) step.known in
    record {
      job = ap (λ (x : Stepping). x.job) step.known ∙ runs.job;
      slice = ap (λ (x : Stepping). x.slice) step.known ∙ runs.slice;
      shape = step.makes.shape ∙ runs.shape;
      held = step.makes.held ∙ runs.held;
      ahead = omega (arith, runs.ahead);
      count = omega (arith, runs.count, step.makes.count);
      fit = λ fit. subst (All (Fits a.shape.width)) (sym (ap (λ (x : Stepping). x.saved) step.known))
          (fit_more b a.shape.width s.saved step.item step.answer (ap (λ (x : Shape). x.width) runs.shape) step.look (runs.fit fit));
      under = λ begun told sound under. underway_more begun told s b tb t d td sound (runs.under begun told sound under) step;
    }

pub runs_on : (old s t : Stepping) (a b d : Board) (ta tb td : Option (List Touch)) → Runs old a ta s b tb → Runs s b tb t d td → Runs old a ta t d td
runs_on old s t a b d ta tb td first second = record {
  job = second.job ∙ first.job;
  slice = second.slice ∙ first.slice;
  shape = second.shape ∙ first.shape;
  held = second.held ∙ first.held;
  ahead = omega (arith, first.ahead, second.ahead);
  count = omega (arith, first.count, second.count);
  fit = λ fit. subst (λ (x : Shape). All (Fits x.width) t.saved) first.shape (second.fit (subst (λ (x : Shape). All (Fits x.width) s.saved) (sym first.shape) (first.fit fit)));
  under = λ begun told sound under. second.under begun told sound (first.under begun told sound under);
}

-- the phases of a course stay where they are
pub same_from : (job : Job) (old new : Course) → IsCourse job old → IsCourse job new → new.slice ≡ old.slice → new.testing_from ≡ old.testing_from
same_from job old new is now slice = now.from ∙ ap (λ (s : Slice). length (saving job.policy s)) slice ∙ sym is.from

pub same_to : (job : Job) (old new : Course) → IsCourse job old → IsCourse job new → new.slice ≡ old.slice → new.ending_from ≡ old.ending_from
same_to job old new is now slice =
    let steps : length (steps_of job.alg new.slice.n) ≡ length (steps_of job.alg old.slice.n) = ap (λ (s : Slice). length (steps_of job.alg s.n)) slice in
    omega (arith, now.to, is.to, same_from job old new is now slice)

-- what is left of what may be made
pub ready_after : (old s : Stepping) (a b : Board) (ta tb : Option (List Touch)) (count more : ℕ) → Runs old a ta s b tb → IsReady a old count → s.made + more ≤ old.made + count → IsReady b s more
ready_after old s a b ta tb count more runs ready within =
    let slice : s.slice.first + s.slice.n ≡ old.slice.first + old.slice.n = ap (λ (x : Slice). x.first + x.n) runs.slice in
    record {
      held = runs.held ∙ ready.held;
      inside = omega (arith, slice, ready.inside, ap (λ (x : Shape). x.ram) runs.shape);
      background = subst (λ (x : Shape). Fits x.width s.job.background) (sym runs.shape) (subst (λ (j : Job). Fits a.shape.width j.background) (sym runs.job) ready.background);
      fill = subst (λ (x : Shape). Fits x.width s.job.fill) (sym runs.shape) (subst (λ (j : Job). Fits a.shape.width j.fill) (sym runs.job) ready.fill);
      fit = subst (λ (x : Shape). All (Fits x.width) s.saved) (sym runs.shape) (runs.fit ready.fit);
      room = omega (arith, runs.count, ready.room);
    }

-- after one step
pub ready_next : (s t : Stepping) (a b : Board) (ta tb : Option (List Touch)) → IsStep s a ta t b tb → (k : ℕ) → IsReady a s (k + 1) → IsReady b t k
ready_next s t a b ta tb step k ready =
    let made : t.made ≡ s.made + 1 = ap (λ (x : Stepping). x.made) step.known in
    ready_after s t a b ta tb (k + 1) k (runs_more s s t a a b ta ta tb (runs_none s a ta) step) ready (omega arith)

-- a stepper after one step, where its job is put together anew
pub ready_step : (s : Stepping) (job again : Job) (c d : Course) (a b : Board) (ta tb : Option (List Touch)) → view_of job c ≡ s → job ≡ again → IsStepOf again c a ta d b tb
    → (k : ℕ) → IsReady a s (k + 1) → IsReady b (view_of job d) k
ready_step s job again c d a b ta tb view same step k ready =
    let here : IsStepOf job c a ta d b tb = subst (λ (j : Job). IsStepOf j c a ta d b tb) (sym same) step in
    ready_next (view_of job c) (view_of job d) a b ta tb here k (subst (λ (x : Stepping). IsReady a x (k + 1)) (sym view) ready)

pub ready_less : (b : Board) (s : Stepping) (count k : ℕ) → IsReady b s count → k ≤ count → IsReady b s k
ready_less b s count k ready h = record {
  held = ready.held;
  inside = ready.inside;
  background = ready.background;
  fill = ready.fill;
  fit = ready.fit;
  room = omega (arith, ready.room);
}
