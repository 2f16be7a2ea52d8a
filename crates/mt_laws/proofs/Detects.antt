-- An undisturbed pass over a caught fault makes the block of its slice NOT_OK.
use Rattle.std.proofs.Common.{ℕ, suc, ◌≡◌, ◌<◌, ◌≤◌, ◌-◌, List, [], ◌∷◌, ◌++◌, drop, length, All, Contains, Some, refl, sym, ap, ◌∙◌, subst, arith, inl, inr}
use Rattle.std.specs.Prelude.{◌⊎◌, slice_get}
use Rattle.std.proofs.lemmas.List.Elements.{All-nil, All-cons, All-head, All-tail, All-contains}
use Rattle.mt_fault.specs.declared.fault.Fault.{Fault}
use Rattle.mt_port.specs.declared.board.Shape.{Shape}
use Rattle.mt_port.specs.Board.{IsWithinLimits}
use Rattle.mt_window.specs.declared.reply.TestResult.TheVariants.{NotOk}
use Rattle.mt_blocks.specs.declared.config.ParamSet.{ParamSet}
use Rattle.mt_blocks.specs.Slices.{Piece, pass, from_place, start, IsValid}
use Rattle.mt_blocks.specs.Groups.{ticks, group_len}
use Rattle.mt_blocks.specs.Laws.{BlocksBegin, PassesBegin}
use Rattle.mt_blocks.specs.Accepted.{spans_of, IsAcceptedSet, set_at}
use Rattle.mt_ram.specs.State.{Setting, RamTst, set_of}
use Rattle.mt_text.specs.declared.line.Line.{Line}
use Rattle.mt_text.specs.Accepted.{IsAccepted}
use Rattle.mt_machine.specs.Machine.{Machine, Step, step, started, played}
use Rattle.mt_laws.specs.Detection.{IsCaught, IsUndisturbedPass, AreUndisturbing, counted, PassesFindFaults}
use Rattle.mt_laws.proofs.Pieces.{IsOf, block_there, pass-of, start-valid}
use Rattle.mt_laws.proofs.Phases.{IsBehind}
use Rattle.mt_laws.proofs.PassRows.{InSomePass}
use Rattle.mt_laws.proofs.PassEvents.{IsTaken, Caught}
use Rattle.mt_laws.proofs.PassTicks.{PassLaws}
use Rattle.mt_laws.proofs.SetsStay.{set_taken}
use Rattle.mt_laws.proofs.SoundBoards.{BoardLaws, AreSoundIn, IsSoundMachine, begins_on, started_sound, step-sound, played-sound}
use Rattle.mt_laws.proofs.PassLines.{Hunts, Hunt}
use Rattle.mt_laws.proofs.PassSteps.{step_pass}

-- what is known of boards and of passes
pub record Laws : Type 0 where
  pub board : BoardLaws
  pub begin : BlocksBegin
  pub first : PassesBegin

-- ---- lines

-- the pass over some lines
lines_pass : Laws → (shape : Shape) (z : Setting) → All (IsAcceptedSet shape) z.config.sets → (fault : Fault) (set : ParamSet) (cells left : ℕ) (p : Piece) → Caught shape fault set p → set.atomic ≤ cells
    → (m : Machine) (lines : List Line) → All (IsAccepted shape) lines → IsSoundMachine shape z m → Hunts fault set p cells left m → AreUndisturbing lines (played m lines).steps → left ≤ counted lines (played m lines).steps
    → Hunts fault set p cells 0 (played m lines).after
lines_pass laws shape z all fault set cells left p caught low m [] ok sound h quiet most =
    let none : left ≡ 0 = omega (arith, most) in
    subst (λ (n : ℕ). Hunts fault set p cells n m) none h
lines_pass laws shape z all fault set cells left p caught low m (line ∷ more) ok sound h quiet most =
    let accepted = All-head (IsAccepted shape) line more ok in
    let next = (step m line).after in
    let less = counted more (played next more).steps in
    let hunt : Hunt m.board.shape fault set p cells =
    subst (λ (y : Shape). Hunt y fault set p cells) (sym sound.common) (record { laws = laws.board.pass; begin = laws.begin; caught = caught; low = low }) in
    let ops : AreSoundIn m.board.shape line.requests.items = subst (λ (y : Shape). AreSoundIn y line.requests.items) (sym sound.common) accepted.requests.sound in
    lines_pass laws shape z all fault set cells less p caught low next more (All-tail (IsAccepted shape) line more ok) (step-sound laws.board shape z all m line accepted sound)
    (step_pass fault set cells left less p m line hunt sound.words ops h quiet.0 most) quiet.1 (omega arith)

-- where no tick is left, the pass is behind the caught slice
found : (shape : Shape) (fault : Fault) (set : ParamSet) (cells : ℕ) (p : Piece) → PassLaws → Caught shape fault set p → set.atomic ≤ cells → (r : RamTst) → InSomePass set p cells 0 r
    → slice_get r.results p.place.block ≡ Some NotOk
found shape fault set cells p laws caught low r i = of i.pass.phase
  where
    of : IsBehind p.place i.at r.results r.failed ⊎ (Contains (from_place set.atomic (spans_of set.blocks) i.at) p × (ticks cells (from_place set.atomic (spans_of set.blocks) i.at) ≤ 0)) → slice_get r.results p.place.block ≡ Some NotOk
    of (inl behind) = behind.result
    of (inr (contains, none)) =
        let K = set.atomic in
        let spans = spans_of set.blocks in
        let one : ticks cells (from_place K spans i.at) ≡ suc (ticks cells (drop (group_len cells (from_place K spans i.at)) (from_place K spans i.at))) =
        laws.group K cells spans i.at (laws.cut shape set caught.limits caught.accepted) i.pass.valid low in
        absurd (omega (arith, none, one))

-- a caught slice is one of an accepted set
pub caught_in : (shape : Shape) (z : Setting) (fault : Fault) (r : RamTst) (p : Piece) → IsWithinLimits shape → All (IsAcceptedSet shape) z.config.sets → r.setting ≡ z → IsCaught (set_of r) p fault → Caught shape fault (set_of r) p
caught_in shape z fault r p limits all setting c =
    let set = set_of r in
    let taken : IsTaken shape set = subst (λ (s : Setting). IsTaken shape (set_at s.config.sets r.selected)) (sym setting) (set_taken shape z.config.sets r.selected all) in
    let stands = All-contains (IsOf set.atomic (spans_of set.blocks)) (pass set.atomic (spans_of set.blocks)) p (pass-of set.atomic (spans_of set.blocks) taken.some) c.slice in
    let there = block_there set p.place stands.valid in
    record { limits = limits; accepted = taken.accepted (omega (arith, there)); stands = stands; inside = c.inside; tabled = c.tabled }

-- a whole pass
whole_pass : Laws → (shape : Shape) (z : Setting) → IsWithinLimits shape → All (IsAcceptedSet shape) z.config.sets → (fault : Fault) (p : Piece) (m : Machine) (lines : List Line) → All (IsAccepted shape) lines
    → IsSoundMachine shape z m → IsCaught (set_of m.modules.ram) p fault → IsUndisturbedPass fault m lines → slice_get (played m lines).after.modules.ram.results p.place.block ≡ Some NotOk
whole_pass laws shape z limits all fault p m lines ok sound is u =
    let r = m.modules.ram in
    let set = set_of r in
    let K = set.atomic in
    let spans = spans_of set.blocks in
    let caught = caught_in shape z fault r p limits all sound.ram.setting is in
    let first : from_place K spans start ≡ pass K spans = (laws.first K spans (laws.board.pass.cut shape set caught.limits caught.accepted)).0 in
    let before : Contains (from_place K spans start) p × (ticks r.cells (from_place K spans start) ≤ ticks r.cells (pass K spans)) =
    subst (λ (l : List Piece). Contains l p × (ticks r.cells l ≤ ticks r.cells (pass K spans))) (sym first) (is.slice, omega arith) in
    let valid : IsValid K spans start = start-valid K spans caught.accepted.atomic_some (omega (arith, caught.stands.valid.block)) in
    let h : Hunts fault set p r.cells (ticks r.cells (pass K spans)) m = record {
      present = u.there;
      on = begins_on z r sound.ram;
      pass = record { at = start; pass = record { valid = valid; state = inl u.begins; phase = inr before } };
    } in
    let low = sound.ram.low in
    let end = lines_pass laws shape z all fault set r.cells (ticks r.cells (pass K spans)) p caught low m lines ok sound h u.undisturbed u.whole in
    found shape fault set r.cells p laws.board.pass caught low (played m lines).after.modules.ram end.pass

-- ---- steps

played-append : (m : Machine) (a b : List Line) → (played m (a ++ b)).after ≡ (played (played m a).after b).after
played-append m [] b = refl
played-append m (line ∷ a) b = played-append (step m line).after a b

-- the step of the last of some lines
record LastStep (m : Machine) (front behind : List Line) : Type 0 where
  last : Step
  is : slice_get (played m (front ++ behind)).steps (length front - 1) ≡ Some last
  after : last.after ≡ (played m front).after

last_step : (m : Machine) (front behind : List Line) → 0 < length front → LastStep m front behind
last_step m [] behind some = absurd (omega (arith, some))
last_step m (line ∷ []) behind some = record { last = step m line; is = refl; after = refl }
last_step m (line ∷ next ∷ more) behind some =
    let rest = last_step (step m line).after (next ∷ more) behind (omega arith) in
    let n : length (line ∷ next ∷ more) - 1 ≡ suc (length (next ∷ more) - 1) = omega arith in
    record { last = rest.last; is = ap (λ (k : ℕ). slice_get (played m ((line ∷ next ∷ more) ++ behind)).steps k) n ∙ rest.is; after = rest.after }

-- no tick counts where there is no line
some_line : (shape : Shape) (z : Setting) (fault : Fault) (p : Piece) (m : Machine) (lines : List Line) → Laws → Caught shape fault (set_of m.modules.ram) p → (set_of m.modules.ram).atomic ≤ m.modules.ram.cells
    → IsUndisturbedPass fault m lines → 0 < length lines
some_line shape z fault p m (line ∷ lines) laws caught low u = omega arith
some_line shape z fault p m [] laws caught low u =
    let r = m.modules.ram in
    let K = (set_of r).atomic in
    let spans = spans_of (set_of r).blocks in
    let valid : IsValid K spans start = start-valid K spans caught.accepted.atomic_some (omega (arith, caught.stands.valid.block)) in
    let cut = laws.board.pass.cut shape (set_of r) caught.limits caught.accepted in
    let one : ticks r.cells (pass K spans) ≡ suc (ticks r.cells (drop (group_len r.cells (pass K spans)) (pass K spans))) =
    subst (λ (l : List Piece). ticks r.cells l ≡ suc (ticks r.cells (drop (group_len r.cells l) l))) (laws.first K spans cut).0 (laws.board.pass.group K r.cells spans start cut valid low) in
    absurd (omega (arith, u.whole, one))

-- ---- lists

pub All-front : {X : Type 0} (P : X → Type 0) (a b : List X) → All P (a ++ b) → All P a
All-front P [] b all = All-nil P
All-front P (x ∷ a) b all = All-cons P x a (All-head P x (a ++ b) all) (All-front P a b (All-tail P x (a ++ b) all))

pub All-behind : {X : Type 0} (P : X → Type 0) (a b : List X) → All P (a ++ b) → All P b
All-behind P [] b all = all
All-behind P (x ∷ a) b all = All-behind P a b (All-tail P x (a ++ b) all)

length-behind : (a b : List Line) → 0 < length b → 0 < length (a ++ b)
length-behind [] b some = some
length-behind (x ∷ a) b some = omega arith

pub finds_faults : Laws → PassesFindFaults
finds_faults laws c defect before lines behind config ok fault p catch u =
    let m = started c defect in
    let shape = c.shape in
    let z = m.modules.ram.setting in
    let sets = config.ram_tst.sets in
    let ours = All-front (IsAccepted shape) (before ++ lines) behind ok in
    let middle = (played m before).after in
    let sound = played-sound laws.board shape z sets m before (All-front (IsAccepted shape) before lines ours) (started_sound laws.board c defect config) in
    let caught = caught_in shape z fault middle.modules.ram p config.limits sets sound.ram.setting catch in
    let result = whole_pass laws shape z config.limits sets fault p middle lines (All-behind (IsAccepted shape) before lines ours) sound catch u in
    let some = some_line shape z fault p middle lines laws caught sound.ram.low u in
    let last = last_step m (before ++ lines) behind (length-behind before lines some) in
    record {
      step = last.last;
      last = last.is;
      result = ap (λ (y : Machine). slice_get y.modules.ram.results p.place.block) (last.after ∙ played-append m before lines) ∙ result;
    }
