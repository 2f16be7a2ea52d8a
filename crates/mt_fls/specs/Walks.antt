-- What the walks of the running calls keep. Their proofs alone need it, and no contract of a public call cites it.
use Rattle.std.specs.Prelude.{ℕ, ◌<◌, ◌≤◌, ◌≡◌, ◌*◌, false, length, take, List, Some, refl}
use Rattle.std.proofs.Common.{sym, ap, ◌∙◌, subst}
use Rattle.mt_port.specs.declared.request.HandlerCall.{HandlerCall}
use Rattle.mt_port.specs.declared.request.HandlerCall.TheVariants as calls
use Rattle.mt_window.specs.declared.reply.Reply.{Reply}
use Rattle.mt_window.specs.declared.reply.Reply.TheVariants as reply
use Rattle.mt_window.specs.Rows.{next_in, reply_in, back_from}
use Rattle.mt_blocks.specs.declared.pass.Position.{Position}
use Rattle.mt_blocks.specs.Slices.{Piece, AreSpans, IsValid, from_place, test_rest}
use Rattle.mt_blocks.specs.Laws.{word_count}
use Rattle.mt_blocks.specs.Accepted.{flash_spans}
use Rattle.mt_fls.specs.declared.state.State.{State}
use Rattle.mt_fls.specs.declared.state.State.TheVariants.{Uninit, Init, Running, Suspended, Aborted, Foreground}
use Rattle.mt_fls.specs.declared.taken.Taken.{Taken}
use Rattle.mt_fls.specs.declared.taken.Taken.TheVariants.{Refused, Rests, Runs}
use Rattle.mt_fls.specs.declared.pass_walk.PassWalk.{PassWalk}
use Rattle.mt_fls.specs.declared.block_walk.BlockWalk.{BlockWalk}
use Rattle.mt_fls.specs.State.{Setting, FlsTst, IsRunning, IsInside, IsPlace, bgnd_spans, fgnd_spans}
use Rattle.mt_fls.specs.Laws.{Moves}
use Rattle.mt_fls.specs.Table.{StartFgnd, MainFunction, Abort, Suspend, Resume, GetTestResultBgnd, GetTestResultFgnd, cell, row, in_state, fls_table}

-- the reply of a call by how it is taken, where so many test accesses were made
abbrev pub reply_by : Taken → ℕ → Reply
reply_by (Refused why) made = reply.Refused why
reply_by Rests made = reply.Ran 0
reply_by Runs made = reply.Ran made

-- the module after a foreground test, which goes back to a state where it was taken
abbrev pub left_by : Taken → State → FlsTst → FlsTst
left_by (Refused why) state f = f
left_by Rests state f = f
left_by Runs state f = in_state state f

-- ---- a tick

-- a tick is so taken
abbrev pub Recalls : Taken → FlsTst → Type 0
Recalls taken f = (made : ℕ) → reply_by taken made ≡ reply_in (row f MainFunction) made

-- the slices of a group that are left
abbrev pub group_left : PassWalk → FlsTst → List Piece
group_left w f = take w.len (from_place f.setting.config.atomic (bgnd_spans f) w.at)

-- a walk of that module: as long as a slice is left and the module goes on, the pass stands there
pub record IsPassWalk (w : PassWalk) (f : FlsTst) : Type 0 where
  pub spans : AreSpans f.setting.config.atomic (bgnd_spans f)
  pub running : 0 < w.len → f.mark ≡ false → f.state ≡ Running w.at
  pub valid : 0 < w.len → IsValid f.setting.config.atomic (bgnd_spans f) w.at
  pub inside : w.len ≤ length (from_place f.setting.config.atomic (bgnd_spans f) w.at)

-- ---- a foreground test

-- how a foreground test was taken
pub record Way : Type 0 where
  pub block : ℕ
  pub taken : Taken
  pub state : State

abbrev pub way_of : BlockWalk → Way
way_of w = record { block = w.block; taken = w.taken; state = w.state }

-- a foreground test is so taken, and so the module goes back
pub record Returns (block : ℕ) (taken : Taken) (state : State) (f : FlsTst) : Type 0 where
  pub reply : (made : ℕ) → reply_by taken made ≡ reply_in (row f (StartFgnd block)) made
  pub back : (c : FlsTst) → left_by taken state c ≡ back_from (row f (StartFgnd block)) c

abbrev pub IsWayOf : Way → FlsTst → Type 0
IsWayOf way f = Returns way.block way.taken way.state f

-- the slices of a foreground test that are left
abbrev pub block_left : BlockWalk → FlsTst → List Piece
block_left w f = test_rest false f.setting.config.atomic (fgnd_spans f) w.next

-- a walk of that module: the next slice is there, the module is inside a foreground test, and the state to which it goes back is sound
pub record IsBlockWalk (w : BlockWalk) (f : FlsTst) : Type 0 where
  pub spans : AreSpans f.setting.config.atomic (fgnd_spans f)
  pub valid : (p : Position) → w.next ≡ Some p → IsValid f.setting.config.atomic (fgnd_spans f) p
  pub few : word_count (block_left w f) ≤ 65536
  pub place : w.taken ≡ Runs → IsPlace f.setting.config w.state

-- ---- what handlers' calls leave

pub Moves-refl : (a : FlsTst) → Moves a a
Moves-refl a = record { still = refl; unmarked = λ h. h; running = λ h r. refl; inside = λ r. refl }

pub Moves-trans : (a b c : FlsTst) → Moves a b → Moves b c → Moves a c
Moves-trans a b c p q = record {
  still = q.still ∙ ap (λ (x : FlsTst). record x { state = c.state; failed = c.failed; mark = c.mark }) p.still;
  unmarked = λ h. p.unmarked (q.unmarked h);
  running = λ h r. let e = p.running (q.unmarked h) r in q.running h (subst (λ (x : FlsTst). IsRunning x.state) (sym e) r) ∙ e;
  inside = λ r. let e = p.inside r in q.inside (subst (λ (x : FlsTst). IsInside x.state) (sym e) r) ∙ e;
}

abort-moves : (a : FlsTst) (s : State) → a.state ≡ s → Moves a (next_in (cell a Abort s) a)
abort-moves a Uninit e = Moves-refl a
abort-moves a Init e = record { still = refl; unmarked = λ h. cc; running = λ h r. cc; inside = λ r. absurd (subst IsInside e r) }
abort-moves a (Running p) e = record { still = refl; unmarked = λ h. cc; running = λ h r. cc; inside = λ r. absurd (subst IsInside e r) }
abort-moves a (Suspended p) e = record { still = refl; unmarked = λ h. cc; running = λ h r. cc; inside = λ r. absurd (subst IsInside e r) }
abort-moves a Aborted e = Moves-refl a
abort-moves a (Foreground back) e = Moves-refl a

suspend-moves : (a : FlsTst) (s : State) → a.state ≡ s → Moves a (next_in (cell a Suspend s) a)
suspend-moves a Uninit e = Moves-refl a
suspend-moves a Init e = Moves-refl a
suspend-moves a (Running p) e = record { still = refl; unmarked = λ h. cc; running = λ h r. cc; inside = λ r. absurd (subst IsInside e r) }
suspend-moves a (Suspended p) e = Moves-refl a
suspend-moves a Aborted e = Moves-refl a
suspend-moves a (Foreground back) e = Moves-refl a

resume-moves : (a : FlsTst) (s : State) → a.state ≡ s → Moves a (next_in (cell a Resume s) a)
resume-moves a Uninit e = Moves-refl a
resume-moves a Init e = Moves-refl a
resume-moves a (Running p) e = Moves-refl a
resume-moves a (Suspended p) e = record { still = refl; unmarked = λ h. h; running = λ h r. absurd (subst IsRunning e r); inside = λ r. absurd (subst IsInside e r) }
resume-moves a Aborted e = Moves-refl a
resume-moves a (Foreground back) e = Moves-refl a

bgnd-moves : (a : FlsTst) (s : State) → Moves a (next_in (cell a GetTestResultBgnd s) a)
bgnd-moves a Uninit = Moves-refl a
bgnd-moves a Init = Moves-refl a
bgnd-moves a (Running p) = Moves-refl a
bgnd-moves a (Suspended p) = Moves-refl a
bgnd-moves a Aborted = Moves-refl a
bgnd-moves a (Foreground back) = Moves-refl a

fgnd-moves : (a : FlsTst) (s : State) → Moves a (next_in (cell a GetTestResultFgnd s) a)
fgnd-moves a Uninit = Moves-refl a
fgnd-moves a Init = Moves-refl a
fgnd-moves a (Running p) = Moves-refl a
fgnd-moves a (Suspended p) = Moves-refl a
fgnd-moves a Aborted = Moves-refl a
fgnd-moves a (Foreground back) = Moves-refl a

pub row-moves : (a : FlsTst) (call : HandlerCall) → Moves a (fls_table.next a call)
unfolding fls_table
row-moves a calls.RamAllow = Moves-refl a
row-moves a calls.RamStop = Moves-refl a
row-moves a calls.RamSuspend = Moves-refl a
row-moves a calls.RamResume = Moves-refl a
row-moves a calls.RamGetExecutionStatus = Moves-refl a
row-moves a calls.RamGetTestResult = Moves-refl a
row-moves a (calls.RamGetTestResultPerBlock block) = Moves-refl a
row-moves a calls.FlsSuspend = suspend-moves a a.state refl
row-moves a calls.FlsResume = resume-moves a a.state refl
row-moves a calls.FlsAbort = abort-moves a a.state refl
row-moves a calls.FlsGetCurrentState = Moves-refl a
row-moves a calls.FlsGetTestResultBgnd = bgnd-moves a a.state
row-moves a calls.FlsGetTestResultFgnd = fgnd-moves a a.state

-- no call of a handler leads off a walk
pass_moves : (w : PassWalk) (a b : FlsTst) → Moves a b → IsPassWalk w a → IsPassWalk w b
pass_moves w a b m fits =
    let same : b.setting ≡ a.setting = ap (λ (f : FlsTst). f.setting) m.still in
    record {
      spans = subst (λ (s : Setting). AreSpans s.config.atomic (flash_spans s.config.bgnd)) (sym same) fits.spans;
      running = λ some clear.
          let there : a.state ≡ Running w.at = fits.running some (m.unmarked clear) in
          ap (λ (f : FlsTst). f.state) (m.running clear (subst IsRunning (sym there) tt)) ∙ there;
      valid = λ some. subst (λ (s : Setting). IsValid s.config.atomic (flash_spans s.config.bgnd) w.at) (sym same) (fits.valid some);
      inside = subst (λ (s : Setting). w.len ≤ length (from_place s.config.atomic (flash_spans s.config.bgnd) w.at)) (sym same) fits.inside;
    }

pub pass_handled : (w : PassWalk) (f : FlsTst) (call : HandlerCall) → IsPassWalk w f → IsPassWalk w (fls_table.next f call)
pass_handled w f call fits = pass_moves w f (fls_table.next f call) (row-moves f call) fits

handled_setting : (f : FlsTst) (call : HandlerCall) → (fls_table.next f call).setting ≡ f.setting
handled_setting f call = ap (λ (x : FlsTst). x.setting) (row-moves f call).still

pub group_handled : (w : PassWalk) (f : FlsTst) (call : HandlerCall) → IsPassWalk w f → group_left w (fls_table.next f call) ≡ group_left w f
group_handled w f call fits = ap (λ (s : Setting). take w.len (from_place s.config.atomic (flash_spans s.config.bgnd) w.at)) (handled_setting f call)

pub slices_handled : (w : BlockWalk) (f : FlsTst) (call : HandlerCall) → IsBlockWalk w f → block_left w (fls_table.next f call) ≡ block_left w f
slices_handled w f call fits = ap (λ (s : Setting). test_rest false s.config.atomic (flash_spans s.config.fgnd) w.next) (handled_setting f call)

pub words_handled : (w : BlockWalk) (f : FlsTst) (call : HandlerCall) → IsBlockWalk w f
    → 2 * word_count (block_left w (fls_table.next f call)) ≡ 2 * word_count (block_left w f)
words_handled w f call fits = ap (λ (l : List Piece). 2 * word_count l) (slices_handled w f call fits)

pub block_handled : (w : BlockWalk) (f : FlsTst) (call : HandlerCall) → IsBlockWalk w f → IsBlockWalk w (fls_table.next f call)
block_handled w f call fits =
    let same = handled_setting f call in
    record {
      spans = subst (λ (s : Setting). AreSpans s.config.atomic (flash_spans s.config.fgnd)) (sym same) fits.spans;
      valid = λ p e. subst (λ (s : Setting). IsValid s.config.atomic (flash_spans s.config.fgnd) p) (sym same) (fits.valid p e);
      few = subst (λ (l : List Piece). word_count l ≤ 65536) (sym (slices_handled w f call fits)) fits.few;
      place = λ e. subst (λ (s : Setting). IsPlace s.config w.state) (sym same) (fits.place e);
    }

-- the shape is part of the setting
pub same_shape : (a b : FlsTst) → a.setting ≡ b.setting → a.setting.shape ≡ b.setting.shape
same_shape a b e = ap (λ (s : Setting). s.shape) e
