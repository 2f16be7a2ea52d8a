-- What the mark of a tick stops.
use Rattle.std.proofs.Common.{ℕ, zero, suc, ◌≡◌, Bool, true, false, cond, List, [], ◌∷◌, Option, Some, None, refl, sym, ap, ◌∙◌, arith, ◌<◌, ◌≤◌, ◌-◌, ◌+◌, take, subst}
use Rattle.std.proofs.lemmas.Bool.{le-leb}
use Rattle.std.specs.Prelude.{is_some, leb}
use Rattle.mt_port.specs.declared.request.HandlerOp.{HandlerOp}
use Rattle.mt_port.specs.declared.request.Request.{Request}
use Rattle.mt_seq.specs.Laws.{NoAttemptIsEmpty}
use Rattle.mt_seq.specs.declared.sequence.Verdict.{Verdict}
use Rattle.mt_window.specs.Serving.{Scene, scene, operated, operated_all, served, due_served}
use Rattle.mt_window.specs.Slices.{Trail, started, taken_by, next_attempt, scene_behind, after_attempt, tried, slices}
use Rattle.mt_window.specs.Events.{entered}
use Rattle.mt_window.specs.Rows.{work_in, inside_of}
use Rattle.mt_window.specs.Kept.{cond_case, StaysStopped, tried-keeps, slices-stopped, slices-keeps, slices-whole}
use Rattle.mt_blocks.specs.Slices.{Piece, piece_at, from_place, from_next, next_of}
use Rattle.mt_blocks.specs.Groups.{group, group_len}
use Rattle.mt_blocks.specs.Laws.{PassesGoOn}
use Rattle.mt_ram.specs.declared.state.State.{State}
use Rattle.mt_ram.specs.declared.state.State.TheVariants.{Uninit, Stopped, Running, Suspended, Full, Partial}
use Rattle.mt_ram.specs.State.{RamTst, IsRam, IsPlace, IsRunning, set_of, spans_in}
use Rattle.mt_ram.specs.Table.{MainFunction, cell, group_at, ram_table}
use Rattle.mt_ram.specs.Event.{job_of, of_pass, ticking}
use Rattle.mt_ram.specs.Laws.{TicksRest, TicksTest, TicksEndTheirGroup}
use Rattle.mt_ram.proofs.Moves.{boundaries_move}
use Rattle.mt_ram.proofs.Sets.{accepted_set, accepted_spans}

-- ---- a tick whose mark is set

rests : (o : Scene RamTst) (s : State) → (IsRunning s → o.callee.mark ≡ true)
    → slices of_pass (work_in (cell o.callee MainFunction s)) (started false (scene o.board (inside_of (cell o.callee MainFunction s) o.callee) o.log))
    ≡ started false (scene o.board (inside_of (cell o.callee MainFunction s) o.callee) o.log)
rests o Uninit h = refl
rests o Stopped h = refl
rests o (Running p) h = slices-stopped of_pass (group_at o.callee p) (started false o) (h tt)
rests o (Suspended p) h = refl
rests o Full h = refl
rests o (Partial back) h = refl

pub ticks_rest : TicksRest
ticks_rest o h = rests o o.callee.state h

-- ---- a tick whose mark is not set

-- the end of an attempt sets no mark, and a boundary clears none
taken_mark : (c : RamTst) (x : Piece) (failed : Bool) (v : Option Verdict) → (taken_by of_pass c x failed v).mark ≡ c.mark
taken_mark c x failed None = refl
taken_mark c x failed (Some v) = refl

stays_stopped : StaysStopped of_pass
stays_stopped may x g e =
    let mid = scene_behind of_pass may g x in
    sym (taken_mark g.scene.callee x g.failed (next_attempt of_pass may g x).verdict) ∙ (boundaries_move mid).unmarked e

pub ticks_end_their_group : TicksEndTheirGroup
ticks_end_their_group o e = slices-whole of_pass stays_stopped (work_in (cell o.callee MainFunction o.callee.state)) (entered ticking o) e

-- ---- a tick that tests something

operated_all-count : (ops : List HandlerOp) (s : Scene RamTst) → (operated_all ram_table ops s).board.count ≡ s.board.count
operated_all-count [] s = refl
operated_all-count (op ∷ ops) s = operated_all-count ops (operated ram_table s op)

due_served-count : (rs : List Request) (s : Scene RamTst) → (due_served ram_table rs s).board.count ≡ s.board.count
due_served-count [] s = refl
due_served-count (r ∷ rs) s =
    let z = served ram_table r (s.board.count - r.offset) s in
    cond_case (λ (x : Scene RamTst). x.board.count ≡ s.board.count) (leb r.offset s.board.count) (due_served ram_table rs z) s (due_served-count rs z ∙ operated_all-count r.ops.items _) refl

-- the count behind an attempt, and its boundary
attempt_count : (may : Bool) (x : Piece) (g : Trail RamTst) → (after_attempt of_pass may g x).scene.board.count ≡ g.scene.board.count + (next_attempt of_pass may g x).count
attempt_count may x g = let mid = scene_behind of_pass may g x in due_served-count mid.board.left mid

abbrev Passes : ℕ → Trail RamTst → Type 0
Passes n h = n < h.scene.board.count

attempt_more : NoAttemptIsEmpty → (may : Bool) (x : Piece) (g : Trail RamTst) → 1 ≤ x.slice.n → Passes g.scene.board.count (after_attempt of_pass may g x)
attempt_more some may x g words = omega (arith, attempt_count may x g, some may g.scene.board (job_of g.scene.callee x) x.slice words)

keeps_more : (n : ℕ) (may : Bool) (x : Piece) (g : Trail RamTst) → Passes n g → Passes n (after_attempt of_pass may g x)
keeps_more n may x g h = omega (arith, h, attempt_count may x g)

tried_some : NoAttemptIsEmpty → (n : ℕ) (x : Piece) (g : Trail RamTst) → 1 ≤ x.slice.n → g.scene.callee.mark ≡ false → Passes g.scene.board.count (tried of_pass n x g)
tried_some some zero x g words e =
    subst (λ (m : Bool). Passes g.scene.board.count (cond m g (after_attempt of_pass false g x))) (sym e) (attempt_more some false x g words)
tried_some some (suc n) x g words e =
    let z = after_attempt of_pass true g x in
    let b = is_some (next_attempt of_pass true g x).verdict in
    let more = attempt_more some true x g words in
    subst (λ (m : Bool). Passes g.scene.board.count (cond m g (cond b z (tried of_pass n x z)))) (sym e)
    (cond_case (Passes g.scene.board.count) b z (tried of_pass n x z) more (tried-keeps of_pass (Passes g.scene.board.count) (keeps_more g.scene.board.count) n x z more))

slices_some : NoAttemptIsEmpty → (x : Piece) (more L : List Piece) (g : Trail RamTst) → L ≡ x ∷ more → 1 ≤ x.slice.n → g.scene.callee.mark ≡ false → Passes g.scene.board.count (slices of_pass L g)
slices_some some x more L g split words e =
    let n = of_pass.retries g.scene.callee in
    subst (λ (l : List Piece). Passes g.scene.board.count (slices of_pass l g)) (sym split)
    (slices-keeps of_pass (Passes g.scene.board.count) (keeps_more g.scene.board.count) more (tried of_pass n x g) (tried_some some n x g words e))

-- the group at a place has a slice
group_some : (cells : ℕ) (x : Piece) (more L : List Piece) → L ≡ x ∷ more → x.slice.n ≤ cells → group cells L ≡ x ∷ take (group_len (cells - x.slice.n) more) more
group_some cells x more L split fits =
    ap (group cells) split
    ∙ ap (λ (b : Bool). take (cond b (suc (group_len (cells - x.slice.n) more)) 0) (x ∷ more)) (le-leb x.slice.n cells fits)

some_tested : NoAttemptIsEmpty → PassesGoOn → (o : Scene RamTst) (s : State) → IsRam o.callee → IsPlace (set_of o.callee) s → IsRunning s → o.callee.mark ≡ false
    → o.board.count < (slices of_pass (work_in (cell o.callee MainFunction s)) (started false (scene o.board (inside_of (cell o.callee MainFunction s) o.callee) o.log))).scene.board.count
some_tested some go o Uninit ok valid running e = absurd running
some_tested some go o Stopped ok valid running e = absurd running
some_tested some go o (Running p) ok valid running e =
    let r = o.callee in
    let K = (set_of r).atomic in
    let spans = spans_in r in
    let set = accepted_set r ok in
    let goes = go K spans p (accepted_spans r.setting.shape (set_of r) ok.accepted.limits set) valid in
    let x = piece_at K spans p in
    let rest = from_next K spans (next_of K spans p) in
    let small : x.slice.n ≤ r.cells = omega (arith, ok.low) in
    let words : 1 ≤ x.slice.n = omega (arith, valid.offset, set.atomic_some) in
    slices_some some x _ (group_at r p) (started false o) (group_some r.cells x rest (from_place K spans p) goes.pass small) words e
some_tested some go o (Suspended p) ok valid running e = absurd running
some_tested some go o Full ok valid running e = absurd running
some_tested some go o (Partial back) ok valid running e = absurd running

pub ticks_test : NoAttemptIsEmpty → PassesGoOn → TicksTest
ticks_test some go o ok running e = some_tested some go o o.callee.state ok ok.place running e
