-- What the mark of a tick stops.
use Rattle.std.proofs.Common.{◌≡◌, ◌<◌, ◌≤◌, ◌+◌, ◌-◌, ◌*◌, ℕ, suc, Bool, true, false, cond, List, [], ◌∷◌, length, take, Option, Some, None, refl, sym, ap, subst, ◌∙◌, arith}
use Rattle.std.proofs.lemmas.Bool.{le-leb}
use Rattle.std.proofs.lemmas.List.{length-map}
use Rattle.std.specs.Prelude.{◌||◌, leb}
use Rattle.mt_port.specs.declared.request.HandlerOp.{HandlerOp}
use Rattle.mt_port.specs.declared.request.Request.{Request}
use Rattle.mt_seq.specs.Compare.{compare_hold}
use Rattle.mt_window.specs.declared.reply.Detail.TheVariants.{Bgnd}
use Rattle.mt_window.specs.Serving.{Scene, scene, operated, operated_all, served, due_served}
use Rattle.mt_window.specs.Slices.{Trail, started, taken_by, next_attempt, scene_behind, after_attempt, tried, slices}
use Rattle.mt_window.specs.Events.{entered}
use Rattle.mt_window.specs.Rows.{work_in, inside_of}
use Rattle.mt_window.specs.Kept.{cond_case, StaysStopped, slices-stopped, slices-keeps, slices-whole}
use Rattle.mt_blocks.specs.declared.pass.Position.{Position}
use Rattle.mt_blocks.specs.declared.config.FlashBlock.{FlashBlock}
use Rattle.mt_blocks.specs.Slices.{Piece, IsValid, start, next_of, piece_at, from_place, from_next}
use Rattle.mt_blocks.specs.Groups.{group, group_len}
use Rattle.mt_blocks.specs.Laws.{PassesGoOn, BlocksBegin}
use Rattle.mt_fls.specs.declared.state.State.{State}
use Rattle.mt_fls.specs.declared.state.State.TheVariants as state
use Rattle.mt_fls.specs.State.{FlsTst, IsFls, IsPlace, bgnd_spans}
use Rattle.mt_fls.specs.Table.{MainFunction, cell, group_at, fls_table}
use Rattle.mt_fls.specs.Event.{of_pass, ticking, going_on, detail_after, is_different}
use Rattle.mt_fls.specs.Laws.{IsTicking, TicksRest, TicksCompare, TicksEndTheirGroup}
use Rattle.mt_fls.proofs.Moves.{boundaries_move}
use Rattle.mt_fls.proofs.Blocks.{bgnd_accepted}

-- ---- a tick whose mark is set

rests : (o : Scene FlsTst) (s : State) → (IsTicking s → o.callee.mark ≡ true)
    → slices of_pass (work_in (cell o.callee MainFunction s)) (started false (scene o.board (inside_of (cell o.callee MainFunction s) o.callee) o.log))
    ≡ started false (scene o.board (inside_of (cell o.callee MainFunction s) o.callee) o.log)
rests o state.Uninit h = refl
rests o state.Init h = slices-stopped of_pass (group_at o.callee start) (started false (scene o.board (inside_of (cell o.callee MainFunction state.Init) o.callee) o.log)) (h tt)
rests o (state.Running p) h = slices-stopped of_pass (group_at o.callee p) (started false o) (h tt)
rests o (state.Suspended p) h = refl
rests o state.Aborted h = refl
rests o (state.Foreground b) h = refl

pub ticks_rest : TicksRest
ticks_rest o h = rests o o.callee.state h

-- ---- a tick whose mark is not set

-- the end of a slice sets no mark, and a boundary clears none
going_mark : (f : FlsTst) (failed : Bool) (next : Option Position) → (going_on f failed next).mark ≡ f.mark
going_mark f failed None = refl
going_mark f failed (Some p) = refl

taken_mark : (f : FlsTst) (x : Piece) (failed : Bool) (v : Option (Option ℕ)) → (taken_by of_pass f x failed v).mark ≡ f.mark
taken_mark f x failed None = refl
taken_mark f x failed (Some v) =
    going_mark (record f { detail = detail_after Bgnd x v f.detail }) (f.failed || is_different v) (next_of f.setting.config.atomic (bgnd_spans f) x.place)

stays_stopped : StaysStopped of_pass
stays_stopped may x g e =
    let mid = scene_behind of_pass may g x in
    sym (taken_mark g.scene.callee x g.failed (next_attempt of_pass may g x).verdict) ∙ (boundaries_move mid).unmarked e

pub ticks_end_their_group : TicksEndTheirGroup
ticks_end_their_group o e = slices-whole of_pass stays_stopped (work_in (cell o.callee MainFunction o.callee.state)) (entered ticking o) e

-- ---- a tick that compares something

operated_all-count : (ops : List HandlerOp) (s : Scene FlsTst) → (operated_all fls_table ops s).board.count ≡ s.board.count
operated_all-count [] s = refl
operated_all-count (op ∷ ops) s = operated_all-count ops (operated fls_table s op)

due_served-count : (rs : List Request) (s : Scene FlsTst) → (due_served fls_table rs s).board.count ≡ s.board.count
due_served-count [] s = refl
due_served-count (r ∷ rs) s =
    let z = served fls_table r (s.board.count - r.offset) s in
    cond_case (λ (x : Scene FlsTst). x.board.count ≡ s.board.count) (leb r.offset s.board.count) (due_served fls_table rs z) s (due_served-count rs z ∙ operated_all-count r.ops.items _) refl

-- the count behind a slice, and its boundary
attempt_count : (may : Bool) (x : Piece) (g : Trail FlsTst) → (after_attempt of_pass may g x).scene.board.count ≡ g.scene.board.count + 2 * x.slice.n
unfolding compare_hold
attempt_count may x g = let mid = scene_behind of_pass may g x in due_served-count mid.board.left mid

abbrev Passes : ℕ → Trail FlsTst → Type 0
Passes n h = n < h.scene.board.count

keeps_more : (n : ℕ) (may : Bool) (x : Piece) (g : Trail FlsTst) → Passes n g → Passes n (after_attempt of_pass may g x)
keeps_more n may x g h = omega (arith, h, attempt_count may x g)

slices_some : (x : Piece) (more L : List Piece) (g : Trail FlsTst) → L ≡ x ∷ more → 1 ≤ x.slice.n → g.scene.callee.mark ≡ false → Passes g.scene.board.count (slices of_pass L g)
slices_some x more L g split words e =
    let first : Passes g.scene.board.count (after_attempt of_pass false g x) = omega (arith, words, attempt_count false x g) in
    let one : Passes g.scene.board.count (tried of_pass 0 x g) = subst (λ (m : Bool). Passes g.scene.board.count (cond m g (after_attempt of_pass false g x))) (sym e) first in
    subst (λ (l : List Piece). Passes g.scene.board.count (slices of_pass l g)) (sym split)
    (slices-keeps of_pass (Passes g.scene.board.count) (keeps_more g.scene.board.count) more (tried of_pass 0 x g) one)

-- the group at a place has a slice
group_some : (cells : ℕ) (x : Piece) (more L : List Piece) → L ≡ x ∷ more → x.slice.n ≤ cells → group cells L ≡ x ∷ take (group_len (cells - x.slice.n) more) more
group_some cells x more L split fits =
    ap (group cells) split
    ∙ ap (λ (b : Bool). take (cond b (suc (group_len (cells - x.slice.n) more)) 0) (x ∷ more)) (le-leb x.slice.n cells fits)

place_tested : PassesGoOn → (f : FlsTst) (p : Position) (g : Trail FlsTst) → IsFls f → IsValid f.setting.config.atomic (bgnd_spans f) p → g.scene.callee.mark ≡ false
    → Passes g.scene.board.count (slices of_pass (group_at f p) g)
place_tested go f p g ok valid e =
    let config = f.setting.config in
    let spans = bgnd_spans f in
    let goes = go config.atomic spans p (bgnd_accepted f.setting.shape config ok.accepted) valid in
    let x = piece_at config.atomic spans p in
    let rest = from_next config.atomic spans (next_of config.atomic spans p) in
    let small : x.slice.n ≤ config.cells = omega (arith, ok.accepted.cells_low) in
    let words : 1 ≤ x.slice.n = omega (arith, valid.offset, ok.accepted.atomic_some) in
    slices_some x _ (group_at f p) g (group_some config.cells x rest (from_place config.atomic spans p) goes.pass small) words e

some_compared : PassesGoOn → BlocksBegin → (o : Scene FlsTst) (s : State) → IsFls o.callee → IsPlace o.callee.setting.config s → IsTicking s → 0 < length o.callee.setting.config.bgnd → o.callee.mark ≡ false
    → o.board.count < (slices of_pass (work_in (cell o.callee MainFunction s)) (started false (scene o.board (inside_of (cell o.callee MainFunction s) o.callee) o.log))).scene.board.count
some_compared go begin o state.Uninit ok valid ticking some e = absurd ticking
some_compared go begin o state.Init ok valid ticking some e =
    let f = o.callee in
    let spans = bgnd_spans f in
    let many = length-map f.setting.config.bgnd (λ (b : FlashBlock). b.span) in
    let first = begin f.setting.config.atomic spans 0 (bgnd_accepted f.setting.shape f.setting.config ok.accepted) (omega (arith, many, some)) in
    place_tested go f start (started false (scene o.board (inside_of (cell f MainFunction state.Init) f) o.log)) ok first.valid e
some_compared go begin o (state.Running p) ok valid ticking some e = place_tested go o.callee p (started false o) ok (valid some) e
some_compared go begin o (state.Suspended p) ok valid ticking some e = absurd ticking
some_compared go begin o state.Aborted ok valid ticking some e = absurd ticking
some_compared go begin o (state.Foreground b) ok valid ticking some e = absurd ticking

pub ticks_compare : PassesGoOn → BlocksBegin → TicksCompare
ticks_compare go begin o ok ticking some e = some_compared go begin o o.callee.state ok ok.place ticking some e
