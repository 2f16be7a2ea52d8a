-- FlsTst reports no failure while each flash word equals its copy.
use Rattle.std.proofs.Common.{ℕ, zero, suc, ◌≡◌, ◌+◌, ◌-◌, ◌<◌, ◌≤◌, Bool, true, false, List, [], ◌∷◌, All, Option, Some, None, refl, sym, ap, ◌∙◌, subst, arith}
use Rattle.std.specs.Prelude.{◌||◌, if◌then◌else◌, length, min, nat_lt, slice_index}
use Rattle.std.proofs.lemmas.Bool.{ltb-true}
use Rattle.std.proofs.lemmas.List.{length-map}
use Rattle.std.proofs.lemmas.List.Elements.{All-take}
use Rattle.mt_seq.specs.Compare.{comparison}
use Rattle.mt_seq.specs.Laws.{EqualsCopy, NothingIsFoundWhereAllEqual}
use Rattle.mt_window.specs.declared.reply.Refusal.TheVariants as refusal
use Rattle.mt_window.specs.Rows.{Refuses, Runs, work_in}
use Rattle.mt_window.specs.Slices.{Tests}
use Rattle.mt_blocks.specs.declared.config.FlashBlock.{FlashBlock}
use Rattle.mt_blocks.specs.declared.config.FlsConfig.{FlsConfig}
use Rattle.mt_blocks.specs.declared.pass.Position.{Position}
use Rattle.mt_blocks.specs.declared.span.Span.{Span}
use Rattle.mt_blocks.specs.Accepted.{flash_block_at, flash_spans, no_flash_block}
use Rattle.mt_blocks.specs.Groups.{group, group_len}
use Rattle.mt_blocks.specs.Slices.{Piece, pieces, span_at, span_len, from_place, start, next_of}
use Rattle.mt_fls.specs.declared.state.Back.{Back}
use Rattle.mt_fls.specs.declared.state.Back.TheVariants as back
use Rattle.mt_fls.specs.declared.state.State.{State}
use Rattle.mt_fls.specs.declared.state.State.TheVariants as state
use Rattle.mt_fls.specs.State.{FlsTst, bgnd_spans, fgnd_spans}
use Rattle.mt_fls.specs.Table.{Service, Init, DeInit, Abort, Suspend, Resume, StartFgnd, MainFunction, GetCurrentState, GetTestResultBgnd, GetTestResultFgnd, GetErrorDetails, GetVersionInfo, cell, row, handled, handler_reply, handler_next, fls_table, comparing, group_at, in_state, state_of}
use Rattle.mt_fls.specs.Event.{of_pass, of_block, running as running_of, copy_of, going_on, result_of}
use Rattle.mt_laws.specs.Alarms.{is_failure, is_place, reports_failure, AgreeWithCopies, AgreesWithCopies}
use Rattle.mt_laws.proofs.Calm.{CalmCell, CalmTable, CalmTests, CalmCall, Premise, cell_next, cell_reply, cell_inside, cell_back}
use Rattle.mt_laws.proofs.Pieces.{IsOf, from-of, pieces-of}

-- The module has this configuration, no result is NOT_OK, no sequence of the interval failed, and no difference is known.
pub record IsCalm (config : FlsConfig) (f : FlsTst) : Type 0 where
  pub same : f.setting.config ≡ config
  pub interval : is_failure f.result ≡ false
  pub failed : f.failed ≡ false
  pub foreground : is_failure f.fgnd ≡ false
  pub detail : is_place f.detail ≡ false

-- ---- slices

-- a slice of an equal block is equal to its copy
block_agrees : (blocks : List FlashBlock) (flash : List ℕ) (i : ℕ) → AgreeWithCopies blocks flash → i < length blocks
    → EqualsCopy flash (flash_block_at blocks i).span.first (flash_block_at blocks i).copy (span_len (flash_block_at blocks i).span)
block_agrees blocks flash i agrees there = agrees i no_flash_block there

span_of_block : (blocks : List FlashBlock) (i : ℕ) → span_at (flash_spans blocks) i ≡ (flash_block_at blocks i).span
span_of_block [] i = refl
span_of_block (b ∷ blocks) zero = refl
span_of_block (b ∷ blocks) (suc i) = span_of_block blocks i

part_agrees : (flash : List ℕ) (first copy len o K n : ℕ) → EqualsCopy flash first copy len → n ≡ min (len - o) K → EqualsCopy flash (first + o) (copy + o) n
part_agrees flash first copy len o K n agrees e k h =
    let inside : o + k < len = omega (arith, e, h) in
    let a : first + o + k ≡ first + (o + k) = omega arith in
    let b : copy + o + k ≡ copy + (o + k) = omega arith in
    ap (slice_index flash) a ∙ agrees (o + k) inside ∙ sym (ap (slice_index flash) b)

piece_agrees : (K : ℕ) (blocks : List FlashBlock) (flash : List ℕ) (p : Piece) → AgreeWithCopies blocks flash → IsOf K (flash_spans blocks) p → EqualsCopy flash p.slice.first (copy_of blocks p.place) p.slice.n
piece_agrees K blocks flash p agrees of =
    let i : ℕ = p.place.block in
    let o : ℕ = p.place.offset in
    let b : FlashBlock = flash_block_at blocks i in
    let there : i < length blocks = omega (arith, of.valid.block, length-map blocks (λ (x : FlashBlock). x.span)) in
    let span : span_at (flash_spans blocks) i ≡ b.span = span_of_block blocks i in
    let first : p.slice.first ≡ b.span.first + o = ap (λ (x : Piece). x.slice.first) of.is ∙ ap (λ (s : Span). s.first + o) span in
    let n : p.slice.n ≡ min (span_len b.span - o) K = ap (λ (x : Piece). x.slice.n) of.is ∙ ap (λ (s : Span). min (span_len s - o) K) span in
    subst (λ (a : ℕ). EqualsCopy flash a (b.copy + o) p.slice.n) (sym first)
    (part_agrees flash b.span.first b.copy (span_len b.span) o K p.slice.n (block_agrees blocks flash i agrees there) n)

nothing_found : NothingIsFoundWhereAllEqual → (K : ℕ) (blocks : List FlashBlock) (flash : List ℕ) (p : Piece) (v : Option ℕ) → AgreeWithCopies blocks flash → IsOf K (flash_spans blocks) p
    → Some (comparison flash p.slice.first (copy_of blocks p.place) p.slice.n) ≡ Some v → v ≡ None
nothing_found law K blocks flash p v agrees of e =
    let same : comparison flash p.slice.first (copy_of blocks p.place) p.slice.n ≡ v = cc in
    sym same ∙ (law flash p.slice.first (copy_of blocks p.place) p.slice.n).1 (piece_agrees K blocks flash p agrees of)

-- ---- the end of a slice

going_calm : (config : FlsConfig) (f : FlsTst) (failed : Bool) (next : Option Position) → failed ≡ false → IsCalm config f → IsCalm config (going_on f failed next)
going_calm config f failed None e h = record {
  same = h.same;
  interval = ap (λ (b : Bool). is_failure (result_of b)) e;
  failed = refl;
  foreground = h.foreground;
  detail = h.detail;
}
going_calm config f failed (Some p) e h = record { same = h.same; interval = h.interval; failed = e; foreground = h.foreground; detail = h.detail }

pass_taken : (config : FlsConfig) (f : FlsTst) (p : Piece) (v : Option ℕ) → v ≡ None → IsCalm config f → IsCalm config (of_pass.taken f p v false) × (of_pass.failed p v false ≡ false)
pass_taken config f p (Some addr) e h = absurd cc
pass_taken config f p None e h = (
  going_calm config f (f.failed || false) (next_of f.setting.config.atomic (bgnd_spans f) p.place) (ap (λ (b : Bool). b || false) h.failed) h,
  refl,
)

fgnd_calm : (last : Bool) (f : FlsTst) → is_failure f.fgnd ≡ false → is_failure (if last then result_of false else f.fgnd) ≡ false
fgnd_calm true f h = refl
fgnd_calm false f h = h

block_taken : (config : FlsConfig) (f : FlsTst) (p : Piece) (v : Option ℕ) → v ≡ None → IsCalm config f → IsCalm config (of_block.taken f p v false) × (of_block.failed p v false ≡ false)
block_taken config f p (Some addr) e h = absurd cc
block_taken config f p None e h = (
  record { same = h.same; interval = h.interval; failed = h.failed; foreground = fgnd_calm p.last f h.foreground; detail = h.detail },
  refl,
)

-- ---- the table

runs_calm : (config : FlsConfig) (inside back : State) (f : FlsTst) → IsCalm config f → IsCalm config (in_state inside f) × IsCalm config (in_state back f)
runs_calm config inside back f h = (
  record { same = h.same; interval = h.interval; failed = h.failed; foreground = h.foreground; detail = h.detail },
  record { same = h.same; interval = h.interval; failed = h.failed; foreground = h.foreground; detail = h.detail },
)

comparing_calm : (config : FlsConfig) (f : FlsTst) (block : ℕ) (b : Back) → CalmCell (IsCalm config) (comparing f block b)
comparing_calm config f block b = of (nat_lt block (length f.setting.config.fgnd))
  where
    of : (there : Bool) → CalmCell {C = FlsTst} {X = Piece} (IsCalm config) (if there
        then Runs (pieces f.setting.config.atomic block (span_at (fgnd_spans f) block)) (in_state (state.Foreground b)) (in_state (state_of b))
        else Refuses refusal.Range)
    of true = runs_calm config (state.Foreground b) (state_of b)
    of false = tt

pub cell_calm : (config : FlsConfig) (f : FlsTst) (service : Service) (s : State) → IsCalm config f → CalmCell (IsCalm config) (cell f service s)
cell_calm config f Init state.Uninit h = record { same = h.same; interval = refl; failed = refl; foreground = refl; detail = refl }
cell_calm config f Init state.Aborted h = record { same = h.same; interval = refl; failed = refl; foreground = refl; detail = refl }
cell_calm config f Init _ h = tt
cell_calm config f DeInit state.Uninit h = tt
cell_calm config f DeInit _ h = record { same = h.same; interval = h.interval; failed = refl; foreground = h.foreground; detail = h.detail }
cell_calm config f (StartFgnd block) state.Uninit h = tt
cell_calm config f (StartFgnd block) state.Init h = comparing_calm config f block back.Init
cell_calm config f (StartFgnd block) (state.Running p) h = comparing_calm config f block (back.Running p)
cell_calm config f (StartFgnd block) (state.Suspended p) h = comparing_calm config f block (back.Suspended p)
cell_calm config f (StartFgnd block) _ h = tt
cell_calm config f Abort state.Uninit h = tt
cell_calm config f Abort state.Init h = record { same = h.same; interval = h.interval; failed = refl; foreground = h.foreground; detail = h.detail }
cell_calm config f Abort (state.Running p) h = record { same = h.same; interval = h.interval; failed = refl; foreground = h.foreground; detail = h.detail }
cell_calm config f Abort (state.Suspended p) h = record { same = h.same; interval = h.interval; failed = refl; foreground = h.foreground; detail = h.detail }
cell_calm config f Abort _ h = tt
cell_calm config f Suspend state.Uninit h = tt
cell_calm config f Suspend (state.Running p) h = record { same = h.same; interval = h.interval; failed = h.failed; foreground = h.foreground; detail = h.detail }
cell_calm config f Suspend _ h = tt
cell_calm config f Resume state.Uninit h = tt
cell_calm config f Resume (state.Suspended p) h = record { same = h.same; interval = h.interval; failed = h.failed; foreground = h.foreground; detail = h.detail }
cell_calm config f Resume _ h = tt
cell_calm config f MainFunction state.Uninit h = tt
cell_calm config f MainFunction state.Init h = λ g i. (record { same = i.same; interval = i.interval; failed = i.failed; foreground = i.foreground; detail = i.detail }, i)
cell_calm config f MainFunction (state.Running p) h = λ g i. (i, i)
cell_calm config f MainFunction _ h = tt
cell_calm config f GetTestResultBgnd state.Uninit h = tt
cell_calm config f GetTestResultBgnd _ h = h.interval
cell_calm config f GetTestResultFgnd state.Uninit h = tt
cell_calm config f GetTestResultFgnd _ h = h.foreground
cell_calm config f GetErrorDetails state.Uninit h = tt
cell_calm config f GetErrorDetails _ h = h.detail
cell_calm config f GetCurrentState s h = refl
cell_calm config f GetVersionInfo _ h = refl

handler_next_calm : (config : FlsConfig) (f : FlsTst) (service : Option Service) → IsCalm config f → IsCalm config (handler_next f service)
handler_next_calm config f None h = h
handler_next_calm config f (Some service) h = cell_next (IsCalm config) (row f service) f (cell_calm config f service f.state h) h

handler_reply_calm : (config : FlsConfig) (f : FlsTst) (service : Option Service) → IsCalm config f → reports_failure (handler_reply f service) ≡ false
handler_reply_calm config f None h = refl
handler_reply_calm config f (Some service) h = cell_reply (IsCalm config) (row f service) 0 (cell_calm config f service f.state h)

table_calm : (config : FlsConfig) → CalmTable fls_table (IsCalm config)
unfolding fls_table
table_calm config = record {
  next = λ f call h. handler_next_calm config f (handled call) h;
  reply = λ f call h. handler_reply_calm config f (handled call) h;
}

-- ---- the slices that a call tests

-- the flash equals its copies
abbrev pub Equal : FlsConfig → Premise
Equal config fault flash = AgreesWithCopies config flash

abbrev pub InPass : FlsConfig → Piece → Type 0
InPass config p = IsOf config.atomic (flash_spans config.bgnd) p

abbrev pub InBlock : FlsConfig → Piece → Type 0
InBlock config p = IsOf config.atomic (flash_spans config.fgnd) p

none_tested : (J : Piece → Type 0) → All J []
none_tested J k d h = absurd (omega (arith, h))

group_in : (config : FlsConfig) (f : FlsTst) (x : Position) → 1 ≤ config.atomic → f.setting.config ≡ config → All (InPass config) (group_at f x)
group_in config f x some e =
    subst (λ (c : FlsConfig). All (InPass config) (group c.cells (from_place c.atomic (flash_spans c.bgnd) x))) (sym e)
    (All-take (InPass config) (group_len config.cells (from_place config.atomic (flash_spans config.bgnd) x)) (from_place config.atomic (flash_spans config.bgnd) x) (from-of config.atomic (flash_spans config.bgnd) x some))

tick_work : (config : FlsConfig) (f : FlsTst) (s : State) → 1 ≤ config.atomic → f.setting.config ≡ config → All (InPass config) (work_in (cell f MainFunction s))
tick_work config f state.Uninit some e = none_tested (InPass config)
tick_work config f state.Init some e = group_in config f start some e
tick_work config f (state.Running p) some e = group_in config f p some e
tick_work config f (state.Suspended p) some e = none_tested (InPass config)
tick_work config f state.Aborted some e = none_tested (InPass config)
tick_work config f (state.Foreground b) some e = none_tested (InPass config)

block_in : (config : FlsConfig) (f : FlsTst) (block : ℕ) (b : Back) → 1 ≤ config.atomic → f.setting.config ≡ config → All (InBlock config) (work_in (comparing f block b))
block_in config f block b some e = of (nat_lt block (length f.setting.config.fgnd)) refl
  where
    of : (there : Bool) → nat_lt block (length f.setting.config.fgnd) ≡ there → All (InBlock config) (work_in {C = FlsTst} {X = Piece} (if there
        then Runs (pieces f.setting.config.atomic block (span_at (fgnd_spans f) block)) (in_state (state.Foreground b)) (in_state (state_of b))
        else Refuses refusal.Range))
    of true is =
        let few : block < length f.setting.config.fgnd = ltb-true block (length f.setting.config.fgnd) is in
        let there : block < length (flash_spans config.fgnd) = omega (arith, few, ap (λ (c : FlsConfig). length c.fgnd) e, length-map config.fgnd (λ (x : FlashBlock). x.span)) in
        subst (λ (c : FlsConfig). All (InBlock config) (pieces c.atomic block (span_at (flash_spans c.fgnd) block))) (sym e) (pieces-of config.atomic (flash_spans config.fgnd) block some there)
    of false is = none_tested (InBlock config)

start_work : (config : FlsConfig) (f : FlsTst) (block : ℕ) (s : State) → 1 ≤ config.atomic → f.setting.config ≡ config → All (InBlock config) (work_in (cell f (StartFgnd block) s))
start_work config f block state.Uninit some e = none_tested (InBlock config)
start_work config f block state.Init some e = block_in config f block back.Init some e
start_work config f block (state.Running p) some e = block_in config f block (back.Running p) some e
start_work config f block (state.Suspended p) some e = block_in config f block (back.Suspended p) some e
start_work config f block state.Aborted some e = none_tested (InBlock config)
start_work config f block (state.Foreground b) some e = none_tested (InBlock config)

-- ---- running calls

pass_calm : NothingIsFoundWhereAllEqual → (config : FlsConfig) → CalmTests of_pass (Equal config) (IsCalm config) (InPass config)
pass_calm law config = record {
  table = table_calm config;
  taken = λ may f p b v h j equal is. pass_taken config f p v
      (nothing_found law config.atomic config.bgnd b.flash p v equal.bgnd j
      (subst (λ (c : FlsConfig). Some (comparison b.flash p.slice.first (copy_of c.bgnd p.place) p.slice.n) ≡ Some v) h.same is)) h;
}

block_calm : NothingIsFoundWhereAllEqual → (config : FlsConfig) → CalmTests of_block (Equal config) (IsCalm config) (InBlock config)
block_calm law config = record {
  table = table_calm config;
  taken = λ may f p b v h j equal is. block_taken config f p v
      (nothing_found law config.atomic config.fgnd b.flash p v equal.fgnd j
      (subst (λ (c : FlsConfig). Some (comparison b.flash p.slice.first (copy_of c.fgnd p.place) p.slice.n) ≡ Some v) h.same is)) h;
}

call_calm : (config : FlsConfig) (tests : Tests FlsTst Piece (Option ℕ)) (service : Service) (J : Piece → Type 0) → CalmTests tests (Equal config) (IsCalm config) J
    → ((f : FlsTst) → IsCalm config f → All J (work_in (row f service))) → CalmCall (running_of tests service) (Equal config) (IsCalm config) J
call_calm config tests service J calm work = record {
  tests = calm;
  cleared = λ f h. record { same = h.same; interval = h.interval; failed = h.failed; foreground = h.foreground; detail = h.detail };
  work = work;
  inside = λ f h. cell_inside (IsCalm config) (row f service) f (cell_calm config f service f.state h) h;
  back = λ o f i h. cell_back (IsCalm config) (row o service) f (cell_calm config o service o.state i) h;
  reply = λ o made i. cell_reply (IsCalm config) (row o service) made (cell_calm config o service o.state i);
}

pub tick_calm : NothingIsFoundWhereAllEqual → (config : FlsConfig) → 1 ≤ config.atomic → CalmCall (running_of of_pass MainFunction) (Equal config) (IsCalm config) (InPass config)
tick_calm law config some = call_calm config of_pass MainFunction (InPass config) (pass_calm law config) (λ f h. tick_work config f f.state some h.same)

pub foreground_calm : NothingIsFoundWhereAllEqual → (config : FlsConfig) (block : ℕ) → 1 ≤ config.atomic → CalmCall (running_of of_block (StartFgnd block)) (Equal config) (IsCalm config) (InBlock config)
foreground_calm law config block some = call_calm config of_block (StartFgnd block) (InBlock config) (block_calm law config) (λ f h. start_work config f block f.state some h.same)
