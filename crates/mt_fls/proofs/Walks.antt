-- The next slices of the walks.
use Rattle.std.proofs.Common.{ℕ, Bool, true, false, cond, zero, suc, ◌-◌, ◌*◌, ◌/◌, ◌<◌, ◌≤◌, ◌≡◌, List, [], ◌∷◌, take, drop, length, Option, None, Some, refl, sym, ap, ◌∙◌, subst, arith}
use Rattle.std.specs.Prelude.{is_some, nat_lt}
use Rattle.std.proofs.Math.Seq.{drop-nil}
use Rattle.std.proofs.lemmas.Bool.{lt-ltb, ltb-true}
use Rattle.std.proofs.lemmas.List.{length-map, length-take-le}
use Rattle.mt_seq.specs.Compare.{compare_hold}
use Rattle.mt_window.specs.declared.reply.Refusal.{Refusal}
use Rattle.mt_window.specs.declared.reply.Refusal.TheVariants.{Range}
use Rattle.mt_window.specs.Rows.{Refuses, work_in}
use Rattle.mt_window.specs.Rows as Cells
use Rattle.mt_blocks.specs.declared.span.Span.{Span}
use Rattle.mt_blocks.specs.declared.pass.Position.{Position}
use Rattle.mt_blocks.specs.declared.config.FlashBlock.{FlashBlock}
use Rattle.mt_blocks.specs.declared.config.FlsConfig.{FlsConfig}
use Rattle.mt_blocks.specs.Slices.{Piece, IsValid, AreSpans, start, span_at, pieces, pieces_from, from_place, from_next, piece_at, next_of, next_in, or_start, test_from, test_rest}
use Rattle.mt_blocks.specs.Groups.{group}
use Rattle.mt_blocks.specs.Laws.{PassesGoOn, BlocksBegin, Begins, block_start, word_count}
use Rattle.mt_blocks.specs.Accepted.{flash_spans}
use Rattle.mt_fls.specs.declared.state.Back.{Back}
use Rattle.mt_fls.specs.declared.state.Back.TheVariants as back
use Rattle.mt_fls.specs.declared.state.State.{State}
use Rattle.mt_fls.specs.declared.state.State.TheVariants.{Foreground}
use Rattle.mt_fls.specs.declared.taken.Taken.{Taken}
use Rattle.mt_fls.specs.declared.taken.Taken.TheVariants.{Refused, Runs}
use Rattle.mt_fls.specs.declared.pass_walk.PassWalk.{PassWalk}
use Rattle.mt_fls.specs.declared.block_walk.BlockWalk.{BlockWalk}
use Rattle.mt_fls.specs.State.{Setting, FlsTst, IsFls, IsPlace, IsBackPlace, bgnd_spans, fgnd_spans}
use Rattle.mt_fls.specs.Table.{comparing, group_at, in_state, state_of}
use Rattle.mt_fls.specs.Event.{compared}
use Rattle.mt_fls.specs.Walks.{IsPassWalk, IsBlockWalk, group_left, block_left}
use Rattle.mt_fls.proofs.Blocks.{bgnd_accepted, fgnd_accepted}

pub hold_is : (n : ℕ) → compare_hold n ≡ 2 * n
unfolding compare_hold
hold_is n = refl

-- a comparison has at most 128 accesses
pub hold_small : (K : ℕ) (spans : List Span) (p : Position) → AreSpans K spans → compare_hold (piece_at K spans p).slice.n ≤ 128
hold_small K spans p ok = omega (arith, hold_is (piece_at K spans p).slice.n, ok.small)

-- so many slices from a position are the one there and one less from the next
shift : (K : ℕ) (spans : List Span) (n : ℕ) (front : List Piece) (p : Piece) (o : Option Position) → front ≡ p ∷ from_next K spans o → suc n ≤ length front
    → (take (suc n) front ≡ p ∷ take n (from_place K spans (or_start o))) × (n ≤ length (from_place K spans (or_start o)))
shift K spans zero front p o e h = (ap (take (suc zero)) e, omega arith)
shift K spans (suc n) front p None e h = absurd (omega (arith, ap (λ (l : List Piece). length l) e, h))
shift K spans (suc n) front p (Some q) e h = (ap (take (suc (suc n))) e, omega (arith, ap (λ (l : List Piece). length l) e, h))

-- the next slice of a group
pub record NextOfGroup (w : PassWalk) (f : FlsTst) : Type 0 where
  pub some : 0 < w.len
  pub valid : IsValid f.setting.config.atomic (bgnd_spans f) w.at
  pub split : group_left w f ≡ piece_at f.setting.config.atomic (bgnd_spans f) w.at
      ∷ take (w.len - 1) (from_place f.setting.config.atomic (bgnd_spans f) (or_start (next_of f.setting.config.atomic (bgnd_spans f) w.at)))
  pub inside : w.len - 1 ≤ length (from_place f.setting.config.atomic (bgnd_spans f) (or_start (next_of f.setting.config.atomic (bgnd_spans f) w.at)))
  pub again : IsValid f.setting.config.atomic (bgnd_spans f) (or_start (next_of f.setting.config.atomic (bgnd_spans f) w.at))

pub next_of_group : PassesGoOn → (w : PassWalk) (f : FlsTst) → IsPassWalk w f → 0 < length (group_left w f) → NextOfGroup w f
next_of_group law w f fits some =
    let K = f.setting.config.atomic in
    let spans = bgnd_spans f in
    let front = from_place K spans w.at in
    let many : 0 < w.len = omega (arith, length-take-le w.len front fits.inside, some) in
    let goes = law K spans w.at fits.spans (fits.valid many) in
    let one : w.len ≡ suc (w.len - 1) = omega (arith, many) in
    let moved = shift K spans (w.len - 1) front (piece_at K spans w.at) (next_of K spans w.at) goes.pass (omega (arith, many, fits.inside)) in
    record {
      some = many;
      valid = fits.valid many;
      split = ap (λ (n : ℕ). take n front) one ∙ moved.0;
      inside = moved.1;
      again = goes.again;
    }

-- the next slice of a foreground test
pub record NextOfBlock (w : BlockWalk) (f : FlsTst) (at : Position) : Type 0 where
  pub valid : IsValid f.setting.config.atomic (fgnd_spans f) at
  pub split : block_left w f ≡ piece_at f.setting.config.atomic (fgnd_spans f) at
      ∷ test_rest false f.setting.config.atomic (fgnd_spans f) (next_in false f.setting.config.atomic (fgnd_spans f) at)
  pub next : (q : Position) → next_in false f.setting.config.atomic (fgnd_spans f) at ≡ Some q → IsValid f.setting.config.atomic (fgnd_spans f) q

pub next_of_block : PassesGoOn → (w : BlockWalk) (f : FlsTst) (at : Position) → IsBlockWalk w f → w.next ≡ Some at → NextOfBlock w f at
next_of_block law w f at fits e =
    let K = f.setting.config.atomic in
    let spans = fgnd_spans f in
    let goes = law K spans at fits.spans (fits.valid at e) in
    record {
      valid = fits.valid at e;
      split = ap (test_rest false K spans) e ∙ goes.test false;
      next = goes.next false;
    }

pub first_is : {X : Type 0} (x y : X) (l m k : List X) → k ≡ x ∷ l → k ≡ y ∷ m → x ≡ y
first_is x y l m k p q = cc

pub rest_is : {X : Type 0} (x y : X) (l m k : List X) → k ≡ x ∷ l → k ≡ y ∷ m → l ≡ m
rest_is x y l m k p q = cc

-- whether a slice of a foreground test is left
pub has_next_is : PassesGoOn → (w : BlockWalk) (f : FlsTst) → IsBlockWalk w f → is_some w.next ≡ nat_lt 0 (length (block_left w f))
has_next_is law w f fits = of w.next refl
  where
    of : (o : Option Position) → w.next ≡ o → is_some w.next ≡ nat_lt 0 (length (block_left w f))
    of None e = ap is_some e ∙ sym (ap (λ (o : Option Position). nat_lt 0 (length (test_rest false f.setting.config.atomic (fgnd_spans f) o))) e)
    of (Some at) e =
        let n = next_of_block law w f at fits e in
        let many : 0 < length (block_left w f) = omega (arith, ap (λ (l : List Piece). length l) n.split) in
        ap is_some e ∙ sym (lt-ltb 0 (length (block_left w f)) many)

-- what the end of a slice leaves of the walk of a foreground test
pub block_taken : (w : BlockWalk) (f : FlsTst) (at : Position) → IsBlockWalk w f → NextOfBlock w f at → (v : Option ℕ) (next : Option Position) (failed : Bool) (z : FlsTst)
    → next ≡ next_in false f.setting.config.atomic (fgnd_spans f) at → z ≡ compared f (piece_at f.setting.config.atomic (fgnd_spans f) at) v w.failed
    → IsBlockWalk (record { block = w.block; next = next; failed = failed; taken = w.taken; state = w.state }) z
block_taken w f at fits n v next failed z e t =
    let K = f.setting.config.atomic in
    let same : z.setting ≡ f.setting = ap (λ (y : FlsTst). y.setting) t in
    let rest : test_rest false K (fgnd_spans f) next ≡ test_rest false K (fgnd_spans f) (next_in false K (fgnd_spans f) at) = ap (test_rest false K (fgnd_spans f)) e in
    let few : word_count (test_rest false K (fgnd_spans f) next) ≤ 65536 = omega (arith, fits.few, ap word_count n.split, ap word_count rest) in
    record {
      spans = subst (λ (s : Setting). AreSpans s.config.atomic (flash_spans s.config.fgnd)) (sym same) fits.spans;
      valid = λ p q. subst (λ (s : Setting). IsValid s.config.atomic (flash_spans s.config.fgnd) p) (sym same) (n.next p (sym e ∙ q));
      few = subst (λ (s : Setting). word_count (test_rest false s.config.atomic (flash_spans s.config.fgnd) next) ≤ 65536) (sym same) few;
      place = λ q. subst (λ (s : Setting). IsPlace s.config w.state) (sym same) (fits.place q);
    }

-- where no block is, nothing is to be compared
no_slices : (K : ℕ) (spans : List Span) (p : Position) → length spans ≡ 0 → from_place K spans p ≡ []
unfolding from_place
no_slices K [] p e = ap (λ (l : List Span). drop (p.offset / K) (pieces_from K p.block l)) (drop-nil p.block) ∙ drop-nil (p.offset / K)
no_slices K (s ∷ more) p e = absurd (omega (arith, e))

pub no_group : (f : FlsTst) (p : Position) → length f.setting.config.bgnd ≡ 0 → group_at f p ≡ []
no_group f p e =
    let many = length-map f.setting.config.bgnd (λ (b : FlashBlock). b.span) in
    ap (group f.setting.config.cells) (no_slices f.setting.config.atomic (bgnd_spans f) p (omega (arith, many, e)))

-- walks that compare nothing
pub idle_pass : (f : FlsTst) (taken : Taken) (w : PassWalk) → IsFls f → w ≡ record { at = start; len = 0; taken = taken } → IsPassWalk w f
idle_pass f taken w sound e =
    let none : w.len ≡ 0 = ap (λ (x : PassWalk). x.len) e in
    record {
      spans = bgnd_accepted f.setting.shape f.setting.config sound.accepted;
      running = λ some clear. absurd (omega (arith, some, none));
      valid = λ some. absurd (omega (arith, some, none));
      inside = omega (arith, none);
    }

pub idle_block : (f : FlsTst) (block : ℕ) (why : Refusal) (state : State) (w : BlockWalk) → IsFls f → w ≡ record { block = block; next = None; failed = false; taken = Refused why; state = state } → IsBlockWalk w f
idle_block f block why state w sound e =
    let none : w.next ≡ None = ap (λ (x : BlockWalk). x.next) e in
    let refused : w.taken ≡ Refused why = ap (λ (x : BlockWalk). x.taken) e in
    record {
      spans = fgnd_accepted f.setting.shape f.setting.config sound.accepted;
      valid = λ p q. cc;
      few = subst (λ (o : Option Position). word_count (test_rest false f.setting.config.atomic (fgnd_spans f) o) ≤ 65536) (sym none) (omega arith);
      place = λ q. cc;
    }

back_place : (config : FlsConfig) (b : Back) → IsBackPlace config b → IsPlace config (state_of b)
back_place config back.Init h = tt
back_place config (back.Running p) h = h
back_place config (back.Suspended p) h = h

-- the first slice of a foreground test
pub record FirstOfBlock (f : FlsTst) (block : ℕ) (b : Back) : Type 0 where
  pub work : test_from false f.setting.config.atomic (fgnd_spans f) (block_start block) ≡ work_in (comparing f block b)
  pub begins : Begins f.setting.config.atomic (fgnd_spans f) block
  pub spans : AreSpans f.setting.config.atomic (fgnd_spans f)

pub first_of_block : BlocksBegin → (f : FlsTst) (block : ℕ) (b : Back) → IsFls f → nat_lt block (length f.setting.config.fgnd) ≡ true → FirstOfBlock f block b
first_of_block law f block b sound there =
    let K = f.setting.config.atomic in
    let spans = fgnd_spans f in
    let ok = fgnd_accepted f.setting.shape f.setting.config sound.accepted in
    let inside : block < length spans = omega (arith, length-map f.setting.config.fgnd (λ (x : FlashBlock). x.span), ltb-true block (length f.setting.config.fgnd) there) in
    let begins = law K spans block ok inside in
    record {
      work = begins.block ∙ sym (ap (λ (t : Bool). work_in {C = FlsTst} (cond t (Cells.Runs (pieces K block (span_at spans block)) (in_state (Foreground b)) (in_state (state_of b))) (Refuses Range))) there);
      begins = begins;
      spans = ok;
    }

pub entered_block : (f z : FlsTst) (block : ℕ) (b : Back) (state : State) → FirstOfBlock f block b → z ≡ in_state (Foreground b) f → state ≡ state_of b → IsBackPlace f.setting.config b
    → IsBlockWalk (record { block = block; next = Some (block_start block); failed = false; taken = Runs; state = state }) z
entered_block f z block b state first e s place =
    let same : z.setting ≡ f.setting = ap (λ (x : FlsTst). x.setting) e in
    let few : word_count (test_from false f.setting.config.atomic (fgnd_spans f) (block_start block)) ≤ 65536 = omega (arith, ap word_count first.begins.block, first.begins.few) in
    record {
      spans = subst (λ (x : Setting). AreSpans x.config.atomic (flash_spans x.config.fgnd)) (sym same) first.spans;
      valid = λ p q.
          let here : block_start block ≡ p = cc in
          subst (λ (x : Setting). IsValid x.config.atomic (flash_spans x.config.fgnd) p) (sym same) (subst (IsValid f.setting.config.atomic (fgnd_spans f)) here first.begins.valid);
      few = subst (λ (x : Setting). word_count (test_from false x.config.atomic (flash_spans x.config.fgnd) (block_start block)) ≤ 65536) (sym same) few;
      place = λ q. subst (λ (x : Setting). IsPlace x.config state) (sym same) (subst (IsPlace f.setting.config) (sym s) (back_place f.setting.config b place));
    }
