-- What is left to do of slices, as attempts are made one after another.
use Rattle.std.proofs.Common.{ℕ, zero, suc, ◌≡◌, Bool, true, false, cond, List, [], ◌∷◌, ◌++◌, Option, Some, None, refl, sym, ap, ◌∙◌, subst, arith}
use Rattle.std.specs.Prelude.{is_some, nat_lt}
use Rattle.std.proofs.lemmas.Bool.{lt-ltb}
use Rattle.mt_port.specs.declared.board.Touch.{Touch}
use Rattle.mt_port.specs.Board.{Logs}
use Rattle.mt_port.specs.Inner.Streams.{Logs-nil, Logs-append}
use Rattle.mt_window.specs.Serving.{Scene, scene, serve_due}
use Rattle.mt_window.specs.Kept.{tried-stopped, slices-stopped}
use Rattle.mt_window.specs.Slices.{Tests, Trail, Attempt, attempted, taken_by, failed_by, next_attempt, kept_attempt, after_attempt, tried, slices}

-- what is left to do, where so many attempts at the first slice may still be dropped
abbrev pub resumed : {C X V : Type 0} → Tests C X V → ℕ → List X → Trail C → Trail C
resumed t n [] g = g
resumed t n (x ∷ more) g = slices t more (tried t n x g)

pub resumed-start : {C X V : Type 0} (t : Tests C X V) (L : List X) (g : Trail C) → resumed t (t.retries g.scene.callee) L g ≡ slices t L g
resumed-start t [] g = refl
resumed-start t (x ∷ more) g = refl

resumed-stopped : {C X V : Type 0} (t : Tests C X V) (n : ℕ) (L : List X) (g : Trail C) → t.stops g.scene.callee ≡ true → resumed t n L g ≡ g
resumed-stopped t n [] g e = refl
resumed-stopped t n (x ∷ more) g e = ap (slices t more) (tried-stopped t n x g e) ∙ slices-stopped t more g e

-- an attempt that isn't dropped is the last at its slice
tried-whole : {C X V : Type 0} (t : Tests C X V) (n : ℕ) (may : Bool) (x : X) (g : Trail C) → may ≡ nat_lt 0 n → t.stops g.scene.callee ≡ false
    → is_some (next_attempt t may g x).verdict ≡ true → tried t n x g ≡ after_attempt t may g x
tried-whole t zero may x g m e f = ap (λ (b : Bool). cond b g (after_attempt t false g x)) e ∙ sym (ap (λ (b : Bool). after_attempt t b g x) m)
tried-whole t (suc n) may x g m e f =
    let yes : may ≡ true = m ∙ lt-ltb 0 (suc n) (omega arith) in
    let some : is_some (next_attempt t true g x).verdict ≡ true = subst (λ (b : Bool). is_some (next_attempt t b g x).verdict ≡ true) yes f in
    ap (λ (b : Bool). cond b g (cond (is_some (next_attempt t true g x).verdict) (after_attempt t true g x) (tried t n x (after_attempt t true g x)))) e
    ∙ ap (λ (b : Bool). cond b (after_attempt t true g x) (tried t n x (after_attempt t true g x))) some
    ∙ sym (ap (λ (b : Bool). after_attempt t b g x) yes)

-- one that is dropped is followed by the others
tried-dropped : {C X V : Type 0} (t : Tests C X V) (n : ℕ) (x : X) (g : Trail C) → t.stops g.scene.callee ≡ false
    → is_some (next_attempt t true g x).verdict ≡ false → tried t (suc n) x g ≡ tried t n x (after_attempt t true g x)
tried-dropped t n x g e f =
    ap (λ (b : Bool). cond b g (cond (is_some (next_attempt t true g x).verdict) (after_attempt t true g x) (tried t n x (after_attempt t true g x)))) e
    ∙ ap (λ (b : Bool). cond b (after_attempt t true g x) (tried t n x (after_attempt t true g x))) f

abbrev trail_of : {C : Type 0} → Scene C → Bool → List Touch → List Attempt → Trail C
trail_of s failed touches attempts = record { scene = s; failed = failed; touches = touches; attempts = attempts }

-- What is left to do from here is what there was to do, and the tape has what is done.
pub record Reaches {C X V : Type 0} (t : Tests C X V) (all : List X) (a : Trail C) (told : Option (List Touch)) (n : ℕ) (left : List X) (failed : Bool) (s : Scene C) (now : Option (List Touch)) : Type 0 where
  pub touches : List Touch
  pub attempts : List Attempt
  pub same : resumed t n left (record { scene = s; failed = failed; touches = touches; attempts = attempts }) ≡ slices t all a
  pub tape : Logs told now touches

pub reaches-start : {C X V : Type 0} (t : Tests C X V) (all : List X) (s : Scene C) (failed : Bool) (told : Option (List Touch)) (n : ℕ) → n ≡ t.retries s.callee
    → Reaches t all (trail_of s failed [] []) told n all failed s told
reaches-start t all s failed told n e = record {
  touches = [];
  attempts = [];
  same = ap (λ (k : ℕ). resumed t k all (trail_of s failed [] [])) e ∙ resumed-start t all (trail_of s failed [] []);
  tape = Logs-nil told;
}

-- what an attempt leaves, by its verdict
abbrev behind : {C X V : Type 0} → Tests C X V → Bool → Trail C → X → Option V → Trail C
behind t may g x v = record {
  scene = serve_due t.table (scene (attempted (next_attempt t may g x) g.scene.board) (taken_by t g.scene.callee x g.failed v) g.scene.log);
  failed = failed_by t x g.failed v;
  touches = g.touches ++ (next_attempt t may g x).touches;
  attempts = g.attempts ++ kept_attempt t may g x ∷ [];
}

-- an attempt with a verdict
pub reaches-whole : {C X V : Type 0} (t : Tests C X V) (all : List X) (a : Trail C) (told : Option (List Touch)) (n : ℕ) (left : List X) (failed : Bool) (s : Scene C) (now : Option (List Touch))
    (may : Bool) (x : X) (more : List X) (v : V) (failed' : Bool) (z : Scene C) (then : Option (List Touch)) (m : ℕ)
    → Reaches t all a told n left failed s now → left ≡ x ∷ more → may ≡ nat_lt 0 n → t.stops s.callee ≡ false → Some v ≡ (t.attempt may s.callee x s.board).verdict
    → z ≡ serve_due t.table (scene (attempted (t.attempt may s.callee x s.board) s.board) (t.taken s.callee x v failed) s.log) → failed' ≡ t.failed x v failed
    → Logs now then (t.attempt may s.callee x s.board).touches → m ≡ t.retries z.callee → Reaches t all a told m more failed' z then
reaches-whole {C} t all a told n left failed s now may x more v failed' z then m h split is goes said made fails log again =
    let g = trail_of s failed h.touches h.attempts in
    let try = t.attempt may s.callee x s.board in
    let touches = h.touches ++ try.touches in
    let attempts = h.attempts ++ kept_attempt t may g x ∷ [] in
    let end : trail_of z failed' touches attempts ≡ after_attempt t may g x =
    ap (λ (y : Scene C). trail_of y failed' touches attempts) made
    ∙ ap (λ (b : Bool). trail_of (serve_due t.table (scene (attempted try s.board) (t.taken s.callee x v failed) s.log)) b touches attempts) fails
    ∙ ap (behind t may g x) said in
    record {
      touches = touches;
      attempts = attempts;
      same = ap (λ (k : ℕ). resumed t k more (trail_of z failed' touches attempts)) again
          ∙ resumed-start t more (trail_of z failed' touches attempts)
          ∙ ap (slices t more) end
          ∙ sym (ap (slices t more) (tried-whole t n may x g is goes (sym (ap is_some said))))
          ∙ sym (ap (λ (l : List _). resumed t n l g) split)
          ∙ h.same;
      tape = Logs-append told now then h.touches try.touches h.tape log;
    }

-- an attempt that was dropped
pub reaches-dropped : {C X V : Type 0} (t : Tests C X V) (all : List X) (a : Trail C) (told : Option (List Touch)) (n : ℕ) (left : List X) (failed : Bool) (s : Scene C) (now : Option (List Touch))
    (x : X) (more : List X) (z : Scene C) (then : Option (List Touch)) (m : ℕ)
    → Reaches t all a told n left failed s now → left ≡ x ∷ more → n ≡ suc m → t.stops s.callee ≡ false → None ≡ (t.attempt true s.callee x s.board).verdict
    → z ≡ serve_due t.table (scene (attempted (t.attempt true s.callee x s.board) s.board) s.callee s.log)
    → Logs now then (t.attempt true s.callee x s.board).touches → Reaches t all a told m left failed z then
reaches-dropped {C} t all a told n left failed s now x more z then m h split is goes said made log =
    let g = trail_of s failed h.touches h.attempts in
    let try = t.attempt true s.callee x s.board in
    let touches = h.touches ++ try.touches in
    let attempts = h.attempts ++ kept_attempt t true g x ∷ [] in
    let end : trail_of z failed touches attempts ≡ after_attempt t true g x =
    ap (λ (y : Scene C). trail_of y failed touches attempts) made ∙ ap (behind t true g x) said in
    record {
      touches = touches;
      attempts = attempts;
      same = ap (λ (l : List _). resumed t m l (trail_of z failed touches attempts)) split
          ∙ ap (λ (y : Trail C). slices t more (tried t m x y)) end
          ∙ sym (ap (slices t more) (tried-dropped t m x g goes (sym (ap is_some said))))
          ∙ sym (ap (λ (k : ℕ). slices t more (tried t k x g)) is)
          ∙ sym (ap (λ (l : List _). resumed t n l g) split)
          ∙ h.same;
      tape = Logs-append told now then h.touches try.touches h.tape log;
    }

-- the module is stopped, or no slice is left
pub record Ended {C X V : Type 0} (t : Tests C X V) (all : List X) (a : Trail C) (told : Option (List Touch)) (s : Scene C) (now : Option (List Touch)) : Type 0 where
  pub same : s ≡ (slices t all a).scene
  pub tape : Logs told now ((slices t all a).touches)

ended : {C X V : Type 0} (t : Tests C X V) (all : List X) (a : Trail C) (told : Option (List Touch)) (n : ℕ) (left : List X) (failed : Bool) (s : Scene C) (now : Option (List Touch))
    → (h : Reaches t all a told n left failed s now) → resumed t n left (trail_of s failed h.touches h.attempts) ≡ trail_of s failed h.touches h.attempts → Ended t all a told s now
ended {C} t all a told n left failed s now h e =
    let same : trail_of s failed h.touches h.attempts ≡ slices t all a = sym e ∙ h.same in
    record { same = ap (λ (g : Trail C). g.scene) same; tape = subst (λ (g : Trail C). Logs told now g.touches) same h.tape }

pub reaches-stopped : {C X V : Type 0} (t : Tests C X V) (all : List X) (a : Trail C) (told : Option (List Touch)) (n : ℕ) (left : List X) (failed : Bool) (s : Scene C) (now : Option (List Touch))
    → Reaches t all a told n left failed s now → t.stops s.callee ≡ true → Ended t all a told s now
reaches-stopped t all a told n left failed s now h e = ended t all a told n left failed s now h (resumed-stopped t n left (trail_of s failed h.touches h.attempts) e)

pub reaches-end : {C X V : Type 0} (t : Tests C X V) (all : List X) (a : Trail C) (told : Option (List Touch)) (n : ℕ) (left : List X) (failed : Bool) (s : Scene C) (now : Option (List Touch))
    → Reaches t all a told n left failed s now → left ≡ [] → Ended t all a told s now
reaches-end t all a told n left failed s now h e = ended t all a told n left failed s now h (ap (λ (l : List _). resumed t n l (trail_of s failed h.touches h.attempts)) e)
