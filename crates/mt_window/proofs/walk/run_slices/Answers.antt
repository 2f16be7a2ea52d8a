use Rattle.std.proofs.Common.{◌≡◌, ◌∙◌, ◌<◌, ◌≤◌, ◌+◌, ◌-◌, ◌*◌, ℕ, suc, Bool, true, false, None, List, length, refl, sym, ap, subst, arith}
use Rattle.std.specs.Prelude.{nat_lt, is_some}
use Rattle.std.proofs.Math.Nat.{mul-le-mul_left}
use Rattle.std.proofs.lemmas.Bool.{ltb-true}
use Rattle.mt_port.specs.Board.{Board, Logs, AreOrdered}
use Rattle.mt_window.specs.Serving.{Table, scene, serve_due}
use Rattle.mt_window.specs.Slices.{attempted, started}
use Rattle.mt_window.proofs.Slices.{Reaches, reaches-start, reaches-whole, reaches-dropped, reaches-stopped}
use Rattle.mt_window.proofs.Walks.{split_some, served_walk, served_board, ready_attempted, few_left, fewer_left, pays}
use Rattle.mt_window.proofs.walk.run_slices.Goals as goal

pub loop-walk-init : goal.loop-walk-init
loop-walk-init g c =
    let W = g.W.Walk in
    record {
      ready = c.requires.ready;
      fits = c.requires.fits;
      origin = refl;
      name = refl;
      setting = refl;
      shape = c.requires.shape;
      room = c.requires.room;
      tries = omega arith;
      reach = reaches-start W.tests (W.left c.args.walk.now c.args.callee.now) (scene (g.P.Port.state c.args.port.now) c.args.callee.now c.args.log.now) (W.failed c.args.walk.now) (g.P.Port.tape c.args.port.now) c.retries-tries.result c.retries-tries.ensures;
    }

pub serve_due-requires : goal.serve_due-requires
serve_due-requires g c =
    let W = g.W.Walk in
    let one = split_some (W.left c.loop-walk.walk c.loop-walk.callee) (sym c.has_next.ensures ∙ c.loop-walk-test.true) in
    ready_attempted g.C.Callee.kind (W.tests.attempt (nat_lt 0 c.loop-walk.tries) c.loop-walk.callee one.first (g.P.Port.state c.loop-walk.port)) (g.P.Port.state c.loop-walk.port) (g.P.Port.state c.attempt.new.port) c.loop-walk.log
    (c.attempt.ensures.state one.first one.more one.split) c.loop-walk.invariant.ready

pub serve_due-requires-in-loop-walk : goal.serve_due-requires-in-loop-walk
serve_due-requires-in-loop-walk g c =
    let W = g.W.Walk in
    let one = split_some (W.left c.loop-walk.walk c.loop-walk.callee) (sym c.has_next.ensures ∙ c.loop-walk-test.true) in
    ready_attempted g.C.Callee.kind (W.tests.attempt (nat_lt 0 c.loop-walk.tries) c.loop-walk.callee one.first (g.P.Port.state c.loop-walk.port)) (g.P.Port.state c.loop-walk.port) (g.P.Port.state c.attempt.new.port) c.loop-walk.log
    (c.attempt.ensures.state one.first one.more one.split) c.loop-walk.invariant.ready

pub loop-walk-smaller-in-Some : goal.loop-walk-smaller-in-Some
loop-walk-smaller-in-Some g c =
    let W = g.W.Walk in
    let met = g.met.W.Walk in
    let w = c.take.new.self in
    let b = g.P.Port.state c.loop-walk.port in
    let one = split_some (W.left c.loop-walk.walk c.loop-walk.callee) (sym c.has_next.ensures ∙ c.loop-walk-test.true) in
    let mid = scene (g.P.Port.state c.attempt.new.port) c.take.new.callee c.loop-walk.log in
    let z = scene (g.P.Port.state c.serve_due.new.port) c.serve_due.new.callee c.serve_due.new.log in
    let same = served_walk g.C.Callee.table W.Fits W.left W.most w
    (λ x call. record { fit = met.handled_fits w x call; rest = met.handled_left w x call; few = met.handled_most w x call }) mid z c.serve_due.ensures.scene in
    let before = c.attempt.ensures.left ∙ one.split in
    let after = same.rest c.take.ensures.fits ∙ c.take.ensures.left one.first one.more before in
    let few : length z.board.left ≤ length mid.board.left = few_left g.C.Callee.table mid z c.serve_due.ensures.scene in
    let left : length mid.board.left ≡ length b.left = ap (λ (y : Board). length y.left) (c.attempt.ensures.state one.first one.more one.split) in
    omega (arith, few, left, ap (λ (l : List W.Piece). length l) after, ap (λ (l : List W.Piece). length l) one.split)

pub loop-walk-smaller : goal.loop-walk-smaller
loop-walk-smaller g c =
    let W = g.W.Walk in
    let met = g.met.W.Walk in
    let w = c.attempt.new.self in
    let b = g.P.Port.state c.loop-walk.port in
    let one = split_some (W.left c.loop-walk.walk c.loop-walk.callee) (sym c.has_next.ensures ∙ c.loop-walk-test.true) in
    let mid = scene (g.P.Port.state c.attempt.new.port) c.loop-walk.callee c.loop-walk.log in
    let z = scene (g.P.Port.state c.serve_due-in-loop-walk.new.port) c.serve_due-in-loop-walk.new.callee c.serve_due-in-loop-walk.new.log in
    let same = served_walk g.C.Callee.table W.Fits W.left W.most w
    (λ x call. record { fit = met.handled_fits w x call; rest = met.handled_left w x call; few = met.handled_most w x call }) mid z c.serve_due-in-loop-walk.ensures.scene in
    let after = same.rest c.attempt.ensures.fits ∙ c.attempt.ensures.left in
    let state = c.attempt.ensures.state one.first one.more one.split in
    let order = subst (λ (y : Board). AreOrdered y.left) (sym state) c.loop-walk.invariant.ready.ordered in
    let none : is_some c.attempt.result ≡ false = ap is_some c.in_default.is in
    let fewer : length z.board.left < length mid.board.left = fewer_left g.C.Callee.table mid z c.serve_due-in-loop-walk.ensures.scene order (c.attempt.ensures.due none) in
    let left : length mid.board.left ≡ length b.left = ap (λ (y : Board). length y.left) state in
    omega (arith, fewer, left, ap (λ (l : List W.Piece). length l) after)

pub loop-walk-preserved-in-Some : goal.loop-walk-preserved-in-Some
loop-walk-preserved-in-Some g c =
    let W = g.W.Walk in
    let met = g.met.W.Walk in
    let inv = c.loop-walk.invariant in
    let w = c.take.new.self in
    let one = split_some (W.left c.loop-walk.walk c.loop-walk.callee) (sym c.has_next.ensures ∙ c.loop-walk-test.true) in
    let s = scene (g.P.Port.state c.loop-walk.port) c.loop-walk.callee c.loop-walk.log in
    let mid = scene (g.P.Port.state c.attempt.new.port) c.take.new.callee c.loop-walk.log in
    let z = scene (g.P.Port.state c.serve_due.new.port) c.serve_due.new.callee c.serve_due.new.log in
    let may = nat_lt 0 c.loop-walk.tries in
    let try = W.tests.attempt may s.callee one.first s.board in
    let same = served_walk g.C.Callee.table W.Fits W.left W.most w
    (λ x call. record { fit = met.handled_fits w x call; rest = met.handled_left w x call; few = met.handled_most w x call }) mid z c.serve_due.ensures.scene in
    let stays = served_board g.C.Callee.table mid z c.serve_due.ensures.scene in
    let before = c.attempt.ensures.left ∙ one.split in
    let failed = c.attempt.ensures.failed in
    let board = c.attempt.ensures.state one.first one.more one.split in
    let said = sym c.in-Some.is ∙ c.attempt.ensures.verdict one.first one.more one.split in
    let taken = c.take.ensures.callee one.first one.more before ∙ ap (W.tests.taken s.callee one.first c.in-Some.verdict) failed in
    let after = same.rest c.take.ensures.fits ∙ c.take.ensures.left one.first one.more before in
    let fails = c.take.ensures.failed one.first one.more before ∙ ap (W.tests.failed one.first c.in-Some.verdict) failed in
    let made = c.serve_due.ensures.scene ∙ ap (λ (y : Table _). serve_due y mid) (sym met.same_table)
    ∙ ap (λ (y : Board). serve_due W.tests.table (scene y mid.callee s.log)) board ∙ ap (λ (y : _). serve_due W.tests.table (scene (attempted try s.board) y s.log)) taken in
    let a = started (W.failed c.args.walk.now) (scene (g.P.Port.state c.args.port.now) c.args.callee.now c.args.log.now) in
    let logs = subst (λ (o : _). Logs (g.P.Port.tape c.loop-walk.port) o try.touches) (sym c.serve_due.ensures.tape) (c.attempt.ensures.tape one.first one.more one.split) in
    let setting = c.serve_due.ensures.setting ∙ c.take.ensures.setting in
    let few : length z.board.left ≤ length mid.board.left = few_left g.C.Callee.table mid z c.serve_due.ensures.scene in
    let left : length mid.board.left ≡ length s.board.left = ap (λ (y : Board). length y.left) board in
    let rooms : W.longest * length z.board.left ≤ W.longest * length s.board.left = mul-le-mul_left {m = length z.board.left} {n = length s.board.left} W.longest (omega (arith, few, left)) in
    record {
      ready = c.serve_due.ensures.ready;
      fits = same.fit c.take.ensures.fits;
      origin = c.take.ensures.origin ∙ c.attempt.ensures.origin ∙ inv.origin;
      name = c.take.ensures.name ∙ c.attempt.ensures.name ∙ inv.name;
      setting = setting ∙ inv.setting;
      shape = stays.shape ∙ ap (λ (y : Board). y.shape) board ∙ inv.shape ∙ sym (met.same_shape z.callee s.callee setting);
      room = omega (arith, rooms, stays.count, ap (λ (y : Board). y.count) board, c.attempt.ensures.short one.first one.more one.split, c.take.ensures.most one.first one.more before, c.attempt.ensures.most, same.few c.take.ensures.fits, inv.room);
      tries = omega arith;
      reach = subst (λ (l : List W.Piece). Reaches W.tests (W.left c.args.walk.now c.args.callee.now) a (g.P.Port.tape c.args.port.now) c.retries-tries-in-Some.result l (W.failed w) z (g.P.Port.tape c.serve_due.new.port)) (sym after)
          (reaches-whole W.tests (W.left c.args.walk.now c.args.callee.now) a (g.P.Port.tape c.args.port.now) c.loop-walk.tries (W.left c.loop-walk.walk c.loop-walk.callee) (W.failed c.loop-walk.walk) s (g.P.Port.tape c.loop-walk.port)
          may one.first one.more c.in-Some.verdict (W.failed w) z (g.P.Port.tape c.serve_due.new.port) c.retries-tries-in-Some.result
          inv.reach one.split refl (sym c.stops.ensures ∙ c.if-not-stops.true) said made fails logs c.retries-tries-in-Some.ensures);
    }

pub loop-walk-preserved : goal.loop-walk-preserved
loop-walk-preserved g c =
    let W = g.W.Walk in
    let met = g.met.W.Walk in
    let inv = c.loop-walk.invariant in
    let w = c.attempt.new.self in
    let one = split_some (W.left c.loop-walk.walk c.loop-walk.callee) (sym c.has_next.ensures ∙ c.loop-walk-test.true) in
    let s = scene (g.P.Port.state c.loop-walk.port) c.loop-walk.callee c.loop-walk.log in
    let mid = scene (g.P.Port.state c.attempt.new.port) c.loop-walk.callee c.loop-walk.log in
    let z = scene (g.P.Port.state c.serve_due-in-loop-walk.new.port) c.serve_due-in-loop-walk.new.callee c.serve_due-in-loop-walk.new.log in
    let n = c.loop-walk.tries in
    let may = nat_lt 0 n in
    let none : is_some c.attempt.result ≡ false = ap is_some c.in_default.is in
    let yes : may ≡ true = must may c.attempt.ensures.whole none in
    let some : n ≡ suc (n - 1) = above n yes in
    let try = W.tests.attempt true s.callee one.first s.board in
    let same = served_walk g.C.Callee.table W.Fits W.left W.most w
    (λ x call. record { fit = met.handled_fits w x call; rest = met.handled_left w x call; few = met.handled_most w x call }) mid z c.serve_due-in-loop-walk.ensures.scene in
    let stays = served_board g.C.Callee.table mid z c.serve_due-in-loop-walk.ensures.scene in
    let state = c.attempt.ensures.state one.first one.more one.split in
    let board : mid.board ≡ attempted try s.board = state ∙ ap (λ (m : Bool). attempted (W.tests.attempt m s.callee one.first s.board) s.board) yes in
    let said : None ≡ try.verdict = sym c.in_default.is ∙ c.attempt.ensures.verdict one.first one.more one.split ∙ ap (λ (m : Bool). (W.tests.attempt m s.callee one.first s.board).verdict) yes in
    let after = same.rest c.attempt.ensures.fits ∙ c.attempt.ensures.left in
    let made = c.serve_due-in-loop-walk.ensures.scene ∙ ap (λ (y : Table _). serve_due y mid) (sym met.same_table)
    ∙ ap (λ (y : Board). serve_due W.tests.table (scene y s.callee s.log)) board in
    let a = started (W.failed c.args.walk.now) (scene (g.P.Port.state c.args.port.now) c.args.callee.now c.args.log.now) in
    let logs = subst (λ (o : _). Logs (g.P.Port.tape c.loop-walk.port) o try.touches) (sym c.serve_due-in-loop-walk.ensures.tape)
    (subst (λ (m : Bool). Logs (g.P.Port.tape c.loop-walk.port) (g.P.Port.tape c.attempt.new.port) (W.tests.attempt m s.callee one.first s.board).touches) yes (c.attempt.ensures.tape one.first one.more one.split)) in
    let order = subst (λ (y : Board). AreOrdered y.left) (sym state) inv.ready.ordered in
    let fewer : length z.board.left < length mid.board.left = fewer_left g.C.Callee.table mid z c.serve_due-in-loop-walk.ensures.scene order (c.attempt.ensures.due none) in
    let left : length mid.board.left ≡ length s.board.left = ap (λ (y : Board). length y.left) state in
    let paid : W.longest * length z.board.left + W.longest ≤ W.longest * length s.board.left = pays W.longest (length z.board.left) (length s.board.left) (omega (arith, fewer, left)) in
    record {
      ready = c.serve_due-in-loop-walk.ensures.ready;
      fits = same.fit c.attempt.ensures.fits;
      origin = c.attempt.ensures.origin ∙ inv.origin;
      name = c.attempt.ensures.name ∙ inv.name;
      setting = c.serve_due-in-loop-walk.ensures.setting ∙ inv.setting;
      shape = stays.shape ∙ ap (λ (y : Board). y.shape) state ∙ inv.shape ∙ sym (met.same_shape z.callee s.callee c.serve_due-in-loop-walk.ensures.setting);
      room = omega (arith, paid, stays.count, ap (λ (y : Board). y.count) state, c.attempt.ensures.short one.first one.more one.split, c.attempt.ensures.longest one.first one.more one.split, c.attempt.ensures.most, same.few c.attempt.ensures.fits, inv.room);
      tries = omega (arith, inv.tries);
      reach = subst (λ (l : List W.Piece). Reaches W.tests (W.left c.args.walk.now c.args.callee.now) a (g.P.Port.tape c.args.port.now) (n - 1) l (W.failed w) z (g.P.Port.tape c.serve_due-in-loop-walk.new.port)) (sym after)
          (subst (λ (b : Bool). Reaches W.tests (W.left c.args.walk.now c.args.callee.now) a (g.P.Port.tape c.args.port.now) (n - 1) (W.left c.loop-walk.walk c.loop-walk.callee) b z (g.P.Port.tape c.serve_due-in-loop-walk.new.port)) (sym c.attempt.ensures.failed)
          (reaches-dropped W.tests (W.left c.args.walk.now c.args.callee.now) a (g.P.Port.tape c.args.port.now) n (W.left c.loop-walk.walk c.loop-walk.callee) (W.failed c.loop-walk.walk) s (g.P.Port.tape c.loop-walk.port)
          one.first one.more z (g.P.Port.tape c.serve_due-in-loop-walk.new.port) (n - 1)
          inv.reach one.split some (sym c.stops.ensures ∙ c.if-not-stops.true) said made logs));
    }
  where
    must : (b : Bool) {r : Bool} → (b ≡ false → r ≡ true) → r ≡ false → b ≡ true
    must true h e = refl
    must false h e = sym e ∙ h refl

    above : (n : ℕ) → nat_lt 0 n ≡ true → n ≡ suc (n - 1)
    above n e = omega (arith, ltb-true 0 n e)

pub returns-else-not-stops-clause-scene : goal.returns-else-not-stops-clause-scene
returns-else-not-stops-clause-scene g c =
    let W = g.W.Walk in
    let s = scene (g.P.Port.state c.loop-walk.port) c.loop-walk.callee c.loop-walk.log in
    (reaches-stopped W.tests _ _ _ _ _ _ s _ c.loop-walk.invariant.reach (sym c.stops.ensures ∙ c.if-not-stops.false)).same

pub returns-else-not-stops-clause-tape : goal.returns-else-not-stops-clause-tape
returns-else-not-stops-clause-tape g c =
    let W = g.W.Walk in
    let s = scene (g.P.Port.state c.loop-walk.port) c.loop-walk.callee c.loop-walk.log in
    (reaches-stopped W.tests _ _ _ _ _ _ s _ c.loop-walk.invariant.reach (sym c.stops.ensures ∙ c.if-not-stops.false)).tape
