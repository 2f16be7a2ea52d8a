-- What an event leaves of the board.
use Rattle.std.proofs.Common.{Bool, List, refl, ap, ◌∙◌, ◌≡◌}
use Rattle.mt_port.specs.Board.{Board}
use Rattle.mt_window.specs.Serving.{Scene, scene}
use Rattle.mt_window.specs.Slices.{Tests, Trail, scene_behind, after_attempt, slices}
use Rattle.mt_window.specs.Events.{Running, opened, entered, ran, returned}
use Rattle.mt_window.specs.Waits.{LeavesBoard, KeepsBoard}
use Rattle.mt_window.specs.Kept.{slices-keeps}
use Rattle.mt_window.proofs.Serving.{Stays, due_served-stays, left_served-stays}

board-trans : {a b c : Board} → LeavesBoard a b → LeavesBoard b c → LeavesBoard a c
board-trans p q = record { shape = q.shape ∙ p.shape; fault = q.fault ∙ p.fault; flash = q.flash ∙ p.flash; held = q.held ∙ p.held; defect = q.defect ∙ p.defect }

stays-board : {C : Type 0} {a b : Scene C} → Stays a b → LeavesBoard a.board b.board
stays-board p = record { shape = p.shape; fault = p.fault; flash = p.flash; held = p.held; defect = p.defect }

pub slices-board : {C X V : Type 0} (t : Tests C X V) (L : List X) (g : Trail C) → LeavesBoard g.scene.board ((slices t L g).scene.board)
slices-board {C} {X} {V} t L g =
    slices-keeps t (λ (h : Trail C). LeavesBoard g.scene.board h.scene.board) step L g (record { shape = refl; fault = refl; flash = refl; held = refl; defect = refl })
  where
    step : (may : Bool) (x : X) (h : Trail C) → LeavesBoard g.scene.board h.scene.board → LeavesBoard g.scene.board ((after_attempt t may h x).scene.board)
    step may x h p =
        let mid = scene_behind t may h x in
        let q = due_served-stays t.table mid.board.left mid in
        board-trans p (record { shape = q.shape; fault = q.fault; flash = q.flash; held = q.held; defect = q.defect })

pub slices_shape : {C X V : Type 0} (t : Tests C X V) (L : List X) (g : Trail C) (z : Scene C) → z ≡ (slices t L g).scene → z.board.shape ≡ g.scene.board.shape
slices_shape t L g z e = ap (λ (y : Scene _). y.board.shape) e ∙ (slices-board t L g).shape

pub event-board : {C X V : Type 0} (r : Running C X V) → KeepsBoard r
event-board {C} r s =
    let t = r.tests in
    let first : Scene C = scene s.board (r.cleared s.callee) s.log in
    let o = opened r s in
    let y = returned r o (ran r o).scene in
    board-trans (stays-board (due_served-stays t.table s.board.left first))
    (board-trans (slices-board t (r.work o.callee) (entered r o)) (stays-board (left_served-stays t.table y.board.left y)))
