-- The walk of a tick.
use Rattle.std.specs.Prelude.{◌≡◌, ◌<◌, ◌≤◌, List, take, length}
use Rattle.std.proofs.Common.{sym, ap, subst}
use Rattle.mt_port.specs.declared.request.HandlerCall.{HandlerCall}
use Rattle.mt_port.specs.Board.{IsWithinLimits}
use Rattle.mt_blocks.specs.Slices.{Piece, IsValid, from_place}
use Rattle.mt_blocks.specs.Accepted.{IsAcceptedSet}
use Rattle.mt_ram.specs.declared.pass_walk.PassWalk.{PassWalk}
use Rattle.mt_ram.specs.State.{RamTst, set_of, spans_in}
use Rattle.mt_ram.specs.Moves.{row-moves}
use Rattle.mt_ram.specs.Table.{ram_table}

-- the slices that are left of a group
abbrev pub left_in_pass : PassWalk → RamTst → List Piece
left_in_pass w r = take w.len (from_place (set_of r).atomic (spans_in r) w.at)

-- a walk of that module, whose configuration is accepted
pub record IsPassWalk (w : PassWalk) (r : RamTst) : Type 0 where
  pub limits : IsWithinLimits r.setting.shape
  pub accepted : IsAcceptedSet r.setting.shape (set_of r)
  pub valid : 0 < w.len → IsValid (set_of r).atomic (spans_in r) w.at
  pub few : w.len ≤ length (from_place (set_of r).atomic (spans_in r) w.at)

-- no call of a handler leads off it
pub pass_handled : (w : PassWalk) (r : RamTst) (call : HandlerCall) → IsPassWalk w r → IsPassWalk w (ram_table.next r call)
pass_handled w r call f =
    let m = row-moves r call in
    let z = ram_table.next r call in
    let moved : z ≡ record r { state = z.state; failed = z.failed; mark = z.mark } = m.still in
    record {
      limits = subst (λ (x : RamTst). IsWithinLimits x.setting.shape) (sym moved) f.limits;
      accepted = subst (λ (x : RamTst). IsAcceptedSet x.setting.shape (set_of x)) (sym moved) f.accepted;
      valid = λ some. subst (λ (x : RamTst). IsValid (set_of x).atomic (spans_in x) w.at) (sym moved) (f.valid some);
      few = subst (λ (x : RamTst). w.len ≤ length (from_place (set_of x).atomic (spans_in x) w.at)) (sym moved) f.few;
    }

pub pass_handled_left : (w : PassWalk) (r : RamTst) (call : HandlerCall) → left_in_pass w (ram_table.next r call) ≡ left_in_pass w r
pass_handled_left w r call = ap (λ (x : RamTst). take w.len (from_place (set_of x).atomic (spans_in x) w.at)) (row-moves r call).still
