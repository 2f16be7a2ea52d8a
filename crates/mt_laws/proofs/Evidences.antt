-- A block over a fault that is caught never becomes OK.
use Rattle.std.proofs.Common.{List, [], ◌∷◌, All, refl, sym, subst}
use Rattle.std.proofs.lemmas.List.Elements.{All-head, All-tail}
use Rattle.mt_fault.specs.declared.fault.Fault.{Fault}
use Rattle.mt_port.specs.declared.board.Shape.{Shape}
use Rattle.mt_blocks.specs.declared.config.ParamSet.{ParamSet}
use Rattle.mt_blocks.specs.Accepted.{IsAcceptedSet}
use Rattle.mt_blocks.specs.Slices.{Piece}
use Rattle.mt_ram.specs.declared.state.State.{State}
use Rattle.mt_ram.specs.State.{Setting, set_of}
use Rattle.mt_ram.specs.Tested.{ResultsAreReset}
use Rattle.mt_text.specs.declared.line.Line.{Line}
use Rattle.mt_text.specs.Accepted.{IsAccepted}
use Rattle.mt_machine.specs.Machine.{Machine, step, started, played}
use Rattle.mt_laws.specs.Alarms.{OfEach}
use Rattle.mt_laws.specs.Evidence.{LeavesThere, IsNotOk, OkIsEvidence}
use Rattle.mt_laws.proofs.PassEvents.{Caught}
use Rattle.mt_laws.proofs.SoundBoards.{AreSoundIn, IsSoundMachine, started_sound, step-sound, played-sound}
use Rattle.mt_laws.proofs.Detects.{Laws, All-front, All-behind, caught_in}
use Rattle.mt_laws.proofs.UnprovenRows.{IsPlaced, StandsSo}
use Rattle.mt_laws.proofs.UnprovenLines.{Watch, Holds, step_leaves}

lines_leave : Laws → ResultsAreReset → (shape : Shape) (z : Setting) → All (IsAcceptedSet shape) z.config.sets → (fault : Fault) (set : ParamSet) (p : Piece) → Caught shape fault set p → (m : Machine) (lines : List Line)
    → All (IsAccepted shape) lines → IsSoundMachine shape z m → Holds fault set p m → OfEach LeavesThere lines (played m lines).steps → OfEach (IsNotOk p.place.block) lines (played m lines).steps
lines_leave laws reset shape z all fault set p caught m [] ok sound h there = tt
lines_leave laws reset shape z all fault set p caught m (line ∷ more) ok sound h there =
    let accepted = All-head (IsAccepted shape) line more ok in
    let watch : Watch m.board.shape fault set p =
    subst (λ (y : Shape). Watch y fault set p) (sym sound.common) (record { laws = laws.board.pass; blocks = laws.begin; passes = laws.first; reset = reset; caught = caught }) in
    let ops : AreSoundIn m.board.shape line.requests.items = subst (λ (y : Shape). AreSoundIn y line.requests.items) (sym sound.common) accepted.requests.sound in
    let one = step_leaves m line watch sound.words ops h there.0 in (
      one.1,
      lines_leave laws reset shape z all fault set p caught (step m line).after more (All-tail (IsAccepted shape) line more ok) (step-sound laws.board shape z all m line accepted sound) one.0 there.1,
    )

pub ok_is_evidence : Laws → ResultsAreReset → OkIsEvidence
ok_is_evidence laws reset c defect before lines config ok fault p catch present start there =
    let first = started c defect in
    let shape = c.shape in
    let z = first.modules.ram.setting in
    let sets = config.ram_tst.sets in
    let m = (played first before).after in
    let set = set_of m.modules.ram in
    let sound = played-sound laws.board shape z sets first before (All-front (IsAccepted shape) before lines ok) (started_sound laws.board c defect config) in
    let caught = caught_in shape z fault m.modules.ram p config.limits sets sound.ram.setting catch in
    let h : Holds fault set p m = record {
      present = present;
      results = sound.ram.results;
      unproven = record {
        same = refl;
        result = start.result;
        place = subst (λ (s : State). StandsSo (IsPlaced set p.place m.modules.ram.failed) s) (sym start.state) tt;
      };
    } in
    lines_leave laws reset shape z sets fault set p caught m lines (All-behind (IsAccepted shape) before lines ok) sound h there
