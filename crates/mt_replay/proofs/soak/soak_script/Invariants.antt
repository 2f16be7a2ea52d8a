use Rattle.std.proofs.Common.{◌≡◌, ◌+◌, ◌-◌, ◌*◌, ◌^◌, ◌≤◌, length, All}
use Rattle.mt_text.specs.Accepted.{IsAccepted}
use Rattle.mt_gen.specs.Script.{job_shape, script}
use Rattle.mt_machine.specs.Machine.{machine, IsReady}
use Rattle.mt_replay.proofs.Soaks.{Soaking}
use Rattle.mt_replay.proofs.soak.soak_script.Given as goal

abbrev pub invariant-loop-lines : goal.invariant-loop-lines
invariant-loop-lines g l = record {
  ready : IsReady job_shape (machine (g.B.Port.state l.board) l.modules);
  accepted : All (IsAccepted job_shape) l.lines;
  soaking : Soaking (machine (g.B.Port.state l.initial.board) l.initial.modules) (machine (g.B.Port.state l.board) l.modules) (script l.number) l.lines l.summary (g.B.Port.tape l.initial.board) (g.B.Port.tape l.board);
  count : l.summary.lines + length l.lines ≡ 20000;
  ran : l.summary.ran ≤ l.summary.lines * (257 * (2 ^ 32 - 1));
  served : l.summary.served ≤ l.summary.lines * 257;
  defect : (g.B.Port.state l.board).defect ≡ (g.B.Port.state l.initial.board).defect;
}

abbrev pub decreases-loop-lines : goal.decreases-loop-lines
decreases-loop-lines g l = length l.lines
