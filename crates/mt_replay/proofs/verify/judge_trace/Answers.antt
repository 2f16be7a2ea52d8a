use Rattle.std.proofs.Common.{length}
use Rattle.std.specs.Io.KnownBytes.{prepend_known}
use Rattle.mt_machine.specs.Machine.{Machine, machine, played}
use Rattle.mt_replay.specs.Inner.Verifies.{trace_of}
use Rattle.mt_replay.proofs.Traces.{replay_trace}
use Rattle.mt_replay.proofs.Verifies.{judged_whole}
use Rattle.mt_replay.proofs.verify.judge_trace.Goals as goal

pub returns-clause-judges : goal.returns-clause-judges
returns-clause-judges g c = λ lines script.
    let shape = c.args.shape in
    let m : Machine = machine (g.B.Port.state c.args.board.now) c.args.modules.now in
    let m' : Machine = machine (g.B.Port.state c.replay_lines.new.board) c.replay_lines.new.modules in
    let lines_are = c.whole_lines.ensures in
    let trace = replay_trace (record { first = lines_are.first; whole = lines_are.whole; joined = lines_are.joined }) shape 1 (length lines) (played m lines).steps in
    judged_whole c.finish.result shape lines m m' c.new-comparison.result c.replay_lines.new.comparison (prepend_known c.args.input.now (g.S.Source.left c.args.source.now)) _ _ _ _
    c.new-comparison.ensures.stands (c.replay_lines.ensures.plays lines script) (λ stands. c.finish.ensures.gives (trace_of shape m lines) _ trace.whole trace.full stands)
