use Rattle.std.proofs.Common.{◌≡◌, ◌∙◌, refl, arith, ℕ, Ok, Err, subst}
use Rattle.std.specs.Io.KnownBytes.{prepend_known}
use Rattle.mt_machine.specs.Machine.{Machine, machine}
use Rattle.mt_replay.specs.Changes.{change}
use Rattle.mt_replay.specs.Inner.Runs.{place, Goes}
use Rattle.mt_replay.proofs.Runs.{UsesBoard-none, UsesBoard-then, Goes-none, Goes-goes, turn_ends, bare_end}
use Rattle.mt_replay.proofs.run.run_script.Goals as goal

pub loop-number-init : goal.loop-number-init
loop-number-init g c = record {
  ready = c.requires;
  board = UsesBoard-none c.args.task.now.form _ _;
  goes = Goes-none c.args.task.now.form c.args.task.now.shape 1 _ _ _ _;
  source = refl;
  sink = refl;
}

pub returns-in-Ok-Ended-clause-gives : goal.returns-in-Ok-Ended-clause-gives
returns-in-Ok-Ended-clause-gives g c =
    turn_ends (Ok c.in-Ok-Ended.end) c.args.task.now.form c.args.task.now.shape 1 c.loop-number.number _ _ _ _ _ _ _ _ _ _ _ _ c.loop-number.invariant.goes (rw c.in-Ok-Ended.field-0-is at c.in-Ok-Ended.ensures.gives)

pub returns-in-Err-clause-gives : goal.returns-in-Err-clause-gives
returns-in-Err-clause-gives g c =
    turn_ends (Err c.in-Err.failed) c.args.task.now.form c.args.task.now.shape 1 c.loop-number.number _ _ (machine (g.B.Port.state c.run_line.new.board) c.run_line.new.modules) _ _ _ _ _ _ _ _ _ c.loop-number.invariant.goes c.in-Err.ensures.gives

pub loop-number-preserved : goal.loop-number-preserved
loop-number-preserved g c =
    let more = rw c.in-Ok-More.field-0-is at c.in-Ok-More.ensures.gives in
    let cause = rw c.in-Ok-More.field-0-is at c.in-Ok-More.ensures.cause in
    record {
      ready = c.in-Ok-More.ensures.ready;
      board = UsesBoard-then c.args.task.now.form _ _ _ _ _ _ c.loop-number.invariant.board c.in-Ok-More.ensures.board;
      goes = Goes-goes c.args.task.now.form c.args.task.now.shape 1 c.loop-number.number _ _ _ _ _ _ _ _ _ _ _ _ _ c.loop-number.invariant.goes more;
      source = cause.0 ∙ c.loop-number.invariant.source;
      sink = cause.1 ∙ c.loop-number.invariant.sink;
    }

pub returns-clause-gives : goal.returns-clause-gives
returns-clause-gives g c =
    let m : Machine = machine (g.B.Port.state c.loop-number.board) c.loop-number.modules in
    let task = c.args.task.now in
    let first : Machine = machine (g.B.Port.state c.args.board.now) c.args.modules.now in
    let last : c.loop-number.number ≡ 1000001 = omega arith in
    let now = change (prepend_known c.args.input.now (g.S.Source.left c.args.source.now)) (prepend_known c.loop-number.input (g.S.Source.left c.loop-number.source)) (g.K.Sink.held c.args.sink.now) (g.K.Sink.held c.loop-number.sink) (g.B.Port.tape c.args.board.now) (g.B.Port.tape c.loop-number.board) in
    turn_ends (Ok c.run_past.result) task.form task.shape 1 1000001 first m m _ _ _ _ _ _ _ _ _
    (subst (λ (n : ℕ). Goes (place task.form task.shape 1) first m n now) last c.loop-number.invariant.goes)
    (bare_end c.run_past.result task.form task.shape 1000001 m _ _ _ _ (c.run_past.ensures.gives task.shape))
