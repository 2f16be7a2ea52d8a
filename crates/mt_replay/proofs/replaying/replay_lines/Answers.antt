use Rattle.std.proofs.Common.{◌≡◌, ◌<◌, ◌+◌, ◌++◌, ◌∙◌, refl, ap, arith, List, ℕ}
use Rattle.std.specs.Io.KnownBytes.{prepend_known}
use Rattle.mt_port.specs.Memory.{plain_left}
use Rattle.mt_machine.specs.Machine.{Machine, machine}
use Rattle.mt_replay.proofs.Replays.{ReplayedAll, Replaying-none, Replaying-next, replaying_has, replayed_all, replayed_whole}
use Rattle.mt_replay.proofs.replaying.replay_lines.Goals as goal
use Rattle.mt_replay.proofs.replaying.replay_lines.Goals.{else-loop-number-test, then-loop-number-test+else-number-count}

pub loop-number-init : goal.loop-number-init
loop-number-init g c =
    let none = c.requires.fresh in
    let left : c.new-lines.result ++ plain_left c.new-script.result ≡ c.args.kept.items = ap (λ (l : List ℕ). l ++ plain_left c.new-script.result) c.new-lines.ensures ∙ c.new-script.ensures in
    record {
      ready = c.requires.ready;
      board = refl;
      replaying = Replaying-none c.args.shape c.args.count c.args.kept.items (c.new-lines.result ++ plain_left c.new-script.result) _ c.args.comparison.now _ _ c.requires.script left;
      cause = λ first h. h;
      drained = λ h. h;
      few = omega (arith, none);
    }

pub take_line-requires : goal.take_line-requires
take_line-requires g c =
    replaying_has c.args.shape c.args.count c.loop-number.number c.args.kept.items (c.loop-number.lines ++ plain_left c.loop-number.script) _ _ _ _ _ _ _ _ c.loop-number.invariant.replaying c.loop-number-test.true

pub loop-number-preserved : goal.loop-number-preserved
loop-number-preserved g c =
    let inv = c.loop-number.invariant in
    let few = inv.few in
    let more = c.play_line.ensures.few in
    record {
      ready = c.play_line.ensures.ready;
      board = c.play_line.ensures.board ∙ inv.board;
      replaying = Replaying-next c.args.shape c.args.count c.loop-number.number c.args.kept.items (c.loop-number.lines ++ plain_left c.loop-number.script) (c.take_line.new.lines ++ plain_left c.take_line.new.script)
          c.take_line.new.sheet.line _ _ _ _ _ _ _ _ _ _ _ _ inv.replaying c.loop-number-test.true c.take_line.ensures.takes c.play_line.ensures.plays;
      cause = λ first h. c.play_line.ensures.cause first (inv.cause first h);
      drained = λ h. c.play_line.ensures.drained (inv.drained h);
      few = omega (arith, few, more);
    }

pub returns-clause-plays : goal.returns-clause-plays
returns-clause-plays g c =
    let first : Machine = machine (g.B.Port.state c.args.board.now) c.args.modules.now in
    let inv = c.loop-number.invariant in
    let left = c.loop-number.lines ++ plain_left c.loop-number.script in
    let all : ReplayedAll c.args.shape c.args.count c.args.kept.items first (machine (g.B.Port.state c.loop-number-test.board) c.loop-number-test.modules) c.args.comparison.now c.loop-number-test.comparison
    (prepend_known c.args.input.now (g.S.Source.left c.args.source.now)) (prepend_known c.loop-number-test.input (g.S.Source.left c.loop-number-test.source)) (g.B.Port.tape c.args.board.now) (g.B.Port.tape c.loop-number-test.board) =
    elim c.loop-number-test.branch [
      | else-loop-number-test w ↦ (rw (w.modules-is, w.board-is, w.comparison-is, w.input-is, w.source-is)
          (replayed_all c.args.shape c.args.count c.loop-number.number c.args.kept.items left _ _ _ _ _ _ _ _ inv.replaying (let test = w.loop-number-test.false in omega (arith, test))))
      | then-loop-number-test+else-number-count w ↦ (rw (w.modules-is, w.board-is, w.comparison-is, w.input-is, w.source-is)
          (let last : c.args.count < c.loop-number.number + 1 = omega arith in
          replayed_all c.args.shape c.args.count (c.loop-number.number + 1) c.args.kept.items (w.take_line.new.lines ++ plain_left w.take_line.new.script) _ _ _ _ _ _ _ _
          (Replaying-next c.args.shape c.args.count c.loop-number.number c.args.kept.items left (w.take_line.new.lines ++ plain_left w.take_line.new.script)
          w.take_line.new.sheet.line _ _ _ _ _ _ _ _ _ _ _ _ inv.replaying w.loop-number-test.true w.take_line.ensures.takes w.play_line.ensures.plays) last))
    ] in
    λ lines is. replayed_whole c.args.shape c.args.count c.args.kept.items c.deref.result.now first _ _ _ _ _ _ _ _ _ lines all (c.deref.ensures.0 ∙ c.done_text.ensures) c.compare.ensures.stands is
