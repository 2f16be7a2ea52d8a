use Rattle.std.proofs.Common.{◌∙◌, ap}
use Rattle.mt_replay.specs.Locating.{miss_said}
use Rattle.mt_replay.proofs.LocatedLines.{next_line, next_refused, next_ends}
use Rattle.mt_replay.proofs.locating.next_miss.Goals as goal

pub returns-in-Ok-clause-gives : goal.returns-in-Ok-clause-gives
returns-in-Ok-clause-gives g c =
    next_line c.in-Ok-Some.follows c.in-Ok.miss c.args.probe.now c.args.number c.args.after c.read_text.new.text.items _ _ (rw c.in-Ok-Some.field-0-is at c.in-Ok-Some.ensures.gives)
    (c.in-Ok.ensures.line ∙ ap (miss_said c.args.probe.now c.args.number c.args.after) c.deref.ensures.0)

pub returns-in-Err-judge_miss-clause-gives : goal.returns-in-Err-judge_miss-clause-gives
returns-in-Err-judge_miss-clause-gives g c =
    next_refused c.in-Ok-Some.follows c.in-Err-judge_miss.end c.args.probe.now c.args.number c.args.after c.read_text.new.text.items _ _ (rw c.in-Ok-Some.field-0-is at c.in-Ok-Some.ensures.gives)
    (c.in-Err-judge_miss.ensures.line ∙ ap (miss_said c.args.probe.now c.args.number c.args.after) c.deref.ensures.0) c.in-Err-judge_miss.ensures.refusal

pub returns-in-Err-clause-gives : goal.returns-in-Err-clause-gives
returns-in-Err-clause-gives g c = next_ends c.in-Err.end c.args.probe.now c.args.number c.args.after c.read_text.new.text.items _ _ c.requires.few c.in-Err.ensures.gives
