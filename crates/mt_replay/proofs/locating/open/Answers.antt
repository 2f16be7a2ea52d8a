use Rattle.std.proofs.Common.{◌∙◌, ap}
use Rattle.mt_replay.specs.Locating.{slice_said}
use Rattle.mt_replay.proofs.LocatedLines.{slice_line, slice_refused, slice_ends}
use Rattle.mt_replay.proofs.locating.open.Goals as goal

pub returns-in-Ok-clause-gives : goal.returns-in-Ok-clause-gives
returns-in-Ok-clause-gives g c =
    slice_line c.in-Ok-Some.follows c.in-Ok.probe c.args.shape c.args.initial c.args.sets.now c.read_text.new.text.items _ _ (rw c.in-Ok-Some.field-0-is at c.in-Ok-Some.ensures.gives)
    (c.in-Ok.ensures.line ∙ ap (slice_said c.args.shape c.args.initial c.args.sets.now) c.deref.ensures.0)

pub returns-in-Err-judge_slice-clause-gives : goal.returns-in-Err-judge_slice-clause-gives
returns-in-Err-judge_slice-clause-gives g c =
    slice_refused c.in-Ok-Some.follows c.in-Err-judge_slice.end c.args.shape c.args.initial c.args.sets.now c.read_text.new.text.items _ _ (rw c.in-Ok-Some.field-0-is at c.in-Ok-Some.ensures.gives)
    (c.in-Err-judge_slice.ensures.line ∙ ap (slice_said c.args.shape c.args.initial c.args.sets.now) c.deref.ensures.0) c.in-Err-judge_slice.ensures.refusal

pub returns-in-Err-clause-gives : goal.returns-in-Err-clause-gives
returns-in-Err-clause-gives g c = slice_ends c.in-Err.end c.args.shape c.args.initial c.args.sets.now c.read_text.new.text.items _ _ c.in-Err.ensures.gives
