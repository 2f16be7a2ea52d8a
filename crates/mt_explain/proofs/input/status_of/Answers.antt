use Rattle.std.proofs.Common.{Some, ap, ◌∙◌}
use Rattle.mt_replay.specs.Replay.{form_of}
use Rattle.mt_explain.proofs.Statuses.{completed}
use Rattle.mt_explain.proofs.input.status_of.Goals as goal

pub returns : goal.returns
returns c = record {
  status = completed c.args.input _ _ _ c.args.bytes.now c.replay.result
      (ap form_of c.deref.ensures.value ∙ c.in-Ok.ensures)
      (ap (λ b. b.defect) c.new.ensures.state)
      (ap Some (c.new-source.ensures ∙ c.in-Ok-from_slice.ensures.items))
      c.replay.ensures.complete
      c.in_default-replay.not-NoMemory;
  memory = c.in_default-replay.not-NoMemory;
}
