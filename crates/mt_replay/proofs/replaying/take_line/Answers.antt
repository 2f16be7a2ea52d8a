use Rattle.std.proofs.Common.{◌++◌, ◌∙◌, ap, sym}
use Rattle.mt_port.specs.Memory.{plain_left}
use Rattle.mt_text.specs.Lines.{line_of}
use Rattle.mt_replay.proofs.Replays.{takes_first, not_refused}
use Rattle.mt_replay.proofs.replaying.take_line.Goals as goal

pub unreachable-requires-in-Err-read : goal.unreachable-requires-in-Err-read
unreachable-requires-in-Err-read c =
    let shape = c.args.shape in
    not_refused c.in-Ok.field-0 shape c.read_line.new.text.items (c.args.lines.now ++ plain_left c.args.script.now) (c.read_line.new.self ++ plain_left c.read_line.new.source) c.in-Err-read.field-0
    c.in-Ok.ensures.ok (ap (line_of shape) (sym c.deref.ensures.0) ∙ c.in-Err-read.ensures.err) c.requires

pub returns-clause-takes : goal.returns-clause-takes
returns-clause-takes c =
    let shape = c.args.shape in
    takes_first c.in-Ok.field-0 shape c.read_line.new.text.items (c.args.lines.now ++ plain_left c.args.script.now) (c.read_line.new.self ++ plain_left c.read_line.new.source) c.read.new.self
    c.in-Ok.ensures.ok (ap (line_of shape) (sym c.deref.ensures.0) ∙ c.in-Ok-read.ensures.ok)
