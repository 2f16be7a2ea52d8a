use Rattle.std.proofs.Common.{◌-◌}
use Rattle.mt_explain.proofs.MarkLemmas.{noted}
use Rattle.mt_explain.proofs.notes.head_note.Goals as goal

pub returns-in-19-clause-mark : goal.returns-in-19-clause-mark
returns-in-19-clause-mark c =
    noted (c.args.file.now.head - 1) c.args.file.now.lines.now c.head_lines.result.now c.no_separator.result c.head_lines.ensures c.no_separator.ensures.mark

pub returns-in_default-clause-mark : goal.returns-in_default-clause-mark
returns-in_default-clause-mark c =
    noted (c.args.file.now.head - 1) c.args.file.now.lines.now c.head_lines-in_default.result.now c.config_note.result c.head_lines-in_default.ensures c.config_note.ensures.mark
