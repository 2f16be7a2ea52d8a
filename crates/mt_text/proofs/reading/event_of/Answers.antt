use Rattle.std.proofs.Common.{◌∙◌, sym, ap, List, Result, Ok}
use Rattle.mt_text.specs.Lines.{line, Start}
use Rattle.mt_text.specs.declared.line.Line.{Line}
use Rattle.mt_port.specs.declared.request.Request.{Request}
use Rattle.mt_text.specs.declared.line.Event.{Event}
use Rattle.mt_text.specs.declared.line.LineRefusal.{LineRefusal}
use Rattle.mt_text.specs.declared.line.Event.TheVariants.{Nothing}
use Rattle.mt_text.proofs.RunLemmas.{continues_same, continues_end}
use Rattle.mt_text.proofs.Readings.{line_comment, line_empty, line_word}
use Rattle.mt_text.proofs.reading.event_of.Goals as goal

pub returns-then-begins_comment : goal.returns-then-begins_comment
returns-then-begins_comment c =
    let E : List Request → Result Line LineRefusal = λ rs. Ok (line Nothing rs) in
    line_comment c.args.shape c.args.text.now _ _ c.in-Ok.ensures.took (sym c.begins_comment.ensures ∙ c.if-begins_comment.true) ∙ ap E (sym c.requires.none)

pub returns-in-Err : goal.returns-in-Err
returns-in-Err c =
    let E : List Request → Result Line LineRefusal = λ rs. Ok (line Nothing rs) in
    line_empty c.args.shape c.args.text.now c.in-Err.ensures.took.0 ∙ ap E (sym c.requires.none)

pub returns-else-begins_comment : goal.returns-else-begins_comment
returns-else-begins_comment c =
    let read = line_word c.args.shape c.args.text.now _ _ c.in-Ok.ensures.took (sym c.begins_comment.ensures ∙ c.if-begins_comment.false) in
    let E : Event → Result Line LineRefusal = λ ev. Ok (line ev c.from_word.new.out.items) in
    continues_same c.from_word.result E _ _ read (continues_end c.args.shape _ _ c.from_word.result E Start _ c.next.ensures.end c.from_word.ensures)
