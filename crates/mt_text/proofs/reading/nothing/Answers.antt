use Rattle.mt_text.proofs.RunLemmas.{ended_token, ended_end, continues_err}
use Rattle.mt_text.proofs.reading.nothing.Goals as goal

pub returns-in-Ok : goal.returns-in-Ok
returns-in-Ok c = λ ev. continues_err _ _ _ _ c.refused.ensures (ended_token c.args.shape ev c.args.cursor.now c.next.new.self c.in-Ok.token c.in-Ok.ensures.took c.next.ensures.end)

pub returns-in-Err : goal.returns-in-Err
returns-in-Err c = λ ev. ended_end c.args.shape ev c.args.cursor.now c.next.new.self c.in-Err.field-0 c.in-Err.ensures.took
