use Rattle.std.proofs.lemmas.Result.{err_from_is_err_and}
use Rattle.mt_text.proofs.ReadLemmas.{none_taken, value_ok, value_err}
use Rattle.mt_text.proofs.value.value.Goals as goal

pub returns-in_err-token : goal.returns-in_err-token
returns-in_err-token g c =
    let p = err_from_is_err_and c.from_residual.result c.from_residual.ensures.1 in
    rw (p.1, p.2) (none_taken c.args.shape (g.P.Place.form c.args.place) c.args.cursor.now c.next.new.self _ (g.met.P.Place.goes_on c.args.place) c.in_err-token.ensures.took c.next.ensures.end)

pub returns-in-Ok : goal.returns-in-Ok
returns-in-Ok g c =
    value_ok c.args.shape (g.P.Place.form c.args.place) c.args.cursor.now c.next.new.self c.in_ok-token.token c.in-Ok.value (g.met.P.Place.goes_on c.args.place) c.in_ok-token.ensures.took c.next.ensures.end c.in-Ok.ensures

pub returns-in-Err : goal.returns-in-Err
returns-in-Err g c =
    rw c.refused.ensures (value_err c.args.shape (g.P.Place.form c.args.place) c.args.cursor.now c.next.new.self c.in_ok-token.token c.in-Err.kind (g.met.P.Place.goes_on c.args.place) c.in_ok-token.ensures.took c.next.ensures.end c.in-Err.ensures)
