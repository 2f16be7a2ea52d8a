use Rattle.std.proofs.Common.{refl}
use Rattle.std.proofs.lemmas.Str.{is_utf8-from_IsUtf8}
use Rattle.mt_conf.specs.Outcome.{document}
use Rattle.mt_conf.proofs.Lists.{not_utf8}
use Rattle.mt_conf.proofs.reading.table_of.Goals as goal

pub returns-in-Err-clause-err : goal.returns-in-Err-clause-err
unfolding document
returns-in-Err-clause-err c = λ _. (refl, rw (not_utf8 c.args.bytes.now c.in-Err.ensures.cases.0) refl)

pub returns-in-Ok-table_from_str-clause-ok : goal.returns-in-Ok-table_from_str-clause-ok
unfolding document
returns-in-Ok-table_from_str-clause-ok c = rw (is_utf8-from_IsUtf8 c.args.bytes.now c.in-Ok.ensures.cases.1, ← c.in-Ok.ensures.cases.0) c.in-Ok-table_from_str.ensures.ok
