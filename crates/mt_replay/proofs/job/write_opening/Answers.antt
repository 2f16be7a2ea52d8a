use Rattle.std.proofs.Common.{rules, ◌∷◌, []}
use Rattle.std.proofs.lemmas.Result.{on_err_weaker}
use Rattle.mt_conf.specs.Canonical.{config_text}
use Rattle.mt_port.specs.Inner.Streams.{AppendsFront-after, AppendsFront-more}
use Rattle.mt_replay.proofs.job.write_opening.Goals as goal

pub returns-in_err-write_config-clause-err : goal.returns-in_err-write_config-clause-err
returns-in_err-write_config-clause-err g c =
    let front = AppendsFront-more _ _ (config_text c.args.config.now) (61 ∷ 61 ∷ 61 ∷ 61 ∷ 61 ∷ 10 ∷ []) c.in_err-write_config.ensures.err in
    search rules

pub returns-clause-err : goal.returns-clause-err
returns-clause-err g c = on_err_weaker c.put.result (λ front. AppendsFront-after _ _ _ (config_text c.args.config.now) _ c.in_ok-write_config.ensures.ok front) c.put.ensures.err
