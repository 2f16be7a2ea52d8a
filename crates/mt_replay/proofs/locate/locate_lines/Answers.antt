use Rattle.std.proofs.Common.{ap, sym, subst, List, Ok, Err}
use Rattle.std.specs.Io.KnownBytes.{prepend_known}
use Rattle.mt_port.specs.Streams.{WhereTold}
use Rattle.mt_blocks.specs.declared.config.ParamSet.{ParamSet}
use Rattle.mt_locate.specs.declared.probe.Miss.{Miss}
use Rattle.mt_replay.specs.Locating.{located}
use Rattle.mt_replay.specs.Inner.Locating.{LocatedGives}
use Rattle.mt_replay.specs.Inner.Locates.{located_by}
use Rattle.mt_replay.proofs.Locates.{all_at, list_job, stopped_gives}
use Rattle.mt_replay.proofs.locate.locate_lines.Goals as goal

pub returns-in-Ok-clause-gives : goal.returns-in-Ok-clause-gives
returns-in-Ok-clause-gives g c = λ a board tape begins.
    let config = c.args.config.now in
    let before = prepend_known c.args.input.now (g.S.Source.left c.args.source.now) in
    let held = c.read_located.new.input in
    let left = g.S.Source.left c.read_located.new.source in
    let probe = c.in-Ok.probe in
    let of_sets = subst (λ (sets : List ParamSet). WhereTold before (prepend_known held left) (LocatedGives (Ok probe) (located config.shape config.initial sets) c.read_located.new.misses.items)) c.as_slice-sets.ensures c.in-Ok.ensures.gives in
    let gives = subst (λ (misses : List Miss). WhereTold before (prepend_known held left) (LocatedGives (Ok probe) (located config.shape config.initial config.ram_tst.sets) misses)) (sym c.deref.ensures.value) of_sets in
    list_job c.tell_list.result config.shape (located_by probe c.deref.result.now) board tape a left _ _ _ _ _ _ (all_at config (located_by probe c.deref.result.now) held a before left begins gives) c.in-Ok.ensures.ok c.tell_list.ensures

pub returns-clause-gives : goal.returns-clause-gives
returns-clause-gives g c = λ a board tape begins.
    let config = c.args.config.now in
    let before = prepend_known c.args.input.now (g.S.Source.left c.args.source.now) in
    let held = c.read_located.new.input in
    let left = g.S.Source.left c.read_located.new.source in
    let gives = subst (λ (sets : List ParamSet). WhereTold before (prepend_known held left) (LocatedGives (Err c.in-Err.stop) (located config.shape config.initial sets) c.read_located.new.misses.items)) c.as_slice-sets.ensures c.in-Err.ensures.gives in
    stopped_gives c.in-Err.stop config c.read_located.new.misses.items c.tell_stop.result board tape held a before left _ _ _ _ _ _ (λ e. c.in-Err.ensures.none (ap Err e)) begins gives c.in-Err.ensures.err c.tell_stop.ensures
