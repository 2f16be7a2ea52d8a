use Rattle.std.proofs.Common.{◌≡◌, ◌∙◌, ℕ, arith, append-nil, sym, refl, subst}
use Rattle.std.specs.Io.KnownBytes.{prepend_known}
use Rattle.mt_port.specs.Streams.{WhereTold}
use Rattle.mt_replay.proofs.LocatedLines.{Missed, none_missed, one_missed, all_missed, ends_missed}
use Rattle.mt_replay.proofs.locating.read_misses.Goals as goal

pub loop-number-init : goal.loop-number-init
loop-number-init g c = record { missed = none_missed c.args.probe.now _ c.args.misses.now.items c.requires.empty; faults = refl }

pub loop-number-preserved : goal.loop-number-preserved
loop-number-preserved g c = record {
  missed = one_missed c.in-Ok-Some.next.follows c.args.probe.now c.loop-number.number c.loop-number.after c.loop-number.misses.items c.push.new.self.items c.in-Ok-Some.next.miss _ _ _ c.in-Lines.is c.in-Ok.ensures.items
      c.loop-number.invariant.missed (rw c.in-Ok-Some.field-0-is at c.in-Ok-Some.ensures.gives);
  faults = c.in-Ok-Some.ensures.ok ∙ c.loop-number.invariant.faults;
}

pub returns-in-Ok-end_past-clause-gives : goal.returns-in-Ok-end_past-clause-gives
returns-in-Ok-end_past-clause-gives g c =
    let last : c.loop-number.number ≡ 1000001 = omega arith in
    let now = prepend_known c.loop-number.input (g.S.Source.left c.loop-number.source) in
    let was = prepend_known c.args.input.now (g.S.Source.left c.args.source.now) in
    all_missed c.args.probe.now 1000001 c.loop-number.after c.loop-number.misses.items _ c.loop-number.misses.items was now _ (sym (append-nil c.loop-number.misses.items))
    (subst (λ (n : ℕ). WhereTold was now (Missed c.args.probe.now n c.loop-number.after c.loop-number.misses.items)) last c.loop-number.invariant.missed)
    (c.in-Ok-end_past.ensures.gives c.args.probe.now c.loop-number.after)

pub returns-in-Err-end_past-clause-gives : goal.returns-in-Err-end_past-clause-gives
returns-in-Err-end_past-clause-gives g c =
    let last : c.loop-number.number ≡ 1000001 = omega arith in
    let now = prepend_known c.loop-number.input (g.S.Source.left c.loop-number.source) in
    let was = prepend_known c.args.input.now (g.S.Source.left c.args.source.now) in
    ends_missed c.in-Err-end_past.end c.args.probe.now 1000001 c.loop-number.after c.loop-number.misses.items was now _
    (subst (λ (n : ℕ). WhereTold was now (Missed c.args.probe.now n c.loop-number.after c.loop-number.misses.items)) last c.loop-number.invariant.missed)
    (c.in-Err-end_past.ensures.gives c.args.probe.now c.loop-number.after)
