use Rattle.std.proofs.Common.{[], ◌∷◌, take}
use Rattle.std.specs.Prelude.{if◌then◌else◌}
use Rattle.std.specs.List.{flat_map}
use Rattle.mt_fault.specs.Faulty.{is_odd}
use Rattle.mt_seq.specs.declared.own.Named.{Named}
use Rattle.mt_seq.specs.Inner.Own.{doing}
use Rattle.mt_seq.specs.Makes.{Makes}
use Rattle.mt_seq.proofs.own.each.Given as goal

abbrev pub invariant-loop-m : goal.invariant-loop-m
invariant-loop-m g l = record {
  does : Makes (flat_map (λ (m : Named). doing m.target (if is_odd m.cell then l.odd else l.even) ∷ []) (take l.m-index l.named)) (g.P.Port.state l.initial.port) (g.P.Port.state l.port) (g.P.Port.tape l.initial.port) (g.P.Port.tape l.port) l.good;
}
