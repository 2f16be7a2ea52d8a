use Rattle.std.proofs.Common.{◌≡◌, ◌*◌, ◌≤◌, take}
use Rattle.std.specs.List.{flat_map}
use Rattle.mt_locate.specs.Probes.{scratch_of}
use Rattle.mt_locate.specs.Listed.{kinds, of_kind}
use Rattle.mt_locate.specs.Inner.Listing.{change}
use Rattle.mt_locate.proofs.Listing.{Done}
use Rattle.mt_locate.proofs.list.list_kinds.Given as goal

abbrev pub invariant-loop-kind : goal.invariant-loop-kind
invariant-loop-kind g l = record {
  scratch : l.cells ≡ scratch_of l.syndrome.probe.now;
  done : Done l.syndrome.probe.now l.syndrome.misses.now
      (flat_map (of_kind l.syndrome.probe.now.width l.syndrome.probe.now.first l.syndrome.probe.now.n) (take l.kind-index kinds))
      (change (g.K.Sink.held l.initial.sink) (g.K.Sink.held l.sink) l.initial.page.waiting l.page.waiting (g.K.Sink.faults l.initial.sink) (g.K.Sink.faults l.sink)) l.found;
  few : l.found ≤ 32768 * l.kind-index;
}
