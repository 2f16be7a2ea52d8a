use Rattle.std.proofs.Common.{◌≡◌, ◌*◌, ◌≤◌, take}
use Rattle.std.specs.List.{flat_map, range_with_len}
use Rattle.mt_locate.specs.Probes.{scratch_of}
use Rattle.mt_locate.specs.Inner.Places.{places, faults_at}
use Rattle.mt_locate.specs.Inner.Listing.{change}
use Rattle.mt_locate.proofs.Listing.{Done}
use Rattle.mt_locate.proofs.list.list_kind.Given as goal

abbrev pub invariant-loop-k : goal.invariant-loop-k
invariant-loop-k g l = record {
  scratch : l.cells ≡ scratch_of l.syndrome.probe.now;
  done : Done l.syndrome.probe.now l.syndrome.misses.now
      (flat_map (faults_at l.syndrome.probe.now.width l.syndrome.probe.now.first l.syndrome.probe.now.n l.kind) (take l.k (range_with_len 0 (places l.syndrome.probe.now.width l.syndrome.probe.now.n l.kind))))
      (change (g.K.Sink.held l.initial.sink) (g.K.Sink.held l.sink) l.initial.page.waiting l.page.waiting (g.K.Sink.faults l.initial.sink) (g.K.Sink.faults l.sink)) l.found;
  few : l.found ≤ 2 * l.k;
}
