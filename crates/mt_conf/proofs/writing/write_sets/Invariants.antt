use Rattle.std.proofs.Common.{◌≡◌, take}
use Rattle.std.specs.Io.KnownBytes.{Appends}
use Rattle.mt_conf.specs.Canonical.{sets_text}
use Rattle.mt_conf.proofs.writing.write_sets.Given as goal

abbrev pub invariant-loop-set : goal.invariant-loop-set
invariant-loop-set g l = record {
  text : Appends (g.K.Sink.held l.initial.sink) (g.K.Sink.held l.sink) (sets_text l.version l.shape.width (take l.set-index l.sets));
  faults : g.K.Sink.faults l.sink ≡ g.K.Sink.faults l.initial.sink;
}
