use Rattle.std.proofs.Common.{◌≡◌, true, map, take}
use Rattle.std.specs.Prelude.{All}
use Rattle.mt_word.specs.Word.{Fits}
use Rattle.mt_seq.specs.declared.own.Named.{Named}
use Rattle.mt_seq.specs.Inner.Own.{AreTargets, own_looks, read_cell}
use Rattle.mt_seq.specs.Makes.{Makes}
use Rattle.mt_seq.proofs.own.save_named.Given as goal

abbrev pub invariant-loop-cell : goal.invariant-loop-cell
invariant-loop-cell g l = record {
  does : Makes (own_looks l.ground.first (take l.cell-index l.cells)) (g.P.Port.state l.initial.port) (g.P.Port.state l.port) (g.P.Port.tape l.initial.port) (g.P.Port.tape l.port) true;
  words : (g.P.Port.state l.port).words ≡ (g.P.Port.state l.initial.port).words;
  named : l.named.items ≡ map (read_cell l.ground (g.P.Port.state l.initial.port)) (take l.cell-index l.cells);
  targets : AreTargets (g.P.Port.state l.initial.port) l.named.items;
  fit : All (λ (m : Named). Fits (g.P.Port.state l.initial.port).shape.width m.saved) l.named.items;
}
