use Rattle.std.proofs.Common.{ℕ, ap, refl}
use Rattle.std.specs.Prelude.{◌==◌}
use Rattle.mt_fault.specs.Items.{Look, Check, Store}
use Rattle.mt_seq.proofs.Makes.{Makes-one, touched}
use Rattle.mt_seq.proofs.access.Access.make.Goals as goal

pub returns-in-Look-clause-made : goal.returns-in-Look-clause-made
returns-in-Look-clause-made g c =
    rw c.in-Look.is (Makes-one (Look c.in-Look.addr) (g.met.P.Port.sound c.args.port.now) c.read.ensures.state (rw c.in-Look.is at c.requires.inside) refl (touched _ _ _ _ c.read.ensures.tape))

pub returns-in-Check-clause-made : goal.returns-in-Check-clause-made
returns-in-Check-clause-made g c =
    rw c.in-Check.is (Makes-one (Check c.in-Check.addr c.in-Check.word) (g.met.P.Port.sound c.args.port.now) c.read-in-Check.ensures.state (rw c.in-Check.is at c.requires.inside)
    (ap (λ (x : ℕ). x == c.in-Check.word) c.read-in-Check.ensures.word) (touched _ _ _ _ c.read-in-Check.ensures.tape))

pub returns-in-Store-clause-made : goal.returns-in-Store-clause-made
returns-in-Store-clause-made g c =
    rw c.in-Store.is (Makes-one (Store c.in-Store.addr c.in-Store.word) (g.met.P.Port.sound c.args.port.now) c.write.ensures.state (rw c.in-Store.is at c.requires.inside) refl (touched _ _ _ _ c.write.ensures.tape))
