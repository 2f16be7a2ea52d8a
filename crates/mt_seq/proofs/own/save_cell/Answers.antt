use Rattle.std.proofs.Common.{ℕ, [], ◌∷◌, ◌+◌, ap, ◌∙◌, refl}
use Rattle.mt_fault.specs.Items.{Look}
use Rattle.mt_fault.proofs.Steps.{words_read}
use Rattle.mt_port.specs.Board.{Board}
use Rattle.mt_seq.proofs.Makes.{Makes-one, Makes-same, touched}
use Rattle.mt_seq.proofs.own.save_cell.Goals as goal

pub returns-clause-makes : goal.returns-clause-makes
returns-clause-makes g c =
    Makes-same (ap (λ (k : ℕ). Look (c.args.ground.first + k) ∷ []) c.from.ensures) refl
    (Makes-one (Look (c.args.ground.first + c.from.result)) (g.met.P.Port.sound c.args.port.now) c.read-saved.ensures.state (rw c.from.ensures c.requires.inside) refl
    (touched (g.P.Port.tape c.args.port.now) (g.P.Port.tape c.read-saved.new.self) g.P.Port.keeps _ c.read-saved.ensures.tape))

pub returns-clause-words : goal.returns-clause-words
returns-clause-words g c =
    let b = g.P.Port.state c.args.port.now in
    ap (λ (x : Board). x.words) c.read-saved.ensures.state
    ∙ words_read b.fault b.words (c.args.ground.first + c.from.result) []
    ∙ (g.met.P.Port.sound c.args.port.now).memory.settled
