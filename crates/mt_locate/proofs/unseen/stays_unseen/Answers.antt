use Rattle.std.proofs.Common.{ℕ, ◌+◌, ◌-◌, ◌*◌, List, get_or, ap, ◌∙◌}
use Rattle.mt_word.specs.Word.{has_bit}
use Rattle.mt_locate.specs.Lanes.{lane, treated}
use Rattle.mt_locate.specs.Inner.Lanes.{rows_of}
use Rattle.mt_locate.proofs.Classes.{is_table, found}
use Rattle.mt_locate.proofs.Unmissed.{spots}
use Rattle.mt_locate.proofs.unseen.stays_unseen.Goals as goal

pub returns : goal.returns
returns c =
    let probe = c.args.probe.now in
    let d = c.args.fault in
    let a : ℕ = d.agg.word - probe.first in
    let v : ℕ = d.vic.word - probe.first in
    let l : ℕ = lane d.side d.value (treated probe d.agg.bit) (treated probe d.vic.bit) in
    c.bit.ensures
    ∙ ap (λ (x : ℕ). has_bit (get_or c.rows_of.result.now (a * c.from.result + v) 0) x) c.lane.ensures
    ∙ ap (λ (n : ℕ). has_bit (get_or c.rows_of.result.now (a * n + v) 0) l) c.from.ensures
    ∙ ap (λ (rows : List ℕ). has_bit (get_or rows (a * probe.n + v) 0) l) c.rows_of.ensures
    ∙ found probe d (rows_of c.args.unseen.now d.means) (is_table probe c.args.unseen.now d.means c.requires.tables) (spots probe d.means d c.requires.inside)
