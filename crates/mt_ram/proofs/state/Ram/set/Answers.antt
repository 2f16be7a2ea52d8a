use Rattle.std.proofs.Common.{◌≡◌, ◌∙◌, List, sym, ap, subst, get_or}
use Rattle.mt_port.specs.declared.board.Shape.{Shape}
use Rattle.mt_blocks.specs.declared.config.ParamSet.{ParamSet}
use Rattle.mt_blocks.specs.Accepted.{IsAcceptedSet}
use Rattle.mt_ram.specs.State.{RamTst}
use Rattle.mt_ram.proofs.Sets.{accepted_spans}
use Rattle.mt_ram.proofs.state.Ram.set.Goals as goal

pub returns-clause-accepted : goal.returns-clause-accepted
returns-clause-accepted c =
    let set = c.index-as_slice-self.result in
    let here : set ≡ get_or c.self.inside.config.sets c.self.inside.selected set =
    c.index-as_slice-self.is ∙ ap (λ (l : List ParamSet). get_or l c.self.inside.selected set) c.as_slice.ensures in
    let ok : IsAcceptedSet c.self.inside.shape set =
    subst (IsAcceptedSet c.self.inside.shape) (sym here) (c.self.invariant.accepted.sets c.self.inside.selected set c.self.invariant.selected) in
    subst (λ (x : Shape). IsAcceptedSet x set) (ap (λ (r : RamTst). r.setting.shape) c.self.view_is) ok

pub returns-clause-spans : goal.returns-clause-spans
returns-clause-spans c =
    let set = c.index-as_slice-self.result in
    let here : set ≡ get_or c.self.inside.config.sets c.self.inside.selected set =
    c.index-as_slice-self.is ∙ ap (λ (l : List ParamSet). get_or l c.self.inside.selected set) c.as_slice.ensures in
    let ok : IsAcceptedSet c.self.inside.shape set =
    subst (IsAcceptedSet c.self.inside.shape) (sym here) (c.self.invariant.accepted.sets c.self.inside.selected set c.self.invariant.selected) in
    accepted_spans c.self.inside.shape set c.self.invariant.accepted.limits ok
