use Rattle.std.proofs.Common.{ℕ, ◌≡◌, ◌≤◌, ◌<◌, ◌+◌, map, Bool, false, true, List, [], length, arith, refl, ap, sym, ◌∙◌}
use Rattle.std.specs.Prelude.{nat_lt, slice_index, if◌then◌else◌}
use Rattle.std.proofs.lemmas.Bool.{le-ltb, lt-ltb}
use Rattle.mt_plan.specs.declared.algorithm.Policy.TheVariants.{NonDestructive}
use Rattle.mt_seq.specs.declared.sequence.Slice.{Slice}
use Rattle.mt_seq.specs.Sequence.{ending}
use Rattle.mt_seq.specs.Stepping.{Stepping}
use Rattle.mt_seq.proofs.Makes.{Makes-nil, Makes-same}
use Rattle.mt_fault.specs.Items.{Store}
use Rattle.mt_plan.specs.Lists.{cells}
use Rattle.mt_seq.proofs.Attempts.{restored}
use Rattle.mt_seq.proofs.Moves.{kept_whole}
use Rattle.mt_seq.proofs.stepper.Stepper.back_out.Goals as goal

pub restore-requires-clause-all : goal.restore-requires-clause-all
restore-requires-clause-all g c =
    let job = c.self.inside.job in
    let course = c.self.inside.course in
    let keeps : job.policy ≡ NonDestructive = ap (λ (x : Stepping). x.job.policy) c.self.view_is ∙ c.requires.keeps in
    let n = ap (λ (x : Slice). x.n) c.slice-slice.ensures in
    let whole = kept_whole job course c.self.invariant keeps in
    let late : course.testing_from ≤ course.made = omega (arith, whole, n, c.made.ensures, c.from.ensures, c.if-made-from.true) in
    ap length c.saved.ensures ∙ c.self.invariant.whole late ∙ whole ∙ sym n

pub returns-else-made-from-clause-made : goal.returns-else-made-from-clause-made
returns-else-made-from-clause-made g c =
    let s = c.args.self in
    let few : s.made ≤ s.slice.n =
    omega (arith, ap (λ (x : Stepping). x.made) c.self.view_is, ap (λ (x : Stepping). x.slice.n) c.self.view_is, ap (λ (x : Slice). x.n) c.slice-slice.ensures, c.made.ensures, c.from.ensures, c.if-made-from.false) in
    let no' : nat_lt s.slice.n s.made ≡ false = le-ltb s.slice.n s.made few in
    Makes-same (sym (ap (λ (t : Bool). if t then ending s.job s.slice s.saved else []) no')) refl (Makes-nil (g.P.Port.state c.args.port.now) (g.P.Port.tape c.args.port.now) (g.met.P.Port.sound c.args.port.now))

pub returns-then-made-from-clause-made : goal.returns-then-made-from-clause-made
returns-then-made-from-clause-made g c =
    let s = c.args.self in
    let job = c.self.inside.job in
    let course = c.self.inside.course in
    let keeps : s.job.policy ≡ NonDestructive = c.requires.keeps in
    let many : s.slice.n < s.made =
    omega (arith, ap (λ (x : Stepping). x.made) c.self.view_is, ap (λ (x : Stepping). x.slice.n) c.self.view_is, ap (λ (x : Slice). x.n) c.slice-slice.ensures, c.made.ensures, c.from.ensures, c.if-made-from.true) in
    let yes' : nat_lt s.slice.n s.made ≡ true = lt-ltb s.slice.n s.made many in
    let slice : c.slice-slice.result ≡ s.slice = c.slice-slice.ensures ∙ ap (λ (x : Stepping). x.slice) c.self.view_is in
    let saved : c.saved.result.now ≡ s.saved = c.saved.ensures ∙ ap (λ (x : Stepping). x.saved) c.self.view_is in
    let items : map (λ (cell : ℕ). Store (c.slice-slice.result.first + cell) (slice_index c.saved.result.now cell)) (cells c.slice-slice.result.n) ≡ (if nat_lt s.slice.n s.made then ending s.job s.slice s.saved else []) =
    ap (λ (x : Slice). map (λ (cell : ℕ). Store (x.first + cell) (slice_index c.saved.result.now cell)) (cells x.n)) slice
    ∙ ap (λ (l : List ℕ). map (λ (cell : ℕ). Store (s.slice.first + cell) (slice_index l cell)) (cells s.slice.n)) saved
    ∙ restored s.job s.slice s.saved keeps
    ∙ sym (ap (λ (t : Bool). if t then ending s.job s.slice s.saved else []) yes') in
    Makes-same items refl c.restore.ensures
