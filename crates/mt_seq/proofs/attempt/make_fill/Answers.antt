use Rattle.std.proofs.Common.{ℕ, ◌≡◌, ◌+◌, ◌≤◌, List, [], length, map, refl, arith, ap, sym, ◌∙◌}
use Rattle.std.proofs.lemmas.List.{length-map}
use Rattle.mt_fault.specs.Items.{Item, Store}
use Rattle.mt_plan.specs.declared.algorithm.Policy.{Policy}
use Rattle.mt_plan.specs.declared.algorithm.Policy.TheVariants.{Destructive}
use Rattle.mt_plan.specs.Lists.{cells}
use Rattle.mt_plan.specs.Plan.{frame_of}
use Rattle.mt_port.specs.Board.{Board}
use Rattle.mt_seq.specs.declared.sequence.Job.{Job}
use Rattle.mt_seq.specs.Sequence.{ending, last_of, sequence_hold}
use Rattle.mt_seq.specs.Stepping.{job_of}
use Rattle.mt_seq.specs.Tape.{touch_of}
use Rattle.mt_seq.proofs.Apart.{Makes-filled, spares_all}
use Rattle.mt_seq.proofs.Attempts.{hold_count, hold_is_long}
use Rattle.mt_seq.proofs.Lengths.{length-cells}
use Rattle.mt_seq.proofs.Makes.{Makes-same}
use Rattle.mt_seq.proofs.NamedCells.{over_later}
use Rattle.mt_seq.proofs.attempt.make_fill.Goals as goal

-- the writes of the fill are some of a sequence's accesses
fill_few : (job : Job) (n : ℕ) → job.policy ≡ Destructive → n ≤ sequence_hold job n
fill_few job n fills = omega (arith, hold_is_long job n, ap (λ (p : Policy). frame_of p n) fills)

fill_long : (first word n : ℕ) → length (map (λ (cell : ℕ). Store (first + cell) word) (cells n)) ≡ n
fill_long first word n = length-map (cells n) (λ (cell : ℕ). Store (first + cell) word) ∙ length-cells n

pub overflow_add-end : goal.overflow_add-end
overflow_add-end g c = omega (arith, c.hold_of.ensures.hold ∙ hold_count c.args.alg.now c.args.frame c.args.slice.n c.from.result c.from.ensures, c.made.ensures, c.requires.room)

pub fill-requires-clause-room : goal.fill-requires-clause-room
fill-requires-clause-room g c = omega (arith, fill_few (job_of c.args.alg.now c.args.frame) c.args.slice.n c.requires.fills, c.requires.room)

pub count_up_to-requires-clause-ahead : goal.count_up_to-requires-clause-ahead
count_up_to-requires-clause-ahead g c =
    omega (arith, c.hold_of.ensures.hold ∙ hold_count c.args.alg.now c.args.frame c.args.slice.n c.from.result c.from.ensures, c.made.ensures, fill_few (job_of c.args.alg.now c.args.frame) c.args.slice.n c.requires.fills, fill_long c.args.slice.first c.args.frame.fill c.args.slice.n, c.fill.ensures.count)

pub count_up_to-requires-clause-over : goal.count_up_to-requires-clause-over
count_up_to-requires-clause-over g c =
    let items : List Item = map (λ (cell : ℕ). Store (c.args.slice.first + cell) c.args.frame.fill) (cells c.args.slice.n) in
    over_later g.P.Port.keeps (g.P.Port.tape c.args.port.now) (g.P.Port.tape c.fill.new.port) (map touch_of items) (sequence_hold (job_of c.args.alg.now c.args.frame) c.args.slice.n) _ c.requires.over c.fill.ensures.tape
    (omega (arith, c.hold_of.ensures.hold ∙ hold_count c.args.alg.now c.args.frame c.args.slice.n c.from.result c.from.ensures, c.made.ensures, length-map items touch_of, fill_few (job_of c.args.alg.now c.args.frame) c.args.slice.n c.requires.fills, fill_long c.args.slice.first c.args.frame.fill c.args.slice.n, c.fill.ensures.count))

pub returns : goal.returns
returns g c =
    let b : Board = g.P.Port.state c.args.port.now in
    let job : Job = job_of c.args.alg.now c.args.frame in
    let end : c.made.result + c.hold_of.result ≡ b.count + sequence_hold job c.args.slice.n = omega (arith, c.hold_of.ensures.hold ∙ hold_count c.args.alg.now c.args.frame c.args.slice.n c.from.result c.from.ensures, c.made.ensures) in
    let ends : map (λ (cell : ℕ). Store (c.args.slice.first + cell) c.args.frame.fill) (cells c.args.slice.n) ≡ ending job c.args.slice [] =
    sym (ap (λ (p : Policy). map (λ (cell : ℕ). Store (c.args.slice.first + cell) (last_of p c.args.frame.fill [] cell)) (cells c.args.slice.n)) c.requires.fills) in
    Makes-filled job c.args.slice b (g.P.Port.state c.fill.new.port) (g.P.Port.state c.count_up_to.new.self) (g.P.Port.tape c.args.port.now) (g.P.Port.tape c.fill.new.port) (g.P.Port.tape c.count_up_to.new.self)
    (g.met.P.Port.sound c.args.port.now) c.requires.job.accepted c.requires.fills c.requires.slice (spares_all b.fault c.args.slice c.requires.spared) (Makes-same ends refl c.fill.ensures)
    (c.count_up_to.ensures.state ∙ ap (λ (n : ℕ). record (g.P.Port.state c.fill.new.port) { count = n }) end) c.count_up_to.ensures.tape
