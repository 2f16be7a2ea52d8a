use Rattle.std.proofs.Common.{◌≡◌, arith, ap}
use Rattle.mt_seq.specs.declared.sequence.Slice.{Slice}
use Rattle.mt_seq.proofs.stepper.tests.run_and_give_up.Goals as goal

pub back_out-requires-clause-room : goal.back_out-requires-clause-room
back_out-requires-clause-room g c =
    let runs = c.run-progress.ensures.runs in
    omega (arith, runs.count, c.run-progress.ensures.made, ap (λ (x : Slice). x.n) runs.slice, c.requires.ready.room, c.requires.begun)
