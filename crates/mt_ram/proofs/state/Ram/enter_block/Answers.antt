use Rattle.std.proofs.Common.{subst}
use Rattle.mt_ram.specs.State.{set_of}
use Rattle.mt_ram.specs.TestWalks.{IsWay, IsFailureOfWay}
use Rattle.mt_ram.proofs.state.Ram.enter_block.Goals as goal

pub enter_way-requires-clause-place : goal.enter_way-requires-clause-place
enter_way-requires-clause-place c =
    let set = set_of c.args.self.now in
    subst (IsWay set) c.in-Ok.is (c.way_of_block.ensures.place set c.state.ensures.place)

pub enter_way-requires-clause-failure : goal.enter_way-requires-clause-failure
enter_way-requires-clause-failure c =
    subst (λ (x : _). IsFailureOfWay x c.args.self.now.failed) c.in-Ok.is (c.way_of_block.ensures.failure c.args.self.now.failed c.state.ensures.failure)
