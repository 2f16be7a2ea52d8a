use Rattle.mt_replay.proofs.OwnTraces.{own_traces}
use Rattle.mt_replay.proofs.laws.own_traces_are_the_same.Goals as goal

pub returns : goal.returns
returns c = own_traces c.equal_texts.ensures.equal
