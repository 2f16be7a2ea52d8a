use Rattle.mt_verify.proofs.Ends.{equal_texts, last_feed_lacks}
use Rattle.mt_verify.proofs.laws.equal_texts.Goals as goal

pub returns-clause-equal : goal.returns-clause-equal
returns-clause-equal c = equal_texts

pub returns-clause-feed : goal.returns-clause-feed
returns-clause-feed c = last_feed_lacks
