use Rattle.mt_verify.proofs.Ends.{given_ended, ended_in_line, ended_before_feed, ended_between}
use Rattle.mt_verify.proofs.laws.given_ends.Goals as goal

pub returns-clause-answer : goal.returns-clause-answer
returns-clause-answer c = given_ended

pub returns-clause-line : goal.returns-clause-line
returns-clause-line c = ended_in_line

pub returns-clause-feed : goal.returns-clause-feed
returns-clause-feed c = ended_before_feed

pub returns-clause-between : goal.returns-clause-between
returns-clause-between c = ended_between
