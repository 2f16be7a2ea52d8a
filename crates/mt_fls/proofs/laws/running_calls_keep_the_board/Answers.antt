use Rattle.mt_fls.proofs.laws.running_calls_keep_the_board.Goals as goal

pub returns-clause-tick : goal.returns-clause-tick
returns-clause-tick c = c.requests_are_served.ensures.board tt

pub returns-clause-foreground : goal.returns-clause-foreground
returns-clause-foreground c = λ block. c.requests_are_served-2.ensures.board block
