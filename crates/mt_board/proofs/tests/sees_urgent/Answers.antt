use Rattle.mt_board.proofs.tests.sees_urgent.Goals as goal

pub begin_event-requires-clause-sound : goal.begin_event-requires-clause-sound
begin_event-requires-clause-sound g c = c.requests-asked.ensures _
