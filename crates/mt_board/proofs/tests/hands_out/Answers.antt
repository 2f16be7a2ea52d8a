use Rattle.mt_board.proofs.tests.hands_out.Goals as goal

pub begin_event-requires-clause-sound : goal.begin_event-requires-clause-sound
begin_event-requires-clause-sound g c = c.requests-asked.ensures _
