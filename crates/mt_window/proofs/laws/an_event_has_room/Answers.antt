use Rattle.mt_window.proofs.Waits.{event-room}
use Rattle.mt_window.proofs.laws.an_event_has_room.Goals as goal

pub returns : goal.returns
returns c = event-room
