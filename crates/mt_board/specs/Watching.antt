-- A watched board: the board inside, and the account of what was done on it.
use Rattle.mt_board.specs.declared.watched.Watched.{Watched}
use Rattle.mt_board.specs.Watched.{Account, account_of}

abbrev pub inner : {B : Type 0} → Watched B → B
inner w = w.board

abbrev pub listed : {B : Type 0} → Watched B → Account
listed w = account_of w.deeds
