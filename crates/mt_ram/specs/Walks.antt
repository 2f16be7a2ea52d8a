-- What a running call decides just after boundary 0.
use Rattle.std.specs.Prelude.{ℕ, ◌≡◌, Option, Some, None}
use Rattle.mt_window.specs.declared.reply.Reply.{Reply}
use Rattle.mt_window.specs.declared.reply.Reply.TheVariants as reply
use Rattle.mt_window.specs.Rows.{reply_in, back_from}
use Rattle.mt_ram.specs.declared.state.State.{State}
use Rattle.mt_ram.specs.declared.running.Decision.{Decision}
use Rattle.mt_ram.specs.declared.running.Decision.TheVariants.{Refuse, Rest, Run}
use Rattle.mt_ram.specs.declared.running.Entered.{Entered}
use Rattle.mt_ram.specs.State.{RamTst}
use Rattle.mt_ram.specs.Table.{Service, row, in_state}

-- the reply after so many test accesses
abbrev pub decided : Decision → ℕ → Reply
decided (Refuse why) made = reply.Refused why
decided Rest made = reply.Ran 0
decided Run made = reply.Ran made

-- the module that goes back to a state, or stays as it is
abbrev pub gone_back : Option State → RamTst → RamTst
gone_back None r = r
gone_back (Some state) r = in_state state r

-- that is what the row of a service says of a module
pub record IsBy (service : Service) (e : Entered) (r : RamTst) : Type 0 where
  pub reply : (made : ℕ) → decided e.decision made ≡ reply_in (row r service) made
  pub back : (c : RamTst) → gone_back e.back c ≡ back_from (row r service) c
