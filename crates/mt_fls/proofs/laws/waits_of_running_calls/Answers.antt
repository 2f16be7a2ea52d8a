use Rattle.mt_window.specs.Waits.{DropsInTime}
use Rattle.mt_fls.specs.Event.{of_pass, of_block}
use Rattle.mt_fls.proofs.laws.waits_of_running_calls.Goals as goal

-- none of its attempts may be dropped
pass_drops : DropsInTime of_pass
pass_drops f p b n none ahead = absurd cc

block_drops : DropsInTime of_block
block_drops f p b n none ahead = absurd cc

pub returns-clause-tick : goal.returns-clause-tick
returns-clause-tick c =
    record {
      places = c.requests_are_served.ensures.places tt;
      short = c.waits_are_short.ensures.waits tt;
      urgent = c.waits_are_short.ensures.urgent pass_drops tt;
    }

pub returns-clause-foreground : goal.returns-clause-foreground
returns-clause-foreground c = λ block.
    record {
      places = c.requests_are_served-2.ensures.places block;
      short = c.waits_are_short-2.ensures.waits block;
      urgent = c.waits_are_short-2.ensures.urgent block_drops block;
    }
