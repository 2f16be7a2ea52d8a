use Rattle.mt_ram.specs.declared.test_walk.Test.TheVariants as tests
use Rattle.mt_ram.proofs.Drops.{pass_drops_in_time, test_drops_in_time}
use Rattle.mt_ram.proofs.laws.waits_of_running_calls.Goals as goal

pub returns-clause-tick : goal.returns-clause-tick
returns-clause-tick c =
    record {
      places = c.requests_are_served.ensures.places tt;
      short = c.waits_are_short.ensures.waits tt;
      urgent = c.waits_are_short.ensures.urgent (pass_drops_in_time c.urgent_requests_wait_shortly.ensures.short) tt;
    }

pub returns-clause-full : goal.returns-clause-full
returns-clause-full c =
    record {
      places = c.requests_are_served-2.ensures.places tests.Full;
      short = c.waits_are_short-2.ensures.waits tests.Full;
      urgent = c.waits_are_short-2.ensures.urgent (test_drops_in_time c.urgent_requests_wait_shortly.ensures.short) tests.Full;
    }

pub returns-clause-partial : goal.returns-clause-partial
returns-clause-partial c = λ block.
    record {
      places = c.requests_are_served-2.ensures.places (tests.Block block);
      short = c.waits_are_short-2.ensures.waits (tests.Block block);
      urgent = c.waits_are_short-2.ensures.urgent (test_drops_in_time c.urgent_requests_wait_shortly.ensures.short) (tests.Block block);
    }
