use Rattle.mt_laws.proofs.SoundBoards.{settings_left}
use Rattle.mt_laws.proofs.Evidences.{ok_is_evidence}
use Rattle.mt_laws.proofs.laws.ok_is_evidence.Goals as goal

pub returns : goal.returns
returns c =
    let settings = c.running_calls_leave_setting.ensures in
    ok_is_evidence
    (record {
      board = record {
        pass = record {
          memory = record { stays = c.memory_stays_sound.ensures.sound; size = c.memory_stays_sound.ensures.size; fits = c.memory_stays_sound.ensures.fits };
          attempts = record { detect = c.attempts_detect.ensures.detects; stay = c.attempts_stay_sound.ensures; sound = c.accepted_sets_are_sound.ensures.slices };
          end = c.attempts_detect.ensures.ends;
          cut = c.accepted_sets_are_sound.ensures.cut;
          go = c.passes_go_on.ensures;
          group = c.groups_take_a_tick.ensures;
        };
        fresh = c.sound_memory_comes_and_goes.ensures.fresh;
        injected = c.sound_memory_comes_and_goes.ensures.injected;
        healed = c.sound_memory_comes_and_goes.ensures.healed;
        placed = c.placement_is_tested.ensures.placed;
        settings = settings_left settings.tick settings.full settings.partial;
      };
      begin = c.passes_begin.ensures.block;
      first = c.passes_begin.ensures.pass;
    })
    c.results_are_reset.ensures.reset
