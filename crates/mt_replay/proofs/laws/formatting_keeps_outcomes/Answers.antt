use Rattle.mt_replay.proofs.Fixed.{formatting_keeps_outcomes}
use Rattle.mt_replay.proofs.laws.formatting_keeps_outcomes.Goals as goal

pub returns : goal.returns
returns c =
    formatting_keeps_outcomes
    (record {
      config = c.accepted_is_taken.ensures;
      reading = record { spelled = c.reading_is_spelling.ensures.ok; accepted = c.spelled_lines_are_accepted.ensures };
      canonical = c.canonical_lines_spell_themselves.ensures;
    })
