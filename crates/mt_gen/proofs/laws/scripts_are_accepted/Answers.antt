use Rattle.std.proofs.Common.{lit≤}
use Rattle.std.proofs.lemmas.List.Elements.{All-weaker}
use Rattle.mt_word.specs.declared.Width.TheVariants.{W16}
use Rattle.mt_text.specs.Accepted.{IsAccepted}
use Rattle.mt_text.specs.Canonical.{canonical}
use Rattle.mt_gen.specs.Script.{job_shape}
use Rattle.mt_gen.proofs.ScriptLemmas.{script_all, of_number, accepted_forms, accepted_first, IsShort, IsReadBack, short_forms, short_first}
use Rattle.mt_gen.proofs.laws.scripts_are_accepted.Goals as goal

pub returns-clause-accepted : goal.returns-clause-accepted
returns-clause-accepted c = script_all (IsAccepted job_shape) accepted_first (of_number (IsAccepted job_shape) accepted_forms)

pub returns-clause-short : goal.returns-clause-short
returns-clause-short c = script_all IsShort short_first (of_number IsShort short_forms)

pub returns-clause-read : goal.returns-clause-read
returns-clause-read c = λ number.
    All-weaker (IsAccepted job_shape) IsReadBack
    (λ line accepted. (c.reading_is_spelling.ensures.ok job_shape (canonical W16 line) line).1
    (c.canonical_lines_spell_themselves.ensures job_shape line (record { some = lit≤ tt; ram = lit≤ tt; flash = lit≤ tt }) accepted))
    _ (script_all (IsAccepted job_shape) accepted_first (of_number (IsAccepted job_shape) accepted_forms) number)
