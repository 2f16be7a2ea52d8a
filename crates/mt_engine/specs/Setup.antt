-- What a test is set up from: its settings, and the text of its algorithm, which is a name or a march.
use Rattle.std.specs.Prelude.{ℕ, ◌+◌, ◌-◌, ◌^◌, Bool, true, false, not, ◌&&◌, nat_le, nat_lt, if◌then◌else◌, List, length, codes, Option, Some, None, option_map}
use Rattle.std.specs.Str.{bytes_eq}
use Rattle.mt_word.specs.declared.Width.{Width}
use Rattle.mt_word.specs.Word.{width_bits}
use Rattle.mt_march.specs.declared.march.Element.{Element}
use Rattle.mt_march.specs.declared.march.March.{March}
use Rattle.mt_march.specs.Known.{march_c_minus, mats_plus}
use Rattle.mt_march.specs.Reading.{march_refusal}
use Rattle.mt_march.specs.Value.{march_of}
use Rattle.mt_plan.specs.declared.algorithm.Algorithm.{Algorithm}
use Rattle.mt_plan.specs.declared.algorithm.Algorithm.TheVariants.{Checkerboard, March as Marches, WalkPath, Galpat, TransparentGalpat}
use Rattle.mt_seq.specs.Attempts.{keeps_words}
use Rattle.mt_seq.specs.Sequence.{IsSoundJob, IsSoundSlice}
use Rattle.mt_engine.specs.declared.plan.Plan.{Plan}
use Rattle.mt_engine.specs.declared.settings.Settings.{Settings}
use Rattle.mt_engine.specs.declared.settings.Refusal.{Refusal}
use Rattle.mt_engine.specs.declared.settings.Refusal.TheVariants as refusals

-- ---- the algorithm of a text

abbrev pub march_with : List Element → March
march_with elements = record { elements = record { items = elements } }

-- the algorithm of a name
unfoldable pub named : List ℕ → Option Algorithm
named text =
    if bytes_eq text (codes "checkerboard") then Some Checkerboard
    else (if bytes_eq text (codes "walk-path") then Some WalkPath
    else (if bytes_eq text (codes "galpat") then Some Galpat
    else (if bytes_eq text (codes "transparent-galpat") then Some TransparentGalpat
    else (if bytes_eq text (codes "march-c-minus") then Some (Marches (march_with march_c_minus))
    else (if bytes_eq text (codes "mats-plus") then Some (Marches (march_with mats_plus))
    else None)))))

abbrev pub named_or_march : Option Algorithm → List ℕ → Algorithm
named_or_march (Some algorithm) text = algorithm
named_or_march None text = Marches (march_with (march_of text))

-- the algorithm of a text: that of its name, else the march that it spells
abbrev pub algorithm_of : List ℕ → Algorithm
algorithm_of text = named_or_march (named text) text

abbrev pub march_refused : Option Algorithm → List ℕ → Option Refusal
march_refused (Some algorithm) text = None
march_refused None text = option_map refusals.March (march_refusal text)

-- why a text has no algorithm: it is no name, and is refused as a march
abbrev pub text_refusal : List ℕ → Option Refusal
text_refusal text = march_refused (named text) text

-- ---- what is refused

-- a rule that is broken, else what the later rules say
abbrev pub broken : Bool → Refusal → Option Refusal → Option Refusal
broken true refusal later = Some refusal
broken false refusal later = later

abbrev pub is_word : Width → ℕ → Bool
is_word width word = nat_lt word (2 ^ width_bits width)

-- why settings are refused: the first of these rules that they break
unfoldable pub settings_refusal : Settings → Option Refusal
settings_refusal s =
    broken (not (nat_le 1 s.count && nat_le s.count 64)) refusals.Count
    (broken (nat_le (2 ^ 32) (s.first + s.count)) refusals.Addresses
    (broken (not (is_word s.width s.background)) refusals.Background
    (broken (not (is_word s.width s.fill)) refusals.Fill None)))

abbrev pub or_later : Option Refusal → Option Refusal → Option Refusal
or_later (Some refusal) later = Some refusal
or_later None later = later

abbrev pub is_transparent_name : List ℕ → Bool
is_transparent_name text = bytes_eq text (codes "transparent-galpat")

-- why no test is made: the settings are refused, the text is too long, transparent Galpat is to fill, or the text is refused
unfoldable pub refusal_of : Settings → List ℕ → Option Refusal
refusal_of s text =
    or_later (settings_refusal s)
    (broken (nat_lt 448 (length text)) refusals.Length
    (broken (is_transparent_name text && not (keeps_words s.policy)) refusals.TransparentFill
    (text_refusal text)))

-- ---- the plan

-- the plan of settings and a text that are not refused
abbrev pub plan_of : Settings → List ℕ → Plan
plan_of s text = record {
  width = s.width;
  job = record { alg = algorithm_of text; policy = s.policy; background = s.background; fill = s.fill };
  slice = record { first = s.first; n = s.count };
}

-- What holds of each plan: an accepted march, words that fit, a transparent test that keeps the words, and 1 to 64 words
-- below the last address.
pub record IsPlan (plan : Plan) : Type 0 where
  pub job : IsSoundJob plan.width plan.job
  pub slice : IsSoundSlice (2 ^ 32 - 1) plan.slice
