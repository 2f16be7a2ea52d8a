-- The test that C's numbers stand for.
use Rattle.std.specs.Prelude.{ℕ, ◌≡◌, ◌≤◌, ◌==◌, ◌||◌, Bool, true, false, if◌then◌else◌, List, take, None}
use Rattle.mt_word.specs.declared.Width.{Width}
use Rattle.mt_word.specs.declared.Width.TheVariants.{W8, W16, W32, W64}
use Rattle.mt_plan.specs.declared.algorithm.Policy.{Policy}
use Rattle.mt_plan.specs.declared.algorithm.Policy.TheVariants.{NonDestructive, Destructive}
use Rattle.mt_engine.specs.declared.settings.Settings.{Settings}
use Rattle.mt_engine.specs.declared.test.Moment.{Moment}
use Rattle.mt_engine.specs.Setup.{plan_of, refusal_of}
use Rattle.mt_engine.specs.Testing.{Testing, IsTest, testing}
use Rattle.mt_c.specs.declared.state.MtSettings.{MtSettings}
use Rattle.mt_c.specs.declared.state.MtTest.{MtTest}

-- the numbers of widths: how many bits a word has
abbrev pub is_width : ℕ → Bool
is_width number = (number == 8) || ((number == 16) || ((number == 32) || (number == 64)))

abbrev pub width_of : ℕ → Width
width_of number = if number == 8 then W8 else (if number == 16 then W16 else (if number == 32 then W32 else W64))

-- the numbers of policies: the words are kept, or filled
abbrev pub is_policy : ℕ → Bool
is_policy number = (number == 0) || (number == 1)

abbrev pub policy_of : ℕ → Policy
policy_of number = if number == 0 then NonDestructive else Destructive

-- the settings that numbers stand for
abbrev pub settings_of : MtSettings → Settings
settings_of s = record {
  width = width_of s.width;
  policy = policy_of s.policy;
  background = s.background;
  fill = s.fill;
  first = s.first;
  count = s.count;
}

-- a Boolean value as a number
abbrev pub bit : Bool → ℕ
bit true = 1
bit false = 0

-- the text of the algorithm
abbrev pub text_of : MtTest → List ℕ
text_of s = take s.length s.text

-- where the test stands
abbrev pub moment_of : MtTest → Moment
moment_of s = record { made = s.made; differs = s.differs == 1; broken = s.broken == 1 }

-- the test
abbrev pub testing_of : MtTest → Testing
testing_of s = testing (plan_of (settings_of s.settings) (text_of s)) (moment_of s) s.saved

-- The settings and the text are those of a test that was set up.
pub record IsPlanned (s : MtTest) : Type 0 where
  pub width : is_width s.settings.width ≡ true
  pub policy : is_policy s.settings.policy ≡ true
  pub length : s.length ≤ 448
  pub unrefused : refusal_of (settings_of s.settings) (text_of s) ≡ None

-- The numbers are those of a test. Others are refused as spoilt.
pub record IsState (s : MtTest) : Type 0 where
  pub planned : IsPlanned s
  pub differs : s.differs ≤ 1
  pub broken : s.broken ≤ 1
  pub test : IsTest (testing_of s)
