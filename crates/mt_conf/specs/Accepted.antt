-- Configurations that the modules take.
use Rattle.std.specs.Prelude.{◌≡◌, ◌≢◌, ◌⊎◌, All}
use Rattle.mt_word.specs.declared.Width.TheVariants.{W64}
use Rattle.mt_word.specs.Word.{Fits}
use Rattle.mt_port.specs.Board.{IsWithinLimits}
use Rattle.mt_blocks.specs.Accepted.{IsAcceptedRam, IsAcceptedFls}
use Rattle.mt_blocks.specs.declared.config.ParamSet.{ParamSet}
use Rattle.mt_conf.specs.declared.config.Config.{Config}

-- What version 1 can say: words of at most 32 bits, and two tries of a slice that are broken off in each set.
pub record IsOfFirstVersion (config : Config) : Type 0 where
  pub width : config.shape.width ≢ W64
  pub retries : All (λ (set : ParamSet). set.retries ≡ 2) config.ram_tst.sets

-- The version is 1 or 2, the sizes are within the limits, the first words fit, each module's configuration is accepted for
-- the shape, and version 1 can say it where that is the version.
pub record IsAcceptedConfig (config : Config) : Type 0 where
  pub version : (config.version ≡ 1) ⊎ (config.version ≡ 2)
  pub limits : IsWithinLimits config.shape
  pub initial : Fits config.shape.width config.initial
  pub ram_tst : IsAcceptedRam config.shape config.ram_tst
  pub fls_tst : IsAcceptedFls config.shape config.fls_tst
  pub first_version : config.version ≡ 1 → IsOfFirstVersion config
