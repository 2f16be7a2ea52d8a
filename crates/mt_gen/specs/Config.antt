-- The configuration of the generated job.
use Rattle.std.specs.Prelude.{[], ◌∷◌}
use Rattle.mt_march.specs.Known.{march_c_minus}
use Rattle.mt_plan.specs.declared.algorithm.Algorithm.TheVariants.{March as Marches}
use Rattle.mt_plan.specs.declared.algorithm.Policy.TheVariants.{NonDestructive, Destructive}
use Rattle.mt_blocks.specs.declared.config.Block.{Block}
use Rattle.mt_blocks.specs.declared.config.FlashBlock.{FlashBlock}
use Rattle.mt_blocks.specs.declared.config.ParamSet.{ParamSet}
use Rattle.mt_blocks.specs.declared.config.FlsConfig.{FlsConfig}
use Rattle.mt_conf.specs.declared.config.Config.{Config}
use Rattle.mt_gen.specs.Script.{job_shape}

-- 100 words that a test leaves as they were
abbrev pub kept_block : Block
kept_block = record { span = record { first = 0; last = 99 }; policy = NonDestructive; fill = 0 }

-- 100 words that a test leaves with a5a5
abbrev pub filled_block : Block
filled_block = record { span = record { first = 100; last = 199 }; policy = Destructive; fill = 42405 }

-- March C- over both, in slices of 8 words and ticks of 32
abbrev pub march_set : ParamSet
march_set = record {
  alg = Marches (record { elements = record { items = march_c_minus } });
  background = 0;
  atomic = 8;
  cells = 32;
  blocks = kept_block ∷ filled_block ∷ [];
  retries = 2;
}

-- 32 flash words, and their copy behind them
abbrev pub flash_block : FlashBlock
flash_block = record { span = record { first = 0; last = 31 }; copy = 32 }

-- the block is compared by ticks, in slices of 4 words and ticks of 8; of intervals there are the numbers 0 to 3
abbrev pub fls_config : FlsConfig
fls_config = record { atomic = 4; cells = 8; interval_end = 3; bgnd = flash_block ∷ []; fgnd = [] }

abbrev pub job_config : Config
job_config = record { version = 1; shape = job_shape; initial = 0; ram_tst = record { sets = march_set ∷ [] }; fls_tst = fls_config }
