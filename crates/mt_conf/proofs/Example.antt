-- The canonical text of one configuration, letter by letter.
use Rattle.std.proofs.Common.{◌≡◌, ◌++◌, [], ◌∷◌, refl, codes}
use Rattle.std.specs.Fmt.{digits}
use Rattle.mt_word.specs.declared.Width.TheVariants.{W8}
use Rattle.mt_march.specs.Known.{march_c_minus}
use Rattle.mt_plan.specs.declared.algorithm.Algorithm.TheVariants.{March as Marches}
use Rattle.mt_plan.specs.declared.algorithm.Policy.TheVariants.{NonDestructive}
use Rattle.mt_hex.specs.Digits.{hex_text}
use Rattle.mt_conf.specs.declared.config.Config.{Config}
use Rattle.mt_conf.specs.Canonical.{block_text, set_text, flash_block_text, fls_text, top_text, config_text}

-- March C- runs over ten words, and no flash is tested
abbrev pub example : Config
example = record {
  version = 1;
  shape = record { width = W8; ram = 10; flash = 0 };
  initial = 0;
  ram_tst = record {
    sets = record {
      alg = Marches (record { elements = record { items = march_c_minus } });
      background = 0;
      atomic = 4;
      cells = 8;
      retries = 2;
      blocks = record { span = record { first = 0; last = 9 }; policy = NonDestructive; fill = 0 } ∷ [];
    } ∷ [];
  };
  fls_tst = record { atomic = 1; cells = 1; interval_end = 0; bgnd = []; fgnd = [] };
}

pub example_text :
    config_text example
    ≡ codes "version = 1\nwidth = 8\nram = 10\nflash = 0\ninitial = \"00\"\n"
    ++ codes "\n[[set]]\nalgorithm = \"march\"\nmarch = \"{*(w0); u(r0,w1); u(r1,w0); d(r0,w1); d(r1,w0); *(r0)}\"\nbackground = \"00\"\natomic = 4\ncells = 8\n"
    ++ codes "\n[[set.block]]\nfirst = 0\nlast = 9\npolicy = \"non-destructive\"\nfill = \"00\"\n"
    ++ codes "\n[fls]\natomic = 1\ncells = 1\ninterval_end = 0\n"
unfolding config_text top_text set_text block_text fls_text flash_block_text hex_text digits
example_text = refl
