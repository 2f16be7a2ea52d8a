-- The one text of a configuration.
use Rattle.std.specs.Prelude.{ℕ, ◌==◌, codes, List, [], ◌++◌, flat_map, if◌then◌else◌}
use Rattle.std.specs.Fmt.{decimal}
use Rattle.mt_word.specs.declared.Width.{Width}
use Rattle.mt_word.specs.Word.{width_bits}
use Rattle.mt_hex.specs.Digits.{word_text}
use Rattle.mt_march.specs.Canonical as march
use Rattle.mt_plan.specs.declared.algorithm.Algorithm.{Algorithm}
use Rattle.mt_plan.specs.declared.algorithm.Algorithm.TheVariants.{Checkerboard, March as Marches, WalkPath, Galpat, TransparentGalpat}
use Rattle.mt_plan.specs.declared.algorithm.Policy.{Policy}
use Rattle.mt_plan.specs.declared.algorithm.Policy.TheVariants.{NonDestructive, Destructive}
use Rattle.mt_blocks.specs.declared.config.Block.{Block}
use Rattle.mt_blocks.specs.declared.config.FlashBlock.{FlashBlock}
use Rattle.mt_blocks.specs.declared.config.ParamSet.{ParamSet}
use Rattle.mt_blocks.specs.declared.config.FlsConfig.{FlsConfig}
use Rattle.mt_conf.specs.declared.config.Config.{Config}

-- a key and its value, on a line
abbrev pub entry : List ℕ → List ℕ → List ℕ
entry key value = key ++ codes " = " ++ value ++ codes "\n"

abbrev pub number_entry : List ℕ → ℕ → List ℕ
number_entry key n = entry key (decimal n)

abbrev pub text_entry : List ℕ → List ℕ → List ℕ
text_entry key text = entry key (codes "\"" ++ text ++ codes "\"")

-- a table begins: an empty line, and its header
abbrev pub header : List ℕ → List ℕ
header name = codes "\n" ++ name ++ codes "\n"

-- ---- sets

abbrev pub policy_name : Policy → List ℕ
policy_name NonDestructive = codes "non-destructive"
policy_name Destructive = codes "destructive"

abbrev pub algorithm_name : Algorithm → List ℕ
algorithm_name Checkerboard = codes "checkerboard"
algorithm_name (Marches m) = codes "march"
algorithm_name WalkPath = codes "walk-path"
algorithm_name Galpat = codes "galpat"
algorithm_name TransparentGalpat = codes "transparent-galpat"

-- the algorithm; a march is written for the algorithm `march` alone
abbrev pub algorithm_entries : Algorithm → List ℕ
algorithm_entries Checkerboard = text_entry (codes "algorithm") (codes "checkerboard")
algorithm_entries (Marches m) = text_entry (codes "algorithm") (codes "march") ++ text_entry (codes "march") (march.canonical m.elements.items)
algorithm_entries WalkPath = text_entry (codes "algorithm") (codes "walk-path")
algorithm_entries Galpat = text_entry (codes "algorithm") (codes "galpat")
algorithm_entries TransparentGalpat = text_entry (codes "algorithm") (codes "transparent-galpat")

-- a block
unfoldable pub block_text : Width → Block → List ℕ
block_text width b =
    header (codes "[[set.block]]")
    ++ number_entry (codes "first") b.span.first
    ++ number_entry (codes "last") b.span.last
    ++ text_entry (codes "policy") (policy_name b.policy)
    ++ text_entry (codes "fill") (word_text width b.fill)

abbrev pub blocks_text : Width → List Block → List ℕ
blocks_text width blocks = flat_map (block_text width) blocks

-- how often a test of a slice may be broken off, which version 2 alone says
abbrev pub retries_entry : ℕ → ℕ → List ℕ
retries_entry version retries = if version == 2 then number_entry (codes "retries") retries else []

-- a set, and then its blocks
unfoldable pub set_text : ℕ → Width → ParamSet → List ℕ
set_text version width set =
    header (codes "[[set]]")
    ++ algorithm_entries set.alg
    ++ text_entry (codes "background") (word_text width set.background)
    ++ number_entry (codes "atomic") set.atomic
    ++ number_entry (codes "cells") set.cells
    ++ retries_entry version set.retries
    ++ blocks_text width set.blocks

abbrev pub sets_text : ℕ → Width → List ParamSet → List ℕ
sets_text version width sets = flat_map (set_text version width) sets

-- ---- FlsTst

-- a flash block of the array with this name
unfoldable pub flash_block_text : List ℕ → FlashBlock → List ℕ
flash_block_text name b =
    header name
    ++ number_entry (codes "first") b.span.first
    ++ number_entry (codes "last") b.span.last
    ++ number_entry (codes "copy") b.copy

abbrev pub flash_blocks_text : List ℕ → List FlashBlock → List ℕ
flash_blocks_text name blocks = flat_map (flash_block_text name) blocks

-- the table of FlsTst, which is always written, and then its blocks
unfoldable pub fls_text : FlsConfig → List ℕ
fls_text fls =
    header (codes "[fls]")
    ++ number_entry (codes "atomic") fls.atomic
    ++ number_entry (codes "cells") fls.cells
    ++ number_entry (codes "interval_end") fls.interval_end
    ++ flash_blocks_text (codes "[[fls.bgnd]]") fls.bgnd
    ++ flash_blocks_text (codes "[[fls.fgnd]]") fls.fgnd

-- ---- the configuration

-- the top table
unfoldable pub top_text : Config → List ℕ
top_text config =
    number_entry (codes "version") config.version
    ++ number_entry (codes "width") (width_bits config.shape.width)
    ++ number_entry (codes "ram") config.shape.ram
    ++ number_entry (codes "flash") config.shape.flash
    ++ text_entry (codes "initial") (word_text config.shape.width config.initial)

-- the canonical text: each key that the version has is written, also where it has its default
unfoldable pub config_text : Config → List ℕ
config_text config = top_text config ++ sets_text config.version config.shape.width config.ram_tst.sets ++ fls_text config.fls_tst
