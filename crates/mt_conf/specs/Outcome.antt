-- What a text is read as.
use Rattle.std.specs.Prelude.{ℕ, ◌+◌, ◌^◌, nat_lt, ℤ, pos, negsuc, ◌++◌, List, [], ◌∷◌, map, codes, Bool, if◌then◌else◌, Option, Some, None, option_map, unwrap_or, Result, Ok, Err}
use Rattle.std.specs.Str.{is_utf8}
use Rattle.toml.specs.Data.{Data, Members, get_member}
use Rattle.toml.specs.Parse.{parse_document}
use Rattle.mt_word.specs.declared.Width.{Width}
use Rattle.mt_hex.specs.Hex.{word_of}
use Rattle.mt_march.specs.declared.march.Element.{Element}
use Rattle.mt_march.specs.declared.march.March.{March}
use Rattle.mt_march.specs.declared.march.MarchRefusal.{MarchRefusal}
use Rattle.mt_march.specs.Known.{march_c_minus}
use Rattle.mt_march.specs.Reading.{march_refusal}
use Rattle.mt_march.specs.Value.{march_of}
use Rattle.mt_plan.specs.declared.algorithm.Algorithm.{Algorithm}
use Rattle.mt_plan.specs.declared.algorithm.Algorithm.TheVariants.{Checkerboard, March as Marches, WalkPath, Galpat, TransparentGalpat}
use Rattle.mt_plan.specs.declared.algorithm.Policy.TheVariants.{NonDestructive, Destructive}
use Rattle.mt_port.specs.declared.board.Shape.{Shape}
use Rattle.mt_blocks.specs.declared.config.Block.{Block}
use Rattle.mt_blocks.specs.declared.config.FlashBlock.{FlashBlock}
use Rattle.mt_blocks.specs.declared.config.ParamSet.{ParamSet}
use Rattle.mt_blocks.specs.declared.config.FlsConfig.{FlsConfig}
use Rattle.mt_conf.specs.Lookup.{has_key, number_at, text_at, array_at, fields}
use Rattle.mt_conf.specs.declared.shape.KeyRule.TheVariants.{UnknownKey as Unknown, MissingKey as Missing, WrongType as WrongKind}
use Rattle.mt_conf.specs.declared.schema.Part.{Part}
use Rattle.mt_conf.specs.declared.schema.Part.TheVariants.{Top, Set}
use Rattle.mt_conf.specs.Schema.{default_number, otherwise_of}
use Rattle.mt_conf.specs.Rules.{breaks_somewhere, wrong_version, wrong_width, wrong_size, wrong_word, wrong_count, wrong_algorithm, transparent_destructive, wrong_block_range, overlap, wrong_cells_range, wrong_flash_range, copy_overlap, is_version, width_at, is_named}
use Rattle.mt_conf.specs.declared.config.Config.{Config}
use Rattle.mt_conf.specs.declared.config.ConfigRefusal.{ConfigRefusal}
use Rattle.mt_conf.specs.declared.config.ConfigRefusal.TheVariants.{NotToml, UnknownKey, MissingKey, WrongType, Version, Width as BadWidth, Size, Word, Count, Algorithm as BadAlgorithm, March as BadMarch, TransparentDestructive, BlockRange, Overlap, CellsRange, FlashRange, CopyOverlap, NoMemory}

-- the table that the bytes are
unfoldable pub document : List ℕ → Option Members
document bytes = if is_utf8 bytes then parse_document bytes else None

-- a refused march of the set with the number i
abbrev pub march_of_set : ℕ → MarchRefusal → ConfigRefusal
march_of_set i r = BadMarch i r.kind r.place

unfoldable pub refused_in_set : ℕ → Members → Option ConfigRefusal
refused_in_set i s = if has_key (codes "march") s then option_map (march_of_set i) (march_refusal (text_at (codes "march") s)) else None

-- the first of two refusals
abbrev pub first_some : Option ConfigRefusal → Option ConfigRefusal → Option ConfigRefusal
first_some None later = later
first_some (Some refusal) later = Some refusal

-- March: the first set in order, of those from the number i on, whose march is refused
abbrev pub refused_from : ℕ → List Data → Option ConfigRefusal
refused_from i [] = None
refused_from i (d ∷ ds) = first_some (refused_in_set i (fields d)) (refused_from (i + 1) ds)

unfoldable pub refused_march : Members → Option ConfigRefusal
refused_march t = refused_from 0 (array_at (codes "set") t)

-- a refusal, where its rule is broken
abbrev pub broken : Bool → ConfigRefusal → Option ConfigRefusal
broken b refusal = if b then Some refusal else None

-- the rules of a table, in the order of their numbers, each with the refusal where it is broken
abbrev pub rules_before_march : Members → List (Option ConfigRefusal)
rules_before_march t =
    broken (breaks_somewhere Unknown t) UnknownKey ∷ broken (breaks_somewhere Missing t) MissingKey ∷ broken (breaks_somewhere WrongKind t) WrongType ∷ broken (wrong_version t) Version ∷ broken (wrong_width t) BadWidth
    ∷ broken (wrong_size t) Size ∷ broken (wrong_word t) Word ∷ broken (wrong_count t) Count ∷ broken (wrong_algorithm t) BadAlgorithm ∷ []

abbrev pub rules_after_march : Members → List (Option ConfigRefusal)
rules_after_march t =
    broken (transparent_destructive t) TransparentDestructive ∷ broken (wrong_block_range t) BlockRange ∷ broken (overlap t) Overlap ∷ broken (wrong_cells_range t) CellsRange
    ∷ broken (wrong_flash_range t) FlashRange ∷ broken (copy_overlap t) CopyOverlap ∷ []

abbrev pub rules_of : Members → List (Option ConfigRefusal)
rules_of t = rules_before_march t ++ refused_march t ∷ rules_after_march t

-- the first that is broken
abbrev pub first_of : List (Option ConfigRefusal) → Option ConfigRefusal
first_of [] = None
first_of (rule ∷ rules) = first_some rule (first_of rules)

unfoldable pub first_broken : Members → Option ConfigRefusal
first_broken t = first_of (rules_of t)

-- a number that fits 32 bits as it is
abbrev pub small : ℤ → ℕ
small (pos n) = if nat_lt n (2 ^ 32) then n else 0
small (negsuc n) = 0

-- the number at a key, and the default of its row where the table leaves it out
abbrev pub number_in : Part → List ℕ → Members → ℕ
number_in part key t = if has_key key t then small (number_at key t) else default_number (otherwise_of part key)

-- the word that a text spells, and all bits 0 where it spells none
abbrev pub word_or_zero : Width → List ℕ → ℕ
word_or_zero width text = unwrap_or (word_of width text) 0

-- a block by its entries
unfoldable pub block_of : Width → Members → Block
block_of width b = record {
  span = record { first = small (number_at (codes "first") b); last = small (number_at (codes "last") b) };
  policy = if is_named (codes "policy") (codes "destructive") b then Destructive else NonDestructive;
  fill = word_or_zero width (text_at (codes "fill") b);
}

-- a block of flash words by its entries
unfoldable pub flash_block_of : Members → FlashBlock
flash_block_of b = record {
  span = record { first = small (number_at (codes "first") b); last = small (number_at (codes "last") b) };
  copy = small (number_at (codes "copy") b);
}

-- the march of a set, and March C- where none is written
abbrev pub march_with : List Element → March
march_with elements = record { elements = record { items = elements } }

unfoldable pub march_at : Members → March
march_at s = march_with (if has_key (codes "march") s then march_of (text_at (codes "march") s) else march_c_minus)

-- the algorithm of a set
unfoldable pub algorithm_at : Members → Algorithm
algorithm_at s =
    if is_named (codes "algorithm") (codes "checkerboard") s then Checkerboard
    else (if is_named (codes "algorithm") (codes "march") s then Marches (march_at s)
    else (if is_named (codes "algorithm") (codes "walk-path") s then WalkPath
    else (if is_named (codes "algorithm") (codes "galpat") s then Galpat
    else TransparentGalpat)))

-- a set by its entries
unfoldable pub set_of : Width → Members → ParamSet
set_of width s = record {
  alg = algorithm_at s;
  background = word_or_zero width (text_at (codes "background") s);
  atomic = small (number_at (codes "atomic") s);
  cells = small (number_at (codes "cells") s);
  blocks = map (λ d. block_of width (fields d)) (array_at (codes "block") s);
  retries = number_in Set (codes "retries") s;
}

-- the flash configuration by the entries of `fls`, and its defaults where there is none
unfoldable pub fls_of : Members → FlsConfig
fls_of f = record {
  atomic = small (number_at (codes "atomic") f);
  cells = small (number_at (codes "cells") f);
  interval_end = small (number_at (codes "interval_end") f);
  bgnd = map (λ d. flash_block_of (fields d)) (array_at (codes "bgnd") f);
  fgnd = map (λ d. flash_block_of (fields d)) (array_at (codes "fgnd") f);
}

abbrev pub no_fls : FlsConfig
no_fls = record { atomic = 1; cells = 1; interval_end = 0; bgnd = []; fgnd = [] }

abbrev pub fls_or : Option Data → FlsConfig
fls_or None = no_fls
fls_or (Some d) = fls_of (fields d)

unfoldable pub fls_at : Members → FlsConfig
fls_at t = fls_or (get_member (codes "fls") t)

-- the shape by the entries of the top table
unfoldable pub shape_of : Members → Shape
shape_of t = record { width = width_at t; ram = small (number_at (codes "ram") t); flash = number_in Top (codes "flash") t }

-- the version, which is 2 where it is not 1
abbrev pub version_at : Members → ℕ
version_at t = if is_version 1 t then 1 else 2

-- the configuration by the entries of a table
unfoldable pub config_of : Members → Config
config_of t = record {
  version = version_at t;
  shape = shape_of t;
  initial = word_or_zero (width_at t) (text_at (codes "initial") t);
  ram_tst = record { sets = map (λ d. set_of (width_at t) (fields d)) (array_at (codes "set") t) };
  fls_tst = fls_at t;
}

abbrev pub judged : Members → Option ConfigRefusal → Result Config ConfigRefusal
judged t None = Ok (config_of t)
judged t (Some refusal) = Err refusal

abbrev pub read_of : Option Members → Result Config ConfigRefusal
read_of None = Err NotToml
read_of (Some t) = judged t (first_broken t)

-- the value, or the least rule that is broken
unfoldable pub outcome : List ℕ → Result Config ConfigRefusal
outcome bytes = read_of (document bytes)

-- the number of a refusal's rule; want of memory has none
abbrev pub number_of : ConfigRefusal → ℕ
number_of NotToml = 1
number_of UnknownKey = 2
number_of MissingKey = 3
number_of WrongType = 4
number_of Version = 5
number_of BadWidth = 6
number_of Size = 7
number_of Word = 8
number_of Count = 9
number_of BadAlgorithm = 10
number_of (BadMarch set kind place) = 11
number_of TransparentDestructive = 12
number_of BlockRange = 13
number_of Overlap = 14
number_of CellsRange = 15
number_of FlashRange = 16
number_of CopyOverlap = 17
number_of NoMemory = 0
