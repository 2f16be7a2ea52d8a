-- The steps of a slice as accesses, as loops make them.
use Rattle.std.specs.Prelude.{ℕ, ◌+◌, ◌<◌, ◌≤◌, ◌≡◌, Bool, true, not, All, List, [], ◌∷◌, map, length, slice_index, if◌then◌else◌, ◌&&◌, Option}
use Rattle.std.specs.List.{flat_map}
use Rattle.mt_word.specs.declared.Width.{Width}
use Rattle.mt_word.specs.Word.{Fits, complement_of}
use Rattle.mt_fault.specs.Items.{Item, Check, Store}
use Rattle.mt_plan.specs.declared.algorithm.Act.{Act}
use Rattle.mt_plan.specs.declared.algorithm.Step.{Step}
use Rattle.mt_plan.specs.Accesses.{item_of}
use Rattle.mt_march.specs.declared.march.Op.{Op}
use Rattle.mt_plan.specs.Lists.{act_of, is_flipped, is_write, others, read_act, step}
use Rattle.mt_port.specs.Board.{Board}
use Rattle.mt_port.specs.declared.board.Touch.{Touch}
use Rattle.mt_seq.specs.declared.span.Ground.{Ground}
use Rattle.mt_seq.specs.declared.span.Target.{Target}
use Rattle.mt_seq.specs.Makes.{Makes}

-- the word of an act on a cell with a background word
abbrev pub word_for : Width → ℕ → Act → ℕ
word_for width back act = if is_flipped act then complement_of width back else back

-- an act as an access
abbrev pub access_for : ℕ → ℕ → Act → Item
access_for addr word act = if is_write act then Store addr word else Check addr word

-- an operation as an access
abbrev pub operation : Target → Op → Item
operation target op = access_for target.addr (if is_flipped (act_of op) then target.flipped else target.plain) (act_of op)

-- The word is in the RAM, interrupts are held, and words fit.
pub record IsTarget (b : Board) (target : Target) : Type 0 where
  pub held : b.held ≡ true
  pub inside : target.addr < b.shape.ram
  pub plain : Fits b.shape.width target.plain
  pub flipped : Fits b.shape.width target.flipped

-- A call made just these accesses, and `good` says whether all was good before, and each checked read answered its word.
pub record MakesToo (items : List Item) (old new : Board) (told now : Option (List Touch)) (was good : Bool) : Type 0 where
  pub pass : Bool
  pub makes : Makes items old new told now pass
  pub both : good ≡ (was && pass)

-- the background word of a cell
abbrev pub back_on : Ground → List ℕ → ℕ → ℕ
back_on ground saved cell = if ground.transparent then slice_index saved cell else ground.background

-- a step as an access
abbrev pub item_on : Ground → List ℕ → Step → Item
item_on ground saved t = item_of ground.width ground.first (back_on ground saved) t

-- The slice is in the RAM, interrupts are held, and words fit.
pub record IsGround (b : Board) (ground : Ground) (saved : List ℕ) : Type 0 where
  pub held : b.held ≡ true
  pub inside : ground.first + ground.n ≤ b.shape.ram
  pub width : ground.width ≡ b.shape.width
  pub background : Fits ground.width ground.background
  pub fit : All (Fits ground.width) saved
  pub known : ground.transparent ≡ true → ground.n ≤ length saved

-- reads of the cells other than a base
abbrev pub other_reads : Bool → ℕ → List ℕ → List Step
other_reads flipped base js = map (λ j. step j (read_act flipped)) (others base js)

-- and each with a read of the base behind it
abbrev pub other_pairs : Bool → ℕ → List ℕ → List Step
other_pairs flipped base js = flat_map (λ j. step j (read_act flipped) ∷ step base (read_act (not flipped)) ∷ []) (others base js)
