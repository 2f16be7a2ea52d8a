-- Every simulated board is sound.
use Rattle.std.proofs.Common.{ℕ, ◌≤◌, ◌+◌, Bool, List, length, reverse, Option, None, Some, refl, sym, subst, lit<, lit≤}
use Rattle.std.proofs.lemmas.List.{length-reverse}
use Rattle.std.proofs.lemmas.List.Elements.{All-nil}
use Rattle.mt_word.specs.declared.Width.TheVariants.{W8}
use Rattle.mt_word.specs.Word.{Fits}
use Rattle.mt_fault.specs.declared.fault.Fault.{Fault}
use Rattle.mt_port.specs.Board.{IsSound}
use Rattle.mt_port.specs.declared.request.Request.{Request}
use Rattle.mt_fault.proofs.Steps.{sound_fresh}
use Rattle.mt_board.specs.Stores.{shape_of, fault_of, words_of, flash_of}
use Rattle.mt_board.specs.declared.stores.Stores.{Stores}

-- what its stores keep is what a contract asks of a board
pub sound_with : (stores : Option Stores) (held : Bool) (since count : ℕ) (later : List Request) (taken operations : ℕ) (defect : Option Fault) → taken + length later ≤ 16
    → IsSound (record { shape = shape_of stores; fault = fault_of stores; words = words_of stores; flash = flash_of stores; held = held; since = since; count = count; left = reverse later; taken = taken; operations = operations; defect = defect })
sound_with None held since count later taken operations defect few = record {
  sized = refl;
  limit = lit≤ tt;
  flash_limit = lit≤ tt;
  memory = sound_fresh W8 0 0 (lit≤ tt) (lit< tt);
  flash_sized = refl;
  flash_fit = All-nil (λ w. Fits W8 w);
  few = subst (λ n. taken + n ≤ 16) (sym (length-reverse later)) few;
}
sound_with (Some s) held since count later taken operations defect few = record {
  sized = s.sized;
  limit = s.limit;
  flash_limit = s.flash_limit;
  memory = s.sound;
  flash_sized = s.flash_sized;
  flash_fit = s.flash_fit;
  few = subst (λ n. taken + n ≤ 16) (sym (length-reverse later)) few;
}
