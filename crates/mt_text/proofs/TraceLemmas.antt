-- Trace lines stand one after another.
use Rattle.std.proofs.Common.{◌≡◌, ℕ, List, [], ◌∷◌, ◌++◌, refl, sym, ap, ◌∙◌, append_assoc}
use Rattle.std.proofs.lemmas.List.{append-nil}
use Rattle.mt_word.specs.declared.Width.{Width}
use Rattle.mt_window.specs.declared.log.Entry.{Entry}
use Rattle.mt_text.specs.Trace.{entry_text, entries_text}

pub no_entries : (width : Width) (number : ℕ) → entries_text width number [] ≡ []
unfolding entries_text
no_entries width number = refl

pub one_entry : (width : Width) (number : ℕ) (entry : Entry) → entries_text width number (entry ∷ []) ≡ entry_text width number entry
unfolding entries_text
one_entry width number entry = append-nil (entry_text width number entry)

pub more_entries : (width : Width) (number : ℕ) (first second : List Entry) → entries_text width number (first ++ second) ≡ entries_text width number first ++ entries_text width number second
unfolding entries_text
more_entries width number [] second = refl
more_entries width number (entry ∷ first) second = ap (λ (t : List ℕ). entry_text width number entry ++ t) (more_entries width number first second) ∙ sym (append_assoc (entry_text width number entry) (entries_text width number first) (entries_text width number second))
