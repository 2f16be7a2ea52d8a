-- Texts that are written one after another.
use Rattle.std.proofs.Common.{ℕ, ◌≡◌, ◌<◌, ◌+◌, List, [], ◌∷◌, ◌++◌, length, take, get_or, Result, Ok, Err, refl, sym, ap, ◌∙◌, append-nil}
use Rattle.std.proofs.lemmas.List.{take_more}
use Rattle.std.specs.Result.{OnErr}
use Rattle.mt_word.specs.declared.Width.{Width}
use Rattle.mt_window.specs.declared.log.Entry.{Entry}
use Rattle.mt_text.specs.Trace.{entries_text, entry_text}

-- the trace of some entries stands before that of the others
abbrev pub TracesJoin : Type 0
TracesJoin = (width : Width) (number : ℕ) (first second : List Entry) → entries_text width number (first ++ second) ≡ entries_text width number first ++ entries_text width number second

pub entries_text-nil : (width : Width) (number : ℕ) → entries_text width number [] ≡ []
unfolding entries_text
entries_text-nil width number = refl

pub entries_text-one : (width : Width) (number : ℕ) (entry : Entry) → entries_text width number (entry ∷ []) ≡ entry_text width number entry
unfolding entries_text
entries_text-one width number entry = append-nil (entry_text width number entry)

-- what holds anyway holds of an error
pub OnErr-any : {T E X : Type 0} (r : Result T E) → X → OnErr r X
OnErr-any (Ok x) h = tt
OnErr-any (Err e) h = h

-- some entries and then one
pub entries_text-then : TracesJoin → (width : Width) (number : ℕ) (log : List Entry) (entry : Entry) → entries_text width number (log ++ entry ∷ []) ≡ entries_text width number log ++ entry_text width number entry
entries_text-then join width number log entry = join width number log (entry ∷ []) ∙ ap (λ (t : List ℕ). entries_text width number log ++ t) (entries_text-one width number entry)

-- the text of one entry more
pub entries_text-more : TracesJoin → (width : Width) (number : ℕ) (all : List Entry) (k : ℕ) (other : Entry) (page text : List ℕ) → k < length all → page ≡ entries_text width number (take k all)
    → text ≡ entry_text width number (get_or all k other) → page ++ text ≡ entries_text width number (take (k + 1) all)
entries_text-more join width number all k other page text inside before own =
    ap (λ (l : List ℕ). l ++ text) before
    ∙ ap (λ (l : List ℕ). entries_text width number (take k all) ++ l) own
    ∙ sym (entries_text-then join width number (take k all) (get_or all k other))
    ∙ ap (λ (l : List Entry). entries_text width number l) (sym (take_more all k other inside))
