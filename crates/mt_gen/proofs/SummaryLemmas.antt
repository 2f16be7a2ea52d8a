-- A summary with one entry more.
use Rattle.std.proofs.Common.{◌≡◌, ℕ, ◌+◌, List, [], ◌∷◌, ◌++◌, map, max, refl}
use Rattle.std.proofs.lemmas.List.Sums.{fold-append}
use Rattle.std.proofs.lemmas.List.{map-append}
use Rattle.mt_window.specs.declared.log.Entry.{Entry}
use Rattle.mt_gen.specs.Summary.{ran_of, served_of, wait_of, summary_of, with_entry}

pub with_entry-summary_of : (lines : ℕ) (entries : List Entry) (entry : Entry) → with_entry (summary_of lines entries) entry ≡ summary_of lines (entries ++ entry ∷ [])
unfolding summary_of
with_entry-summary_of lines entries entry =
    rw (fold-append (λ (n : ℕ) (e : Entry). n + ran_of e) 0 entries (entry ∷ []), fold-append (λ (n : ℕ) (e : Entry). n + served_of e) 0 entries (entry ∷ []), map-append wait_of entries (entry ∷ []), fold-append max 0 (map wait_of entries) (wait_of entry ∷ [])) refl
