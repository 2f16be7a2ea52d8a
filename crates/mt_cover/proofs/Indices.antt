-- From coverage to the index of the first missed read.
use Rattle.std.proofs.Common.{ℕ, ◌≡◌, true, [], Option, Some, None, refl, sym, ◌∙◌}
use Rattle.std.specs.Prelude.{is_some}
use Rattle.std.proofs.lemmas.Bool.{false≢true}
use Rattle.mt_decoder.specs.Misses.{accesses, NothingIsMissedWhereAllPass}
use Rattle.mt_cover.specs.Coverage.{Coverage, MissesEachTabledFault}

some_unless : (o : Option ℕ) → (o ≡ None → ⊥) → is_some o ≡ true
some_unless None h = absurd (h refl)
some_unless (Some x) h = refl

pub misses_each : Coverage → NothingIsMissedWhereAllPass → MissesEachTabledFault
unfolding accesses
misses_each coverage exact algorithm fault width size background first n words is tabled placed inside fits =
    some_unless _ (λ none. false≢true
    (sym (coverage algorithm fault is tabled width size first n (λ cell. background) placed inside (λ cell h. fits) (λ c i j h g. refl) words [])
    ∙ (exact (Some fault) words (accesses width algorithm background first n)).0 none))
