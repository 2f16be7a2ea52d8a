use Rattle.std.proofs.Common.{◌∙◌, ap, sym, subst, List, ℕ}
use Rattle.mt_replay.specs.Input.{Finished, Whole}
use Rattle.mt_replay.specs.Outcome.{judged_job}
use Rattle.mt_replay.specs.Inner.Jobs.{IsFound}
use Rattle.mt_port.specs.Inner.Streams.{WhereTold-map}
use Rattle.mt_replay.proofs.Jobs.{found_follows, found_empty, found_whole, found_long, head_fails}
use Rattle.mt_replay.proofs.job.find.Goals as goal

pub returns-in-Ok-Parted-clause-ok : goal.returns-in-Ok-Parted-clause-ok
returns-in-Ok-Parted-clause-ok g c =
    let head = rw c.in-Ok-Parted.field-0-is at c.in-Ok-Parted.ensures.ok in
    let kept = c.deref.ensures.value in
    WhereTold-map _ _ head (λ x y h. found_follows c.found_in.result _ x y (subst (IsFound c.found_in.result) kept c.found_in.ensures.value) c.found_in.ensures.follows h)

pub returns-in-Ok-PartedAtEnd-clause-ok : goal.returns-in-Ok-PartedAtEnd-clause-ok
returns-in-Ok-PartedAtEnd-clause-ok g c =
    let head = rw c.in-Ok-PartedAtEnd.field-0-is at c.in-Ok-PartedAtEnd.ensures.ok in
    let kept = c.deref-in-Ok-PartedAtEnd.ensures.value in
    let found = c.found_in-in-Ok-PartedAtEnd in
    WhereTold-map _ _ head (λ x y h. found_empty found.result _ x y (subst (IsFound found.result) kept found.ensures.value) found.ensures.follows h)

pub returns-in-Ok-Whole-clause-ok : goal.returns-in-Ok-Whole-clause-ok
returns-in-Ok-Whole-clause-ok g c =
    let head = rw c.in-Ok-Whole.field-0-is at c.in-Ok-Whole.ensures.ok in
    let kept = c.deref-in-Ok-Whole.ensures.value in
    WhereTold-map _ _ head (λ x y h. found_whole _ x y c.whole_refused.result (λ given. ap (λ (l : List ℕ). judged_job given Finished (Whole l)) (sym kept) ∙ c.whole_refused.ensures given) h)

pub returns-in-Ok-TooLong-clause-ok : goal.returns-in-Ok-TooLong-clause-ok
returns-in-Ok-TooLong-clause-ok g c =
    let head = rw c.in-Ok-TooLong.field-0-is at c.in-Ok-TooLong.ensures.ok in
    WhereTold-map _ _ head found_long

pub returns-in-Err-clause-err : goal.returns-in-Err-clause-err
returns-in-Err-clause-err g c = WhereTold-map _ _ c.in-Err.ensures.err head_fails
