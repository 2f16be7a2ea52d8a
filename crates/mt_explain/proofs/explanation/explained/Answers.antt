use Rattle.std.proofs.Common.{◌≡◌, ◌-◌, ℕ, List, take, option_map, option_and_then, sym, ap, ap₂, ◌∙◌}
use Rattle.std.proofs.lemmas.List.{take-map}
use Rattle.mt_verify.specs.Lines.{lines}
use Rattle.mt_place.specs.Places.{byte_count}
use Rattle.mt_explain.specs.declared.row.Book.TheVariants.{March}
use Rattle.mt_explain.specs.Rows.{known}
use Rattle.mt_explain.specs.Lines.{head_len, head_lines}
use Rattle.mt_explain.specs.Notes.{march_number}
use Rattle.mt_explain.proofs.MarkLemmas.{texts}
use Rattle.mt_explain.proofs.explanation.explained.Goals as goal

pub returns-clause-march : goal.returns-clause-march
returns-clause-march c =
    let file = c.deref-2.result.now in
    let bytes = c.args.bytes.now in
    let whole : texts file ≡ lines bytes = ap texts c.deref-2.ensures.value ∙ c.in_ok-file.ensures in
    let parted : c.head_len-head.result ≡ head_len (lines bytes) = c.head_len-head.ensures.value ∙ ap head_len (ap texts c.deref.ensures.value ∙ c.in_ok-file.ensures) in
    let head : texts (take (c.head_len-head.result - 1) file) ≡ head_lines (lines bytes) =
    sym (take-map (λ line. line.now) (c.head_len-head.result - 1) file) ∙ ap₂ (λ (h : ℕ) (f : List (List ℕ)). take (h - 1) f) parted whole in
    c.march_row.ensures
    ∙ ap (λ number. option_and_then known (option_map (λ number. record { book = March; number = number }) number))
    (c.in_ok-note.ensures.march ∙ ap (λ (h : List (List ℕ)). march_number c.args.status (take 65536 (take (byte_count h) bytes))) head)
