use Rattle.std.proofs.Common.{ℕ, ◌-◌, List, [], take, ap, sym, ◌∙◌, arith, get_or}
use Rattle.std.specs.List.{flat_map}
use Rattle.std.proofs.lemmas.List.{flat_map_more, take_all}
use Rattle.mt_unit.specs.Checksums.{all_taken_in, checksum, crc32, in_bytes}
use Rattle.mt_unit.proofs.Checksums.{one_number, taken_after}
use Rattle.mt_unit.proofs.crc.checksum.Goals as goal

pub loop-number-preserved : goal.loop-number-preserved
loop-number-preserved c =
    let f = in_bytes c.args.size in
    let before : List ℕ = flat_map f (take c.loop-number.number-index c.args.numbers.now) in
    let number : ℕ = get_or c.args.numbers.now c.loop-number.number-index 0 in
    c.number_taken_in-register.ensures
    ∙ ap (λ (r : ℕ). all_taken_in r (f number)) c.loop-number.invariant
    ∙ sym (taken_after 4294967295 before (f number))
    ∙ ap (λ (l : List ℕ). all_taken_in 4294967295 l) (flat_map_more f [] (take c.loop-number.number-index c.args.numbers.now) number)
    ∙ ap (λ (l : List ℕ). all_taken_in 4294967295 (flat_map f l)) (sym (one_number c.args.numbers.now c.loop-number.number-index 0 c.loop-number-test.true))

pub returns : goal.returns
unfolding checksum crc32
returns c =
    ap (λ (r : ℕ). 4294967295 - r) c.loop-number.invariant
    ∙ ap (λ (l : List ℕ). 4294967295 - all_taken_in 4294967295 (flat_map (in_bytes c.args.size) l)) (take_all c.loop-number.number-index c.args.numbers.now (omega (arith, c.loop-number-test.false)))
