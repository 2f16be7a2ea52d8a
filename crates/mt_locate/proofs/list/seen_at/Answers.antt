use Rattle.std.proofs.Common.{◌^◌, ap, sym, ◌∙◌, refl}
use Rattle.std.specs.Option.{option_copied}
use Rattle.mt_word.specs.Word.{width_bits}
use Rattle.mt_locate.proofs.Seen.{seen_alone, none_seen, unseen, misfit, none_explain}
use Rattle.mt_locate.proofs.list.seen_at.Goals as goal

pub returns-in-Some-clause-seen : goal.returns-in-Some-clause-seen
returns-in-Some-clause-seen c =
    let probe = c.args.syndrome.now.probe.now in
    let misses = c.args.syndrome.now.misses.now in
    seen_alone c.first_miss_tells_what_is_seen.ensures probe misses c.args.addr c.in-Some.miss.now c.requires.ready.accepted c.requires.addr (sym c.in-Some.ensures.value) (c.if-fits.ensures.0 refl)

pub returns-in_default-clause-seen : goal.returns-in_default-clause-seen
returns-in_default-clause-seen c =
    let probe = c.args.syndrome.now.probe.now in
    let misses = c.args.syndrome.now.misses.now in
    let miss = c.in-Some.miss.now in
    none_explain probe misses
    ∙ sym (none_seen c.first_miss_tells_what_is_seen.ensures probe misses c.args.addr c.requires.ready.accepted c.requires.addr
    (λ x fits t. misfit misses miss (2 ^ width_bits probe.width) x (sym c.in-Some.ensures.value) (λ small. absurd (let wrong = c.if-fits.ensures.1 small in cc)) fits t))

pub returns-in_default-2-clause-seen : goal.returns-in_default-2-clause-seen
returns-in_default-2-clause-seen c =
    let probe = c.args.syndrome.now.probe.now in
    let misses = c.args.syndrome.now.misses.now in
    none_explain probe misses
    ∙ sym (none_seen c.first_miss_tells_what_is_seen.ensures probe misses c.args.addr c.requires.ready.accepted c.requires.addr
    (λ x fits t. unseen misses x (sym c.first.ensures.value ∙ ap option_copied c.in_default.is) t))
