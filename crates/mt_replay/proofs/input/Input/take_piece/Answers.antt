use Rattle.std.proofs.Common.{◌≡◌, ◌<◌, ◌∙◌, ap, sym, subst, arith, take, drop, length}
use Rattle.std.proofs.lemmas.List.{take-append-drop, drop_all, take_all}
use Rattle.std.proofs.lemmas.Grind.{common_steps}
use Rattle.mt_replay.specs.Inner.Reading.{HasNoFeed}
use Rattle.mt_replay.proofs.Feeds.{splits, feed_len, Splits}
use Rattle.mt_replay.proofs.input.Input.take_piece.Goals as goal

pub returns-then-is_err : goal.returns-then-is_err
returns-then-is_err c =
    let held = c.args.self.now in
    let n = c.line_len-len.result in
    let s : Splits held n = subst (Splits held) (sym (c.line_len-len.ensures ∙ ap feed_len c.held-held.ensures)) (splits held) in
    (take n held, drop n held, s.front, sym (take-append-drop n held), grind (arith, common_steps))

pub returns-then-len-count : goal.returns-then-len-count
returns-then-len-count c =
    let held = c.args.self.now in
    let n = c.line_len-len.result in
    let s : Splits held n = subst (Splits held) (sym (c.line_len-len.ensures ∙ ap feed_len c.held-held.ensures)) (splits held) in
    let short : n < length held = omega (arith, ap length c.held-held.ensures) in
    (take n held, s.front, rw c.skip.ensures (s.next short), grind (arith, common_steps))

pub returns : goal.returns
returns c =
    let held = c.args.self.now in
    let n = c.line_len-len.result in
    let s : Splits held n = subst (Splits held) (sym (c.line_len-len.ensures ∙ ap feed_len c.held-held.ensures)) (splits held) in
    let all : n ≡ length held = omega (arith, ap length c.held-held.ensures, s.within) in
    let whole : take n held ≡ held = take_all n held (omega arith) in
    (subst HasNoFeed whole s.front, c.skip-2.ensures ∙ drop_all _ held (omega (arith, ap length c.held-held.ensures)), grind (arith, common_steps, whole), grind (arith, common_steps))
