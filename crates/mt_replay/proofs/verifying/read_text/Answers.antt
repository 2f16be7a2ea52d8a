use Rattle.std.proofs.Common.{◌∙◌, ℕ, List, Err, ap, subst, sym}
use Rattle.mt_replay.specs.declared.run.End.{End}
use Rattle.mt_replay.specs.Inner.Reading.{HasNoFeed}
use Rattle.mt_replay.specs.Verify.{last_claimed}
use Rattle.mt_replay.specs.Input.{Failed}
use Rattle.mt_replay.proofs.Feeds.{HasNoFeed-append}
use Rattle.mt_replay.proofs.Lines.{ends_whole, goes_on}
use Rattle.mt_replay.proofs.ClaimedLines.{text_exceeds, text_refused, text_breaks}
use Rattle.mt_replay.proofs.Texts.{OnErr-any}
use Rattle.mt_replay.proofs.verifying.read_text.Goals as goal

pub returns-in_err-fill-clause-err : goal.returns-in_err-fill-clause-err
returns-in_err-fill-clause-err g c = λ shape.
    let inv = c.loop-input.invariant in
    OnErr-any c.from_residual.result (text_breaks shape c.args.mark c.loop-input.text.items _ _ _ inv.feeds (inv.breaks shape) inv.bytes c.in_err-fill.ensures.err)

pub returns-in-Ended-clause-ok : goal.returns-in-Ended-clause-ok
returns-in-Ended-clause-ok g c = λ shape.
    let piece = c.in-Ended.ensures in
    ends_whole _ _ (g.S.Source.left c.fill.new.source) _ _ c.loop-input.text.items _ piece.0 c.loop-input.invariant.feeds piece.1 c.loop-input.invariant.bytes (rw c.if-branch.true at c.in_ok-fill.ensures.ok) piece.2 piece.3

pub returns-in-Ended-clause-line : goal.returns-in-Ended-clause-line
returns-in-Ended-clause-line g c =
    let piece = c.in-Ended.ensures in subst HasNoFeed (sym piece.3) (HasNoFeed-append _ _ c.loop-input.invariant.feeds piece.1)

pub returns-in-TooLong-clause-ok : goal.returns-in-TooLong-clause-ok
returns-in-TooLong-clause-ok g c = λ shape.
    let piece = c.in-TooLong.ensures in
    text_exceeds c.too_long.result shape c.args.mark c.loop-input.text.items piece.0 piece.1 _ _ (g.S.Source.left c.fill.new.source) _ _ c.loop-input.invariant.feeds piece.2 c.requires.size
    c.too_long.ensures.refusal c.too_long.ensures.is c.loop-input.invariant.bytes (rw c.if-branch.true at c.in_ok-fill.ensures.ok) piece.3 piece.4

pub loop-input-preserved : goal.loop-input-preserved
loop-input-preserved g c =
    let piece = c.in-More.ensures in
    record {
      small = piece.3;
      bytes = goes_on _ _ (g.S.Source.left c.fill.new.source) _ _ c.loop-input.text.items _ c.loop-input.invariant.bytes (rw c.if-branch.true at c.in_ok-fill.ensures.ok) piece.1 piece.2;
      feeds = subst HasNoFeed (sym piece.2) (HasNoFeed-append _ _ c.loop-input.invariant.feeds piece.0);
      breaks = λ shape.
          ap (λ (l : List ℕ). last_claimed shape Failed c.args.mark.number c.args.mark.size l) (sym c.deref.ensures.0) ∙ c.end_behind.ensures.is shape
          ∙ ap (λ (e : End). Err e) c.in-Broken.is;
      faults = c.in_ok-fill.ensures.cause.kept ∙ c.loop-input.invariant.faults;
    }

pub returns-in_default-clause-ok : goal.returns-in_default-clause-ok
returns-in_default-clause-ok g c = λ shape.
    let piece = c.in-More.ensures in
    text_refused c.end_behind.result shape c.args.mark c.take_piece.new.text.items _ _ (subst HasNoFeed (sym piece.2) (HasNoFeed-append _ _ c.loop-input.invariant.feeds piece.0)) c.requires.size (c.end_behind.ensures.refusal c.in_default.not-Broken)
    (ap (λ (l : List ℕ). last_claimed shape Failed c.args.mark.number c.args.mark.size l) (sym c.deref.ensures.0) ∙ c.end_behind.ensures.is shape)
    (goes_on _ _ (g.S.Source.left c.fill.new.source) _ _ c.loop-input.text.items _ c.loop-input.invariant.bytes (rw c.if-branch.true at c.in_ok-fill.ensures.ok) piece.1 piece.2)

pub returns-in_default-clause-line : goal.returns-in_default-clause-line
returns-in_default-clause-line g c = c.end_behind.ensures.refusal c.in_default.not-Broken
