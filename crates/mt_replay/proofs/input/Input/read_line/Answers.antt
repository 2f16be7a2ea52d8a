use Rattle.std.proofs.Common.{◌∙◌, Bool, subst, sym}
use Rattle.std.specs.Io.KnownBytes.{prepend_known}
use Rattle.mt_replay.proofs.Feeds.{HasNoFeed-append}
use Rattle.mt_replay.specs.Inner.Reading.{HasNoFeed}
use Rattle.mt_replay.proofs.Lines.{Filled, ends_whole, goes_on, exceeds}
use Rattle.mt_replay.proofs.input.Input.read_line.Goals as goal

pub returns-in-Ended-clause-ok : goal.returns-in-Ended-clause-ok
returns-in-Ended-clause-ok g c =
    let piece = c.in-Ended.ensures in
    ends_whole _ _ (g.S.Source.left c.fill.new.source) _ _ c.loop-self.text.items _ piece.0 c.loop-self.invariant.feeds piece.1 c.loop-self.invariant.bytes (subst (λ (b : Bool). Filled b (prepend_known c.loop-self.self (g.S.Source.left c.loop-self.source)) (prepend_known c.fill.new.self (g.S.Source.left c.fill.new.source))) c.if-branch.true c.in_ok-fill.ensures.ok) piece.2 piece.3

pub returns-in-TooLong-clause-ok : goal.returns-in-TooLong-clause-ok
returns-in-TooLong-clause-ok g c =
    let piece = c.in-TooLong.ensures in
    exceeds _ _ (g.S.Source.left c.fill.new.source) _ _ c.loop-self.text.items piece.0 piece.1 c.loop-self.invariant.feeds piece.2 c.loop-self.invariant.bytes (subst (λ (b : Bool). Filled b (prepend_known c.loop-self.self (g.S.Source.left c.loop-self.source)) (prepend_known c.fill.new.self (g.S.Source.left c.fill.new.source))) c.if-branch.true c.in_ok-fill.ensures.ok) piece.3 piece.4 c.take_piece.new.text.items

pub loop-self-preserved : goal.loop-self-preserved
loop-self-preserved g c =
    let piece = c.in-More.ensures in
    record {
      small = piece.3;
      bytes = goes_on _ _ (g.S.Source.left c.fill.new.source) _ _ c.loop-self.text.items _ c.loop-self.invariant.bytes (subst (λ (b : Bool). Filled b (prepend_known c.loop-self.self (g.S.Source.left c.loop-self.source)) (prepend_known c.fill.new.self (g.S.Source.left c.fill.new.source))) c.if-branch.true c.in_ok-fill.ensures.ok) piece.1 piece.2;
      feeds = subst HasNoFeed (sym piece.2) (HasNoFeed-append _ _ c.loop-self.invariant.feeds piece.0);
      faults = c.in_ok-fill.ensures.cause.kept ∙ c.loop-self.invariant.faults;
    }
