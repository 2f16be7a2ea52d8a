use Rattle.std.proofs.Common.{◌∙◌, false, sym, ap}
use Rattle.mt_window.specs.Rows.{work_in}
use Rattle.mt_blocks.specs.Slices.{test_from}
use Rattle.mt_blocks.specs.Laws.{block_start}
use Rattle.mt_fls.specs.State.{FlsTst, fgnd_spans}
use Rattle.mt_fls.proofs.Walks.{idle_block, first_of_block, entered_block}
use Rattle.mt_fls.proofs.state.Fls.enter_block.Goals as goal

pub returns-then-not-has_block-clause-fits : goal.returns-then-not-has_block-clause-fits
returns-then-not-has_block-clause-fits c = idle_block c.args.self.now c.args.block _ c.args.state c.no_block.result c.is_sound.ensures c.no_block.ensures

pub returns-clause-left : goal.returns-clause-left
returns-clause-left c =
    let f = c.args.self.now in
    let first = first_of_block c.passes_begin.ensures.block f c.args.block c.args.back c.is_sound.ensures (sym c.has_block.ensures ∙ c.if-not-has_block.false) in
    ap (λ (z : FlsTst). test_from false z.setting.config.atomic (fgnd_spans z) (block_start c.args.block)) c.set_state.ensures.state
    ∙ first.work ∙ sym (ap work_in c.requires.row)

pub returns-clause-fits : goal.returns-clause-fits
returns-clause-fits c =
    let f = c.args.self.now in
    let first = first_of_block c.passes_begin.ensures.block f c.args.block c.args.back c.is_sound.ensures (sym c.has_block.ensures ∙ c.if-not-has_block.false) in
    entered_block f c.set_state.new.self c.args.block c.args.back c.args.state first c.set_state.ensures.state c.requires.back c.requires.place
