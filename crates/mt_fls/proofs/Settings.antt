-- Running events leave the setting.
use Rattle.std.proofs.Common.{ℕ, ◌≡◌, Bool, false, Option, None, Some, refl, ◌∙◌}
use Rattle.std.specs.Prelude.{◌||◌}
use Rattle.mt_window.specs.declared.reply.Detail.TheVariants.{Bgnd}
use Rattle.mt_window.specs.Kept.{IsKept, row-keeps}
use Rattle.mt_blocks.specs.declared.pass.Position.{Position}
use Rattle.mt_blocks.specs.Slices.{Piece, next_of}
use Rattle.mt_fls.specs.State.{FlsTst, bgnd_spans}
use Rattle.mt_fls.specs.Table.{Service, row, fls_table}
use Rattle.mt_fls.specs.Event.{running, of_pass, of_block, passed, going_on, is_different, detail_after}
use Rattle.mt_fls.specs.Kept.{Same, cell_leaves, handlers_leave_setting}
use Rattle.mt_fls.specs.Laws.{LeavesSetting}

kept : IsKept fls_table Same
kept = record { none = λ f. refl; both = λ a b c p q. q ∙ p; row = handlers_leave_setting }

pub going_on-setting : (f : FlsTst) (failed : Bool) (next : Option Position) → (going_on f failed next).setting ≡ f.setting
going_on-setting f failed None = refl
going_on-setting f failed (Some p) = refl

pub passed-setting : (f : FlsTst) (p : Piece) (v : Option ℕ) → (passed f p v).setting ≡ f.setting
passed-setting f p v =
    going_on-setting (record f { detail = detail_after Bgnd p v f.detail }) (f.failed || is_different v) (next_of f.setting.config.atomic (bgnd_spans f) p.place)

pub pass_leaves : (service : Service) → LeavesSetting (running of_pass service)
pass_leaves service =
    row-keeps (λ (f : FlsTst). record f { mark = false }) (λ (f : FlsTst). row f service) of_pass Same kept (λ f p v failed. passed-setting f p v) (λ f. refl) (λ f. cell_leaves f service f.state)

pub block_leaves : (service : Service) → LeavesSetting (running of_block service)
block_leaves service =
    row-keeps (λ (f : FlsTst). record f { mark = false }) (λ (f : FlsTst). row f service) of_block Same kept (λ f p v failed. refl) (λ f. refl) (λ f. cell_leaves f service f.state)
