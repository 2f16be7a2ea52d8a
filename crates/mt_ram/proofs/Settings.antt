-- Running events leave the setting.
use Rattle.std.proofs.Common.{false, refl, ◌∙◌}
use Rattle.mt_window.specs.Kept.{IsKept, row-keeps}
use Rattle.mt_ram.specs.State.{RamTst}
use Rattle.mt_ram.specs.Table.{Service, row, ram_table}
use Rattle.mt_ram.specs.Event.{running, of_pass, of_test}
use Rattle.mt_ram.specs.Kept.{Same, cell_leaves, handlers_leave_setting}
use Rattle.mt_ram.specs.Laws.{LeavesSetting}

kept : IsKept ram_table Same
kept = record { none = λ r. refl; both = λ a b c p q. q ∙ p; row = handlers_leave_setting }

pub pass_leaves : (service : Service) → LeavesSetting (running of_pass service)
pass_leaves service =
    row-keeps (λ (r : RamTst). record r { mark = false }) (λ (r : RamTst). row r service) of_pass Same kept (λ r p v failed. refl) (λ r. refl) (λ r. cell_leaves r service r.state)

pub test_leaves : (service : Service) → LeavesSetting (running of_test service)
test_leaves service =
    row-keeps (λ (r : RamTst). record r { mark = false }) (λ (r : RamTst). row r service) of_test Same kept (λ r p v failed. refl) (λ r. refl) (λ r. cell_leaves r service r.state)
