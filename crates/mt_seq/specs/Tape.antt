-- Test accesses as a tape has them.
use Rattle.mt_fault.specs.Items.{Item, Look, Check, Store}
use Rattle.mt_port.specs.declared.board.Touch.{Touch}
use Rattle.mt_port.specs.declared.board.Touch.TheVariants as touches

-- a checked read and a read whose answer isn't checked are one touch
abbrev pub touch_of : Item → Touch
touch_of (Look addr) = touches.Read addr
touch_of (Check addr word) = touches.Read addr
touch_of (Store addr word) = touches.Write addr word
