-- Each accepted march catches each stuck-at fault.
use Rattle.std.proofs.Common.{◌≡◌, Bool, true, false, List, [], ◌∷◌, ◌++◌, refl, ap, sym, ◌∙◌, ◌⊎◌, inl, inr}
use mathlib.Core.Bool.{beq}
use Rattle.std.specs.Prelude.{◌==◌, ◌&&◌, not, if◌then◌else◌}
use Rattle.std.specs.List.{list_any}
use Rattle.std.proofs.lemmas.Bool.{or_cases, or_left, or_right, false≢true}
use Rattle.std.proofs.lemmas.List.{map-append}
use mathlib.Core.List.{append-nil}
use Rattle.mt_march.specs.declared.march.Order.{Order}
use Rattle.mt_march.specs.declared.march.Order.TheVariants.{Up, Down, Either}
use Rattle.mt_march.specs.declared.march.Op.{Op}
use Rattle.mt_march.specs.declared.march.Op.TheVariants.{R0, R1, W0, W1}
use Rattle.mt_march.specs.declared.march.Element.{Element}
use Rattle.mt_march.specs.Accepted.{operations, writes, is_one, reads}
use Rattle.mt_plan.specs.declared.algorithm.Step.{Step}
use Rattle.mt_plan.specs.Lists.{act_of, is_write, step, ops_on, in_order, march_on}
use Rattle.mt_decoder.specs.BitModel.{stuck, flipped_if, wanted, agg_after, vic_after, misses, caught}

-- a read of the victim that wants another bit than b
abbrev shows_other : Bool → Bool → Bool → Step → Bool
shows_other b ba bv t = not (is_write t.act) && (t.cell == 1) && not (beq b (wanted ba bv t))

-- such a read misses under the fault
other_misses : (p q b a w : Bool) → (p && q && not (beq b w)) ≡ true → (p && not (beq (if q then b else a) w)) ≡ true
other_misses true true b a w h = h
other_misses true false b a w h = absurd (false≢true h)
other_misses false q b a w h = absurd (false≢true h)

stuck_caught : (b ba bv a v : Bool) (l : List Step) → list_any (shows_other b ba bv) l ≡ true → caught (stuck b) ba bv a v l ≡ true
stuck_caught b ba bv a v [] h = h
stuck_caught b ba bv a v (t ∷ l) h =
    let more : Bool = caught (stuck b) ba bv (agg_after (stuck b) ba bv a t) (vic_after (stuck b) ba bv a v t) l in
    elim (or_cases (shows_other b ba bv t) (list_any (shows_other b ba bv) l) h) [
      | inl here ↦ or_left _ more (other_misses (not (is_write t.act)) (t.cell == 1) b a (wanted ba bv t) here)
      | inr later ↦ or_right (misses (stuck b) ba bv a v t) more (stuck_caught b ba bv (agg_after (stuck b) ba bv a t) (vic_after (stuck b) ba bv a v t) l later)
    ]

op_shows : (b ba bv value : Bool) (o : Op) → not (beq b (flipped_if value bv)) ≡ true → (not (writes o) && beq (is_one o) value) ≡ true → shows_other b ba bv (step 1 (act_of o)) ≡ true
op_shows b ba bv true R1 ne h = ne
op_shows b ba bv false R0 ne h = ne
op_shows b ba bv false R1 ne h = absurd (false≢true h)
op_shows b ba bv true R0 ne h = absurd (false≢true h)
op_shows b ba bv value W0 ne h = absurd (false≢true h)
op_shows b ba bv value W1 ne h = absurd (false≢true h)

ops_show : (b ba bv value : Bool) (ops : List Op) → not (beq b (flipped_if value bv)) ≡ true → reads value ops ≡ true → list_any (shows_other b ba bv) (ops_on ops 1) ≡ true
ops_show b ba bv value [] ne h = h
ops_show b ba bv value (o ∷ ops) ne h =
    elim (or_cases _ _ h) [
      | inl here ↦ or_left _ _ (op_shows b ba bv value o ne here)
      | inr later ↦ or_right _ _ (ops_show b ba bv value ops ne later)
    ]

one_order : (o : Order) → in_order o (1 ∷ []) ≡ 1 ∷ []
one_order Up = refl
one_order Down = refl
one_order Either = refl

-- on one cell a march is its operations
on_one_cell : (m : List Element) → march_on (1 ∷ []) m ≡ ops_on (operations m) 1
on_one_cell [] = refl
on_one_cell (e ∷ m) =
    rw (one_order e.order, append-nil)
    (ap (λ (l : List Step). ops_on e.ops.items 1 ++ l) (on_one_cell m) ∙ sym (map-append (λ (o : Op). step 1 (act_of o)) e.ops.items (operations m)))

either : (b c : Bool) → (not (beq b (flipped_if false c)) ≡ true) ⊎ (not (beq b (flipped_if true c)) ≡ true)
either true true = inr refl
either true false = inl refl
either false true = inl refl
either false false = inr refl

-- a march that has an r0 and an r1 catches it on one cell
pub march_stuck : (b ba bv a v : Bool) (m : List Element) → reads false (operations m) ≡ true → reads true (operations m) ≡ true → caught (stuck b) ba bv a v (march_on (1 ∷ []) m) ≡ true
march_stuck b ba bv a v m zeros ones =
    rw (on_one_cell m)
    (stuck_caught b ba bv a v (ops_on (operations m) 1)
    (elim (either b bv) [
      | inl ne ↦ ops_show b ba bv false (operations m) ne zeros
      | inr ne ↦ ops_show b ba bv true (operations m) ne ones
    ]))
