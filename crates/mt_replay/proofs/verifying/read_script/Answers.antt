use Rattle.std.proofs.Common.{◌≡◌, ◌≤◌, ◌+◌, ◌++◌, ◌∷◌, [], ◌∙◌, ℕ, arith, List, length, ap, refl, lit≤}
use Rattle.mt_replay.specs.declared.verifying.Mark.{Mark}
use Rattle.mt_replay.proofs.ClaimedLines.{read_none, read_one, read_all, read_ends}
use Rattle.mt_replay.proofs.verifying.read_script.Goals as goal

pub loop-number-init : goal.loop-number-init
loop-number-init g c = record { read = read_none c.args.shape c.args.kept.now.items _ c.requires.empty; few = lit≤ tt; room = lit≤ tt; faults = refl }

pub returns-in-Ok-Some-clause-gives : goal.returns-in-Ok-Some-clause-gives
returns-in-Ok-Some-clause-gives g c =
    let first = c.loop-number.auto.number in
    read_all c.args.shape (record { number = c.loop-number.number; size = c.loop-number.size }) _ c.loop-number.kept.items _ _ _ c.loop-number.invariant.read
    (rw c.in-Ok-Some.field-0-is at c.in-Ok-Some.ensures.gives) (omega (arith, first))

pub returns-in-Err-clause-gives : goal.returns-in-Err-clause-gives
returns-in-Err-clause-gives g c =
    read_ends c.in-Err.end c.args.shape (record { number = c.loop-number.number; size = c.loop-number.size }) c.loop-number.kept.items _ _ _ c.loop-number.invariant.read c.in-Err.ensures.gives

pub loop-number-preserved : goal.loop-number-preserved
loop-number-preserved g c =
    let text = c.next_line.new.slip.text.items in
    let line = rw c.in-Ok-None.field-0-is at c.in-Ok-None.ensures.line in
    let same : c.deref.result.now ≡ text = c.deref.ensures.0 in
    let size : c.len.result ≡ length text = c.len.ensures.value in
    let within : c.loop-number.size + (length text + 1) ≤ 16777216 = line.1.size in
    record {
      read = read_one c.args.shape (record { number = c.loop-number.number; size = c.loop-number.size }) _ c.loop-number.kept.items c.keep.new.kept.items text c.next_line.new.slip.line _ _ _
          c.loop-number.invariant.read line.0 (omega (arith, c.deref.ensures.1, ap length same)) line.1 (rw c.in-Ok-None.field-0-is at c.in-Ok-None.ensures.gives)
          (c.in-Ok.ensures.ok ∙ ap (λ (l : List ℕ). c.loop-number.kept.items ++ (l ++ 10 ∷ [])) same)
          (ap (λ (n : ℕ). let mark : Mark = record { number = c.loop-number.number + 1; size = c.loop-number.size + (n + 1) } in mark) size);
      few = let few = line.1.number in omega (arith, few);
      room = omega (arith, within, size);
      faults = c.in-Ok-None.ensures.ok ∙ c.loop-number.invariant.faults;
    }
