use Rattle.std.proofs.Common.{◌<◌, ◌∷◌, [], ℕ, List, Option, length, ap, ◌∙◌, arith}
use Rattle.mt_fault.specs.History.{Write}
use Rattle.mt_fault.specs.Faulty.{words_after}
use Rattle.mt_fault.specs.Memory.{Memory, after_access}
use Rattle.mt_locate.proofs.Resets.{started, started_more, length-started}
use Rattle.mt_locate.proofs.explain.reset.Goals as goal

pub loop-addr-preserved : goal.loop-addr-preserved
loop-addr-preserved c =
    let m : Memory = c.args.cells.now in
    let x : ℕ = c.args.probe.now.initial in
    let i : ℕ = c.loop-addr.addr in
    let ws : List ℕ = started m.words x i in
    let within : i < length m.words = omega (arith, c.from-addr-end.ensures, c.requires.size, c.loop-addr-test.true) in (
      c.write.ensures.after
          ∙ ap (λ (y : Memory). after_access y (Write i x)) c.loop-addr.invariant.0
          ∙ ap (λ (f : Option _). record m { words = words_after f ws (Write i x ∷ []) }) c.requires.sound
          ∙ ap (λ (l : List ℕ). record m { words = l }) (c.memory_without_a_fault_is_plain.ensures.write ws i x (rw (length-started m.words x i (omega arith)) within) ∙ started_more m.words x i within),
      c.write.ensures.size ∙ c.loop-addr.invariant.1,
    )
