-- What is asked of a probe, and the words that stand for its slice.
use Rattle.std.specs.Prelude.{◌+◌, ◌*◌, ◌≤◌, ◌≢◌, None, replicate}
use Rattle.mt_word.specs.Word.{width_bits, Fits}
use Rattle.mt_fault.specs.Memory.{Memory}
use Rattle.mt_plan.specs.declared.algorithm.Algorithm.TheVariants.{TransparentGalpat}
use Rattle.mt_plan.specs.Plan.{IsAccepted}
use Rattle.mt_locate.specs.declared.probe.Probe.{Probe}

-- What holds of an accepted probe.
pub record IsAcceptedProbe (probe : Probe) : Type 0 where
  pub some : 1 ≤ probe.n
  pub small : probe.n ≤ 64
  pub bits : probe.n * width_bits probe.width ≤ 128
  pub background : Fits probe.width probe.background
  pub initial : Fits probe.width probe.initial
  pub end : probe.first + probe.n ≤ 65536
  pub fixed : probe.alg ≢ TransparentGalpat
  -- a march in it is an accepted one
  pub march : IsAccepted probe.alg

-- the words that stand for the slice: n of them, each `initial`, without a fault; word 0 stands for the slice's first one
abbrev pub scratch_of : Probe → Memory
scratch_of probe = record { width = probe.width; fault = None; words = replicate probe.n probe.initial }
