-- What sequences and attempts answer of a slice with a fault in it.
use Rattle.std.specs.Prelude.{◌≡◌, Bool, false, length, Some}
use Rattle.mt_fault.specs.declared.fault.Fault.{Fault}
use Rattle.mt_fault.specs.Placement.{IsInside}
use Rattle.mt_fault.specs.Memory as memory
use Rattle.mt_port.specs.Board.{Board, IsSound, memory_of}
use Rattle.mt_seq.specs.declared.sequence.Job.{Job}
use Rattle.mt_seq.specs.declared.sequence.Slice.{Slice}
use Rattle.mt_seq.specs.declared.sequence.Verdict.{Verdict}
use Rattle.mt_seq.specs.declared.sequence.Verdict.TheVariants.{Fail}
use Rattle.mt_seq.specs.Sequence.{IsSoundJob, IsSoundSlice, sequence_verdict}
use Rattle.mt_seq.specs.Attempts.{attempt_verdict, attempt_words}
use Rattle.mt_cover.specs.Coverage.{class_of, IsTabled}

-- on a sound board with a fault of a tabled class inside the slice, the sequence fails, whatever the words are
abbrev pub Detection : Type 0
Detection =
    (b : Board) (job : Job) (slice : Slice) (fault : Fault)
    → IsSound b → b.fault ≡ Some fault → IsSoundJob b.shape.width job → IsSoundSlice b.shape.ram slice
    → IsTabled job.alg (class_of fault) → IsInside fault slice.first slice.n
    → sequence_verdict b job slice ≡ Fail

-- A board whose RAM is sound, whatever its flash and its requests are.
pub record HasSoundWords (b : Board) : Type 0 where
  pub sized : length b.words ≡ b.shape.ram
  pub memory : memory.IsSound (memory_of b)

-- on such a board an attempt that comes to a verdict fails, where a fault of a tabled class is inside the slice
abbrev pub AttemptsDetect : Type 0
AttemptsDetect =
    (may : Bool) (b : Board) (job : Job) (slice : Slice) (fault : Fault) (v : Verdict)
    → HasSoundWords b → b.fault ≡ Some fault → IsSoundJob b.shape.width job → IsSoundSlice b.shape.ram slice
    → IsTabled job.alg (class_of fault) → IsInside fault slice.first slice.n
    → attempt_verdict may b job slice ≡ Some v → v ≡ Fail

-- an attempt that may not be dropped comes to a verdict
abbrev pub WholeAttemptsEnd : Type 0
WholeAttemptsEnd = (b : Board) (job : Job) (slice : Slice) → (v : Verdict) × (attempt_verdict false b job slice ≡ Some v)

-- whether it is dropped or not, an attempt leaves the RAM sound
abbrev pub AttemptsStaySound : Type 0
AttemptsStaySound =
    (may : Bool) (b : Board) (job : Job) (slice : Slice)
    → HasSoundWords b → IsSoundJob b.shape.width job → IsSoundSlice b.shape.ram slice
    → HasSoundWords (record b { words = attempt_words may b job slice })
