-- What the reading of the configuration gives.
use Rattle.std.specs.Prelude.{ℕ, ◌≤◌, ◌<◌, ◌≡◌, ◌≢◌, ◌⊎◌, true, false, List, [], ◌∷◌, ◌++◌, length, take, drop, Option, Some, None}
use Rattle.std.specs.Str.{bytes_eq}
use Rattle.mt_replay.specs.declared.head.Head.{Head}
use Rattle.mt_replay.specs.declared.head.Head.TheVariants as head
use Rattle.mt_replay.specs.Input.{Ending, Finished, Failed, cut, separator, Job, Parted, Whole, job_of}

-- The configuration was taken with its separator, and whatever follows is its script.
pub record Parts (config before after : List ℕ) : Type 0 where
  pub front : List ℕ
  pub taken : before ≡ front ++ after
  pub job : (ending : Ending) (rest : List ℕ) → job_of ending (front ++ rest) ≡ Parted config (cut rest)

-- The input ended with this job.
pub record EndsWith (given : Job) (before after : List ℕ) : Type 0 where
  pub job : job_of Finished before ≡ given
  pub all : after ≡ []

-- the configuration has more bytes than it may have, or will have
abbrev pub IsTooLong : Job → Type 0
IsTooLong (Parted config script) = 65536 < length config
IsTooLong (Whole bytes) = 65542 ≤ length bytes

-- So many bytes were taken that the configuration is too long, whatever follows.
pub record Exceeds (before after : List ℕ) : Type 0 where
  pub front : List ℕ
  pub taken : before ≡ front ++ after
  pub long : (ending : Ending) (rest : List ℕ) → IsTooLong (job_of ending (front ++ rest))

-- What taking one more byte does, where the last line begins at a place: the line goes on, or is whole, or is the separator.
abbrev pub ByteGives : Option ℕ → (start byte : ℕ) → (old new : List ℕ) → Type 0
ByteGives None start byte old new = (byte ≡ 10) × (bytes_eq (drop start old) separator ≡ true) × (new ≡ take start old)
ByteGives (Some start') start byte old new =
    (new ≡ old ++ byte ∷ []) × (((byte ≢ 10) × (start' ≡ start)) ⊎ ((byte ≡ 10) × (bytes_eq (drop start old) separator ≡ false) × (start' ≡ length new)))

abbrev pub HeadGives : Head → (kept before after : List ℕ) → Type 0
HeadGives head.Parted kept before after = Parts kept before after
HeadGives head.PartedAtEnd kept before after = EndsWith (Parted kept (record { lines = []; rest = [] })) before after
HeadGives head.Whole kept before after = EndsWith (Whole kept) before after
HeadGives head.TooLong kept before after = Exceeds before after

-- The source failed before a separator, and before the configuration was too long.
pub record HeadBreaks (before after : List ℕ) : Type 0 where
  pub front : List ℕ
  pub taken : before ≡ front ++ after
  pub job : job_of Failed front ≡ Whole front
  pub short : length front < 65542
