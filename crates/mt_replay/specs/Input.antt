-- How the bytes of a job are cut: into whole lines, and into a configuration and a script.
use Rattle.std.specs.Prelude.{ℕ, ◌==◌, List, [], ◌∷◌, ◌++◌, codes, if◌then◌else◌}
use Rattle.std.specs.Str.{bytes_eq}

-- what came behind the bytes that a source gave: the end of the input, or a failure
pub data Ending : Type 0 where
  Finished : Ending
  Failed : Ending

-- the whole lines of some bytes, without their line feeds, and the bytes behind the last line feed
pub record Cut : Type 0 where
  pub lines : List (List ℕ)
  pub rest : List ℕ

-- a line in front
abbrev pub led : List ℕ → Cut → Cut
led first cut = record { lines = first ∷ cut.lines; rest = cut.rest }

-- a byte in front that is no line feed
abbrev pub begun : ℕ → List (List ℕ) → List ℕ → Cut
begun byte [] rest = record { lines = []; rest = byte ∷ rest }
begun byte (first ∷ more) rest = record { lines = (byte ∷ first) ∷ more; rest = rest }

abbrev pub cut : List ℕ → Cut
cut [] = record { lines = []; rest = [] }
cut (byte ∷ bytes) = if byte == 10 then led [] (cut bytes) else begun byte (cut bytes).lines (cut bytes).rest

-- the line that ends a configuration
abbrev pub separator : List ℕ
separator = codes "====="

-- a configuration and what follows its separator; or, where there is no separator, all bytes
pub data Job : Type 0 where
  Parted : (config : List ℕ) (script : Cut) → Job
  Whole : (bytes : List ℕ) → Job

-- bytes in front of the configuration
abbrev pub preceded_by : List ℕ → Job → Job
preceded_by front (Parted config script) = Parted (front ++ config) script
preceded_by front (Whole bytes) = Whole (front ++ bytes)

-- a last line without a line feed is a separator where the input ends behind it
abbrev pub parted_at_end : Ending → List ℕ → Job
parted_at_end Finished rest = if bytes_eq rest separator then Parted [] (record { lines = []; rest = [] }) else Whole rest
parted_at_end Failed rest = Whole rest

-- the first line that is a separator parts a job
abbrev pub parted : Ending → List (List ℕ) → List ℕ → Job
parted ending [] rest = parted_at_end ending rest
parted ending (first ∷ more) rest =
    if bytes_eq first separator then Parted [] (record { lines = more; rest = rest }) else preceded_by (first ++ 10 ∷ []) (parted ending more rest)

abbrev pub job_of : Ending → List ℕ → Job
job_of ending bytes = parted ending (cut bytes).lines (cut bytes).rest
