-- Where a line of a script stands in the file.
use Rattle.std.specs.Prelude.{ℕ, ◌+◌, ◌-◌, ◌≡◌, Bool, List, [], ◌∷◌, ◌++◌, take, drop}
use Rattle.std.specs.List.{position_or_len}
use Rattle.std.specs.Str.{bytes_eq}
use Rattle.mt_verify.specs.Lines.{lines}
use Rattle.mt_place.specs.Places.{byte_count}
use Rattle.mt_replay.specs.Input.{Cut, Finished, Parted, separator, job_of}

abbrev pub is_separator : List ℕ → Bool
is_separator line = bytes_eq line separator

-- how many lines of a file a configuration has, with its separator
abbrev pub head_len : List (List ℕ) → ℕ
head_len file = position_or_len is_separator file + 1

-- the lines of a configuration, without its separator
abbrev pub head_lines : List (List ℕ) → List (List ℕ)
head_lines file = take (head_len file - 1) file

-- the bytes of a configuration
abbrev pub head_bytes : List ℕ → List ℕ
head_bytes bytes = take (byte_count (head_lines (lines bytes))) bytes

-- how many lines the script of a claim has, up to the second separator
abbrev pub script_len : List (List ℕ) → ℕ
script_len file = position_or_len is_separator (drop (head_len file) file)

-- how many lines of a claim come before its trace
abbrev pub trace_start : List (List ℕ) → ℕ
trace_start file = head_len file + script_len file + 1

-- lines, and a last one without a line feed where it has a byte
abbrev pub with_last : List (List ℕ) → List ℕ → List (List ℕ)
with_last whole [] = whole
with_last whole (byte ∷ rest) = whole ++ (byte ∷ rest) ∷ []

-- what stands before the separator is the configuration
abbrev pub HeadsAreConfigurations : Type 0
HeadsAreConfigurations = (bytes config : List ℕ) (script : Cut) → job_of Finished bytes ≡ Parted config script → head_bytes bytes ≡ config

-- a script's lines are those of the file after as many lines as the configuration has with its separator
abbrev pub ScriptsFollowHeads : Type 0
ScriptsFollowHeads =
    (bytes config : List ℕ) (script : Cut) → job_of Finished bytes ≡ Parted config script
    → drop (head_len (lines bytes)) (lines bytes) ≡ with_last script.lines script.rest
