-- What the form `locate` gives: the single faults that explain what was missed in a slice.
use Rattle.std.specs.Prelude.{ℕ, ◌≡◌, ◌≤◌, ◌↔◌, ◌≢◌, AllPairs, List, ◌++◌, length, codes, Contains, Result, Ok, Err}
use Rattle.std.specs.Fmt.{decimal}
use Rattle.mt_fault.specs.declared.fault.Fault.{Fault}
use Rattle.mt_port.specs.declared.board.Shape.{Shape}
use Rattle.mt_locate.specs.Moved.{IsFaultOfSlice}
use Rattle.mt_locate.specs.Explanations.{Explains}
use Rattle.mt_locate.specs.Listed.{fault_lines, located as explaining_faults}
use Rattle.mt_conf.specs.declared.config.Config.{Config}
use Rattle.mt_conf.specs.declared.config.ConfigRefusal.{ConfigRefusal}
use Rattle.mt_conf.specs.Outcome.{outcome as config_of}
use Rattle.mt_replay.specs.declared.run.End.{End}
use Rattle.mt_replay.specs.declared.run.End.TheVariants as end
use Rattle.mt_replay.specs.declared.status.Status.{Status}
use Rattle.mt_replay.specs.declared.status.Status.TheVariants as status
use Rattle.mt_replay.specs.Input.{Ending, Finished, Cut, Parted, job_of}
use Rattle.mt_replay.specs.Locating.{Located, located}
use Rattle.mt_replay.specs.Outcome.{Outcome, said, bad_config, refused_of, refused_text, read_fault_text, judged_job}

-- the faults that explain what was missed
abbrev pub found_faults : Located → List Fault
found_faults l = explaining_faults l.probe l.misses

-- how many they are
abbrev pub count_text : ℕ → List ℕ
count_text count = codes "found " ++ decimal count ++ codes "\n"

-- their lines, and how many they are
abbrev pub found_text : Shape → Located → List ℕ
found_text shape l = fault_lines shape.width (found_faults l) ++ count_text (length (found_faults l))

-- a line is refused, or the source failed; no lines stop at a whole end
abbrev pub stop_text : End → List ℕ
stop_text (end.Refused line code place) = refused_text line code place
stop_text (end.Whole count) = read_fault_text
stop_text end.Broken = read_fault_text

abbrev pub stop_status : End → Status
stop_status (end.Refused line code place) = status.BadScript line code place
stop_status (end.Whole count) = status.ReadFault
stop_status end.Broken = status.ReadFault

abbrev pub lines_give : Shape → Result Located End → Outcome
lines_give shape (Ok l) = said (found_text shape l) status.Done
lines_give shape (Err e) = said (stop_text e) (stop_status e)

-- the configuration decides, and then the lines behind it
abbrev pub locating_by : Ending → Result Config ConfigRefusal → Cut → Outcome
locating_by ending (Err refusal) behind = bad_config (refused_of refusal)
locating_by ending (Ok c) behind = lines_give c.shape (located c.shape c.initial c.ram_tst.sets ending behind)

-- what some bytes give
unfoldable pub locating : Ending → List ℕ → Outcome
locating ending bytes = judged_job (locating_by ending) ending (job_of ending bytes)

-- Where the input names a slice and what was missed there, a fault is listed exactly where it lies inside the slice and explains it, and no
-- fault is listed twice.
abbrev pub LocatingIsExact : Type 0
LocatingIsExact =
    (bytes text : List ℕ) (behind : Cut) (c : Config) (l : Located) → job_of Finished bytes ≡ Parted text behind → config_of text ≡ Ok c → length text ≤ 65536
    → located c.shape c.initial c.ram_tst.sets Finished behind ≡ Ok l
    → ((locating Finished bytes).text ≡ found_text c.shape l)
    × ((fault : Fault) → Contains (found_faults l) fault ↔ (IsFaultOfSlice l.probe.width l.probe.first l.probe.n fault × Explains l.probe l.misses fault))
    × AllPairs ◌≢◌ (found_faults l)
