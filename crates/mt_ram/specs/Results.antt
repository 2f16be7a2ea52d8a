-- The results of blocks, and of all blocks.
use Rattle.std.specs.Prelude.{Bool, true, false, not, ◌&&◌, ◌||◌, List, if◌then◌else◌}
use Rattle.std.specs.List.{list_any, list_all}
use Rattle.mt_seq.specs.declared.sequence.Verdict.{Verdict}
use Rattle.mt_seq.specs.declared.sequence.Verdict.TheVariants.{Pass, Fail}
use Rattle.mt_window.specs.declared.reply.TestResult.{TestResult}
use Rattle.mt_window.specs.declared.reply.TestResult.TheVariants.{NotTested, Ok, NotOk, Undefined}

-- whether a slice failed
abbrev pub has_failed : Verdict → Bool
has_failed Pass = false
has_failed Fail = true

-- whether a result is that one
abbrev pub is_result : TestResult → TestResult → Bool
is_result NotTested NotTested = true
is_result Ok Ok = true
is_result NotOk NotOk = true
is_result Undefined Undefined = true
is_result _ _ = false

-- A block's result at the end of a slice of its test, where a slice of this test failed before or not, and where it is
-- the test's last slice or not. The first rule that fits decides.
-- 1. A failing slice makes the block NOT_OK.
-- 2. The last slice makes it OK where no slice of this test failed, else NOT_OK.
-- 3. Another slice makes a NOT_TESTED block UNDEFINED.
-- 4. Else the result stays.
abbrev pub result_after : TestResult → Verdict → (failed last : Bool) → TestResult
result_after old v failed last =
    if has_failed v then NotOk
    else (if last then (if failed then NotOk else Ok)
    else (if is_result NotTested old then Undefined else old))

-- whether a slice of the unfinished test failed, after a slice; nothing is kept after the last one
abbrev pub failed_after : Verdict → (failed last : Bool) → Bool
failed_after v failed last = not last && (failed || has_failed v)

-- the overall result: NOT_OK where some block is, else OK where all are, else NOT_TESTED where all are, else UNDEFINED
abbrev pub overall : List TestResult → TestResult
overall results =
    if list_any (is_result NotOk) results then NotOk
    else (if list_all (is_result Ok) results then Ok
    else (if list_all (is_result NotTested) results then NotTested else Undefined))
