-- One running event of RamTst.
use Rattle.std.specs.Prelude.{ℕ, Bool, false, Option, Some, None, slice_index_or, slice_set}
use Rattle.mt_plan.specs.declared.algorithm.Policy.{Policy}
use Rattle.mt_plan.specs.declared.algorithm.Policy.TheVariants.{NonDestructive, Destructive}
use Rattle.mt_port.specs.Board.{Board}
use Rattle.mt_seq.specs.declared.sequence.Job.{Job}
use Rattle.mt_seq.specs.declared.sequence.Verdict.{Verdict}
use Rattle.mt_seq.specs.Sequence.{sequence_hold}
use Rattle.mt_seq.specs.Attempts.{attempt_verdict, attempt_words, attempt_touches, attempt_length}
use Rattle.mt_window.specs.declared.reply.TestResult.TheVariants.{NotTested}
use Rattle.mt_window.specs.Slices.{Tests, Tried}
use Rattle.mt_window.specs.Events.{Running as Events}
use Rattle.mt_window.specs.Rows.{by_row}
use Rattle.mt_blocks.specs.declared.config.ParamSet.{ParamSet}
use Rattle.mt_blocks.specs.declared.pass.Position.{Position}
use Rattle.mt_blocks.specs.Slices.{Piece, next_of, or_start}
use Rattle.mt_blocks.specs.Accepted.{block_at}
use Rattle.mt_ram.specs.declared.state.State.TheVariants.{Running}
use Rattle.mt_ram.specs.State.{RamTst, set_of, spans_in}
use Rattle.mt_ram.specs.Results.{result_after, failed_after}
use Rattle.mt_ram.specs.Table.{Service, RunFullTest, RunPartialTest, MainFunction, row, ram_table}

-- how a block of a set is tested
abbrev pub job_in : ParamSet → ℕ → Job
job_in set block =
    record {
      alg = set.alg;
      policy = (block_at set.blocks block).policy;
      background = set.background;
      fill = (block_at set.blocks block).fill;
    }

abbrev pub job_of : RamTst → Piece → Job
job_of r p = job_in (set_of r) p.place.block

-- the block's result after a slice
abbrev pub with_result : RamTst → Piece → Verdict → Bool → RamTst
with_result r p v failed =
    record r {
      results = slice_set r.results p.place.block (result_after (slice_index_or r.results p.place.block NotTested) v failed p.last);
    }

-- the next position of the pass; after its last slice its start
abbrev pub next_place : RamTst → Position → Position
next_place r p = or_start (next_of (set_of r).atomic (spans_in r) p)

-- the module at the end of a slice of the pass, whose test keeps its own failure
abbrev pub passed : RamTst → Piece → Verdict → RamTst
passed r p v =
    record (with_result r p v r.failed) { state = Running (next_place r p.place); failed = failed_after v r.failed p.last }

-- an attempt at a slice, which may be dropped or not
abbrev pub attempt_at : Bool → RamTst → Piece → Board → Tried Verdict
attempt_at may r p b = record {
  words = attempt_words may b (job_of r p) p.slice;
  count = attempt_length may b (job_of r p) p.slice;
  touches = attempt_touches may b (job_of r p) p.slice;
  verdict = attempt_verdict may b (job_of r p) p.slice;
}

-- how many words an attempt that is dropped writes back at most: none is dropped in a test that doesn't keep the words
abbrev pub restored : Policy → ℕ → Option ℕ
restored NonDestructive n = Some n
restored Destructive n = None

-- slices that are tested by such attempts, as long as a module goes on, and what the end of a slice leaves
abbrev pub attempting : (stops : RamTst → Bool) → (taken : RamTst → Piece → Verdict → Bool → RamTst) → (failed : Piece → Verdict → Bool → Bool)
    → Tests RamTst Piece Verdict
attempting stops taken failed = record {
  table = ram_table;
  stops = stops;
  retries = λ r. (set_of r).retries;
  hold = λ r p. sequence_hold (job_of r p) p.slice.n;
  restores = λ r p. restored (job_of r p).policy p.slice.n;
  attempt = attempt_at;
  taken = taken;
  failed = failed;
}

-- the slices of a tick: the group is left at the first boundary by which a Stop or a Suspend was accepted
abbrev pub of_pass : Tests RamTst Piece Verdict
of_pass = attempting (λ r. r.mark) (λ r p v failed. passed r p v) (λ p v failed. failed)

-- the slices of a full or partial test, whose failure is kept apart from that of the pass
abbrev pub of_test : Tests RamTst Piece Verdict
of_test = attempting (λ r. false) with_result (λ p v failed. failed_after v failed p.last)

-- a running call
abbrev pub running : Tests RamTst Piece Verdict → Service → Events RamTst Piece Verdict
running tests service = by_row (λ r. record r { mark = false }) (λ r. row r service) tests

abbrev pub ticking : Events RamTst Piece Verdict
ticking = running of_pass MainFunction

abbrev pub full_test : Events RamTst Piece Verdict
full_test = running of_test RunFullTest

abbrev pub partial_test : ℕ → Events RamTst Piece Verdict
partial_test block = running of_test (RunPartialTest block)
