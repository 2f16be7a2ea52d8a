-- One running event of FlsTst.
use Rattle.std.specs.Prelude.{ℕ, ◌+◌, Bool, true, false, ◌||◌, if◌then◌else◌, nat_lt, List, Option, Some, None}
use Rattle.mt_seq.specs.Compare.{comparison, compare_hold, compare_touches}
use Rattle.mt_window.specs.declared.reply.TestResult.{TestResult}
use Rattle.mt_window.specs.declared.reply.TestResult.TheVariants.{Ok, NotOk}
use Rattle.mt_window.specs.declared.reply.Detail.{Detail}
use Rattle.mt_window.specs.declared.reply.Detail.TheVariants.{Bgnd, Fgnd}
use Rattle.mt_port.specs.Board.{Board}
use Rattle.mt_window.specs.Slices.{Tests, Tried}
use Rattle.mt_window.specs.Events.{Running as Events}
use Rattle.mt_window.specs.Rows.{by_row}
use Rattle.mt_blocks.specs.declared.config.FlashBlock.{FlashBlock}
use Rattle.mt_blocks.specs.declared.pass.Position.{Position}
use Rattle.mt_blocks.specs.Slices.{Piece, next_of, start}
use Rattle.mt_blocks.specs.Accepted.{flash_block_at}
use Rattle.mt_fls.specs.declared.state.State.TheVariants as state
use Rattle.mt_fls.specs.State.{FlsTst, bgnd_spans}
use Rattle.mt_fls.specs.Table.{Service, StartFgnd, MainFunction, row, fls_table}

-- where the copy of a slice begins
abbrev pub copy_of : List FlashBlock → Position → ℕ
copy_of blocks at = (flash_block_at blocks at.block).copy + at.offset

-- whether a sequence found a difference, and what is known of a test that failed or not
abbrev pub is_different : Option ℕ → Bool
is_different None = false
is_different (Some addr) = true

abbrev pub result_of : Bool → TestResult
result_of failed = if failed then NotOk else Ok

-- the details after a sequence; a later failing sequence takes the place of an earlier one
abbrev pub detail_after : (ℕ → ℕ → Detail) → Piece → Option ℕ → Detail → Detail
detail_after kind p None old = old
detail_after kind p (Some addr) old = kind p.place.block addr

-- the identifier of an interval, by that of the one before: 0 first, then one more each, and 0 after the greatest
abbrev pub identifier_after : ℕ → Option ℕ → ℕ
identifier_after end None = 0
identifier_after end (Some id) = if nat_lt id end then id + 1 else 0

-- an interval is completed: it has its identifier and its result, and the next one begins
abbrev pub completing : FlsTst → Bool → FlsTst
completing f failed =
    record f {
      state = state.Running start;
      completed = Some (identifier_after f.setting.config.interval_end f.completed);
      result = result_of failed;
      failed = false;
    }

-- the interval goes on
abbrev pub going_on : FlsTst → Bool → Option Position → FlsTst
going_on f failed None = completing f failed
going_on f failed (Some p) = record f { state = state.Running p; failed = failed }

-- the module at the end of a slice of the pass
abbrev pub passed : FlsTst → Piece → Option ℕ → FlsTst
passed f p v =
    going_on (record f { detail = detail_after Bgnd p v f.detail }) (f.failed || is_different v) (next_of f.setting.config.atomic (bgnd_spans f) p.place)

-- The module at the end of a slice of a foreground test. The result changes at the end of the block's last slice alone.
abbrev pub compared : FlsTst → Piece → Option ℕ → Bool → FlsTst
compared f p v failed =
    record f {
      detail = detail_after Fgnd p v f.detail;
      fgnd = if p.last then result_of (failed || is_different v) else f.fgnd;
    }

-- an attempt at a slice of these blocks: each word is compared with its copy. It changes no word, and is never dropped.
abbrev pub attempt_at : List FlashBlock → Piece → Board → Tried (Option ℕ)
attempt_at blocks p b = record {
  words = b.words;
  count = compare_hold p.slice.n;
  touches = compare_touches p.slice.first (copy_of blocks p.place) p.slice.n;
  verdict = Some (comparison b.flash p.slice.first (copy_of blocks p.place) p.slice.n);
}

-- the slices of a tick: the group is left at the first boundary by which an Abort or a Suspend was accepted
abbrev pub of_pass : Tests FlsTst Piece (Option ℕ)
of_pass = record {
  table = fls_table;
  stops = λ f. f.mark;
  retries = λ f. 0;
  hold = λ f p. compare_hold p.slice.n;
  restores = λ f p. None;
  attempt = λ may f p b. attempt_at f.setting.config.bgnd p b;
  taken = λ f p v failed. passed f p v;
  failed = λ p v failed. failed;
}

-- the slices of a foreground test, whose failure is kept apart from that of the interval
abbrev pub of_block : Tests FlsTst Piece (Option ℕ)
of_block = record {
  table = fls_table;
  stops = λ f. false;
  retries = λ f. 0;
  hold = λ f p. compare_hold p.slice.n;
  restores = λ f p. None;
  attempt = λ may f p b. attempt_at f.setting.config.fgnd p b;
  taken = compared;
  failed = λ p v failed. failed || is_different v;
}

-- a running call
abbrev pub running : Tests FlsTst Piece (Option ℕ) → Service → Events FlsTst Piece (Option ℕ)
running tests service = by_row (λ f. record f { mark = false }) (λ f. row f service) tests

abbrev pub ticking : Events FlsTst Piece (Option ℕ)
ticking = running of_pass MainFunction

abbrev pub foreground_test : ℕ → Events FlsTst Piece (Option ℕ)
foreground_test block = running of_block (StartFgnd block)
