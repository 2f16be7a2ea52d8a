-- What is added up over the entries of a replay.
use Rattle.std.specs.Prelude.{ℕ, ◌+◌, List, map, sum_by, fold, max}
use Rattle.mt_window.specs.declared.log.Entry.{Entry}
use Rattle.mt_window.specs.declared.log.Entry.TheVariants.{Served, Inner, Own}
use Rattle.mt_window.specs.declared.reply.Reply.{Reply}
use Rattle.mt_window.specs.declared.reply.Reply.TheVariants.{Ran}
use Rattle.mt_gen.specs.declared.summary.Summary.{Summary}

-- the test accesses that a reply tells
abbrev pub accesses_of : Reply → ℕ
accesses_of (Ran accesses) = accesses
accesses_of reply = 0

abbrev pub ran_of : Entry → ℕ
ran_of (Served number at wait) = 0
ran_of (Inner reply) = accesses_of reply
ran_of (Own reply) = accesses_of reply

-- 1 for a request that is served
abbrev pub served_of : Entry → ℕ
served_of (Served number at wait) = 1
served_of (Inner reply) = 0
served_of (Own reply) = 0

-- how long a request that is served waited
abbrev pub wait_of : Entry → ℕ
wait_of (Served number at wait) = wait
wait_of (Inner reply) = 0
wait_of (Own reply) = 0

-- the sums over some entries, and the greatest wait among them
unfoldable pub summary_of : ℕ → List Entry → Summary
summary_of lines entries = record { lines = lines; ran = sum_by ran_of entries; served = sum_by served_of entries; longest = fold max 0 (map wait_of entries) }

-- a summary with one entry more
abbrev pub with_entry : Summary → Entry → Summary
with_entry s entry = record s { ran = s.ran + ran_of entry; served = s.served + served_of entry; longest = max s.longest (wait_of entry) }
