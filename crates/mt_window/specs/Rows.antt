-- Rows of a module's state table, and the running calls by them.
use Rattle.std.specs.Prelude.{ℕ, List, []}
use Rattle.mt_window.specs.declared.reply.Reply.{Reply}
use Rattle.mt_window.specs.declared.reply.Reply.TheVariants as reply
use Rattle.mt_window.specs.declared.reply.Refusal.{Refusal}
use Rattle.mt_window.specs.declared.reply.Value.{Value}
use Rattle.mt_window.specs.Slices.{Tests}
use Rattle.mt_window.specs.Events.{Running}

-- What a call of a module C does, where slices are of a kind X.
pub data Cell (C X : Type 0) : Type 0 where
  -- the call is refused, and nothing changes
  Refuses : (why : Refusal) → Cell C X
  -- it is done, and the module goes on so
  Goes : (next : C) → Cell C X
  -- it is answered, and nothing changes
  Answers : (what : Value) → Cell C X
  -- a tick that tests nothing
  Rests : Cell C X
  -- these slices are tested: the module while they are, and the module that goes on after them
  Runs : (slices : List X) (inside back : C → C) → Cell C X

-- the reply that a cell gives, where so many test accesses were made
abbrev pub reply_in : {C X : Type 0} → Cell C X → ℕ → Reply
reply_in (Refuses why) made = reply.Refused why
reply_in (Goes next) made = reply.Done
reply_in (Answers what) made = reply.Value what
reply_in Rests made = reply.Ran 0
reply_in (Runs slices inside back) made = reply.Ran made

-- the module after it, where no slice is tested
abbrev pub next_in : {C X : Type 0} → Cell C X → C → C
next_in (Refuses why) c = c
next_in (Goes next) c = next
next_in (Answers what) c = c
next_in Rests c = c
next_in (Runs slices inside back) c = c

-- the slices that it has tested
abbrev pub work_in : {C X : Type 0} → Cell C X → List X
work_in (Refuses why) = []
work_in (Goes next) = []
work_in (Answers what) = []
work_in Rests = []
work_in (Runs slices inside back) = slices

-- the module while they are tested, and back after them
abbrev pub inside_of : {C X : Type 0} → Cell C X → C → C
inside_of (Refuses why) c = c
inside_of (Goes next) c = c
inside_of (Answers what) c = c
inside_of Rests c = c
inside_of (Runs slices inside back) c = inside c

abbrev pub back_from : {C X : Type 0} → Cell C X → C → C
back_from (Refuses why) c = c
back_from (Goes next) c = c
back_from (Answers what) c = c
back_from Rests c = c
back_from (Runs slices inside back) c = back c

-- a relation holds between a module and what a cell leaves of it, also while its slices are tested and after them
abbrev pub CellKeeps : {C X : Type 0} → (C → C → Type 0) → C → Cell C X → Type 0
CellKeeps {C} R c cell = R c (next_in cell c) × ((x : C) → R x (inside_of cell x) × R x (back_from cell x))

-- a module that stays as it is
abbrev pub staying : {C : Type 0} → C → C
staying c = c

-- a running call: its cell in the table, by the module just after boundary 0, says what is done
abbrev pub by_row : {C X V : Type 0} → (cleared : C → C) → (row : C → Cell C X) → Tests C X V → Running C X V
by_row cleared row tests = record {
  tests = tests;
  cleared = cleared;
  work = λ c. work_in (row c);
  inside = λ c. inside_of (row c) c;
  back = λ o c. back_from (row o) c;
  reply = λ o made. reply_in (row o) made;
}
