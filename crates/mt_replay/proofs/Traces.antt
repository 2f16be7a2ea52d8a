-- Trace lines: each is one line, and how they are compared one after another.
use Rattle.std.proofs.Common.{ℕ, ◌+◌, ◌<◌, ◌≡◌, ◌==◌, Bool, true, cond, List, [], ◌∷◌, ◌++◌, length, Option, Some, None, refl, sym, ap, subst, ◌∙◌, arith, codes, append_assoc, append-nil, length-append}
use Rattle.std.specs.Fmt.{decimal}
use Rattle.std.proofs.lemmas.Bool.{ne_eqb}
use Rattle.std.proofs.lemmas.List.Sums.{sum_by-cons}
use Rattle.mt_word.specs.declared.Width.{Width}
use Rattle.mt_window.specs.declared.log.Entry.{Entry}
use Rattle.mt_window.specs.declared.log.Entry.TheVariants.{Served, Inner, Own}
use Rattle.mt_window.specs.declared.reply.Reply.{Reply}
use Rattle.mt_window.specs.declared.reply.Reply.TheVariants as reply
use Rattle.mt_window.specs.declared.reply.Value.{Value}
use Rattle.mt_window.specs.declared.reply.Value.TheVariants as value
use Rattle.mt_window.specs.declared.reply.Refusal.{Refusal}
use Rattle.mt_window.specs.declared.reply.Refusal.TheVariants as refusal
use Rattle.mt_window.specs.declared.reply.ShownState.{ShownState}
use Rattle.mt_window.specs.declared.reply.ShownState.TheVariants as state
use Rattle.mt_window.specs.declared.reply.TestResult.{TestResult}
use Rattle.mt_window.specs.declared.reply.TestResult.TheVariants as result
use Rattle.mt_window.specs.declared.reply.AlgorithmName.{AlgorithmName}
use Rattle.mt_window.specs.declared.reply.AlgorithmName.TheVariants as algorithm
use Rattle.mt_window.specs.declared.reply.Detail.{Detail}
use Rattle.mt_window.specs.declared.reply.Detail.TheVariants as detail
use Rattle.mt_text.specs.Trace.{state_name, result_name, algorithm_name, refusal_text, identifier_text, detail_text, value_text, reply_text, shown_entry, entry_text, entries_text}
use Rattle.std.specs.List.{AllByRecursion}
use Rattle.mt_port.specs.declared.board.Shape.{Shape}
use Rattle.mt_verify.specs.Lines.{feeds, lines}
use Rattle.mt_verify.specs.Laws.{IsWhole, HasNoEmptyLine, HasNoFeed as HasNoLineFeed, LinesEndAtFeeds, FeedsMakeWhole, WholeTextsJoin}
use Rattle.mt_machine.specs.Machine.{Machine, Step}
use Rattle.mt_replay.specs.Outcome.{done_text, steps_text}
use Rattle.mt_replay.specs.Inner.Reading.{HasNoFeed}
use Rattle.mt_replay.specs.declared.comparing.Comparison.{Comparison}
use Rattle.mt_replay.specs.Inner.Comparing.{StandsBy, Compares}
use Rattle.mt_port.specs.Board.{Logs}
use Rattle.mt_port.specs.declared.board.Touch.{Touch}
use Rattle.mt_text.specs.declared.line.Line.{Line}
use Rattle.mt_machine.specs.Inner.Events.{Steps}
use Rattle.mt_replay.specs.Inner.Replaying.{Played}
use Rattle.mt_replay.proofs.Plays.{run_text-one, run_touches-one}
use Rattle.mt_replay.proofs.Comparisons.{feeds-append}
use Rattle.mt_replay.proofs.Feedless.{feedless, no_feed, feedless-append, decimal_feedless, word_feedless}
use Rattle.mt_replay.proofs.Texts.{TracesJoin, entries_text-nil, entries_text-then}

-- ---- what stands in a trace line has no line feed

state_feedless : (s : ShownState) → feedless (state_name s) ≡ true
state_feedless state.Uninit = refl
state_feedless state.Stopped = refl
state_feedless state.Running = refl
state_feedless state.Suspended = refl
state_feedless state.Init = refl
state_feedless state.Aborted = refl

result_feedless : (r : TestResult) → feedless (result_name r) ≡ true
result_feedless result.NotTested = refl
result_feedless result.Ok = refl
result_feedless result.NotOk = refl
result_feedless result.Undefined = refl

algorithm_feedless : (a : AlgorithmName) → feedless (algorithm_name a) ≡ true
algorithm_feedless algorithm.Checkerboard = refl
algorithm_feedless algorithm.March = refl
algorithm_feedless algorithm.WalkPath = refl
algorithm_feedless algorithm.Galpat = refl
algorithm_feedless algorithm.TransparentGalpat = refl

refusal_feedless : (r : Refusal) → feedless (refusal_text r) ≡ true
refusal_feedless refusal.Uninit = refl
refusal_feedless refusal.Status = refl
refusal_feedless refusal.Range = refl

identifier_feedless : (id : Option ℕ) → feedless (identifier_text id) ≡ true
identifier_feedless None = refl
identifier_feedless (Some id) = decimal_feedless id

places_feedless : (kind : List ℕ) (block addr : ℕ) → feedless kind ≡ true → feedless (kind ++ decimal block ++ codes " " ++ decimal addr) ≡ true
places_feedless kind block addr h =
    feedless-append ((kind ++ decimal block) ++ codes " ") (decimal addr)
    (feedless-append (kind ++ decimal block) (codes " ") (feedless-append kind (decimal block) h (decimal_feedless block)) refl) (decimal_feedless addr)

detail_feedless : (d : Detail) → feedless (detail_text d) ≡ true
detail_feedless detail.Nothing = refl
detail_feedless (detail.Bgnd block addr) = places_feedless (codes "bgnd ") block addr refl
detail_feedless (detail.Fgnd block addr) = places_feedless (codes "fgnd ") block addr refl

value_feedless : (width : Width) (v : Value) → feedless (value_text width v) ≡ true
value_feedless width (value.Word w) = word_feedless width w
value_feedless width (value.Number n) = decimal_feedless n
value_feedless width (value.State s) = state_feedless s
value_feedless width (value.Result r) = result_feedless r
value_feedless width (value.Algorithm a) = algorithm_feedless a
value_feedless width (value.Interval id r) =
    feedless-append (identifier_text id ++ codes " ") (result_name r) (feedless-append (identifier_text id) (codes " ") (identifier_feedless id) refl) (result_feedless r)
value_feedless width (value.Details d) = detail_feedless d
value_feedless width value.Version = refl

reply_feedless : (width : Width) (r : Reply) → feedless (reply_text width r) ≡ true
reply_feedless width reply.Done = refl
reply_feedless width (reply.Ran n) = feedless-append (codes "ran ") (decimal n) refl (decimal_feedless n)
reply_feedless width (reply.Value v) = value_feedless width v
reply_feedless width (reply.Refused r) = refusal_feedless r
reply_feedless width reply.Present = refl

shown_entry_feedless : (width : Width) (e : Entry) → feedless (shown_entry width e) ≡ true
shown_entry_feedless width (Served number at wait) =
    let first = feedless-append (codes "irq ") (decimal number) refl (decimal_feedless number) in
    let second = feedless-append ((codes "irq " ++ decimal number) ++ codes " at ") (decimal at) (feedless-append (codes "irq " ++ decimal number) (codes " at ") first refl) (decimal_feedless at) in
    feedless-append ((((codes "irq " ++ decimal number) ++ codes " at ") ++ decimal at) ++ codes " wait ") (decimal wait)
    (feedless-append (((codes "irq " ++ decimal number) ++ codes " at ") ++ decimal at) (codes " wait ") second refl) (decimal_feedless wait)
shown_entry_feedless width (Inner r) = feedless-append (codes "- ") (reply_text width r) refl (reply_feedless width r)
shown_entry_feedless width (Own r) = reply_feedless width r

no_feeds : (xs : List ℕ) → HasNoFeed xs → feeds xs ≡ 0
no_feeds [] h = refl
no_feeds (x ∷ xs) h =
    let e : 0 + feeds xs ≡ feeds xs = omega arith in
    sum_by-cons (λ (b : ℕ). cond (b == 10) 1 0) x xs ∙ ap (λ (b : Bool). cond b 1 0 + feeds xs) (ne_eqb x 10 h.0) ∙ e ∙ no_feeds xs h.1

-- a text that ends with its only line feed
pub one_line : (front : List ℕ) → feedless front ≡ true → feeds (front ++ 10 ∷ []) ≡ 1
one_line front h = feeds-append front (10 ∷ []) ∙ ap (λ (n : ℕ). n + 1) (no_feeds front (no_feed front h))

pub entry_line : (width : Width) (number : ℕ) (entry : Entry) → feeds (entry_text width number entry) ≡ 1
unfolding entry_text
entry_line width number entry =
    one_line ((decimal number ++ codes " ") ++ shown_entry width entry)
    (feedless-append (decimal number ++ codes " ") (shown_entry width entry) (feedless-append (decimal number) (codes " ") (decimal_feedless number) refl) (shown_entry_feedless width entry))

entries_text-cons : (width : Width) (number : ℕ) (entry : Entry) (entries : List Entry) → entries_text width number (entry ∷ entries) ≡ entry_text width number entry ++ entries_text width number entries
unfolding entries_text
entries_text-cons width number entry entries = refl

-- ---- a trace: whole lines, none of which is empty

pub record IsTrace (text : List ℕ) : Type 0 where
  pub whole : IsWhole text
  pub full : HasNoEmptyLine text

-- what is known of whole lines
pub record WholeLines : Type 0 where
  pub first : LinesEndAtFeeds
  pub whole : FeedsMakeWhole
  pub joined : WholeTextsJoin

pub no_trace : IsTrace []
unfolding lines
no_trace = record { whole = tt; full = tt }

other_bytes : (xs : List ℕ) → HasNoFeed xs → HasNoLineFeed xs
other_bytes [] h = tt
other_bytes (x ∷ xs) h = (h.0, other_bytes xs h.1)

pub line_before : WholeLines → (front behind : List ℕ) → feedless front ≡ true → 0 < length front → IsTrace behind → IsTrace ((front ++ 10 ∷ []) ++ behind)
line_before known front behind h some t = record {
  whole = known.joined (front ++ 10 ∷ []) behind (known.whole front) t.whole;
  full =
      let first : lines ((front ++ 10 ∷ []) ++ behind) ≡ front ∷ lines behind = ap lines (append_assoc front (10 ∷ []) behind) ∙ known.first front behind (other_bytes front (no_feed front h)) in
      subst (AllByRecursion (λ (line : List ℕ). 0 < length line)) (sym first) (some, t.full);
}

pub entry_before : WholeLines → (width : Width) (number : ℕ) (entry : Entry) (behind : List ℕ) → IsTrace behind → IsTrace (entry_text width number entry ++ behind)
unfolding entry_text
entry_before known width number entry behind t =
    let front = decimal number ++ codes " " in
    line_before known (front ++ shown_entry width entry) behind
    (feedless-append front (shown_entry width entry) (feedless-append (decimal number) (codes " ") (decimal_feedless number) refl) (shown_entry_feedless width entry))
    (let one : length (codes " ") ≡ 1 = refl in omega (arith, one, length-append front (shown_entry width entry), length-append (decimal number) (codes " "))) t

pub entries_before : WholeLines → (width : Width) (number : ℕ) (entries : List Entry) (behind : List ℕ) → IsTrace behind → IsTrace (entries_text width number entries ++ behind)
entries_before known width number [] behind t = subst (λ (l : List ℕ). IsTrace (l ++ behind)) (sym (entries_text-nil width number)) t
entries_before known width number (entry ∷ entries) behind t =
    subst IsTrace (sym (append_assoc (entry_text width number entry) (entries_text width number entries) behind) ∙ ap (λ (l : List ℕ). l ++ behind) (sym (entries_text-cons width number entry entries)))
    (entry_before known width number entry (entries_text width number entries ++ behind) (entries_before known width number entries behind t))

pub steps_before : WholeLines → (shape : Shape) (number : ℕ) (steps : List Step) (behind : List ℕ) → IsTrace behind → IsTrace (steps_text shape number steps ++ behind)
steps_before known shape number [] behind t = t
steps_before known shape number (s ∷ more) behind t =
    subst IsTrace (sym (append_assoc (entries_text shape.width number s.entries) (steps_text shape (number + 1) more) behind))
    (entries_before known shape.width number s.entries (steps_text shape (number + 1) more ++ behind) (steps_before known shape (number + 1) more behind t))

-- the whole text of a replay, with its closing line
pub replay_trace : WholeLines → (shape : Shape) (number count : ℕ) (steps : List Step) → IsTrace (steps_text shape number steps ++ done_text count)
replay_trace known shape number count steps =
    let front = codes "end ok " ++ decimal count in
    let seven : length (codes "end ok ") ≡ 7 = refl in
    steps_before known shape number steps (done_text count)
    (subst IsTrace (append-nil (done_text count)) (line_before known front [] (feedless-append (codes "end ok ") (decimal count) refl (decimal_feedless count)) (omega (arith, seven, length-append (codes "end ok ") (decimal count))) no_trace))

pub done_line : (count : ℕ) → feeds (done_text count) ≡ 1
done_line count = one_line (codes "end ok " ++ decimal count) (feedless-append (codes "end ok ") (decimal count) refl (decimal_feedless count))

-- ---- texts that are compared one after another

pub compares-then : (a b c : Comparison) (t u : List ℕ) (x y z : Option (List ℕ)) → Compares a b t x y → Compares b c u y z → Compares a c (t ++ u) x z
compares-then a b c t u x y z p q = λ expected given h.
    subst (λ (l : List ℕ). StandsBy c.state c.tally l given z) (append_assoc expected t u) (q (expected ++ t) given (p expected given h))

pub compares-none : (a : Comparison) (x : Option (List ℕ)) → Compares a a [] x x
compares-none a x = λ expected given h. subst (λ (l : List ℕ). StandsBy a.state a.tally l given x) (sym (append-nil expected)) h

-- the text so far, and that of the rest, are the text of all
pub record SoFar (width : Width) (number : ℕ) (all rest : List Entry) (a b : Comparison) (x y : Option (List ℕ)) : Type 0 where
  pub text : List ℕ
  pub compared : Compares a b text x y
  pub total : text ++ entries_text width number rest ≡ entries_text width number all

pub so_far_none : (width : Width) (number : ℕ) (all : List Entry) (a : Comparison) (x : Option (List ℕ)) → SoFar width number all all a a x x
so_far_none width number all a x = record { text = []; compared = compares-none a x; total = refl }

pub so_far_next : (width : Width) (number : ℕ) (all rest rest' : List Entry) (entry : Entry) (text : List ℕ) (a b c : Comparison) (x y z : Option (List ℕ)) → rest' ≡ entry ∷ rest
    → text ≡ entry_text width number entry → SoFar width number all rest' a b x y → Compares b c text y z → SoFar width number all rest a c x z
so_far_next width number all rest rest' entry text a b c x y z e t so next = record {
  text = so.text ++ text;
  compared = compares-then a b c so.text text x y z so.compared next;
  total =
      append_assoc so.text text (entries_text width number rest) ∙ ap (λ (l : List ℕ). so.text ++ (l ++ entries_text width number rest)) t
      ∙ ap (λ (l : List ℕ). so.text ++ l) (sym (entries_text-cons width number entry rest)) ∙ ap (λ (l : List Entry). so.text ++ entries_text width number l) (sym e) ∙ so.total;
}

pub so_far_all : (width : Width) (number : ℕ) (all rest : List Entry) (a b : Comparison) (x y : Option (List ℕ)) → rest ≡ [] → SoFar width number all rest a b x y
    → Compares a b (entries_text width number all) x y
so_far_all width number all rest a b x y e so =
    let whole : so.text ≡ entries_text width number all =
    sym (append-nil so.text) ∙ ap (λ (l : List ℕ). so.text ++ l) (sym (entries_text-nil width number)) ∙ ap (λ (l : List Entry). so.text ++ entries_text width number l) (sym e) ∙ so.total in
    subst (λ (l : List ℕ). Compares a b l x y) whole so.compared

-- some entries and then one
pub compares_answer : TracesJoin → (width : Width) (number : ℕ) (log : List Entry) (own : Entry) (text : List ℕ) (a b c : Comparison) (x y z : Option (List ℕ)) → Compares a b (entries_text width number log) x y
    → text ≡ entry_text width number own → Compares b c text y z → Compares a c (entries_text width number (log ++ own ∷ [])) x z
compares_answer join width number log own text a b c x y z p e q =
    subst (λ (l : List ℕ). Compares a c l x z) (ap (λ (l : List ℕ). entries_text width number log ++ l) e ∙ sym (entries_text-then join width number log own))
    (compares-then a b c (entries_text width number log) text x y z p q)

-- ---- one line of a replay

-- its entries were compared
pub played_one : (shape : Shape) (number : ℕ) (m m' : Machine) (line : Line) (entries : List Entry) (old new : Comparison) (a b : Option (List ℕ)) (tape tape' : Option (List Touch))
    → Steps m m' line entries tape tape' → Compares old new (entries_text shape.width number entries) a b → Played shape number m m' (line ∷ []) old new a b tape tape'
played_one shape number m m' line entries old new a b tape tape' s p = record {
  compared = subst (λ (l : List ℕ). Compares old new l a b) (ap (entries_text shape.width number) (sym s.entries) ∙ sym (run_text-one shape m number line)) p;
  taped = subst (Logs tape tape') (sym (run_touches-one m line)) s.taped;
  after = sym s.after;
}

-- it has none
pub played_none : (shape : Shape) (number : ℕ) (m m' : Machine) (line : Line) (a : Comparison) (x : Option (List ℕ)) (tape tape' : Option (List Touch)) → Steps m m' line [] tape tape'
    → Played shape number m m' (line ∷ []) a a x x tape tape'
played_none shape number m m' line a x tape tape' s =
    played_one shape number m m' line [] a a x x tape tape' s (subst (λ (l : List ℕ). Compares a a l x x) (sym (entries_text-nil shape.width number)) (compares-none a x))
