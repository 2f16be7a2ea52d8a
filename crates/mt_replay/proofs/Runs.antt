-- Lines that are run one after another.
use Rattle.std.proofs.Common.{ℕ, ◌+◌, ◌-◌, ◌<◌, ◌≤◌, ◌≡◌, ◌≢◌, Bool, true, false, cond, inl, inr, List, [], ◌∷◌, ◌++◌, length, take, Option, Some, None, Result, Ok, Err, refl, sym, ap, subst, ◌∙◌, arith, append_assoc, length-append}
use Rattle.std.specs.Prelude.{nat_lt}
use Rattle.std.proofs.lemmas.Bool.{le-ltb, lt-ltb}
use Rattle.std.specs.Io.KnownBytes.{prepend_known, Appends}
use Rattle.mt_port.specs.Streams.{WhereTold, AppendsFront}
use Rattle.mt_port.specs.Board.{Board, Logs}
use Rattle.mt_port.specs.declared.board.Shape.{Shape}
use Rattle.mt_port.specs.declared.board.Touch.{Touch}
use Rattle.mt_port.specs.declared.stream.Failed.{Failed as StreamFailed}
use Rattle.mt_port.specs.Inner.Streams.{Appends-nil, Appends-trans, WhereTold-then, AppendsFront-after, Logs-nil, Logs-append, WhereTold-map}
use Rattle.mt_text.specs.declared.line.Line.{Line as ScriptLine}
use Rattle.mt_replay.specs.declared.form.Form.{Form}
use Rattle.mt_replay.specs.declared.form.Form.TheVariants as forms
use Rattle.mt_replay.specs.declared.input.Line.TheVariants as line
use Rattle.mt_replay.specs.declared.run.End.{End}
use Rattle.mt_replay.specs.declared.run.End.TheVariants as end
use Rattle.mt_replay.specs.declared.run.Turn.{Turn}
use Rattle.mt_replay.specs.declared.run.Turn.TheVariants as turn
use Rattle.mt_replay.specs.Input.{Ending, Finished, Failed, Cut, cut, led, begun}
use Rattle.mt_replay.specs.Inner.Reading.{HasNoFeed, BeginsTooLong, TakesLine as TakesBytes, BreaksOff}
use Rattle.mt_machine.specs.Machine.{Machine, Play}
use Rattle.mt_replay.specs.Script.{Script, ended, led_by, judged, last_judged, lines_from, script_from}
use Rattle.mt_replay.specs.Outcome.{play_of, steps_touches}
use Rattle.mt_replay.specs.Changes.{Change, change, IsWritten, UsesBoard}
use Rattle.mt_replay.specs.Inner.Runs.{outputs, Place, place, text_at, touches_at, Answered, Crosses, Goes, EndsAt, Ends, Stops, LineGives, LastGives, TurnGives, ScriptGives}
use Rattle.mt_replay.proofs.Feeds.{feed_or_not}
use Rattle.mt_replay.proofs.Lines.{cut-line, cut-rest, Filled}
use Rattle.mt_replay.proofs.Plays.{play_of-append, play_of-nil, touches-append, lines_text-append, lines_text-nil}

-- ---- the board

pub UsesBoard-none : (form : Form) (b : Board) (tape : Option (List Touch)) → UsesBoard form b b tape tape
UsesBoard-none forms.Run b tape = refl
UsesBoard-none forms.Check b tape = (refl, refl)
UsesBoard-none forms.Format b tape = (refl, refl)
UsesBoard-none forms.Migrate b tape = (refl, refl)
UsesBoard-none (forms.Cut ask) b tape = (refl, refl)

pub UsesBoard-then : (form : Form) (a b d : Board) (tape tape' tape'' : Option (List Touch)) → UsesBoard form a b tape tape' → UsesBoard form b d tape' tape'' → UsesBoard form a d tape tape''
UsesBoard-then forms.Run a b d tape tape' tape'' p q = q ∙ p
UsesBoard-then forms.Check a b d tape tape' tape'' p q = (q.0 ∙ p.0, q.1 ∙ p.1)
UsesBoard-then forms.Format a b d tape tape' tape'' p q = (q.0 ∙ p.0, q.1 ∙ p.1)
UsesBoard-then forms.Migrate a b d tape tape' tape'' p q = (q.0 ∙ p.0, q.1 ∙ p.1)
UsesBoard-then (forms.Cut ask) a b d tape tape' tape'' p q = (q.0 ∙ p.0, q.1 ∙ p.1)

-- ---- lines that are answered one after another

-- the place behind some lines
abbrev behind : Place → List ScriptLine → Place
behind p lines = record p { number = p.number + length lines }

pub Answered-none : (p : Place) (m : Machine) (left left' held : Option (List ℕ)) (tape : Option (List Touch)) → Answered p m m [] (change left left' held held tape tape)
Answered-none p m left left' held tape = record {
  written = subst (Appends held held) (sym (lines_text-nil p.form p.shape m p.number)) (Appends-nil held);
  taped = subst (Logs tape tape) (sym (ap (λ (play : Play). steps_touches play.steps) (play_of-nil p.form m))) (Logs-nil tape);
  after = sym (ap (λ (play : Play). play.after) (play_of-nil p.form m));
}

-- what lines do to machine and tape, and then further ones
after-then : (p : Place) (m m' m'' : Machine) (a b : List ScriptLine) → m' ≡ (play_of p.form m a).after → m'' ≡ (play_of p.form m' b).after → m'' ≡ (play_of p.form m (a ++ b)).after
after-then p m m' m'' a b first second =
    second ∙ ap (λ (n : Machine). (play_of p.form n b).after) first ∙ sym (ap (λ (play : Play). play.after) (play_of-append p.form m a b))

taped-then : (p : Place) (m m' : Machine) (a b : List ScriptLine) (t t' t'' : Option (List Touch)) → m' ≡ (play_of p.form m a).after → Logs t t' (touches_at p m a) → Logs t' t'' (touches_at p m' b)
    → Logs t t'' (touches_at p m (a ++ b))
taped-then p m m' a b t t' t'' after first second =
    let mid = (play_of p.form m a).after in
    subst (Logs t t'') (sym (ap (λ (play : Play). steps_touches play.steps) (play_of-append p.form m a b) ∙ touches-append (play_of p.form m a).steps (play_of p.form mid b).steps))
    (Logs-append t t' t'' (touches_at p m a) (touches_at p mid b) first (subst (λ (n : Machine). Logs t' t'' (touches_at p n b)) after second))

pub Answered-then : (p : Place) (m m' m'' : Machine) (a b : List ScriptLine) (x y : Change) (held : Option (List ℕ)) (tape : Option (List Touch)) → y.held ≡ x.held' → y.tape ≡ x.tape'
    → Answered p m m' a x → Answered (behind p a) m' m'' b y → Answered p m m'' (a ++ b) (record x { left' = y.left'; held' = y.held'; tape' = y.tape' })
Answered-then p m m' m'' a b x y held tape eh et q r =
    let mid = (play_of p.form m a).after in
    let second = subst (λ (n : Machine). Answered (behind p a) n m'' b y) q.after r in
    record {
      written = subst (Appends x.held y.held') (sym (lines_text-append p.form p.shape m p.number a b))
          (Appends-trans x.held x.held' y.held' (text_at p m a) (text_at (behind p a) mid b) q.written (subst (λ (h : Option (List ℕ)). Appends h y.held' (text_at (behind p a) mid b)) eh second.written));
      taped = taped-then p m m' a b x.tape x.tape' y.tape' q.after q.taped (subst (λ (t : Option (List Touch)). Logs t y.tape' (touches_at p m' b)) et r.taped);
      after = after-then p m m' m'' a b q.after r.after;
    }

-- a whole text, and then another
pub written_then : (a b c : Option (List ℕ)) (text more : List ℕ) → Appends a b text → Appends b c more → IsWritten a c text
written_then None b c text more p q = tt
written_then (Some x) None c text more p q = absurd p
written_then (Some x) (Some y) None text more p q = absurd q
written_then (Some x) (Some y) (Some z) text more p q = (more, q ∙ ap (λ (l : List ℕ). l ++ more) p)

pub written_more : (a b c : Option (List ℕ)) (text more : List ℕ) → Appends a b text → IsWritten b c more → IsWritten a c (text ++ more)
written_more None b c text more p q = tt
written_more (Some x) None c text more p q = absurd p
written_more (Some x) (Some y) None text more p q = absurd q
written_more (Some x) (Some y) (Some z) text more p q =
    (q.0, q.1 ∙ ap (λ (l : List ℕ). (l ++ more) ++ q.0) p ∙ ap (λ (l : List ℕ). l ++ q.0) (append_assoc x text more))

pub front_begun : (a b : Option (List ℕ)) (text : List ℕ) → AppendsFront a b text → IsWritten a b []
front_begun a b text front = written_then a a b [] (take front.count text) (Appends-nil a) front.front

-- the front of a later text, behind that of the lines before
fronts : (p : Place) (m m' : Machine) (a b : List ScriptLine) (h h' h'' : Option (List ℕ)) → Appends h h' (text_at p m a) → m' ≡ (play_of p.form m a).after → AppendsFront h' h'' (text_at (behind p a) m' b)
    → AppendsFront h h'' (text_at p m (a ++ b))
fronts p m m' a b h h' h'' written after front =
    subst (AppendsFront h h'') (sym (lines_text-append p.form p.shape m p.number a b))
    (AppendsFront-after h h' h'' (text_at p m a) (text_at (behind p a) (play_of p.form m a).after b) written (subst (λ (n : Machine). AppendsFront h' h'' (text_at (behind p a) n b)) after front))

pub led_by-append : (a b : List ScriptLine) (s : Script) → led_by a (led_by b s) ≡ led_by (a ++ b) s
led_by-append a b s = ap (λ (l : List ScriptLine). let r : Script = record { lines = l; end = s.end } in r) (sym (append_assoc a b s.lines))

-- ---- one line

whole-is : (shape : Shape) (ending : Ending) (n : ℕ) (text after : List ℕ) (before : List ℕ) → before ≡ text ++ 10 ∷ after → HasNoFeed text
    → script_from shape ending n (cut before) ≡ judged shape n text (script_from shape ending (n + 1) (cut after))
whole-is shape ending n text after before e feeds = ap (λ (l : List ℕ). script_from shape ending n (cut l)) e ∙ ap (script_from shape ending n) (cut-line text after feeds)

-- no text stands before that of the first line
nothing_written : (form : Form) (shape : Shape) (n : ℕ) (m : Machine) (held held' : Option (List ℕ)) (l : ScriptLine) → AppendsFront held held' (text_at (place form shape n) m (l ∷ []))
    → IsWritten held held' (text_at (place form shape n) m [])
nothing_written form shape n m held held' l front =
    subst (IsWritten held held') (sym (lines_text-nil form shape m n)) (front_begun held held' (text_at (place form shape n) m (l ∷ [])) front)

-- a whole line was read and judged
pub whole_turn : (r : Result Turn StreamFailed) (form : Form) (shape : Shape) (n : ℕ) (m m' : Machine) (text : List ℕ) (a b held held' : Option (List ℕ)) (tape tape' : Option (List Touch))
    → WhereTold a b (TakesBytes line.Whole text) → LineGives r (place form shape n) (judged shape n text) m m' (outputs held held' tape tape')
    → TurnGives r (place form shape n) m m' (change a b held held' tape tape')
whole_turn (Ok turn.More) form shape n m m' text a b held held' tape tape' p q = record {
  lines = q.line ∷ [];
  answered = record { written = q.answered.written; taped = q.answered.taped; after = q.answered.after };
  count = refl;
  crosses = WhereTold-map a b p (λ x y h. record {
    front = text ++ 10 ∷ [];
    taken = h.0 ∙ sym (append_assoc text (10 ∷ []) y);
    script = λ ending rest. whole-is shape ending n text rest ((text ++ 10 ∷ []) ++ rest) (append_assoc text (10 ∷ []) rest) h.1 ∙ q.is (script_from shape ending (n + 1) (cut rest));
  });
}
whole_turn (Ok (turn.Ended (end.Whole count))) form shape n m m' text a b held held' tape tape' p q = absurd q.refusal
whole_turn (Ok (turn.Ended (end.Refused line code at))) form shape n m m' text a b held held' tape tape' p q = record {
  lines = [];
  answered = subst (λ (k : Machine). Answered (place form shape n) m k [] (change a b held held' tape tape')) (sym q.after) (record {
    written = subst (Appends held held') (sym (lines_text-nil form shape m n)) q.written;
    taped = subst (Logs tape tape') (sym (ap (λ (play : Play). steps_touches play.steps) (play_of-nil form m))) q.taped;
    after = sym (ap (λ (play : Play). play.after) (play_of-nil form m));
  });
  script = WhereTold-map a b p (λ x y h. whole-is shape Finished n text y x h.0 h.1 ∙ q.is (script_from shape Finished (n + 1) (cut y)));
}
whole_turn (Ok (turn.Ended end.Broken)) form shape n m m' text a b held held' tape tape' p q = absurd q.refusal
whole_turn (Err failed) form shape n m m' text a b held held' tape tape' p q = record {
  lines = [];
  line = q.line;
  whole = nothing_written form shape n m held held' q.line q.breaks.written;
  written = q.breaks.written;
  taped = q.breaks.taped;
  after = q.breaks.after;
  script = WhereTold-map a b p (λ x y h. record {
    more = script_from shape Finished (n + 1) (cut y);
    script = whole-is shape Finished n text y x h.0 h.1 ∙ q.is (script_from shape Finished (n + 1) (cut y));
  });
}

last-is : (shape : Shape) (n : ℕ) (text : List ℕ) → 0 < length text → last_judged shape Finished n text ≡ judged shape n text (ended (end.Whole n))
last-is shape n [] h = absurd (omega arith)
last-is shape n (byte ∷ bytes) h = refl

pub last-from : (shape : Shape) (n : ℕ) (text before after : List ℕ) → TakesBytes line.Last text before after → script_from shape Finished n (cut before) ≡ judged shape n text (ended (end.Whole n))
last-from shape n text before after h =
    ap (λ (bytes : List ℕ). script_from shape Finished n (cut bytes)) h.0 ∙ ap (script_from shape Finished n) (cut-rest text h.1) ∙ last-is shape n text h.2

-- a last line without a line feed was read and judged
pub last_turn : (r : Result End StreamFailed) (form : Form) (shape : Shape) (n : ℕ) (m m' : Machine) (text : List ℕ) (a b held held' : Option (List ℕ)) (tape tape' : Option (List Touch))
    → WhereTold a b (TakesBytes line.Last text) → LastGives r (place form shape n) (judged shape n text) m m' (outputs held held' tape tape')
    → ScriptGives r (place form shape n) m m' (change a b held held' tape tape')
last_turn (Ok (end.Whole count)) form shape n m m' text a b held held' tape tape' p q = record {
  lines = q.1.line ∷ [];
  answered = record { written = q.1.answered.written; taped = q.1.answered.taped; after = q.1.answered.after };
  script = WhereTold-map a b p (λ x y h. (
    last-from shape n text x y h ∙ q.1.is (ended (end.Whole n)) ∙ ap (λ (c : ℕ). let s : Script = record { lines = q.1.line ∷ []; end = end.Whole c } in s) (sym q.0),
    h.3,
  ));
}
last_turn (Ok (end.Refused line code at)) form shape n m m' text a b held held' tape tape' p q = record {
  lines = [];
  answered = subst (λ (k : Machine). Answered (place form shape n) m k [] (change a b held held' tape tape')) (sym q.after) (record {
    written = subst (Appends held held') (sym (lines_text-nil form shape m n)) q.written;
    taped = subst (Logs tape tape') (sym (ap (λ (play : Play). steps_touches play.steps) (play_of-nil form m))) q.taped;
    after = sym (ap (λ (play : Play). play.after) (play_of-nil form m));
  });
  script = WhereTold-map a b p (λ x y h. last-from shape n text x y h ∙ q.is (ended (end.Whole n)));
}
last_turn (Ok end.Broken) form shape n m m' text a b held held' tape tape' p q = absurd q
last_turn (Err failed) form shape n m m' text a b held held' tape tape' p q = record {
  lines = [];
  line = q.line;
  whole = nothing_written form shape n m held held' q.line q.breaks.written;
  written = q.breaks.written;
  taped = q.breaks.taped;
  after = q.breaks.after;
  script = WhereTold-map a b p (λ x y h. record { more = ended (end.Whole n); script = last-from shape n text x y h ∙ q.is (ended (end.Whole n)) });
}

-- an end that comes without a line
pub bare_end : (e : End) (form : Form) (shape : Shape) (n : ℕ) (m : Machine) (a b held : Option (List ℕ)) (tape : Option (List Touch)) → WhereTold a b (EndsAt e shape n []) → Ends (place form shape n) m m e (change a b held held tape tape)
bare_end e form shape n m a b held tape p = record { lines = []; answered = Answered-none (place form shape n) m a b held tape; script = p }

pub end_is : (shape : Shape) (n : ℕ) (text : List ℕ) (a b : Option (List ℕ)) → WhereTold a b (TakesBytes line.End text) → WhereTold a b (EndsAt (end.Whole (n - 1)) shape n [])
end_is shape n text a b p = WhereTold-map a b p (λ x y h. (ap (λ (bytes : List ℕ). script_from shape Finished n (cut bytes)) h.0, h.1))

judged-long : (shape : Shape) (n : ℕ) (text : List ℕ) (more : Script) → n ≤ 1000000 → 1024 < length text → judged shape n text more ≡ ended (end.Refused n 10 1025)
judged-long shape n text more few long =
    let one : nat_lt 1000000 n ≡ false = le-ltb _ _ few in
    let two : nat_lt 1024 (length text) ≡ true = lt-ltb _ _ long in
    rw (one, two) refl

long-from : (shape : Shape) (n : ℕ) (lines : List (List ℕ)) (rest : List ℕ) → n ≤ 1000000 → BeginsTooLong lines rest → lines_from shape Finished n lines rest ≡ ended (end.Refused n 10 1025)
long-from shape n [] [] few long = absurd (omega (arith, long))
long-from shape n [] (byte ∷ bytes) few long = judged-long shape n (byte ∷ bytes) _ few long
long-from shape n (first ∷ more) rest few long = judged-long shape n first _ few long

pub long_is : (shape : Shape) (n : ℕ) (text : List ℕ) (a b : Option (List ℕ)) → n ≤ 1000000 → WhereTold a b (TakesBytes line.TooLong text) → WhereTold a b (EndsAt (end.Refused n 10 1025) shape n [])
long_is shape n text a b few p = WhereTold-map a b p (λ x y h. long-from shape n (cut x).lines (cut x).rest few h)

broken-from : (shape : Shape) (n : ℕ) (text : List ℕ) → n ≤ 1000000 → length text ≤ 1024 → last_judged shape Failed n text ≡ ended end.Broken
broken-from shape n [] few short = refl
broken-from shape n (byte ∷ bytes) few short =
    let one : nat_lt 1000000 n ≡ false = le-ltb _ _ few in
    let two : nat_lt 1024 (length (byte ∷ bytes)) ≡ false = le-ltb _ _ short in
    rw (one, two) refl

pub broken_is : (shape : Shape) (n : ℕ) (text : List ℕ) (a b : Option (List ℕ)) → n ≤ 1000000 → WhereTold a b (BreaksOff text) → WhereTold a b (EndsAt end.Broken shape n [])
broken_is shape n text a b few p =
    WhereTold-map a b p (λ x y h. record { front = text; taken = h.taken; script = ap (script_from shape Failed n) (cut-rest text h.line) ∙ broken-from shape n text few h.short })

-- ---- several lines

-- nothing is run yet
pub Goes-none : (form : Form) (shape : Shape) (n : ℕ) (m : Machine) (a held : Option (List ℕ)) (tape : Option (List Touch)) → Goes (place form shape n) m m n (change a a held held tape tape)
Goes-none form shape n m a held tape = record { lines = []; answered = Answered-none (place form shape n) m a a held tape; count = (let e : n ≡ n + 0 = omega arith in e); crosses = told a }
  where
    told : (x : Option (List ℕ)) → WhereTold x x (Crosses shape n n [])
    told None = tt
    told (Some xs) = record { front = []; taken = refl; script = λ ending rest. refl }

crossed : (shape : Shape) (n n' : ℕ) (lines : List ScriptLine) (before after : List ℕ) → Crosses shape n n' lines before after
    → script_from shape Finished n (cut before) ≡ led_by lines (script_from shape Finished n' (cut after))
crossed shape n n' lines before after e = ap (λ (l : List ℕ). script_from shape Finished n (cut l)) e.taken ∙ e.script Finished after

-- a turn behind the lines before, as one place further
at_number : (form : Form) (shape : Shape) (n n' k : ℕ) (P : Place → Type 0) → n' ≡ n + k → P (place form shape n') → P (place form shape (n + k))
at_number form shape n n' k P e h = subst (λ (i : ℕ). P (place form shape i)) e h

pub Goes-goes : (form : Form) (shape : Shape) (n n' n'' : ℕ) (m m' m'' : Machine) (a b d held held' held'' : Option (List ℕ)) (tape tape' tape'' : Option (List Touch))
    → Goes (place form shape n) m m' n' (change a b held held' tape tape') → Goes (place form shape n') m' m'' n'' (change b d held' held'' tape' tape'')
    → Goes (place form shape n) m m'' n'' (change a d held held'' tape tape'')
Goes-goes form shape n n' n'' m m' m'' a b d held held' held'' tape tape' tape'' p q =
    let x = change a b held held' tape tape' in
    let y = change b d held' held'' tape' tape'' in
    let second = at_number form shape n n' (length p.lines) (λ (w : Place). Answered w m' m'' q.lines y) p.count q.answered in
    record {
      lines = p.lines ++ q.lines;
      answered = Answered-then (place form shape n) m m' m'' p.lines q.lines x y held' tape' refl refl p.answered second;
      count = (let c = p.count in let e = q.count in let l = length-append p.lines q.lines in let g : n'' ≡ n + length (p.lines ++ q.lines) = omega (arith, c, e, l) in g);
      crosses = WhereTold-then a b d p.crosses q.crosses (λ u v w e f. record {
        front = e.front ++ f.front;
        taken = e.taken ∙ ap (λ (l : List ℕ). e.front ++ l) f.taken ∙ sym (append_assoc e.front f.front w);
        script = λ ending rest.
            ap (λ (l : List ℕ). script_from shape ending n (cut l)) (append_assoc e.front f.front rest) ∙ e.script ending (f.front ++ rest)
            ∙ ap (led_by p.lines) (f.script ending rest) ∙ led_by-append p.lines q.lines (script_from shape ending n'' (cut rest));
      });
    }

ends-behind : (e : End) (shape : Shape) (n n' : ℕ) (a b : List ScriptLine) (x y z : List ℕ) → Crosses shape n n' a x y → EndsAt e shape n' b y z → EndsAt e shape n (a ++ b) x z
ends-behind (end.Whole count) shape n n' a b x y z c h = (crossed shape n n' a x y c ∙ ap (led_by a) h.0, h.1)
ends-behind (end.Refused line code at) shape n n' a b x y z c h = crossed shape n n' a x y c ∙ ap (led_by a) h
ends-behind end.Broken shape n n' a b x y z c h = record {
  front = c.front ++ h.front;
  taken = c.taken ∙ ap (λ (l : List ℕ). c.front ++ l) h.taken ∙ sym (append_assoc c.front h.front z);
  script = c.script Failed h.front ∙ ap (led_by a) h.script;
}

pub Goes-ends : (e : End) (form : Form) (shape : Shape) (n n' : ℕ) (m m' m'' : Machine) (a b d held held' held'' : Option (List ℕ)) (tape tape' tape'' : Option (List Touch))
    → Goes (place form shape n) m m' n' (change a b held held' tape tape') → Ends (place form shape n') m' m'' e (change b d held' held'' tape' tape'')
    → Ends (place form shape n) m m'' e (change a d held held'' tape tape'')
Goes-ends e form shape n n' m m' m'' a b d held held' held'' tape tape' tape'' p q =
    let x = change a b held held' tape tape' in
    let y = change b d held' held'' tape' tape'' in
    let second = at_number form shape n n' (length p.lines) (λ (w : Place). Answered w m' m'' q.lines y) p.count q.answered in
    record {
      lines = p.lines ++ q.lines;
      answered = Answered-then (place form shape n) m m' m'' p.lines q.lines x y held' tape' refl refl p.answered second;
      script = WhereTold-then a b d p.crosses q.script (λ u v w c h. ends-behind e shape n n' p.lines q.lines u v w c h);
    }

-- the text of lines was written, and then that of further ones
wholes : (p : Place) (m m' : Machine) (a b : List ScriptLine) (h h' h'' : Option (List ℕ)) → Appends h h' (text_at p m a) → m' ≡ (play_of p.form m a).after → IsWritten h' h'' (text_at (behind p a) m' b)
    → IsWritten h h'' (text_at p m (a ++ b))
wholes p m m' a b h h' h'' written after more =
    subst (IsWritten h h'') (sym (lines_text-append p.form p.shape m p.number a b))
    (written_more h h' h'' (text_at p m a) (text_at (behind p a) (play_of p.form m a).after b) written (subst (λ (n : Machine). IsWritten h' h'' (text_at (behind p a) n b)) after more))

pub Goes-stops : (form : Form) (shape : Shape) (n n' : ℕ) (m m' m'' : Machine) (a b d held held' held'' : Option (List ℕ)) (tape tape' tape'' : Option (List Touch))
    → Goes (place form shape n) m m' n' (change a b held held' tape tape') → Stops (place form shape n') m' m'' (change b d held' held'' tape' tape'')
    → Stops (place form shape n) m m'' (change a d held held'' tape tape'')
Goes-stops form shape n n' m m' m'' a b d held held' held'' tape tape' tape'' p q =
    let here = place form shape n in
    let all = q.lines ++ q.line ∷ [] in
    let joined = sym (append_assoc p.lines q.lines (q.line ∷ [])) in
    let done = p.answered in
    let whole = at_number form shape n n' (length p.lines) (λ (w : Place). IsWritten held' held'' (text_at w m' q.lines)) p.count q.whole in
    let front = at_number form shape n n' (length p.lines) (λ (w : Place). AppendsFront held' held'' (text_at w m' all)) p.count q.written in
    record {
      lines = p.lines ++ q.lines;
      line = q.line;
      whole = wholes here m m' p.lines q.lines held held' held'' done.written done.after whole;
      written = subst (λ (l : List ScriptLine). AppendsFront held held'' (text_at here m l)) joined (fronts here m m' p.lines all held held' held'' done.written done.after front);
      taped = subst (λ (l : List ScriptLine). Logs tape tape'' (touches_at here m l)) joined (taped-then here m m' p.lines all tape tape' tape'' done.after done.taped q.taped);
      after = subst (λ (l : List ScriptLine). m'' ≡ (play_of form m l).after) joined (after-then here m m' m'' p.lines all done.after q.after);
      script = WhereTold-then a b d p.crosses q.script (λ u v w c h. record {
        more = h.more;
        script = crossed shape n n' p.lines u v c ∙ ap (led_by p.lines) h.script ∙ led_by-append p.lines all h.more ∙ ap (λ (l : List ScriptLine). led_by l h.more) joined;
      });
    }

-- a turn that ends the script, behind the lines before
pub turn_ends : (r : Result End StreamFailed) (form : Form) (shape : Shape) (n n' : ℕ) (m m' m'' : Machine) (a b d held held' held'' : Option (List ℕ)) (tape tape' tape'' : Option (List Touch))
    → Goes (place form shape n) m m' n' (change a b held held' tape tape') → ScriptGives r (place form shape n') m' m'' (change b d held' held'' tape' tape'')
    → ScriptGives r (place form shape n) m m'' (change a d held held'' tape tape'')
turn_ends (Ok e) form shape n n' m m' m'' a b d held held' held'' tape tape' tape'' p q = Goes-ends e form shape n n' m m' m'' a b d held held' held'' tape tape' tape'' p q
turn_ends (Err failed) form shape n n' m m' m'' a b d held held' held'' tape tape' tape'' p q = Goes-stops form shape n n' m m' m'' a b d held held' held'' tape tape' tape'' p q

-- ---- beyond the last line that may be

past-from : (shape : Shape) (lines : List (List ℕ)) (rest : List ℕ) → ((lines ≡ []) → rest ≢ []) → lines_from shape Finished 1000001 lines rest ≡ ended (end.Refused 1000001 11 1)
past-from shape [] [] some = absurd (some refl refl)
past-from shape [] (byte ∷ bytes) some = refl
past-from shape (first ∷ more) rest some = refl

-- some bytes are a line or a part of one
pub cut-some : (bytes : List ℕ) → 0 < length bytes → (cut bytes).lines ≡ [] → (cut bytes).rest ≢ []
cut-some [] h e f = omega arith
cut-some (byte ∷ bytes) h e f = elim (feed_or_not byte) [
  | inl is ↦ (let lines : (cut (byte ∷ bytes)).lines ≡ [] ∷ (cut bytes).lines = ap (λ (b : Bool). (cond b (led [] (cut bytes)) (begun byte (cut bytes).lines (cut bytes).rest)).lines) is.0 in cc)
  | inr is ↦ (let all : cut (byte ∷ bytes) ≡ begun byte (cut bytes).lines (cut bytes).rest = ap (λ (b : Bool). cond b (led [] (cut bytes)) (begun byte (cut bytes).lines (cut bytes).rest)) is.0 in
      some_begun byte (cut bytes).lines (cut bytes).rest (sym (ap (λ (k : Cut). k.lines) all) ∙ e) (sym (ap (λ (k : Cut). k.rest) all) ∙ f))
]
  where
    some_begun : (byte : ℕ) (lines : List (List ℕ)) (rest : List ℕ) → (begun byte lines rest).lines ≡ [] → (begun byte lines rest).rest ≡ [] → ⊥
    some_begun byte [] rest e f = cc
    some_begun byte (first ∷ more) rest e f = cc

pub told-some : (left : Option (List ℕ)) (held : List ℕ) → 0 < length held → WhereTold (prepend_known held left) (prepend_known held left) (λ before after. 0 < length before)
told-some None held h = tt
told-some (Some xs) held h = omega (arith, length-append held xs)

-- there is a line too many
pub past_line : (shape : Shape) (a left : Option (List ℕ)) (held : List ℕ) → 0 < length held → Filled true a (prepend_known held left)
    → WhereTold a (prepend_known held left) (EndsAt (end.Refused 1000001 11 1) shape 1000001 [])
past_line shape a left held h p =
    WhereTold-then a (prepend_known held left) (prepend_known held left) p (told-some left held h)
    (λ x y z e f. ap (λ (l : List ℕ). script_from shape Finished 1000001 (cut l)) e.0 ∙ past-from shape (cut y).lines (cut y).rest (cut-some y f))

-- there is none
pub past_end : (shape : Shape) (a b : Option (List ℕ)) → Filled false a b → WhereTold a b (EndsAt (end.Whole 1000000) shape 1000001 [])
past_end shape a b p = WhereTold-map a b p (λ x y e. (ap (λ (l : List ℕ). script_from shape Finished 1000001 (cut l)) (e.0 ∙ e.1 refl), e.1 refl))

-- the source failed there
pub past_broken : (shape : Shape) (a b : Option (List ℕ)) → WhereTold a b (λ before after. before ≡ after) → WhereTold a b (EndsAt end.Broken shape 1000001 [])
past_broken shape a b p = WhereTold-map a b p (λ x y e. record { front = []; taken = e; script = refl })
