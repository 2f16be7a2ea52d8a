-- What is spelled is taken, with its march; and where a text that isn't spelled breaks.
use Rattle.std.proofs.Common.{◌≡◌, ◌≢◌, ℕ, zero, suc, ◌+◌, ◌<◌, ◌≤◌, List, [], ◌∷◌, ◌++◌, length, take, drop, Option, Some, None, refl, sym, ap, subst, ◌∙◌, ◌⊎◌, inl, inr, codes, arith}
use Rattle.std.specs.List.{AllByRecursion}
use Rattle.std.proofs.lemmas.List.{take-append-drop}
use Rattle.std.specs.Option.{option_and_then}
use Rattle.mt_march.specs.declared.march.Op.{Op}
use Rattle.mt_march.specs.declared.march.Op.TheVariants.{R0, R1, W0, W1}
use Rattle.mt_march.specs.declared.march.Order.{Order}
use Rattle.mt_march.specs.declared.march.Order.TheVariants.{Up, Down, Either}
use Rattle.mt_march.specs.declared.march.Element.{Element}
use Rattle.mt_march.specs.declared.spelling.Expects.{Expects}
use Rattle.mt_march.specs.declared.spelling.Expects.TheVariants.{Brace, Direction, Parenthesis, Letter, Digit, Comma, Semicolon, Nothing}
use Rattle.mt_march.specs.Grammar.{Token, order_token, op_token, more_ops, all_ops, element_tokens, more_elements, IsNonEmpty, Spells, SpellsMarch, IsText, Begins, IsSpellingPlace}
use Rattle.mt_march.specs.Machine.{next, fault, fault_at_end, goes_on}
use Rattle.mt_march.specs.Value.{element, parts}
use Rattle.mt_march.proofs.Spelled.{run, run_from_fault, claim}

abbrev AreSpaces : List ℕ → Type 0
AreSpaces = AllByRecursion (λ byte. byte ≡ 32)

abbrev AreElements : List Element → Type 0
AreElements = AllByRecursion (λ e. IsNonEmpty e.ops.items)

-- spaces may stand here
abbrev Skips : Expects → Type 0
Skips Digit = ⊥
Skips _ = Unit {0}

one_space : (s : Expects) (bs : List ℕ) → Skips s → run s (32 ∷ bs) ≡ run s bs
one_space Brace bs h = refl
one_space Direction bs h = refl
one_space Parenthesis bs h = refl
one_space Letter bs h = refl
one_space Digit bs h = absurd h
one_space Comma bs h = refl
one_space Semicolon bs h = refl
one_space Nothing bs h = refl

run_spaces : (s : Expects) (spaces rest : List ℕ) → Skips s → AreSpaces spaces → run s (spaces ++ rest) ≡ run s rest
run_spaces s [] rest skips h = refl
run_spaces s (b ∷ bs) rest skips h = ap (λ (x : ℕ). run s (x ∷ (bs ++ rest))) h.0 ∙ one_space s (bs ++ rest) skips ∙ run_spaces s bs rest skips h.1

parts_spaces : (spaces rest : List ℕ) → AreSpaces spaces → parts (spaces ++ rest) ≡ parts rest
parts_spaces [] rest h = refl
parts_spaces (b ∷ bs) rest h = ap (λ (x : ℕ). parts (x ∷ (bs ++ rest))) h.0 ∙ parts_spaces bs rest h.1

-- the machine takes the text, and the march is this
abbrev Reads : Expects → List ℕ → List Op → List Element → Type 0
Reads s text ops es = (run s text ≡ Some Nothing) × (parts text ≡ (ops, es))

reads_end : (text : List ℕ) → AreSpaces text → Reads Nothing text [] []
reads_end [] h = (refl, refl)
reads_end (b ∷ bs) h =
    let more = reads_end bs h.1 in
    (ap (λ (x : ℕ). run Nothing (x ∷ bs)) h.0 ∙ more.0, ap (λ (x : ℕ). parts (x ∷ bs)) h.0 ∙ more.1)

record TokenAt (s : Expects) (token : Token) (tokens : List Token) (text : List ℕ) : Type 0 where
  rest : List ℕ
  spelled : Spells rest tokens
  runs : run s text ≡ run s (token ++ rest)
  has : parts text ≡ parts (token ++ rest)

token_at : (s : Expects) (token : Token) (tokens : List Token) (text : List ℕ) → Skips s → Spells text (token ∷ tokens) → TokenAt s token tokens text
token_at s token tokens text skips h = record {
  rest = h.1;
  spelled = h.4;
  runs = ap (run s) h.3 ∙ run_spaces s h.0 (token ++ h.1) skips h.2;
  has = ap parts h.3 ∙ parts_spaces h.0 (token ++ h.1) h.2;
}

op_run : (op : Op) (rest : List ℕ) → run Letter (op_token op ++ rest) ≡ run Comma rest
op_run R0 rest = refl
op_run R1 rest = refl
op_run W0 rest = refl
op_run W1 rest = refl

op_parts : (op : Op) (rest : List ℕ) → parts (op_token op ++ rest) ≡ (op ∷ (parts rest).0, (parts rest).1)
op_parts R0 rest = refl
op_parts R1 rest = refl
op_parts W0 rest = refl
op_parts W1 rest = refl

op_read : (op : Op) (ops : List Op) (es : List Element) (tokens : List Token) (text : List ℕ) → ((rest : List ℕ) → Spells rest tokens → Reads Comma rest ops es) → Spells text (op_token op ∷ tokens) → Reads Letter text (op ∷ ops) es
op_read op ops es tokens text more h =
    let t = token_at Letter (op_token op) tokens text tt h in
    let k = more t.rest t.spelled in
    (t.runs ∙ op_run op t.rest ∙ k.0, t.has ∙ op_parts op t.rest ∙ ap (λ (p : List Op × List Element). (op ∷ p.0, p.1)) k.1)

more_ops_read : (ops : List Op) (es : List Element) (tokens : List Token) → ((rest : List ℕ) → Spells rest tokens → Reads Semicolon rest [] es) → (text : List ℕ) → Spells text (more_ops ops tokens) → Reads Comma text ops es
more_ops_read [] es tokens more text h =
    let t = token_at Comma (codes ")") tokens text tt h in
    let k = more t.rest t.spelled in
    (t.runs ∙ k.0, t.has ∙ k.1)
more_ops_read (op ∷ ops) es tokens more text h =
    let t = token_at Comma (codes ",") (op_token op ∷ more_ops ops tokens) text tt h in
    let k = op_read op ops es (more_ops ops tokens) t.rest (more_ops_read ops es tokens more) t.spelled in
    (t.runs ∙ k.0, t.has ∙ k.1)

all_ops_read : (ops : List Op) (es : List Element) (tokens : List Token) (text : List ℕ) → IsNonEmpty ops → ((rest : List ℕ) → Spells rest tokens → Reads Semicolon rest [] es) → Spells text (all_ops ops tokens) → Reads Letter text ops es
all_ops_read [] es tokens text some more h = absurd some
all_ops_read (op ∷ ops) es tokens text some more h = op_read op ops es (more_ops ops tokens) text (more_ops_read ops es tokens more) h

order_run : (order : Order) (rest : List ℕ) → run Direction (order_token order ++ rest) ≡ run Parenthesis rest
order_run Up rest = refl
order_run Down rest = refl
order_run Either rest = refl

order_parts : (order : Order) (rest : List ℕ) → parts (order_token order ++ rest) ≡ ([], element order (parts rest).0 ∷ (parts rest).1)
order_parts Up rest = refl
order_parts Down rest = refl
order_parts Either rest = refl

element_read : (e : Element) (es : List Element) (text : List ℕ) → IsNonEmpty e.ops.items → ((rest : List ℕ) → Spells rest (more_elements es) → Reads Semicolon rest [] es) → Spells text (element_tokens e (more_elements es)) → Reads Direction text [] (e ∷ es)
element_read e es text some more h =
    let t = token_at Direction (order_token e.order) (codes "(" ∷ all_ops e.ops.items (more_elements es)) text tt h in
    let u = token_at Parenthesis (codes "(") (all_ops e.ops.items (more_elements es)) t.rest tt t.spelled in
    let k = all_ops_read e.ops.items es (more_elements es) u.rest some more u.spelled in (
      t.runs ∙ order_run e.order t.rest ∙ u.runs ∙ k.0,
      t.has ∙ order_parts e.order t.rest ∙ ap (λ (p : List Op × List Element). ([], element e.order p.0 ∷ p.1)) (u.has ∙ k.1),
    )

more_elements_read : (es : List Element) (text : List ℕ) → AreElements es → Spells text (more_elements es) → Reads Semicolon text [] es
more_elements_read [] text are h =
    let t = token_at Semicolon (codes "}") [] text tt h in
    let k = reads_end t.rest t.spelled in
    (t.runs ∙ k.0, t.has ∙ k.1)
more_elements_read (e ∷ es) text are h =
    let t = token_at Semicolon (codes ";") (element_tokens e (more_elements es)) text tt h in
    let k = element_read e es t.rest are.0 (λ rest spelled. more_elements_read es rest are.1 spelled) t.spelled in
    (t.runs ∙ k.0, t.has ∙ k.1)

-- a text that spells a march is taken, and its march is that one
pub march_read : (es : List Element) (text : List ℕ) → SpellsMarch text es → Reads Brace text [] es
march_read [] text h = absurd h.0.0
march_read (e ∷ es) text h =
    let t = token_at Brace (codes "{") (element_tokens e (more_elements es)) text tt h.1 in
    let k = element_read e es t.rest h.0.1.0 (λ rest spelled. more_elements_read es rest h.0.1.1 spelled) t.spelled in
    (t.runs ∙ k.0, t.has ∙ k.1)

-- ---- where a text breaks

bind_bind : (o : Option Expects) (f g h : Expects → Option Expects) → ((s : Expects) → h s ≡ option_and_then g (f s)) → option_and_then h o ≡ option_and_then g (option_and_then f o)
bind_bind None f g h same = refl
bind_bind (Some s) f g h same = same s

run-append : (s : Expects) (xs ys : List ℕ) → run s (xs ++ ys) ≡ option_and_then (λ t. run t ys) (run s xs)
run-append s [] ys = refl
run-append s (x ∷ xs) ys = bind_bind (next s x) (λ t. run t xs) (λ t. run t ys) (λ t. run t (xs ++ ys)) (λ t. run-append t xs ys)

-- what ends a march from here
abbrev ending : Expects → List ℕ
ending Brace = codes "{u(r0)}"
ending Direction = codes "u(r0)}"
ending Parenthesis = codes "(r0)}"
ending Letter = codes "r0)}"
ending Digit = codes "0)}"
ending Comma = codes ")}"
ending Semicolon = codes "}"
ending Nothing = []

ending_runs : (s : Expects) → run s (ending s) ≡ Some Nothing
ending_runs Brace = refl
ending_runs Direction = refl
ending_runs Parenthesis = refl
ending_runs Letter = refl
ending_runs Digit = refl
ending_runs Comma = refl
ending_runs Semicolon = refl
ending_runs Nothing = refl

pub text_from_run : (text : List ℕ) → run Brace text ≡ Some Nothing → SpellsMarch text (parts text).1
text_from_run text h = (claim Brace text h).1

begins : (front : List ℕ) (s : Expects) → run Brace front ≡ Some s → Begins front
begins front s h = (ending s, ((parts (front ++ ending s)).1, text_from_run (front ++ ending s) (run-append Brace front (ending s) ∙ ap (option_and_then (λ t. run t (ending s))) h ∙ ending_runs s)))

dead : (front : List ℕ) → run Brace front ≡ None → ¬ (Begins front)
dead front h b =
    let read = march_read b.1.0 (front ++ b.0) b.1.1 in
    let stuck : run Brace (front ++ b.0) ≡ None = run-append Brace front b.0 ∙ ap (option_and_then (λ t. run t b.0)) h in
    absurd cc

-- the machine stops behind so many bytes of the text
record Stops (s : Expects) (text : List ℕ) (k : ℕ) : Type 0 where
  live : (n : ℕ) → n ≤ k → (t : Expects) × (run s (take n text) ≡ Some t)
  stuck : ((k < length text) × (run s (take (suc k) text) ≡ None)) ⊎ ((k ≡ length text) × (run s text ≢ Some Nothing))

stops_here : (s : Expects) (b : ℕ) (bs : List ℕ) → next s b ≡ None → Stops s (b ∷ bs) 0
stops_here s b bs h = record {
  live = λ n le. let z : n ≡ 0 = omega arith in (s, rw z);
  stuck = inl (omega arith, rw h);
}

live_later : (s t : Expects) (b : ℕ) (bs : List ℕ) (k : ℕ) → next s b ≡ Some t → ((n : ℕ) → n ≤ k → (x : Expects) × (run t (take n bs) ≡ Some x)) → (n : ℕ) → n ≤ suc k → (x : Expects) × (run s (take n (b ∷ bs)) ≡ Some x)
live_later s t b bs k h live zero le = (s, refl)
live_later s t b bs k h live (suc n) le = let m = live n (omega arith) in (m.0, rw h m.1)

stops_later : (s t : Expects) (b : ℕ) (bs : List ℕ) (k : ℕ) → next s b ≡ Some t → Stops t bs k → Stops s (b ∷ bs) (suc k)
stops_later s t b bs k h more = record {
  live = live_later s t b bs k h more.live;
  stuck = elim more.stuck [
    | inl m ↦ inl (omega (arith, m.0), rw h m.1)
    | inr m ↦ inr (omega (arith, m.0), rw h m.1)
  ];
}

StopsAt : Expects → ℕ → List ℕ → ℕ → Type 0
StopsAt s place text q = (k : ℕ) × (q ≡ place + k) × Stops s text k

stops_at_end : (s : Expects) (place q : ℕ) → fault_at_end s place ≡ Some q → (q ≡ place) × (s ≢ Nothing)
stops_at_end Brace place q h = (cc, λ e. cc)
stops_at_end Direction place q h = (cc, λ e. cc)
stops_at_end Parenthesis place q h = (cc, λ e. cc)
stops_at_end Letter place q h = (cc, λ e. cc)
stops_at_end Digit place q h = (cc, λ e. cc)
stops_at_end Comma place q h = (cc, λ e. cc)
stops_at_end Semicolon place q h = (cc, λ e. cc)
stops_at_end Nothing place q h = absurd cc

stops_next : (s : Expects) (b : ℕ) (bs : List ℕ) (place q : ℕ) → ((t : Expects) → fault t (place + 1) bs ≡ Some q → StopsAt t (place + 1) bs q) → (o : Option Expects) → next s b ≡ o → goes_on o place (λ after. fault after (place + 1) bs) ≡ Some q
    → StopsAt s place (b ∷ bs) q
unfolding StopsAt
stops_next s b bs place q later None e h = (0, grind arith, stops_here s b bs e)
stops_next s b bs place q later (Some t) e h = let m = later t h in (suc m.0, omega (arith, m.1), stops_later s t b bs m.0 e m.2)

stops : (s : Expects) (place : ℕ) (text : List ℕ) (q : ℕ) → fault s place text ≡ Some q → StopsAt s place text q
unfolding StopsAt
stops s place [] q h =
    let m = stops_at_end s place q h in
    (0, omega (arith, m.0), record { live = λ n le. let z : n ≡ 0 = omega arith in (s, rw z); stuck = inr (refl, λ e. m.1 cc) })
stops s place (b ∷ bs) q h = stops_next s b bs place q (λ t k. stops t (place + 1) bs q k) (next s b) refl h

-- the fault that the machine finds stands at the place that the grammar says
pub place_from_fault : (text : List ℕ) (place : ℕ) → fault Brace 1 text ≡ Some place → IsSpellingPlace text place
unfolding StopsAt
place_from_fault text place h =
    let m = stops Brace 1 text place h in
    let whole : place ≡ suc m.0 = omega (arith, m.1) in
    record {
      refused = λ t. let read = march_read t.0 text t.1 in elim m.2.stuck [ inl k ↦ dead (take (suc m.0) text) k.1 (drop (suc m.0) text, subst IsText (sym (take-append-drop (suc m.0) text)) t) | inr k ↦ k.1 read.0 ];
      before = λ n lt. let l = m.2.live n (omega arith) in begins (take n text) l.0 l.1;
      there = elim m.2.stuck [ inl k ↦ inl (omega (arith, k.0), dead (take place text) (rw whole k.1)) | inr k ↦ inr (omega (arith, k.0)) ];
    }

-- a text without a fault spells its march
pub march_from_none : (text : List ℕ) → fault Brace 1 text ≡ None → SpellsMarch text (parts text).1
march_from_none text h = text_from_run text (run_from_fault Brace 1 text h)

-- a text spells one march
pub one_march : (text : List ℕ) (es : List Element) → SpellsMarch text es → (parts text).1 ≡ es
one_march text es h = ap (λ (p : List Op × List Element). p.1) (march_read es text h).1
