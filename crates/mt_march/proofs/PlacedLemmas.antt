-- The places of a march in its text, and what the reader finds byte by byte.
use Rattle.std.proofs.Common.{◌≡◌, ℕ, zero, suc, ◌+◌, Bool, true, false, cond, eqb, not, List, [], ◌∷◌, ◌++◌, map, length, take, drop, Option, Some, None, refl, sym, ap, subst, ◌∙◌, inl, inr, codes, arith, append_assoc, ◌==◌}
use Rattle.std.specs.List.{AllByRecursion, flat_map}
use Rattle.std.proofs.lemmas.Bool.{cases_eq, ne_eqb}
use Rattle.mt_march.specs.declared.march.Op.{Op}
use Rattle.mt_march.specs.declared.march.Op.TheVariants.{R0, R1, W0, W1}
use Rattle.mt_march.specs.declared.march.Order.{Order}
use Rattle.mt_march.specs.declared.march.Order.TheVariants.{Up, Down, Either}
use Rattle.mt_march.specs.declared.march.Element.{Element}
use Rattle.mt_march.specs.Grammar.{Token, order_token, op_token, more_ops, all_ops, element_tokens, more_elements, march_tokens, IsMarch, Spells}
use Rattle.mt_march.specs.Placed.{OpAt, ElementAt, MarchAt, element_of, elements_of, TokenAt, more_ops_at, all_ops_at, element_tokens_at, more_elements_at, march_tokens_at, SpellsAt, SpellsMarchAt}
use Rattle.mt_march.specs.Rules.{first_place, ops_too_many, too_many, ops_of, read_first, wrong_read, has_read_of, rule_broken}
use Rattle.mt_march.specs.Scan.{first, is_order, is_letter, too_long, read_before_write, wrong_expectation, has_read, close_place, rule_found}
use Rattle.mt_march.specs.Value.{order_of, op_of}
use Rattle.mt_march.specs.Accepted.{wrote}
use Rattle.mt_march.specs.Laws.{PlacedIsSpelled, SpelledHasPlaces, PlacesAreOne}
use Rattle.mt_march.proofs.Agreement.{HasDigits, text_has_digits, written_of}

abbrev AreSpaces : List ℕ → Type 0
AreSpaces = AllByRecursion (λ byte. byte ≡ 32)

-- ---- without the places

abbrev token_of : TokenAt → Token
token_of t = t.token

abbrev op_of_placed : OpAt → Op
op_of_placed o = o.op

forget : (from : ℕ) (text : List ℕ) (tokens : List TokenAt) → SpellsAt from text tokens → Spells text (map token_of tokens)
forget from text [] h = h
forget from text (t ∷ tokens) h = (h.0, h.1, h.2, h.3, forget (from + length h.0 + length t.token) h.1 tokens h.5)

more_ops_forget : (ops : List OpAt) (tokens : List TokenAt) → map token_of (more_ops_at ops tokens) ≡ more_ops (map op_of_placed ops) (map token_of tokens)
more_ops_forget [] tokens = refl
more_ops_forget (o ∷ ops) tokens = ap (λ (ts : List Token). codes "," ∷ op_token o.op ∷ ts) (more_ops_forget ops tokens)

all_ops_forget : (ops : List OpAt) (tokens : List TokenAt) → map token_of (all_ops_at ops tokens) ≡ all_ops (map op_of_placed ops) (map token_of tokens)
all_ops_forget [] tokens = refl
all_ops_forget (o ∷ ops) tokens = ap (λ (ts : List Token). op_token o.op ∷ ts) (more_ops_forget ops tokens)

element_forget : (e : ElementAt) (tokens : List TokenAt) → map token_of (element_tokens_at e tokens) ≡ element_tokens (element_of e) (map token_of tokens)
element_forget e tokens = ap (λ (ts : List Token). order_token e.order ∷ codes "(" ∷ ts) (all_ops_forget e.ops tokens)

elements_forget : (es : List ElementAt) (close : ℕ) → map token_of (more_elements_at es close) ≡ more_elements (map element_of es)
elements_forget [] close = refl
elements_forget (e ∷ es) close =
    ap (λ (ts : List Token). codes ";" ∷ ts) (element_forget e (more_elements_at es close) ∙ ap (element_tokens (element_of e)) (elements_forget es close))

march_forget : (es : List ElementAt) (close : ℕ) → map token_of (march_tokens_at es close) ≡ march_tokens (map element_of es)
march_forget [] close = refl
march_forget (e ∷ es) close =
    ap (λ (ts : List Token). codes "{" ∷ ts) (element_forget e (more_elements_at es close) ∙ ap (element_tokens (element_of e)) (elements_forget es close))

pub placed_is_spelled : PlacedIsSpelled
placed_is_spelled text m h =
    (h.0, subst (λ (ts : List Token). Spells text ts) (march_forget m.elements m.close) (forget 1 text (march_tokens_at m.elements m.close) h.1))

-- ---- places for what is spelled

-- what follows an element, with places
record TailAt (from : ℕ) (text : List ℕ) (es : List Element) : Type 0 where
  elements : List ElementAt
  close : ℕ
  spelled : SpellsAt from text (more_elements_at elements close)
  same : map element_of elements ≡ es

-- operations and what follows them, with places
record OpsAt (form : List OpAt → List TokenAt → List TokenAt) (from : ℕ) (text : List ℕ) (ops : List Op) (es : List Element) : Type 0 where
  placed : List OpAt
  elements : List ElementAt
  close : ℕ
  spelled : SpellsAt from text (form placed (more_elements_at elements close))
  own : map op_of_placed placed ≡ ops
  same : map element_of elements ≡ es

abbrev form_more : List OpAt → List TokenAt → List TokenAt
form_more ops tokens = more_ops_at ops tokens

abbrev form_all : List OpAt → List TokenAt → List TokenAt
form_all ops tokens = all_ops_at ops tokens

place_more_ops : (ops : List Op) (es : List Element) (from : ℕ) (text : List ℕ) → ((at : ℕ) (rest : List ℕ) → Spells rest (more_elements es) → TailAt at rest es) → Spells text (more_ops ops (more_elements es)) → OpsAt form_more from text ops es
place_more_ops [] es from text more h =
    let t = more (from + length h.0 + 1) h.1 h.4 in
    record { placed = []; elements = t.elements; close = t.close; spelled = (h.0, h.1, h.2, h.3, tt, t.spelled); own = refl; same = t.same }
place_more_ops (op ∷ ops) es from text more h =
    let n = h.4 in
    let here : ℕ = from + length h.0 + 1 + length n.0 in
    let t = place_more_ops ops es (here + length (op_token op)) n.1 more n.4 in
    record {
      placed = record { place = here; op = op } ∷ t.placed;
      elements = t.elements;
      close = t.close;
      spelled = (h.0, h.1, h.2, h.3, tt, (n.0, n.1, n.2, n.3, refl, t.spelled));
      own = ap (λ (x : List Op). op ∷ x) t.own;
      same = t.same;
    }

place_all_ops : (ops : List Op) (es : List Element) (from : ℕ) (text : List ℕ) → ((at : ℕ) (rest : List ℕ) → Spells rest (more_elements es) → TailAt at rest es) → Spells text (all_ops ops (more_elements es)) → OpsAt form_all from text ops es
place_all_ops [] es from text more h =
    let t = more (from + length h.0 + 1) h.1 h.4 in
    record { placed = []; elements = t.elements; close = t.close; spelled = (h.0, h.1, h.2, h.3, tt, t.spelled); own = refl; same = t.same }
place_all_ops (op ∷ ops) es from text more h =
    let here : ℕ = from + length h.0 in
    let t = place_more_ops ops es (here + length (op_token op)) h.1 more h.4 in
    record {
      placed = record { place = here; op = op } ∷ t.placed;
      elements = t.elements;
      close = t.close;
      spelled = (h.0, h.1, h.2, h.3, refl, t.spelled);
      own = ap (λ (x : List Op). op ∷ x) t.own;
      same = t.same;
    }

-- an element and what follows it, with places
record HeadAt (from : ℕ) (text : List ℕ) (e : Element) (es : List Element) : Type 0 where
  element : ElementAt
  elements : List ElementAt
  close : ℕ
  spelled : SpellsAt from text (element_tokens_at element (more_elements_at elements close))
  own : element_of element ≡ e
  same : map element_of elements ≡ es

place_element : (e : Element) (es : List Element) (from : ℕ) (text : List ℕ) → ((at : ℕ) (rest : List ℕ) → Spells rest (more_elements es) → TailAt at rest es) → Spells text (element_tokens e (more_elements es)) → HeadAt from text e es
place_element e es from text more h =
    let n = h.4 in
    let here : ℕ = from + length h.0 in
    let t = place_all_ops e.ops.items es (here + length (order_token e.order) + length n.0 + 1) n.1 more n.4 in
    record {
      element = record { place = here; order = e.order; ops = t.placed };
      elements = t.elements;
      close = t.close;
      spelled = (h.0, h.1, h.2, h.3, refl, (n.0, n.1, n.2, n.3, tt, t.spelled));
      own = ap (λ (x : List Op). record { order = e.order; ops = record { items = x } }) t.own;
      same = t.same;
    }

place_more : (es : List Element) (from : ℕ) (text : List ℕ) → Spells text (more_elements es) → TailAt from text es
place_more [] from text h = record { elements = []; close = from + length h.0; spelled = (h.0, h.1, h.2, h.3, refl, h.4); same = refl }
place_more (e ∷ es) from text h =
    let t = place_element e es (from + length h.0 + 1) h.1 (λ at rest k. place_more es at rest k) h.4 in
    record {
      elements = t.element ∷ t.elements;
      close = t.close;
      spelled = (h.0, h.1, h.2, h.3, tt, t.spelled);
      same = ap (λ (x : Element). x ∷ map element_of t.elements) t.own ∙ ap (λ (xs : List Element). e ∷ xs) t.same;
    }

pub spelled_has_places : SpelledHasPlaces
spelled_has_places text [] h = absurd h.0.0
spelled_has_places text (e ∷ es) h =
    let s = h.1 in
    let t = place_element e es (1 + length s.0 + 1) s.1 (λ at rest k. place_more es at rest k) s.4 in
    let m : MarchAt = record { elements = t.element ∷ t.elements; close = t.close } in
    let same : elements_of m ≡ e ∷ es = ap (λ (x : Element). x ∷ map element_of t.elements) t.own ∙ ap (λ (xs : List Element). e ∷ xs) t.same in
    (m, (subst IsMarch (sym same) h.0, (s.0, s.1, s.2, s.3, tt, t.spelled)), same)

-- ---- the places, byte by byte

-- a byte at a place before operations that belong to no element yet, and elements
abbrev put_at : ℕ → ℕ → ℕ → List OpAt × List ElementAt → List OpAt × List ElementAt
put_at place b after later =
    cond (is_order b) ([], record { place = place; order = order_of b; ops = later.0 } ∷ later.1) (cond (is_letter b) (record { place = place; op = op_of b after } ∷ later.0, later.1) later)

-- the operations before the first element, and the elements
abbrev placed : ℕ → List ℕ → List OpAt × List ElementAt
placed place [] = ([], [])
placed place (b ∷ bs) = put_at place b (first bs) (placed (place + 1) bs)

-- what is found from a place on
record Finds (from : ℕ) (text : List ℕ) (ops : List OpAt) (es : List ElementAt) (close : ℕ) : Type 0 where
  march : placed from text ≡ (ops, es)
  brace : close_place from text ≡ close

moved : (from n : ℕ) → from + 1 + n ≡ from + suc n
moved from n = omega arith

placed_spaces : (from : ℕ) (spaces rest : List ℕ) → AreSpaces spaces → placed from (spaces ++ rest) ≡ placed (from + length spaces) rest
placed_spaces from [] rest h = ap (λ (p : ℕ). placed p rest) (omega arith)
placed_spaces from (b ∷ bs) rest h =
    ap (λ (x : ℕ). placed from (x ∷ (bs ++ rest))) h.0 ∙ placed_spaces (from + 1) bs rest h.1 ∙ ap (λ (p : ℕ). placed p rest) (moved from (length bs))

close_spaces : (from : ℕ) (spaces rest : List ℕ) → AreSpaces spaces → close_place from (spaces ++ rest) ≡ close_place (from + length spaces) rest
close_spaces from [] rest h = ap (λ (p : ℕ). close_place p rest) (omega arith)
close_spaces from (b ∷ bs) rest h =
    ap (λ (x : ℕ). close_place from (x ∷ (bs ++ rest))) h.0 ∙ close_spaces (from + 1) bs rest h.1 ∙ ap (λ (p : ℕ). close_place p rest) (moved from (length bs))

placed_none : (from : ℕ) (spaces : List ℕ) → AreSpaces spaces → placed from spaces ≡ ([], [])
placed_none from [] h = refl
placed_none from (b ∷ bs) h = ap (λ (x : ℕ). placed from (x ∷ bs)) h.0 ∙ placed_none (from + 1) bs h.1

-- a token behind its spaces
behind_spaces : (from : ℕ) (spaces rest text : List ℕ) (token : Token) (ops : List OpAt) (es : List ElementAt) (close : ℕ) → AreSpaces spaces → text ≡ spaces ++ (token ++ rest)
    → Finds (from + length spaces) (token ++ rest) ops es close → Finds from text ops es close
behind_spaces from spaces rest text token ops es close all e f = record {
  march = ap (placed from) e ∙ placed_spaces from spaces (token ++ rest) all ∙ f.march;
  brace = ap (close_place from) e ∙ close_spaces from spaces (token ++ rest) all ∙ f.brace;
}

two : (p : ℕ) → p + 1 + 1 ≡ p + 2
two p = omega arith

abbrev with_op : ℕ → Op → List OpAt × List ElementAt → List OpAt × List ElementAt
with_op p op later = (record { place = p; op = op } ∷ later.0, later.1)

op_placed : (p : ℕ) (op : Op) (rest : List ℕ) → placed p (op_token op ++ rest) ≡ with_op p op (placed (p + length (op_token op)) rest)
op_placed p R0 rest = ap (λ (q : ℕ). with_op p R0 (placed q rest)) (two p)
op_placed p R1 rest = ap (λ (q : ℕ). with_op p R1 (placed q rest)) (two p)
op_placed p W0 rest = ap (λ (q : ℕ). with_op p W0 (placed q rest)) (two p)
op_placed p W1 rest = ap (λ (q : ℕ). with_op p W1 (placed q rest)) (two p)

op_close : (p : ℕ) (op : Op) (rest : List ℕ) → close_place p (op_token op ++ rest) ≡ close_place (p + length (op_token op)) rest
op_close p R0 rest = ap (λ (q : ℕ). close_place q rest) (two p)
op_close p R1 rest = ap (λ (q : ℕ). close_place q rest) (two p)
op_close p W0 rest = ap (λ (q : ℕ). close_place q rest) (two p)
op_close p W1 rest = ap (λ (q : ℕ). close_place q rest) (two p)

op_found : (p : ℕ) (o : OpAt) (rest : List ℕ) (ops : List OpAt) (es : List ElementAt) (close : ℕ) → o.place ≡ p → Finds (p + length (op_token o.op)) rest ops es close → Finds p (op_token o.op ++ rest) (o ∷ ops) es close
op_found p o rest ops es close e f = record {
  march = op_placed p o.op rest ∙ ap (λ (l : List OpAt × List ElementAt). with_op p o.op l) f.march ∙ ap (λ (q : ℕ). (record { place = q; op = o.op } ∷ ops, es)) (sym e);
  brace = op_close p o.op rest ∙ f.brace;
}

order_placed : (p : ℕ) (order : Order) (rest : List ℕ) → placed p (order_token order ++ rest) ≡ ([], record { place = p; order = order; ops = (placed (p + length (order_token order)) rest).0 } ∷ (placed (p + length (order_token order)) rest).1)
order_placed p Up rest = refl
order_placed p Down rest = refl
order_placed p Either rest = refl

order_close : (p : ℕ) (order : Order) (rest : List ℕ) → close_place p (order_token order ++ rest) ≡ close_place (p + length (order_token order)) rest
order_close p Up rest = refl
order_close p Down rest = refl
order_close p Either rest = refl

-- the rest of a march, found from any place on
abbrev FindsAfter : List TokenAt → List OpAt → List ElementAt → ℕ → Type 0
FindsAfter tokens ops es close = (from : ℕ) (text : List ℕ) → SpellsAt from text tokens → Finds from text ops es close

more_ops_found : (ops : List OpAt) (es : List ElementAt) (close : ℕ) → FindsAfter (more_elements_at es close) [] es close → FindsAfter (more_ops_at ops (more_elements_at es close)) ops es close
more_ops_found [] es close more from text h =
    let k = more (from + length h.0 + 1) h.1 h.5 in
    behind_spaces from h.0 h.1 text (codes ")") [] es close h.2 h.3 (record { march = k.march; brace = k.brace })
more_ops_found (o ∷ ops) es close more from text h =
    let n = h.5 in
    let here : ℕ = from + length h.0 + 1 in
    let k = more_ops_found ops es close more (here + length n.0 + length (op_token o.op)) n.1 n.5 in
    let f = behind_spaces here n.0 n.1 h.1 (op_token o.op) (o ∷ ops) es close n.2 n.3 (op_found (here + length n.0) o n.1 ops es close n.4 k) in
    behind_spaces from h.0 h.1 text (codes ",") (o ∷ ops) es close h.2 h.3 (record { march = f.march; brace = f.brace })

all_ops_found : (ops : List OpAt) (es : List ElementAt) (close : ℕ) → FindsAfter (more_elements_at es close) [] es close → FindsAfter (all_ops_at ops (more_elements_at es close)) ops es close
all_ops_found [] es close more from text h =
    let k = more (from + length h.0 + 1) h.1 h.5 in
    behind_spaces from h.0 h.1 text (codes ")") [] es close h.2 h.3 (record { march = k.march; brace = k.brace })
all_ops_found (o ∷ ops) es close more from text h =
    let k = more_ops_found ops es close more (from + length h.0 + length (op_token o.op)) h.1 h.5 in
    behind_spaces from h.0 h.1 text (op_token o.op) (o ∷ ops) es close h.2 h.3 (op_found (from + length h.0) o h.1 ops es close h.4 k)

element_found : (e : ElementAt) (es : List ElementAt) (close : ℕ) → FindsAfter (more_elements_at es close) [] es close → FindsAfter (element_tokens_at e (more_elements_at es close)) [] (e ∷ es) close
element_found e es close more from text h =
    let n = h.5 in
    let here : ℕ = from + length h.0 in
    let inner : ℕ = here + length (order_token e.order) in
    let k = all_ops_found e.ops es close more (inner + length n.0 + 1) n.1 n.5 in
    let f = behind_spaces inner n.0 n.1 h.1 (codes "(") e.ops es close n.2 n.3 (record { march = k.march; brace = k.brace }) in
    behind_spaces from h.0 h.1 text (order_token e.order) [] (e ∷ es) close h.2 h.3 (record {
      march =
          order_placed here e.order h.1 ∙ ap (λ (l : List OpAt × List ElementAt). ([], record { place = here; order = e.order; ops = l.0 } ∷ l.1)) f.march
          ∙ ap (λ (q : ℕ). ([], record { place = q; order = e.order; ops = e.ops } ∷ es)) (sym h.4);
      brace = order_close here e.order h.1 ∙ f.brace;
    })

more_elements_found : (es : List ElementAt) (close : ℕ) → FindsAfter (more_elements_at es close) [] es close
more_elements_found [] close from text h =
    behind_spaces from h.0 h.1 text (codes "}") [] [] close h.2 h.3 (record { march = placed_none (from + length h.0 + 1) h.1 h.5; brace = sym h.4 })
more_elements_found (e ∷ es) close from text h =
    let f = element_found e es close (more_elements_found es close) (from + length h.0 + 1) h.1 h.5 in
    behind_spaces from h.0 h.1 text (codes ";") [] (e ∷ es) close h.2 h.3 (record { march = f.march; brace = f.brace })

march_found : (text : List ℕ) (es : List ElementAt) (close : ℕ) → SpellsMarchAt text (record { elements = es; close = close }) → Finds 1 text [] es close
march_found text [] close h = absurd h.0.0
march_found text (e ∷ es) close h =
    let s = h.1 in
    let f = element_found e es close (more_elements_found es close) (1 + length s.0 + 1) s.1 s.5 in
    behind_spaces 1 s.0 s.1 text (codes "{") [] (e ∷ es) close s.2 s.3 (record { march = f.march; brace = f.brace })

pub places_are_one : PlacesAreOne
places_are_one text a b h k =
    let f = march_found text a.elements a.close h in
    let g = march_found text b.elements b.close k in
    let same : a.elements ≡ b.elements = ap (λ (p : List OpAt × List ElementAt). p.1) (sym f.march ∙ g.march) in
    let brace : a.close ≡ b.close = sym f.brace ∙ g.brace in
    ap (λ (es : List ElementAt). record { elements = es; close = a.close }) same ∙ ap (λ (c : ℕ). record { elements = b.elements; close = c }) brace

-- ---- the rules on reads

abbrev flat : List OpAt × List ElementAt → List OpAt
flat p = p.0 ++ ops_of p.1

-- the rules on reads, found byte by byte, are those of the operations
record Exact (place : ℕ) (text : List ℕ) (ops : List OpAt) : Type 0 where
  zeros : has_read 48 text ≡ has_read_of false ops
  ones : has_read 49 text ≡ has_read_of true ops
  begins : read_before_write place text ≡ read_first ops
  agree : (u : Option Bool) → wrong_expectation place (written_of u) text ≡ wrong_read u ops

exact_other : (place b : ℕ) (bs : List ℕ) (ops : List OpAt) → (b == 114) ≡ false → (b == 119) ≡ false → Exact (place + 1) bs ops → Exact place (b ∷ bs) ops
exact_other place b bs ops r w h = record {
  zeros = rw r h.zeros;
  ones = rw r h.ones;
  begins = rw (r, w) h.begins;
  agree = λ u. rw (w, r) (h.agree u);
}

read_exact : (place : ℕ) (u : Option Bool) (value : Bool) (bs : List ℕ) (ops : List OpAt) → wrong_expectation (place + 1) (written_of u) bs ≡ wrong_read u ops
    → cond (not (eqb (written_of (Some value)) (written_of u))) (Some place) (wrong_expectation (place + 1) (written_of u) bs) ≡ cond (wrote u value) (wrong_read u ops) (Some place)
read_exact place None false bs ops h = refl
read_exact place None true bs ops h = refl
read_exact place (Some false) false bs ops h = h
read_exact place (Some false) true bs ops h = refl
read_exact place (Some true) false bs ops h = refl
read_exact place (Some true) true bs ops h = h

abbrev op_at : ℕ → Op → OpAt
op_at place op = record { place = place; op = op }

exact_r0 : (place : ℕ) (bs : List ℕ) (ops : List OpAt) → first bs ≡ 48 → Exact (place + 1) bs ops → Exact place (114 ∷ bs) (op_at place R0 ∷ ops)
exact_r0 place bs ops d h = record {
  zeros = rw d refl;
  ones = rw d h.ones;
  begins = refl;
  agree = λ u. rw d (read_exact place u false bs ops (h.agree u));
}

exact_r1 : (place : ℕ) (bs : List ℕ) (ops : List OpAt) → first bs ≡ 49 → Exact (place + 1) bs ops → Exact place (114 ∷ bs) (op_at place R1 ∷ ops)
exact_r1 place bs ops d h = record {
  zeros = rw d h.zeros;
  ones = rw d refl;
  begins = refl;
  agree = λ u. rw d (read_exact place u true bs ops (h.agree u));
}

exact_w0 : (place : ℕ) (bs : List ℕ) (ops : List OpAt) → first bs ≡ 48 → Exact (place + 1) bs ops → Exact place (119 ∷ bs) (op_at place W0 ∷ ops)
exact_w0 place bs ops d h = record {
  zeros = h.zeros;
  ones = h.ones;
  begins = refl;
  agree = λ u. rw d (h.agree (Some false));
}

exact_w1 : (place : ℕ) (bs : List ℕ) (ops : List OpAt) → first bs ≡ 49 → Exact (place + 1) bs ops → Exact place (119 ∷ bs) (op_at place W1 ∷ ops)
exact_w1 place bs ops d h = record {
  zeros = h.zeros;
  ones = h.ones;
  begins = refl;
  agree = λ u. rw d (h.agree (Some true));
}

-- a byte that is no letter leaves the operations
flat_put : (order letter : Bool) (place : ℕ) (k : Order) (op : Op) (later : List OpAt × List ElementAt) → letter ≡ false
    → flat (cond order ([], record { place = place; order = k; ops = later.0 } ∷ later.1) (cond letter (op_at place op ∷ later.0, later.1) later)) ≡ flat later
flat_put true letter place k op later e = refl
flat_put false true place k op later e = absurd cc
flat_put false false place k op later e = refl

exact : (place : ℕ) (text : List ℕ) → HasDigits text → Exact place text (flat (placed place text))
exact place [] h = record { zeros = refl; ones = refl; begins = refl; agree = λ u. refl }
exact place (b ∷ bs) h =
    let more = exact (place + 1) bs h.1 in
    let ops = flat (placed (place + 1) bs) in
    elim (cases_eq b 114) [
      | inl r ↦ subst (λ (x : ℕ). Exact place (x ∷ bs) (flat (placed place (x ∷ bs)))) (sym r)
          (elim (h.0 (rw r)) [
            | inl d ↦ rw d (exact_r0 place bs ops d more)
            | inr d ↦ rw d (exact_r1 place bs ops d more)
          ])
      | inr not_r ↦ elim (cases_eq b 119) [
        | inl w ↦ subst (λ (x : ℕ). Exact place (x ∷ bs) (flat (placed place (x ∷ bs)))) (sym w)
            (elim (h.0 (rw w)) [
              | inl d ↦ rw d (exact_w0 place bs ops d more)
              | inr d ↦ rw d (exact_w1 place bs ops d more)
            ])
        | inr not_w ↦ (
            let r : (b == 114) ≡ false = ne_eqb b 114 not_r in
            let w : (b == 119) ≡ false = ne_eqb b 119 not_w in
            let letter : is_letter b ≡ false = rw (r, w) in
            subst (λ (x : List OpAt). Exact place (b ∷ bs) x) (sym (flat_put (is_order b) (is_letter b) place (order_of b) (op_of b (first bs)) (placed (place + 1) bs) letter)) (exact_other place b bs ops r w more))
      ]
    ]

-- ---- the rule on lengths

abbrev op_place : OpAt → ℕ
op_place o = o.place

abbrev element_place : ElementAt → ℕ
element_place e = e.place

-- the places too many, where so many more operations and elements have room
abbrev over : ℕ → ℕ → List OpAt × List ElementAt → List ℕ
over l k p = map op_place (drop l p.0) ++ (flat_map ops_too_many (take k p.1) ++ map element_place (drop k p.1))

no_op_dropped : (n : ℕ) → map op_place (drop n []) ≡ []
no_op_dropped zero = refl
no_op_dropped (suc n) = refl

no_element_dropped : (n : ℕ) → map element_place (drop n []) ≡ []
no_element_dropped zero = refl
no_element_dropped (suc n) = refl

no_element_taken : (n : ℕ) → flat_map ops_too_many (take n []) ≡ []
no_element_taken zero = refl
no_element_taken (suc n) = refl

-- what is found behind a byte
abbrev LongAfter : ℕ → List ℕ → List OpAt × List ElementAt → Type 0
LongAfter place bs later = (e o k l : ℕ) → e + k ≡ 16 → o + l ≡ 8 → too_long place e o bs ≡ first_place (over l k later)

long_put : (order letter : Bool) (place e o k l : ℕ) (which : Order) (op : Op) (bs : List ℕ) (later : List OpAt × List ElementAt) → LongAfter (place + 1) bs later → e + k ≡ 16 → o + l ≡ 8
    → cond order (cond (eqb e 16) (Some place) (too_long (place + 1) (e + 1) 0 bs)) (cond letter (cond (eqb o 8) (Some place) (too_long (place + 1) e (o + 1) bs)) (too_long (place + 1) e o bs))
    ≡ first_place (over l k (cond order ([], record { place = place; order = which; ops = later.0 } ∷ later.1) (cond letter (op_at place op ∷ later.0, later.1) later)))
long_put true letter place e o zero l which op bs later more he ho =
    let full : e ≡ 16 = omega arith in
    rw (full, no_op_dropped l) refl
long_put true letter place e o (suc k) l which op bs later more he ho =
    let not_full : eqb e 16 ≡ false = ne_eqb e 16 (λ f. omega arith) in
    let room : e + 1 + k ≡ 16 = omega arith in
    rw (not_full, no_op_dropped l) (more (e + 1) 0 k 8 room refl ∙ ap first_place (sym (append_assoc (map op_place (drop 8 later.0)) (flat_map ops_too_many (take k later.1)) (map element_place (drop k later.1)))))
long_put false true place e o k zero which op bs later more he ho =
    let full : o ≡ 8 = omega arith in
    rw full refl
long_put false true place e o k (suc l) which op bs later more he ho =
    let not_full : eqb o 8 ≡ false = ne_eqb o 8 (λ f. omega arith) in
    let room : o + 1 + l ≡ 8 = omega arith in
    rw not_full (more e (o + 1) k l he room)
long_put false false place e o k l which op bs later more he ho = more e o k l he ho

long : (place : ℕ) (text : List ℕ) → LongAfter place text (placed place text)
long place [] e o k l he ho = rw (no_op_dropped l, no_element_taken k, no_element_dropped k) refl
long place (b ∷ bs) e o k l he ho = long_put (is_order b) (is_letter b) place e o k l (order_of b) (op_of b (first bs)) bs (placed (place + 1) bs) (long (place + 1) bs) he ho

-- ---- all rules

-- what the reader finds is the least rule that the march of the text breaks, at its place
pub found_is_broken : (text : List ℕ) (m : MarchAt) → SpellsMarchAt text m → rule_found text ≡ rule_broken m
unfolding rule_found rule_broken too_many
found_is_broken text m h =
    let f = march_found text m.elements m.close h in
    let digits = text_has_digits text (elements_of m) (placed_is_spelled text m h) in
    let x : Exact 1 text (ops_of m.elements) = subst (λ (p : List OpAt × List ElementAt). Exact 1 text (flat p)) f.march (exact 1 text digits) in
    let l : too_long 1 0 0 text ≡ first_place (over 8 16 ([], m.elements)) = long 1 text 0 0 16 8 refl refl ∙ ap (λ (p : List OpAt × List ElementAt). first_place (over 8 16 p)) f.march in
    rw (l, x.begins, x.agree None, x.zeros, x.ones, f.brace) refl
