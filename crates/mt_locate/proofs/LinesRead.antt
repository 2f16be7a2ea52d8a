-- Which texts are lines of a fault location, and which rule refuses another text.
use Rattle.std.proofs.Common.{◌≡◌, ◌≢◌, ℕ, ◌+◌, ◌*◌, ◌^◌, ◌<◌, ◌≤◌, ◌==◌, Bool, true, false, refl, ap, sym, subst, ◌∙◌, inl, inr, arith, nat_le, nat_lt}
use Rattle.std.specs.Prelude.{◌⊎◌, ◌↔◌, codes, List, [], ◌∷◌, map, length, slice_get, Option, Some, None, Result, Ok, Err}
use Rattle.std.specs.Str.{bytes_eq}
use Rattle.std.proofs.lemmas.Bool.{ne_eqb}
use Rattle.std.proofs.lemmas.Bool.Decides.{nat_tests}
use Rattle.std.proofs.lemmas.Slice.Eq.{bytes_eq-Decides}
use Rattle.mt_word.specs.Word.{width_bits}
use Rattle.mt_hex.specs.Hex.{hex_of}
use Rattle.mt_port.specs.declared.board.Shape.{Shape}
use Rattle.mt_seq.specs.declared.sequence.Slice.{Slice}
use Rattle.mt_seq.specs.Sequence.{is_transparent}
use Rattle.mt_blocks.specs.declared.config.ParamSet.{ParamSet}
use Rattle.mt_blocks.specs.Accepted.{set_at, block_at}
use Rattle.mt_blocks.specs.Slices.{slice_count, slice_of}
use Rattle.mt_text.specs.Tokens.{Token, tokens, begins_word, number_of}
use Rattle.mt_locate.specs.declared.probe.Probe.{Probe}
use Rattle.mt_locate.specs.declared.probe.Miss.{Miss}
use Rattle.mt_locate.specs.declared.refusal.LocateRefusal.{LocateRefusal}
use Rattle.mt_locate.specs.Suspects.{checked_at}
use Rattle.mt_locate.specs.LocateLines.{◌>>=◌, keyword, is_keyword, ends_at, is_end, number_at, word_at, value_by, falls, known_read, known_word, read_index, answered_word, miss_of, miss_line, known_set, known_block, known_slice, set_number, block_number, slice_words, probe_of, slice_line}
use Rattle.mt_locate.specs.LineRules.{Rule, IsAbove, IsMissLine, IsSliceLine, MissLinesAreExact, SliceLinesAreExact, TellsTheFirst, MissRefusalsAreLeast, SliceRefusalsAreLeast, miss_rules, slice_line_rules, word_rules, end_rules, index_rules, answer_rules, set_rules, block_rules, slice_rules, read_in, set_in, block_in}
use Rattle.mt_locate.proofs.LineChains.{Judges, bind_ok, tells}
use Rattle.mt_locate.proofs.LineStages.{number_begins, word_begins, keyword_ok, end_ok, keyword_judges, end_judges, IsIndex, index_ok, index_judges, answer_ok, answer_judges}
use Rattle.mt_locate.proofs.SliceStages.{IsSet, set_ok, set_judges, IsBlock, block_ok, block_judges, slice_ok, slice_judges}

-- ---- tests of numbers

below : (a b : ℕ) → nat_lt a b ≡ true → a < b
below a b h = grind (arith, nat_tests, h)

is_below : (a b : ℕ) → a < b → nat_lt a b ≡ true
is_below a b h = grind (arith, nat_tests)

not_least : (a b : ℕ) → nat_le a b ≡ false → b < a
not_least a b h = grind (arith, nat_tests, h)

is_not_least : (a b : ℕ) → b < a → nat_le a b ≡ false
is_not_least a b h = grind (arith, nat_tests)

few : (a : ℕ) → nat_lt 128 a ≡ false → a ≤ 128
few a h = grind (arith, nat_tests, h)

is_few : (a : ℕ) → a ≤ 128 → nat_lt 128 a ≡ false
is_few a h = grind (arith, nat_tests)

differ : (a b c : ℕ) → (a == b) ≡ false → b ≡ c → a ≢ c
differ a b c h e k = absurd (let same : (a == b) ≡ true = rw (e, k) (grind (arith, nat_tests)) in cc)

is_other : (a b : ℕ) → a ≢ b → (a == b) ≡ false
is_other a b n = ne_eqb a b n

above : (after : Option ℕ) (i : ℕ) → falls after i ≡ false → IsAbove after i
above None i h = tt
above (Some before) i h = not_least i before h

not_falling : (after : Option ℕ) (i : ℕ) → IsAbove after i → falls after i ≡ false
not_falling None i h = refl
not_falling (Some before) i h = is_not_least i before h

is_word : (a b : List ℕ) → a ≡ b → bytes_eq a b ≡ true
is_word a b e = (bytes_eq-Decides a b).1 e

-- ---- the line of a miss, over its tokens

abbrev ends_miss : Option Token → ℕ → ℕ → Result Miss LocateRefusal
ends_miss t i w = is_end t >>= (λ _. Ok (miss_of i w))

abbrev of_index : Probe → ℕ → List Token → (ℕ × ℕ) → Result Miss LocateRefusal
of_index probe end ts i = (value_by hex_of end (slice_get ts 2) >>= known_word probe i.1) >>= ends_miss (slice_get ts 3) i.0

abbrev of_miss : Probe → Option ℕ → ℕ → List Token → Unit {0} → Result Miss LocateRefusal
of_miss probe after end ts x = (value_by number_of end (slice_get ts 1) >>= known_read probe after) >>= of_index probe end ts

abbrev miss_by : Probe → Option ℕ → ℕ → List Token → Result Miss LocateRefusal
miss_by probe after end ts = is_keyword (codes "miss") end (slice_get ts 0) >>= of_miss probe after end ts

miss_is : (probe : Probe) (after : Option ℕ) (text : List ℕ) → miss_line probe after text ≡ miss_by probe after (length text + 1) (tokens 1 text)
unfolding miss_line keyword read_index answered_word number_at word_at ends_at
miss_is probe after text = refl

three : (ts : List Token) (a b c : Token) → slice_get ts 0 ≡ Some a → slice_get ts 1 ≡ Some b → slice_get ts 2 ≡ Some c → slice_get ts 3 ≡ None → ts ≡ a ∷ b ∷ c ∷ []
three [] a b c e f g h = absurd cc
three (x ∷ []) a b c e f g h = absurd cc
three (x ∷ y ∷ []) a b c e f g h = absurd cc
three (x ∷ y ∷ z ∷ []) a b c e f g h = cc
three (x ∷ y ∷ z ∷ w ∷ ts) a b c e f g h = absurd cc

three_words : (ts : List Token) (x y z : List ℕ) → map (λ (t : Token). t.bytes) ts ≡ x ∷ y ∷ z ∷ []
    → (a : Token) × (b : Token) × (c : Token) × (ts ≡ a ∷ b ∷ c ∷ []) × (a.bytes ≡ x) × (b.bytes ≡ y) × (c.bytes ≡ z)
three_words [] x y z e = absurd cc
three_words (a ∷ []) x y z e = absurd cc
three_words (a ∷ b ∷ []) x y z e = absurd cc
three_words (a ∷ b ∷ c ∷ []) x y z e = (a, b, c, refl, cc, cc, cc)
three_words (a ∷ b ∷ c ∷ d ∷ ts) x y z e = absurd cc

miss_read : (probe : Probe) (after : Option ℕ) (text : List ℕ) (end : ℕ) (ts : List Token) (miss : Miss)
    → tokens 1 text ≡ ts → miss_by probe after end ts ≡ Ok miss → IsMissLine probe after text miss
miss_read probe after text end ts miss are h =
    let k = bind_ok (is_keyword (codes "miss") end (slice_get ts 0)) (of_miss probe after end ts) miss h in
    let i = bind_ok (value_by number_of end (slice_get ts 1) >>= known_read probe after) (of_index probe end ts) miss k.2 in
    let w = bind_ok (value_by hex_of end (slice_get ts 2) >>= known_word probe i.0.1) (ends_miss (slice_get ts 3) i.0.0) miss i.2 in
    let e = bind_ok (is_end (slice_get ts 3)) (λ _. Ok (miss_of i.0.0 w.0)) miss w.2 in
    let word = keyword_ok (codes "miss") end (slice_get ts 0) k.0 k.1 in
    let index = index_ok probe after end (slice_get ts 1) i.0 i.1 in
    let answer = answer_ok probe i.0.1 end (slice_get ts 2) w.0 w.1 in
    let all = three ts word.0 index.token answer.token word.1 index.there answer.there (end_ok (slice_get ts 3) e.0 e.1) in
    let same : miss_of i.0.0 w.0 ≡ miss = (let q = e.2 in cc) in
    subst (IsMissLine probe after text) same (record {
      index = index.token.bytes;
      answer = answer.token.bytes;
      words = ap (map (λ (t : Token). t.bytes)) (are ∙ all) ∙ ap (λ w. w ∷ index.token.bytes ∷ answer.token.bytes ∷ []) word.2;
      spells_index = index.spells;
      spells_word = answer.spells;
      rises = above after i.0.0 index.rises;
      read = index.read;
      checked = index.checked;
      fits = below w.0 (2 ^ width_bits probe.width) answer.fits;
      differs = differ w.0 i.0.1 index.read.word answer.differs index.expected;
    })

miss_written : (probe : Probe) (after : Option ℕ) (text : List ℕ) (end : ℕ) (miss : Miss) → IsMissLine probe after text miss → miss_by probe after end (tokens 1 text) ≡ Ok miss
miss_written probe after text end miss m =
    let t = three_words (tokens 1 text) (codes "miss") m.index m.answer m.words in
    let index : number_of t.1.bytes ≡ Some miss.index = rw t.5 m.spells_index in
    let answer : hex_of t.2.bytes ≡ Some miss.word = rw t.6 m.spells_word in
    rw (
      t.3,
      is_word t.0.bytes (codes "miss") t.4,
      number_begins t.1.bytes miss.index index,
      index,
      not_falling after miss.index m.rises,
      m.checked,
      word_begins t.2.bytes miss.word answer,
      answer,
      is_below miss.word (2 ^ width_bits probe.width) m.fits,
      is_other miss.word m.read.word m.differs,
    ) refl

pub misses_exact : MissLinesAreExact
misses_exact probe after text miss = (
  (λ h. miss_read probe after text (length text + 1) (tokens 1 text) miss refl (sym (miss_is probe after text) ∙ h)),
  (λ m. miss_is probe after text ∙ miss_written probe after text (length text + 1) miss m),
)

-- the word stands under the rules of the read that its index names
answer_told : (probe : Probe) (after : Option ℕ) (end : ℕ) (t u : Option Token) (found : ℕ × ℕ) → IsIndex probe after t found
    → Judges end u (answer_rules probe (read_in probe t) u) (value_by hex_of end u >>= known_word probe found.1)
answer_told probe after end t u found i = rw (i.there, i.spells, i.checked, i.expected) (answer_judges probe i.read end u)

-- the tokens of the line from the fourth on, from the third on and from the second on, with their rules
abbrev miss_from_3 : List Token → List (Option Token × List Rule)
miss_from_3 ts = (slice_get ts 3, end_rules (slice_get ts 3)) ∷ []

abbrev miss_from_2 : Probe → List Token → List (Option Token × List Rule)
miss_from_2 probe ts = (slice_get ts 2, answer_rules probe (read_in probe (slice_get ts 1)) (slice_get ts 2)) ∷ miss_from_3 ts

abbrev miss_from_1 : Probe → Option ℕ → List Token → List (Option Token × List Rule)
miss_from_1 probe after ts = (slice_get ts 1, index_rules probe after (slice_get ts 1)) ∷ miss_from_2 probe ts

miss_told : (probe : Probe) (after : Option ℕ) (end : ℕ) (ts : List Token) (e : LocateRefusal)
    → miss_by probe after end ts ≡ Err e → TellsTheFirst end (miss_rules probe after ts) e
miss_told probe after end ts e h =
    tells end (slice_get ts 0) (word_rules (codes "miss") (slice_get ts 0)) (miss_from_1 probe after ts) (is_keyword (codes "miss") end (slice_get ts 0)) (of_miss probe after end ts) e
    (keyword_judges (codes "miss") end (slice_get ts 0)) h (λ x is rest.
    tells end (slice_get ts 1) (index_rules probe after (slice_get ts 1)) (miss_from_2 probe ts) (value_by number_of end (slice_get ts 1) >>= known_read probe after) (of_index probe end ts) e
    (index_judges probe after end (slice_get ts 1)) rest (λ i is rest.
    tells end (slice_get ts 2) (answer_rules probe (read_in probe (slice_get ts 1)) (slice_get ts 2)) (miss_from_3 ts) (value_by hex_of end (slice_get ts 2) >>= known_word probe i.1) (ends_miss (slice_get ts 3) i.0) e
    (answer_told probe after end (slice_get ts 1) (slice_get ts 2) i (index_ok probe after end (slice_get ts 1) i is)) rest (λ w is rest.
    tells end (slice_get ts 3) (end_rules (slice_get ts 3)) [] (is_end (slice_get ts 3)) (λ _. Ok (miss_of i.0 w)) e
    (end_judges end (slice_get ts 3)) rest (λ x is rest. absurd cc))))

pub misses_least : MissRefusalsAreLeast
misses_least probe after text e h = miss_told probe after (length text + 1) (tokens 1 text) e (sym (miss_is probe after text) ∙ h)

-- ---- the line of a slice, over its tokens

abbrev ends_slice : Shape → ℕ → ParamSet → Option Token → Slice → Result Probe LocateRefusal
ends_slice shape initial set t slice = is_end t >>= (λ _. Ok (probe_of shape initial set slice))

abbrev of_block : Shape → ℕ → ParamSet → ℕ → List Token → ℕ → Result Probe LocateRefusal
of_block shape initial set end ts b =
    (value_by number_of end (slice_get ts 3) >>= known_slice shape set ((block_at set.blocks b).span)) >>= ends_slice shape initial set (slice_get ts 4)

abbrev of_set : Shape → ℕ → List ParamSet → ℕ → List Token → ℕ → Result Probe LocateRefusal
of_set shape initial sets end ts s = (value_by number_of end (slice_get ts 2) >>= known_block (set_at sets s)) >>= of_block shape initial (set_at sets s) end ts

abbrev of_slice : Shape → ℕ → List ParamSet → ℕ → List Token → Unit {0} → Result Probe LocateRefusal
of_slice shape initial sets end ts x = (value_by number_of end (slice_get ts 1) >>= known_set sets) >>= of_set shape initial sets end ts

abbrev slice_by : Shape → ℕ → List ParamSet → ℕ → List Token → Result Probe LocateRefusal
slice_by shape initial sets end ts = is_keyword (codes "slice") end (slice_get ts 0) >>= of_slice shape initial sets end ts

slice_is : (shape : Shape) (initial : ℕ) (sets : List ParamSet) (text : List ℕ) → slice_line shape initial sets text ≡ slice_by shape initial sets (length text + 1) (tokens 1 text)
unfolding slice_line keyword set_number block_number slice_words number_at ends_at
slice_is shape initial sets text = refl

four : (ts : List Token) (a b c d : Token) → slice_get ts 0 ≡ Some a → slice_get ts 1 ≡ Some b → slice_get ts 2 ≡ Some c → slice_get ts 3 ≡ Some d → slice_get ts 4 ≡ None
    → ts ≡ a ∷ b ∷ c ∷ d ∷ []
four [] a b c d e f g h k = absurd cc
four (x ∷ []) a b c d e f g h k = absurd cc
four (x ∷ y ∷ []) a b c d e f g h k = absurd cc
four (x ∷ y ∷ z ∷ []) a b c d e f g h k = absurd cc
four (x ∷ y ∷ z ∷ w ∷ []) a b c d e f g h k = cc
four (x ∷ y ∷ z ∷ w ∷ v ∷ ts) a b c d e f g h k = absurd cc

four_words : (ts : List Token) (x y z w : List ℕ) → map (λ (t : Token). t.bytes) ts ≡ x ∷ y ∷ z ∷ w ∷ []
    → (a : Token) × (b : Token) × (c : Token) × (d : Token) × (ts ≡ a ∷ b ∷ c ∷ d ∷ []) × (a.bytes ≡ x) × (b.bytes ≡ y) × (c.bytes ≡ z) × (d.bytes ≡ w)
four_words [] x y z w e = absurd cc
four_words (a ∷ []) x y z w e = absurd cc
four_words (a ∷ b ∷ []) x y z w e = absurd cc
four_words (a ∷ b ∷ c ∷ []) x y z w e = absurd cc
four_words (a ∷ b ∷ c ∷ d ∷ []) x y z w e = (a, b, c, d, refl, cc, cc, cc, cc)
four_words (a ∷ b ∷ c ∷ d ∷ f ∷ ts) x y z w e = absurd cc

-- the probe is that of a set and a slice for which the text is a line
abbrev IsReadAs : Shape → ℕ → List ParamSet → List ℕ → Probe → Type 0
IsReadAs shape initial sets text probe = (set : ParamSet) × (slice : Slice) × IsSliceLine shape sets text set slice × (probe ≡ probe_of shape initial set slice)

slice_read : (shape : Shape) (initial : ℕ) (sets : List ParamSet) (text : List ℕ) (end : ℕ) (ts : List Token) (probe : Probe)
    → tokens 1 text ≡ ts → slice_by shape initial sets end ts ≡ Ok probe → IsReadAs shape initial sets text probe
slice_read shape initial sets text end ts probe are h =
    let k = bind_ok (is_keyword (codes "slice") end (slice_get ts 0)) (of_slice shape initial sets end ts) probe h in
    let s = bind_ok (value_by number_of end (slice_get ts 1) >>= known_set sets) (of_set shape initial sets end ts) probe k.2 in
    let b = bind_ok (value_by number_of end (slice_get ts 2) >>= known_block (set_at sets s.0)) (of_block shape initial (set_at sets s.0) end ts) probe s.2 in
    let j = bind_ok (value_by number_of end (slice_get ts 3) >>= known_slice shape (set_at sets s.0) ((block_at (set_at sets s.0).blocks b.0).span)) (ends_slice shape initial (set_at sets s.0) (slice_get ts 4)) probe b.2 in
    let e = bind_ok (is_end (slice_get ts 4)) (λ _. Ok (probe_of shape initial (set_at sets s.0) j.0)) probe j.2 in
    let word = keyword_ok (codes "slice") end (slice_get ts 0) k.0 k.1 in
    let set = set_ok sets end (slice_get ts 1) s.0 s.1 in
    let block = block_ok (set_at sets s.0) end (slice_get ts 2) b.0 b.1 in
    let slice = slice_ok shape (set_at sets s.0) (block_at (set_at sets s.0).blocks b.0) end (slice_get ts 3) j.0 j.1 in
    let all = four ts word.0 set.token block.token slice.token word.1 set.there block.there slice.there (end_ok (slice_get ts 4) e.0 e.1) in
    let same : probe ≡ probe_of shape initial (set_at sets s.0) j.0 = (let q = e.2 in cc) in (
      set_at sets s.0,
      j.0,
      record {
        set_word = set.token.bytes;
        block_word = block.token.bytes;
        slice_word = slice.token.bytes;
        words = ap (map (λ (t : Token). t.bytes)) (are ∙ all) ∙ ap (λ w. w ∷ set.token.bytes ∷ block.token.bytes ∷ slice.token.bytes ∷ []) word.2;
        s = s.0;
        b = b.0;
        j = slice.j;
        spells_set = set.spells;
        spells_block = block.spells;
        spells_slice = slice.spells;
        set_is_there = not_least (length sets) s.0 set.known;
        set_is = refl;
        is_located = set.located;
        block_is_there = not_least (length (set_at sets s.0).blocks) b.0 block.known;
        slice_is_there = not_least (slice_count (set_at sets s.0).atomic (block_at (set_at sets s.0).blocks b.0).span) slice.j slice.known;
        slice_is = sym slice.is;
        few_bits = few (j.0.n * width_bits shape.width) slice.few;
      },
      same,
    )

probes : (shape : Shape) (initial : ℕ) (p q : ParamSet) (x y : Slice) → p ≡ q → x ≡ y → probe_of shape initial p x ≡ probe_of shape initial q y
probes shape initial p q x y e f = rw (e, f) refl

slices : (p q : ParamSet) (b j : ℕ) → p ≡ q
    → slice_of p.atomic (block_at p.blocks b).span (j * p.atomic) ≡ slice_of q.atomic (block_at q.blocks b).span (j * q.atomic)
slices p q b j e = rw e refl

slice_written : (shape : Shape) (initial : ℕ) (sets : List ParamSet) (text : List ℕ) (end : ℕ) (set : ParamSet) (slice : Slice)
    → IsSliceLine shape sets text set slice → slice_by shape initial sets end (tokens 1 text) ≡ Ok (probe_of shape initial set slice)
slice_written shape initial sets text end set slice m =
    let t = four_words (tokens 1 text) (codes "slice") m.set_word m.block_word m.slice_word m.words in
    let is_set : number_of t.1.bytes ≡ Some m.s = rw t.6 m.spells_set in
    let is_block : number_of t.2.bytes ≡ Some m.b = rw t.7 m.spells_block in
    let is_slice : number_of t.3.bytes ≡ Some m.j = rw t.8 m.spells_slice in
    let located : is_transparent (set_at sets m.s).alg ≡ false = rw (← m.set_is) m.is_located in
    let there : nat_le (length (set_at sets m.s).blocks) m.b ≡ false = rw (← m.set_is) (is_not_least (length set.blocks) m.b m.block_is_there) in
    let known : nat_le (slice_count (set_at sets m.s).atomic (block_at (set_at sets m.s).blocks m.b).span) m.j ≡ false =
    rw (← m.set_is) (is_not_least (slice_count set.atomic (block_at set.blocks m.b).span) m.j m.slice_is_there) in
    let small = subst (λ (q : Slice). nat_lt 128 (q.n * width_bits shape.width) ≡ false) (m.slice_is ∙ slices set (set_at sets m.s) m.b m.j m.set_is)
    (is_few (slice.n * width_bits shape.width) m.few_bits) in
    let found : slice_by shape initial sets end (tokens 1 text)
    ≡ Ok (probe_of shape initial (set_at sets m.s) (slice_of (set_at sets m.s).atomic (block_at (set_at sets m.s).blocks m.b).span (m.j * (set_at sets m.s).atomic))) =
    rw (
      t.4,
      is_word t.0.bytes (codes "slice") t.5,
      number_begins t.1.bytes m.s is_set,
      is_set,
      is_not_least (length sets) m.s m.set_is_there,
      located,
      number_begins t.2.bytes m.b is_block,
      is_block,
      there,
      number_begins t.3.bytes m.j is_slice,
      is_slice,
      known,
      small,
    ) refl in
    found ∙ ap (λ q. Ok q) (probes shape initial (set_at sets m.s) set _ slice (sym m.set_is) (slices (set_at sets m.s) set m.b m.j (sym m.set_is) ∙ sym m.slice_is))

pub slices_exact : SliceLinesAreExact
slices_exact shape initial sets text probe = (
  (λ h. slice_read shape initial sets text (length text + 1) (tokens 1 text) probe refl (sym (slice_is shape initial sets text) ∙ h)),
  (λ m. slice_is shape initial sets text ∙ (slice_written shape initial sets text (length text + 1) m.0 m.1 m.2 ∙ ap (λ q. Ok q) (sym m.3))),
)

-- the block stands under the rules of the set that is named, and the slice under those of both
block_told : (sets : List ParamSet) (end : ℕ) (t u : Option Token) (s : ℕ) → IsSet sets t s
    → Judges end u (block_rules (set_in sets t) u) (value_by number_of end u >>= known_block (set_at sets s))
block_told sets end t u s i = rw (i.there, i.spells) (block_judges (set_at sets s) end u)

slice_told : (shape : Shape) (sets : List ParamSet) (end : ℕ) (t u v : Option Token) (s b : ℕ) → IsSet sets t s → IsBlock (set_at sets s) u b
    → Judges end v (slice_rules shape (set_in sets t) (block_in (set_in sets t) u) v) (value_by number_of end v >>= known_slice shape (set_at sets s) ((block_at (set_at sets s).blocks b).span))
slice_told shape sets end t u v s b i k = rw (i.there, i.spells, k.there, k.spells) (slice_judges shape (set_at sets s) (block_at (set_at sets s).blocks b) end v)

-- the tokens of the line from the fifth on, and so on down to the second, with their rules
abbrev line_from_4 : List Token → List (Option Token × List Rule)
line_from_4 ts = (slice_get ts 4, end_rules (slice_get ts 4)) ∷ []

abbrev line_from_3 : Shape → List ParamSet → List Token → List (Option Token × List Rule)
line_from_3 shape sets ts =
    (slice_get ts 3, slice_rules shape (set_in sets (slice_get ts 1)) (block_in (set_in sets (slice_get ts 1)) (slice_get ts 2)) (slice_get ts 3)) ∷ line_from_4 ts

abbrev line_from_2 : Shape → List ParamSet → List Token → List (Option Token × List Rule)
line_from_2 shape sets ts = (slice_get ts 2, block_rules (set_in sets (slice_get ts 1)) (slice_get ts 2)) ∷ line_from_3 shape sets ts

abbrev line_from_1 : Shape → List ParamSet → List Token → List (Option Token × List Rule)
line_from_1 shape sets ts = (slice_get ts 1, set_rules sets (slice_get ts 1)) ∷ line_from_2 shape sets ts

line_told : (shape : Shape) (initial : ℕ) (sets : List ParamSet) (end : ℕ) (ts : List Token) (e : LocateRefusal)
    → slice_by shape initial sets end ts ≡ Err e → TellsTheFirst end (slice_line_rules shape sets ts) e
line_told shape initial sets end ts e h =
    tells end (slice_get ts 0) (word_rules (codes "slice") (slice_get ts 0)) (line_from_1 shape sets ts) (is_keyword (codes "slice") end (slice_get ts 0)) (of_slice shape initial sets end ts) e
    (keyword_judges (codes "slice") end (slice_get ts 0)) h (λ x is rest.
    tells end (slice_get ts 1) (set_rules sets (slice_get ts 1)) (line_from_2 shape sets ts) (value_by number_of end (slice_get ts 1) >>= known_set sets) (of_set shape initial sets end ts) e
    (set_judges sets end (slice_get ts 1)) rest (λ s is_set rest.
    tells end (slice_get ts 2) (block_rules (set_in sets (slice_get ts 1)) (slice_get ts 2)) (line_from_3 shape sets ts) (value_by number_of end (slice_get ts 2) >>= known_block (set_at sets s)) (of_block shape initial (set_at sets s) end ts) e
    (block_told sets end (slice_get ts 1) (slice_get ts 2) s (set_ok sets end (slice_get ts 1) s is_set)) rest (λ b is_block rest.
    tells end (slice_get ts 3) (slice_rules shape (set_in sets (slice_get ts 1)) (block_in (set_in sets (slice_get ts 1)) (slice_get ts 2)) (slice_get ts 3)) (line_from_4 ts)
    (value_by number_of end (slice_get ts 3) >>= known_slice shape (set_at sets s) ((block_at (set_at sets s).blocks b).span)) (ends_slice shape initial (set_at sets s) (slice_get ts 4)) e
    (slice_told shape sets end (slice_get ts 1) (slice_get ts 2) (slice_get ts 3) s b (set_ok sets end (slice_get ts 1) s is_set) (block_ok (set_at sets s) end (slice_get ts 2) b is_block)) rest (λ j is rest.
    tells end (slice_get ts 4) (end_rules (slice_get ts 4)) [] (is_end (slice_get ts 4)) (λ _. Ok (probe_of shape initial (set_at sets s) j)) e
    (end_judges end (slice_get ts 4)) rest (λ x is rest. absurd cc)))))

pub slices_least : SliceRefusalsAreLeast
slices_least shape initial sets text e h = line_told shape initial sets (length text + 1) (tokens 1 text) e (sym (slice_is shape initial sets text) ∙ h)
