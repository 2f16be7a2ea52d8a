-- Reads that a fault does not disturb answer what they are to answer.
use Rattle.std.proofs.Common.{◌≡◌, ℕ, zero, suc, ◌<◌, ◌==◌, eqb, Bool, true, false, cond, ◌&&◌, ◌||◌, List, [], ◌∷◌, ◌++◌, map, reverse, take, length, get_or, Option, Some, None, refl, sym, ap, ◌∙◌, subst, arith, inl, inr}
use Rattle.std.specs.Prelude.{◌≢◌}
use Rattle.std.specs.List.{AllByRecursion}
use Rattle.std.proofs.lemmas.Bool.{eq-eqb, ne_eqb, cases_eq}
use Rattle.std.proofs.lemmas.List.{append_assoc, reverse-append}
use Rattle.mt_word.specs.declared.Width.{Width}
use Rattle.mt_word.specs.Word.{complement_of, put_bit}
use Rattle.mt_fault.specs.declared.fault.Spot.{Spot}
use Rattle.mt_fault.specs.declared.fault.Fault.{Fault}
use Rattle.mt_fault.specs.declared.fault.Fault.TheVariants.{StuckAt, CannotRise, CannotFall, Invert, Force, State, NoCell, Also, Instead}
use Rattle.mt_fault.specs.History.{Access, Read, Write, History, plain}
use Rattle.mt_fault.specs.Faulty.{with_victim, rerouted, cells_of, moved, stored_under, answer_under, answer}
use Rattle.mt_fault.specs.Items.{Item, access_of}
use Rattle.mt_march.specs.Accepted.{wrote}
use Rattle.mt_plan.specs.declared.algorithm.Act.{Act}
use Rattle.mt_plan.specs.declared.algorithm.Act.TheVariants.{WritePlain, WriteFlipped, ReadPlain, ReadFlipped}
use Rattle.mt_plan.specs.declared.algorithm.Step.{Step}
use Rattle.mt_plan.specs.Lists.{is_write, is_flipped}
use Rattle.mt_plan.specs.Accesses.{act_on}
use Rattle.mt_plan.specs.Steady.{steady}

-- whether a read of a word may go wrong under a fault
abbrev pub may_go_wrong : Fault → ℕ → Bool
may_go_wrong (StuckAt vic value) a = a == vic.word
may_go_wrong (CannotRise vic) a = a == vic.word
may_go_wrong (CannotFall vic) a = a == vic.word
may_go_wrong (Invert agg rise vic) a = a == vic.word
may_go_wrong (Force agg rise vic value) a = a == vic.word
may_go_wrong (State agg holds vic value) a = a == vic.word
may_go_wrong (NoCell addr seen) a = a == addr
may_go_wrong (Also addr other wired_and) a = a == addr || a == other
may_go_wrong (Instead addr other) a = a == addr || a == other

-- ---- words that no cell is lost or won for

-- the accesses of other cells change nothing here
skip : (first : List ℕ) (h : History) (a : ℕ) (access : Access) (cs : List ℕ) → AllByRecursion (λ c. a ≢ c) cs → plain first (map (moved access) cs ++ h) a ≡ plain first h a
skip first h a access [] p = refl
skip first h a (Read b) (c ∷ cs) p = skip first h a (Read b) cs p.1
skip first h a (Write b x) (c ∷ cs) p = ap (λ (t : Bool). cond t x (plain first (map (moved (Write b x)) cs ++ h) a)) (ne_eqb a c p.0) ∙ skip first h a (Write b x) cs p.1

skip_reads : (first : List ℕ) (h : History) (a b : ℕ) (cs : List ℕ) → plain first (map (moved (Read b)) cs ++ h) a ≡ plain first h a
skip_reads first h a b [] = refl
skip_reads first h a b (c ∷ cs) = skip_reads first h a b cs

-- An address keeps its cell, and no other address reaches that cell.
record KeepsCell (fault : Fault) (a : ℕ) : Type 0 where
  own : cells_of fault a ≡ a ∷ []
  others : (b : ℕ) → a ≢ b → AllByRecursion (λ c. a ≢ c) (cells_of fault b)

kept_cell : (fault : Fault) (first : List ℕ) (h : History) (a : ℕ) → KeepsCell fault a → plain first (rerouted fault h) a ≡ plain first h a
kept_cell fault first [] a keeps = refl
kept_cell fault first (Read b ∷ h) a keeps = skip_reads first (rerouted fault h) a b (cells_of fault b) ∙ kept_cell fault first h a keeps
kept_cell fault first (Write b x ∷ h) a keeps = elim (cases_eq a b) [
  | inl same ↦
      ap (λ (cs : List ℕ). plain first (map (moved (Write b x)) cs ++ rerouted fault h) a) (ap (cells_of fault) (sym same) ∙ keeps.own ∙ ap (λ (c : ℕ). c ∷ []) same)
      ∙ ap (λ (w : ℕ). cond (eqb a b) x w) (kept_cell fault first h a keeps)
  | inr apart ↦
      skip first (rerouted fault h) a (Write b x) (cells_of fault b) (keeps.others b apart)
      ∙ kept_cell fault first h a keeps
      ∙ ap (λ (t : Bool). cond t x (plain first h a)) (sym (ne_eqb a b apart))
]

ne_from : (a b : ℕ) → eqb a b ≡ false → a ≢ b
ne_from a b e same = let f : eqb a b ≡ true = eq-eqb a b same in absurd (let g : true ≡ false = sym f ∙ e in cc)

or_false : (a b : Bool) → (a || b) ≡ false → (a ≡ false) × (b ≡ false)
or_false true b e = absurd (cc)
or_false false b e = (refl, e)

keeps_no_cell : (addr seen a : ℕ) → eqb a addr ≡ false → KeepsCell (NoCell addr seen) a
keeps_no_cell addr seen a e = record { own = ap (λ (t : Bool). cond t [] (a ∷ [])) e; others = λ b apart. of b apart (eqb b addr) }
  where
    of : (b : ℕ) → a ≢ b → (t : Bool) → AllByRecursion (λ c. a ≢ c) (cond t [] (b ∷ []))
    of b apart true = tt
    of b apart false = (apart, tt)

keeps_also : (addr other a : ℕ) (wired_and : Bool) → eqb a addr ≡ false → eqb a other ≡ false → KeepsCell (Also addr other wired_and) a
keeps_also addr other a wired_and e f = record { own = ap (λ (t : Bool). cond t (addr ∷ other ∷ []) (a ∷ [])) e; others = λ b apart. of b apart (eqb b addr) }
  where
    of : (b : ℕ) → a ≢ b → (t : Bool) → AllByRecursion (λ c. a ≢ c) (cond t (addr ∷ other ∷ []) (b ∷ []))
    of b apart true = (ne_from a addr e, (ne_from a other f, tt))
    of b apart false = (apart, tt)

keeps_instead : (addr other a : ℕ) → eqb a addr ≡ false → eqb a other ≡ false → KeepsCell (Instead addr other) a
keeps_instead addr other a e f = record { own = ap (λ (t : Bool). cond t (other ∷ []) (a ∷ [])) e; others = λ b apart. of b apart (eqb b addr) }
  where
    of : (b : ℕ) → a ≢ b → (t : Bool) → AllByRecursion (λ c. a ≢ c) (cond t (other ∷ []) (b ∷ []))
    of b apart true = (ne_from a other f, tt)
    of b apart false = (apart, tt)

not_victim : (vic : Spot) (bit : Bool) (words : ℕ → ℕ) (a : ℕ) → eqb a vic.word ≡ false → with_victim vic bit words a ≡ words a
not_victim vic bit words a e = ap (λ (t : Bool). cond t (put_bit (words a) vic.bit bit) (words a)) e

not_doubled : (x y a addr : ℕ) → eqb a addr ≡ false → cond (eqb a addr) x y ≡ y
not_doubled x y a addr e = ap (λ (t : Bool). cond t x y) e

-- a read of a word that cannot go wrong answers what is stored in plain memory
pub sound_answer : (fault : Fault) (first : List ℕ) (h : History) (a : ℕ) → may_go_wrong fault a ≡ false → answer (Some fault) first h a ≡ plain first h a
unfolding answer_under stored_under
sound_answer (StuckAt vic value) first h a e = not_victim vic _ (plain first h) a e
sound_answer (CannotRise vic) first h a e = not_victim vic _ (plain first h) a e
sound_answer (CannotFall vic) first h a e = not_victim vic _ (plain first h) a e
sound_answer (Invert agg rise vic) first h a e = not_victim vic _ (plain first h) a e
sound_answer (Force agg rise vic value) first h a e = not_victim vic _ (plain first h) a e
sound_answer (State agg holds vic value) first h a e = not_victim vic _ (plain first h) a e
sound_answer (NoCell addr seen) first h a e =
    ap (λ (t : Bool). cond t seen (plain first (rerouted (NoCell addr seen) h) a)) e ∙ kept_cell (NoCell addr seen) first h a (keeps_no_cell addr seen a e)
sound_answer (Also addr other wired_and) first h a e =
    let both = or_false (eqb a addr) (eqb a other) e in
    not_doubled _ (plain first (rerouted (Also addr other wired_and) h) a) a addr both.0
    ∙ kept_cell (Also addr other wired_and) first h a (keeps_also addr other a wired_and both.0 both.1)
sound_answer (Instead addr other) first h a e =
    let both = or_false (eqb a addr) (eqb a other) e in
    ap (λ (t : Bool). cond t (plain first (rerouted (Instead addr other) h) other) (plain first (rerouted (Instead addr other) h) a)) both.0
    ∙ kept_cell (Instead addr other) first h a (keeps_instead addr other a both.0 both.1)

-- ---- what steady steps leave in a cell

-- the background word, or its complement
abbrev pub word_for : Width → ℕ → Bool → ℕ
word_for width back true = complement_of width back
word_for width back false = back

abbrev Knows : Width → ℕ → Option Bool → ℕ → Type 0
Knows width back None x = Unit {0}
Knows width back (Some f) x = x ≡ word_for width back f

abbrev pub item_at : Width → ℕ → Step → Item
item_at width back t = act_on width t.cell back t.act

abbrev none : Step
none = record { cell = 0; act = ReadPlain }

-- the accesses before one, the latest first
abbrev before : Width → ℕ → List Step → ℕ → History → History
before width back steps i h = reverse (map access_of (take i (map (item_at width back) steps))) ++ h

before_more : (width : Width) (back : ℕ) (t : Step) (steps : List Step) (i : ℕ) (h : History)
    → before width back (t ∷ steps) (suc i) h ≡ before width back steps i (access_of (item_at width back t) ∷ h)
before_more width back t steps i h =
    let a : Access = access_of (item_at width back t) in
    let l : History = map access_of (take i (map (item_at width back) steps)) in
    ap (λ (r : History). r ++ h) (reverse-append (a ∷ []) l) ∙ append_assoc (reverse l) (a ∷ []) h

wrote_is : (width : Width) (back x : ℕ) (written : Option Bool) (f : Bool) → wrote written f ≡ true → Knows width back written x → x ≡ word_for width back f
wrote_is width back x None f e k = absurd (cc)
wrote_is width back x (Some true) true e k = k
wrote_is width back x (Some true) false e k = absurd (cc)
wrote_is width back x (Some false) true e k = absurd (cc)
wrote_is width back x (Some false) false e k = k

and_both : (a b : Bool) → (a && b) ≡ true → (a ≡ true) × (b ≡ true)
and_both true b e = (refl, e)
and_both false b e = absurd (cc)

-- one step on: what is known of the cell stays known
record Goes (width : Width) (back c : ℕ) (first : List ℕ) (t : Step) (more : List Step) (h : History) : Type 0 where
  written : Option Bool
  steady : steady c written more ≡ true
  knows : Knows width back written (plain first (access_of (item_at width back t) ∷ h) c)

goes : (width : Width) (back c : ℕ) (first : List ℕ) (t : Step) (more : List Step) (written : Option Bool) (h : History)
    → steady c written (t ∷ more) ≡ true → Knows width back written (plain first h c) → Goes width back c first t more h
goes width back c first t more written h e k = elim (cases_eq t.cell c) [
  | inl same ↦ here t.act t.cell same (ap (λ (b : Bool). cond b (cond (is_write t.act) (steady c (Some (is_flipped t.act)) more) (wrote written (is_flipped t.act) && steady c written more)) (steady c written more)) (sym (eq-eqb t.cell c same)) ∙ e)
  | inr apart ↦ there t.act t.cell (λ f. apart (sym f)) (ap (λ (b : Bool). cond b (cond (is_write t.act) (steady c (Some (is_flipped t.act)) more) (wrote written (is_flipped t.act) && steady c written more)) (steady c written more)) (sym (ne_eqb t.cell c apart)) ∙ e)
]
  where
    store : (d x : ℕ) → d ≡ c → plain first (Write d x ∷ h) c ≡ x
    store d x same = ap (λ (b : Bool). cond b x (plain first h c)) (eq-eqb c d (sym same))

    other : (d x : ℕ) → c ≢ d → plain first (Write d x ∷ h) c ≡ plain first h c
    other d x apart = ap (λ (b : Bool). cond b x (plain first h c)) (ne_eqb c d apart)

    here : (act : Act) (d : ℕ) → d ≡ c → cond (is_write act) (steady c (Some (is_flipped act)) more) (wrote written (is_flipped act) && steady c written more) ≡ true
        → Goes width back c first (record { cell = d; act = act }) more h
    here WritePlain d same f = record { written = Some false; steady = f; knows = store d back same }
    here WriteFlipped d same f = record { written = Some true; steady = f; knows = store d (complement_of width back) same }
    here ReadPlain d same f = record { written = written; steady = (and_both (wrote written false) (steady c written more) f).1; knows = k }
    here ReadFlipped d same f = record { written = written; steady = (and_both (wrote written true) (steady c written more) f).1; knows = k }

    there : (act : Act) (d : ℕ) → c ≢ d → steady c written more ≡ true → Goes width back c first (record { cell = d; act = act }) more h
    there WritePlain d apart f = record { written = written; steady = f; knows = subst (Knows width back written) (sym (other d back apart)) k }
    there WriteFlipped d apart f = record { written = written; steady = f; knows = subst (Knows width back written) (sym (other d (complement_of width back) apart)) k }
    there ReadPlain d apart f = record { written = written; steady = f; knows = k }
    there ReadFlipped d apart f = record { written = written; steady = f; knows = k }

-- a read finds what it expects
pub found : (width : Width) (back c : ℕ) (first : List ℕ) (steps : List Step) (written : Option Bool) (h : History) (i : ℕ) (f : Bool)
    → steady c written steps ≡ true → Knows width back written (plain first h c) → i < length steps
    → (get_or steps i none).cell ≡ c → is_write ((get_or steps i none).act) ≡ false → is_flipped ((get_or steps i none).act) ≡ f
    → plain first (before width back steps i h) c ≡ word_for width back f
found width back c first [] written h i f e k l cell reads flipped = absurd (omega (arith, l))
found width back c first (t ∷ steps) written h zero f e k l cell reads flipped =
    let g : cond (is_write t.act) (steady c (Some (is_flipped t.act)) steps) (wrote written (is_flipped t.act) && steady c written steps) ≡ true =
    ap (λ (b : Bool). cond b (cond (is_write t.act) (steady c (Some (is_flipped t.act)) steps) (wrote written (is_flipped t.act) && steady c written steps)) (steady c written steps)) (sym (eq-eqb t.cell c cell)) ∙ e in
    let r : (wrote written (is_flipped t.act) && steady c written steps) ≡ true =
    ap (λ (b : Bool). cond b (steady c (Some (is_flipped t.act)) steps) (wrote written (is_flipped t.act) && steady c written steps)) (sym reads) ∙ g in
    wrote_is width back (plain first h c) written f (ap (wrote written) (sym flipped) ∙ (and_both (wrote written (is_flipped t.act)) (steady c written steps) r).0) k
found width back c first (t ∷ steps) written h (suc i) f e k l cell reads flipped =
    let n = goes width back c first t steps written h e k in
    ap (λ (a : History). plain first a c) (before_more width back t steps i h)
    ∙ found width back c first steps n.written (access_of (item_at width back t) ∷ h) i f n.steady n.knows (omega (arith, l)) cell reads flipped
