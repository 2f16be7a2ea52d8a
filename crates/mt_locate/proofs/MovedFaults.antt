-- A fault of a slice, and the same fault of the words that stand for the slice.
use Rattle.std.proofs.Common.{ℕ, ◌+◌, ◌-◌, ◌<◌, ◌≤◌, ◌≡◌, eqb, Bool, true, false, not, cond, ◌&&◌, ◌||◌, List, [], ◌∷◌, ◌++◌, map, set, length, get_or, Some, refl, sym, ap, ◌∙◌, arith, inl, inr, get_or-set_same, get_or-set_other}
use Rattle.std.proofs.lemmas.Bool.{eq-eqb, ne_eqb, cases_eq}
use Rattle.mt_word.specs.declared.Width.{Width}
use Rattle.mt_word.specs.Word.{has_bit, put_bit}
use Rattle.mt_fault.specs.declared.fault.Spot.{Spot}
use Rattle.mt_fault.specs.declared.fault.Fault.{Fault}
use Rattle.mt_fault.specs.declared.fault.Fault.TheVariants.{StuckAt, CannotRise, CannotFall, Invert, Force, State, NoCell, Also, Instead}
use Rattle.mt_fault.specs.History.{Access, Read, Write, History, plain}
use Rattle.mt_fault.specs.Placement.{IsWellPlaced, IsInside}
use Rattle.mt_fault.specs.Faulty.{same, asked, every_setting, is_named, named_changes, is_odd, was_held, with_victim, rerouted, cells_of, moved, address, stored_under, answer_under, answer}
use Rattle.mt_fault.specs.Memory.{first_words, set_spot}
use Rattle.mt_locate.specs.Moved.{moved_down}

-- the same, d words higher
abbrev pub access_up : ℕ → Access → Access
access_up d (Read a) = Read (d + a)
access_up d (Write a x) = Write (d + a) x

abbrev pub up : ℕ → History → History
up d h = map (access_up d) h

abbrev spot_up : ℕ → Spot → Spot
spot_up d spot = record { word = d + spot.word; bit = spot.bit }

abbrev pub fault_up : ℕ → Fault → Fault
fault_up d (StuckAt vic value) = StuckAt (spot_up d vic) value
fault_up d (CannotRise vic) = CannotRise (spot_up d vic)
fault_up d (CannotFall vic) = CannotFall (spot_up d vic)
fault_up d (Invert agg rise vic) = Invert (spot_up d agg) rise (spot_up d vic)
fault_up d (Force agg rise vic value) = Force (spot_up d agg) rise (spot_up d vic) value
fault_up d (State agg holds vic value) = State (spot_up d agg) holds (spot_up d vic) value
fault_up d (NoCell addr seen) = NoCell (d + addr) seen
fault_up d (Also addr other wired_and) = Also (d + addr) (d + other) wired_and
fault_up d (Instead addr other) = Instead (d + addr) (d + other)

-- two addresses are one exactly where those d words higher are
shift : (d a b : ℕ) → eqb (d + a) (d + b) ≡ eqb a b
shift d a b = elim (cases_eq a b) [
  | inl e ↦ eq-eqb (d + a) (d + b) (ap (λ (n : ℕ). d + n) e) ∙ sym (eq-eqb a b e)
  | inr e ↦ ne_eqb (d + a) (d + b) (λ f. e (let g : a ≡ b = omega (arith, f) in g)) ∙ sym (ne_eqb a b e)
]

-- the word at the same place is the same
abbrev Same : ℕ → List ℕ → List ℕ → ℕ → Type 0
Same d big small a = get_or big (d + a) 0 ≡ get_or small a 0

-- ---- what is stored, by each kind of fault

plain_up : (d : ℕ) (big small : List ℕ) (h : History) (a : ℕ) → Same d big small a → plain big (up d h) (d + a) ≡ plain small h a
plain_up d big small [] a s = s
plain_up d big small (Read b ∷ h) a s = plain_up d big small h a s
plain_up d big small (Write b x ∷ h) a s = rw (shift d a b) (ap (cond (eqb a b) x) (plain_up d big small h a s))

settings_up : (d : ℕ) (test : ℕ → Bool) (big small : List ℕ) (h : History) (a : ℕ) → Same d big small a → every_setting test big (up d h) (d + a) ≡ every_setting test small h a
settings_up d test big small [] a s = ap test s
settings_up d test big small (Read b ∷ h) a s = settings_up d test big small h a s
settings_up d test big small (Write b x ∷ h) a s = rw (shift d a b) (ap (λ (t : Bool). cond (eqb a b) (test x && t) t) (settings_up d test big small h a s))

named_up : (d : ℕ) (big small : List ℕ) (agg : Spot) (rise : Bool) (vic : Spot) (h : History) → Same d big small agg.word
    → named_changes big (spot_up d agg) rise (spot_up d vic) (up d h) ≡ named_changes small agg rise vic h
named_up d big small agg rise vic [] s = refl
named_up d big small agg rise vic (Read b ∷ h) s = named_up d big small agg rise vic h s
named_up d big small agg rise vic (Write b x ∷ h) s =
    let m : ℕ = named_changes big (spot_up d agg) rise (spot_up d vic) (up d h) in
    rw (shift d vic.word b, shift d agg.word b) (
    ap (λ (n : ℕ). cond (eqb vic.word b) 0 (cond (eqb agg.word b && same (has_bit n agg.bit) (not rise) && same (has_bit x agg.bit) rise) (m + 1) m)) (plain_up d big small h agg.word s)
    ∙ ap (λ (n : ℕ). cond (eqb vic.word b) 0 (cond (is_named small agg rise h (Write b x)) (n + 1) n)) (named_up d big small agg rise vic h s))

held_up : (d : ℕ) (big small : List ℕ) (agg : Spot) (holds : Bool) (vic : Spot) (h : History) → Same d big small agg.word
    → was_held big (spot_up d agg) holds (spot_up d vic) (up d h) ≡ was_held small agg holds vic h
held_up d big small agg holds vic [] s = ap (λ (n : ℕ). same (has_bit n agg.bit) holds) s
held_up d big small agg holds vic (Read b ∷ h) s =
    ap (λ (n : ℕ). same (has_bit n agg.bit) holds || was_held big (spot_up d agg) holds (spot_up d vic) (up d h)) (plain_up d big small h agg.word s)
    ∙ ap (λ (r : Bool). same (asked small (Read b ∷ h) agg) holds || r) (held_up d big small agg holds vic h s)
held_up d big small agg holds vic (Write b x ∷ h) s =
    ap (λ (n : ℕ). same (has_bit n agg.bit) holds || cond (eqb (d + vic.word) (d + b)) false (was_held big (spot_up d agg) holds (spot_up d vic) (up d h))) (plain_up d big small (Write b x ∷ h) agg.word s)
    ∙ ap (λ (q : Bool). same (asked small (Write b x ∷ h) agg) holds || cond q false (was_held big (spot_up d agg) holds (spot_up d vic) (up d h))) (shift d vic.word b)
    ∙ ap (λ (r : Bool). same (asked small (Write b x ∷ h) agg) holds || cond (eqb vic.word b) false r) (held_up d big small agg holds vic h s)

cells_up : (d : ℕ) (fault : Fault) (a : ℕ) → cells_of (fault_up d fault) (d + a) ≡ map (λ b. d + b) (cells_of fault a)
cells_up d (StuckAt vic value) a = refl
cells_up d (CannotRise vic) a = refl
cells_up d (CannotFall vic) a = refl
cells_up d (Invert agg rise vic) a = refl
cells_up d (Force agg rise vic value) a = refl
cells_up d (State agg holds vic value) a = refl
cells_up d (NoCell addr seen) a = rw (shift d a addr) (of (eqb a addr))
  where
    of : (q : Bool) → cond q [] ((d + a) ∷ []) ≡ map (λ b. d + b) (cond q [] (a ∷ []))
    of true = refl
    of false = refl
cells_up d (Also addr other wired_and) a = rw (shift d a addr) (of (eqb a addr))
  where
    of : (q : Bool) → cond q ((d + addr) ∷ (d + other) ∷ []) ((d + a) ∷ []) ≡ map (λ b. d + b) (cond q (addr ∷ other ∷ []) (a ∷ []))
    of true = refl
    of false = refl
cells_up d (Instead addr other) a = rw (shift d a addr) (of (eqb a addr))
  where
    of : (q : Bool) → cond q ((d + other) ∷ []) ((d + a) ∷ []) ≡ map (λ b. d + b) (cond q (other ∷ []) (a ∷ []))
    of true = refl
    of false = refl

moved_up : (d : ℕ) (access : Access) (cs : List ℕ) (r : History) → map (moved (access_up d access)) (map (λ b. d + b) cs) ++ up d r ≡ up d (map (moved access) cs ++ r)
moved_up d access [] r = refl
moved_up d (Read a) (b ∷ cs) r = ap (λ (l : History). Read (d + b) ∷ l) (moved_up d (Read a) cs r)
moved_up d (Write a x) (b ∷ cs) r = ap (λ (l : History). Write (d + b) x ∷ l) (moved_up d (Write a x) cs r)

address_up : (d : ℕ) (access : Access) → address (access_up d access) ≡ d + address access
address_up d (Read a) = refl
address_up d (Write a x) = refl

rerouted_up : (d : ℕ) (fault : Fault) (h : History) → rerouted (fault_up d fault) (up d h) ≡ up d (rerouted fault h)
rerouted_up d fault [] = refl
rerouted_up d fault (access ∷ h) =
    ap (λ (a : ℕ). map (moved (access_up d access)) (cells_of (fault_up d fault) a) ++ rerouted (fault_up d fault) (up d h)) (address_up d access)
    ∙ ap (λ (cs : List ℕ). map (moved (access_up d access)) cs ++ rerouted (fault_up d fault) (up d h)) (cells_up d fault (address access))
    ∙ ap (λ (r : History). map (moved (access_up d access)) (map (λ b. d + b) (cells_of fault (address access))) ++ r) (rerouted_up d fault h)
    ∙ moved_up d access (cells_of fault (address access)) (rerouted fault h)

victim_up : (d : ℕ) (vic : Spot) (b c : Bool) (p q : ℕ → ℕ) (a : ℕ) → b ≡ c → p (d + a) ≡ q a → with_victim (spot_up d vic) b p (d + a) ≡ with_victim vic c q a
victim_up d vic b c p q a e f =
    rw (shift d a vic.word) (
    ap (λ (w : ℕ). cond (eqb a vic.word) (put_bit w vic.bit b) w) f
    ∙ ap (λ (v : Bool). cond (eqb a vic.word) (put_bit (q a) vic.bit v) (q a)) e)

abbrev pub SameBelow : ℕ → List ℕ → List ℕ → ℕ → Type 0
SameBelow d big small n = (a : ℕ) → a < n → Same d big small a

stored_up : (width : Width) (d n : ℕ) (big small : List ℕ) (fault : Fault) (h : History) (a : ℕ) → SameBelow d big small n → IsWellPlaced width n fault → a < n
    → stored_under (fault_up d fault) big (up d h) (d + a) ≡ stored_under fault small h a
unfolding stored_under
stored_up width d n big small (StuckAt vic value) h a s p l = victim_up d vic value value (plain big (up d h)) (plain small h) a refl (plain_up d big small h a (s a l))
stored_up width d n big small (CannotRise vic) h a s p l =
    victim_up d vic _ _ (plain big (up d h)) (plain small h) a (settings_up d (λ x. has_bit x vic.bit) big small h vic.word (s vic.word p.inside.0.0)) (plain_up d big small h a (s a l))
stored_up width d n big small (CannotFall vic) h a s p l =
    victim_up d vic _ _ (plain big (up d h)) (plain small h) a (ap not (settings_up d (λ x. not (has_bit x vic.bit)) big small h vic.word (s vic.word p.inside.0.0))) (plain_up d big small h a (s a l))
stored_up width d n big small (Invert agg rise vic) h a s p l =
    victim_up d vic _ _ (plain big (up d h)) (plain small h) a
    (ap (λ (w : ℕ). same (has_bit w vic.bit) (not (is_odd (named_changes big (spot_up d agg) rise (spot_up d vic) (up d h))))) (plain_up d big small h vic.word (s vic.word p.inside.1.0.0))
    ∙ ap (λ (k : ℕ). same (asked small h vic) (not (is_odd k))) (named_up d big small agg rise vic h (s agg.word p.inside.0.0)))
    (plain_up d big small h a (s a l))
stored_up width d n big small (Force agg rise vic value) h a s p l =
    victim_up d vic _ _ (plain big (up d h)) (plain small h) a
    (ap (λ (w : ℕ). cond (eqb (named_changes big (spot_up d agg) rise (spot_up d vic) (up d h)) 0) (has_bit w vic.bit) value) (plain_up d big small h vic.word (s vic.word p.inside.1.0.0))
    ∙ ap (λ (k : ℕ). cond (eqb k 0) (asked small h vic) value) (named_up d big small agg rise vic h (s agg.word p.inside.0.0)))
    (plain_up d big small h a (s a l))
stored_up width d n big small (State agg holds vic value) h a s p l =
    victim_up d vic _ _ (plain big (up d h)) (plain small h) a
    (ap (λ (w : ℕ). cond (was_held big (spot_up d agg) holds (spot_up d vic) (up d h)) value (has_bit w vic.bit)) (plain_up d big small h vic.word (s vic.word p.inside.1.0.0))
    ∙ ap (λ (k : Bool). cond k value (asked small h vic)) (held_up d big small agg holds vic h (s agg.word p.inside.0.0)))
    (plain_up d big small h a (s a l))
stored_up width d n big small (NoCell addr seen) h a s p l =
    ap (λ (k : History). plain big k (d + a)) (rerouted_up d (NoCell addr seen) h) ∙ plain_up d big small (rerouted (NoCell addr seen) h) a (s a l)
stored_up width d n big small (Also addr other wired_and) h a s p l =
    ap (λ (k : History). plain big k (d + a)) (rerouted_up d (Also addr other wired_and) h) ∙ plain_up d big small (rerouted (Also addr other wired_and) h) a (s a l)
stored_up width d n big small (Instead addr other) h a s p l =
    ap (λ (k : History). plain big k (d + a)) (rerouted_up d (Instead addr other) h) ∙ plain_up d big small (rerouted (Instead addr other) h) a (s a l)

-- ---- what is read

read_up : (d : ℕ) (fault : Fault) (p q : ℕ → ℕ) (n a : ℕ) (width : Width) → ((b : ℕ) → b < n → p (d + b) ≡ q b) → IsWellPlaced width n fault → a < n
    → answer_under (fault_up d fault) p (d + a) ≡ answer_under fault q a
unfolding answer_under
read_up d (StuckAt vic value) p q n a width e placed l = e a l
read_up d (CannotRise vic) p q n a width e placed l = e a l
read_up d (CannotFall vic) p q n a width e placed l = e a l
read_up d (Invert agg rise vic) p q n a width e placed l = e a l
read_up d (Force agg rise vic value) p q n a width e placed l = e a l
read_up d (State agg holds vic value) p q n a width e placed l = e a l
read_up d (NoCell addr seen) p q n a width e placed l = rw (shift d a addr) (ap (λ (w : ℕ). cond (eqb a addr) seen w) (e a l))
read_up d (Also addr other wired_and) p q n a width e placed l =
    rw (shift d a addr, e addr placed.inside.0.0, e other placed.inside.1.0.0, e a l) refl
read_up d (Instead addr other) p q n a width e placed l = rw (shift d a addr, e other placed.inside.1.0.0, e a l) refl

pub answer_up : (width : Width) (d n : ℕ) (big small : List ℕ) (fault : Fault) (h : History) (a : ℕ) → SameBelow d big small n → IsWellPlaced width n fault → a < n
    → answer (Some (fault_up d fault)) big (up d h) (d + a) ≡ answer (Some fault) small h a
answer_up width d n big small fault h a s p l =
    read_up d fault (stored_under (fault_up d fault) big (up d h)) (stored_under fault small h) n a width (λ b m. stored_up width d n big small fault h b s p m) p l

-- ---- the words with which the span begins

get_set : (words : List ℕ) (a x k : ℕ) → a < length words → get_or (set words a x) k 0 ≡ cond (eqb k a) x (get_or words k 0)
get_set words a x k l = elim (cases_eq k a) [
  | inl e ↦ rw (e, eq-eqb a a refl) (get_or-set_same words a x 0 l)
  | inr e ↦ rw (ne_eqb k a e) (get_or-set_other words a k x 0 e)
]

spot_set_up : (d n : ℕ) (big small : List ℕ) (vic : Spot) (value : Bool) (a : ℕ) → SameBelow d big small n → d + n ≤ length big → length small ≡ n → vic.word < n → a < n
    → Same d (set_spot (spot_up d vic) value big) (set_spot vic value small) a
spot_set_up d n big small vic value a s long size inside l =
    get_set big (d + vic.word) (put_bit (get_or big (d + vic.word) 0) vic.bit value) (d + a) (omega (arith, long, inside))
    ∙ ap (λ (q : Bool). cond q (put_bit (get_or big (d + vic.word) 0) vic.bit value) (get_or big (d + a) 0)) (shift d a vic.word)
    ∙ ap (λ (w : ℕ). cond (eqb a vic.word) (put_bit w vic.bit value) (get_or big (d + a) 0)) (s vic.word inside)
    ∙ ap (λ (w : ℕ). cond (eqb a vic.word) (put_bit (get_or small vic.word 0) vic.bit value) w) (s a l)
    ∙ sym (get_set small vic.word (put_bit (get_or small vic.word 0) vic.bit value) a (omega (arith, size, inside)))

pub first_up : (width : Width) (d n : ℕ) (big small : List ℕ) (fault : Fault) → SameBelow d big small n → d + n ≤ length big → length small ≡ n → IsWellPlaced width n fault
    → SameBelow d (first_words (fault_up d fault) big) (first_words fault small) n
first_up width d n big small (StuckAt vic value) s long size p a l = spot_set_up d n big small vic value a s long size p.inside.0.0 l
first_up width d n big small (CannotRise vic) s long size p a l = s a l
first_up width d n big small (CannotFall vic) s long size p a l = s a l
first_up width d n big small (Invert agg rise vic) s long size p a l = s a l
first_up width d n big small (Force agg rise vic value) s long size p a l = s a l
first_up width d n big small (State agg holds vic value) s long size p a l =
    ap (λ (w : ℕ). get_or (cond (same (has_bit w agg.bit) holds) (set_spot (spot_up d vic) value big) big) (d + a) 0) (s agg.word p.inside.0.0)
    ∙ of (same (has_bit (get_or small agg.word 0) agg.bit) holds)
  where
    of : (q : Bool) → get_or (cond q (set_spot (spot_up d vic) value big) big) (d + a) 0 ≡ get_or (cond q (set_spot vic value small) small) a 0
    of true = spot_set_up d n big small vic value a s long size p.inside.1.0.0 l
    of false = s a l
first_up width d n big small (NoCell addr seen) s long size p a l = s a l
first_up width d n big small (Also addr other wired_and) s long size p a l = s a l
first_up width d n big small (Instead addr other) s long size p a l = s a l

-- ---- a fault of the slice, moved down and up again

word_back : (d w : ℕ) → d ≤ w → w ≡ d + (w - d)
word_back d w h = omega (arith, h)

spot_back : (d : ℕ) (spot : Spot) → d ≤ spot.word → spot ≡ record { word = d + (spot.word - d); bit = spot.bit }
spot_back d spot h = ap (λ (w : ℕ). record { word = w; bit = spot.bit }) (word_back d spot.word h)

pub fault_back : (d n : ℕ) (fault : Fault) → IsInside fault d n → fault ≡ fault_up d (moved_down d fault)
fault_back d n (StuckAt vic value) p = ap (λ (v : Spot). StuckAt v value) (spot_back d vic p.0.from)
fault_back d n (CannotRise vic) p = ap (λ (v : Spot). CannotRise v) (spot_back d vic p.0.from)
fault_back d n (CannotFall vic) p = ap (λ (v : Spot). CannotFall v) (spot_back d vic p.0.from)
fault_back d n (Invert agg rise vic) p =
    ap (λ (v : Spot). Invert v rise vic) (spot_back d agg p.0.from) ∙ ap (λ (v : Spot). Invert (spot_up d (record { word = agg.word - d; bit = agg.bit })) rise v) (spot_back d vic p.1.0.from)
fault_back d n (Force agg rise vic value) p =
    ap (λ (v : Spot). Force v rise vic value) (spot_back d agg p.0.from) ∙ ap (λ (v : Spot). Force (spot_up d (record { word = agg.word - d; bit = agg.bit })) rise v value) (spot_back d vic p.1.0.from)
fault_back d n (State agg holds vic value) p =
    ap (λ (v : Spot). State v holds vic value) (spot_back d agg p.0.from) ∙ ap (λ (v : Spot). State (spot_up d (record { word = agg.word - d; bit = agg.bit })) holds v value) (spot_back d vic p.1.0.from)
fault_back d n (NoCell addr seen) p = ap (λ (a : ℕ). NoCell a seen) (word_back d addr p.0.from)
fault_back d n (Also addr other wired_and) p =
    ap (λ (a : ℕ). Also a other wired_and) (word_back d addr p.0.from) ∙ ap (λ (a : ℕ). Also (d + (addr - d)) a wired_and) (word_back d other p.1.0.from)
fault_back d n (Instead addr other) p =
    ap (λ (a : ℕ). Instead a other) (word_back d addr p.0.from) ∙ ap (λ (a : ℕ). Instead (d + (addr - d)) a) (word_back d other p.1.0.from)
