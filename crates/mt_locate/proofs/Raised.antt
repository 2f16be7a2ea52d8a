-- What is read at an address of a slice, and at the same place of the words that stand for the slice.
use Rattle.std.proofs.Common.{ℕ, zero, suc, ◌+◌, ◌<◌, ◌≤◌, ◌≡◌, ◌==◌, Bool, not, List, [], ◌∷◌, ◌++◌, map, reverse, take, length, get_or, replicate, Option, Some, refl, sym, ap, ◌∙◌, arith}
use Rattle.std.specs.Bool.{then_some}
use Rattle.std.specs.Option.{option_map}
use Rattle.std.specs.List.{cons_option}
use Rattle.std.proofs.lemmas.List.{take-map, reverse-append, map-append, length-map, get_or-replicate, length-replicate}
use Rattle.std.proofs.lemmas.Option.{get_or_from_slice_get, slice_get-get_or, slice_get-map}
use Rattle.mt_word.specs.declared.Width.{Width}
use Rattle.mt_fault.specs.declared.fault.Fault.{Fault}
use Rattle.mt_fault.specs.History.{Read, Write, History}
use Rattle.mt_fault.specs.Placement.{IsWellPlaced}
use Rattle.mt_fault.specs.Faulty.{answer}
use Rattle.mt_fault.specs.Items.{Item, Look, Check, Store, place, access_of, history, agrees}
use Rattle.mt_fault.specs.Memory.{first_words}
use Rattle.std.proofs.lemmas.List.Elements.{All-get_or}
use Rattle.mt_plan.specs.declared.algorithm.Act.{Act}
use Rattle.mt_plan.specs.declared.algorithm.Act.TheVariants.{WritePlain, WriteFlipped, ReadPlain, ReadFlipped}
use Rattle.mt_plan.specs.declared.algorithm.Step.{Step}
use Rattle.mt_plan.specs.Accesses.{act_on, item_of}
use Rattle.mt_plan.specs.Plan.{steps_of, IsAccepted}
use Rattle.mt_plan.specs.Steady.{PlansAreSteady}
use Rattle.mt_decoder.specs.Misses.{accesses}
use Rattle.mt_locate.specs.declared.probe.Probe.{Probe}
use Rattle.mt_locate.specs.declared.probe.Miss.{Miss}
use Rattle.mt_locate.specs.Misses.{miss_at, misses_of}
use Rattle.mt_locate.specs.Explanations.{accesses_of, MissesAreThoseOfTheMemory}
use Rattle.mt_locate.specs.Moved.{moved_down, FaultsStayWellPlaced}
use Rattle.mt_locate.proofs.MissLists.{miss, misses_from}
use Rattle.mt_locate.proofs.Spans.{length-accesses, access_at, place_of}
use Rattle.mt_locate.proofs.MovedFaults.{access_up, up, fault_up, SameBelow, answer_up, first_up, fault_back}

-- ---- lists of accesses

abbrev item_up : ℕ → Item → Item
item_up d (Look a) = Look (d + a)
item_up d (Check a x) = Check (d + a) x
item_up d (Store a x) = Store (d + a) x

access_of_up : (d : ℕ) (items : List Item) → map access_of (map (item_up d) items) ≡ up d (map access_of items)
access_of_up d [] = refl
access_of_up d (Look a ∷ more) = ap (λ (l : History). Read (d + a) ∷ l) (access_of_up d more)
access_of_up d (Check a x ∷ more) = ap (λ (l : History). Read (d + a) ∷ l) (access_of_up d more)
access_of_up d (Store a x ∷ more) = ap (λ (l : History). Write (d + a) x ∷ l) (access_of_up d more)

map_reverse : (d : ℕ) (h : History) → up d (reverse h) ≡ reverse (up d h)
map_reverse d [] = refl
map_reverse d (access ∷ h) =
    ap (up d) (reverse-append (access ∷ []) h)
    ∙ map-append (access_up d) (reverse h) (access ∷ [])
    ∙ ap (λ (l : History). l ++ access_up d access ∷ []) (map_reverse d h)
    ∙ sym (reverse-append (access_up d access ∷ []) (up d h))

history_up : (d : ℕ) (items : List Item) → history (map (item_up d) items) ≡ up d (history items)
unfolding history
history_up d items = ap reverse (access_of_up d items) ∙ sym (map_reverse d (map access_of items))

agrees_up : (width : Width) (d n : ℕ) (big small : List ℕ) (fault : Fault) (h : History) (item : Item) → SameBelow d big small n → IsWellPlaced width n fault → place item < n
    → agrees (Some (fault_up d fault)) big (up d h) (item_up d item) ≡ agrees (Some fault) small h item
agrees_up width d n big small fault h (Look a) s p l = refl
agrees_up width d n big small fault h (Check a x) s p l = ap (λ (y : ℕ). y == x) (answer_up width d n big small fault h a s p l)
agrees_up width d n big small fault h (Store a x) s p l = refl

place_up : (d : ℕ) (item : Item) → place (item_up d item) ≡ d + place item
place_up d (Look a) = refl
place_up d (Check a x) = refl
place_up d (Store a x) = refl

-- every access is one of the n words
abbrev Stays : ℕ → List Item → Type 0
Stays n items = (i : ℕ) → i < length items → place (get_or items i (Look 0)) < n

miss_up : (width : Width) (d n : ℕ) (big small : List ℕ) (fault : Fault) (items : List Item) (i : ℕ) → SameBelow d big small n → IsWellPlaced width n fault → Stays n items → i < length items
    → miss_at (Some (fault_up d fault)) big (map (item_up d) items) i ≡ miss_at (Some fault) small items i
miss_up width d n big small fault items i s p stays l =
    let item : Item = get_or items i (Look 0) in
    let f : Option Fault = Some (fault_up d fault) in
    let h : History = history (take i items) in
    let here : get_or (map (item_up d) items) i (Look 0) ≡ item_up d item =
    get_or_from_slice_get (map (item_up d) items) i (item_up d item) (Look 0) (slice_get-map (item_up d) items i ∙ ap (option_map (item_up d)) (slice_get-get_or items i (Look 0) l)) in
    let before : history (take i (map (item_up d) items)) ≡ up d h = ap history (take-map (item_up d) i items) ∙ history_up d (take i items) in
    ap (λ (x : Item). then_some (not (agrees f big (history (take i (map (item_up d) items))) x)) (miss i (answer f big (history (take i (map (item_up d) items))) (place x)))) here
    ∙ ap (λ (k : History). then_some (not (agrees f big k (item_up d item))) (miss i (answer f big k (place (item_up d item))))) before
    ∙ ap (λ (a : ℕ). then_some (not (agrees f big (up d h) (item_up d item))) (miss i (answer f big (up d h) a))) (place_up d item)
    ∙ ap (λ (b : Bool). then_some (not b) (miss i (answer f big (up d h) (d + place item)))) (agrees_up width d n big small fault h item s p (stays i l))
    ∙ ap (λ (y : ℕ). then_some (not (agrees (Some fault) small h item)) (miss i y)) (answer_up width d n big small fault h (place item) s p (stays i l))

from_up : (width : Width) (d n : ℕ) (big small : List ℕ) (fault : Fault) (items : List Item) (i k : ℕ) → SameBelow d big small n → IsWellPlaced width n fault → Stays n items → i + k ≤ length items
    → misses_from (Some (fault_up d fault)) big (map (item_up d) items) i k ≡ misses_from (Some fault) small items i k
from_up width d n big small fault items i zero s p stays l = refl
from_up width d n big small fault items i (suc k) s p stays l =
    ap (λ (o : Option Miss). cons_option o (misses_from (Some (fault_up d fault)) big (map (item_up d) items) (i + 1) k)) (miss_up width d n big small fault items i s p stays (omega (arith, l)))
    ∙ ap (cons_option (miss_at (Some fault) small items i)) (from_up width d n big small fault items (i + 1) k s p stays (omega (arith, l)))

misses_up : (width : Width) (d n : ℕ) (big small : List ℕ) (fault : Fault) (items : List Item) → SameBelow d big small n → IsWellPlaced width n fault → Stays n items
    → misses_of (Some (fault_up d fault)) big (map (item_up d) items) ≡ misses_of (Some fault) small items
unfolding misses_of
misses_up width d n big small fault items s p stays =
    ap (misses_from (Some (fault_up d fault)) big (map (item_up d) items) 0) (length-map items (item_up d))
    ∙ from_up width d n big small fault items 0 (length items) s p stays (omega arith)

-- ---- the accesses of a probe

act_up : (width : Width) (d cell back : ℕ) (act : Act) → act_on width (d + cell) back act ≡ item_up d (act_on width (0 + cell) back act)
act_up width d cell back act = let e : cell ≡ 0 + cell = omega arith in ap (λ (a : ℕ). act_on width (d + a) back act) e ∙ of act
  where
    of : (act : Act) → act_on width (d + (0 + cell)) back act ≡ item_up d (act_on width (0 + cell) back act)
    of WritePlain = refl
    of WriteFlipped = refl
    of ReadPlain = refl
    of ReadFlipped = refl

steps_up : (width : Width) (d back : ℕ) (steps : List Step) → map (item_of width d (λ cell. back)) steps ≡ map (item_up d) (map (item_of width 0 (λ cell. back)) steps)
steps_up width d back [] = refl
steps_up width d back (t ∷ more) =
    ap (λ (x : Item). x ∷ map (item_of width d (λ cell. back)) more) (act_up width d t.cell back t.act)
    ∙ ap (λ (l : List Item). item_up d (item_of width 0 (λ cell. back) t) ∷ l) (steps_up width d back more)

accesses_up : (probe : Probe) → accesses probe.width probe.alg probe.background probe.first probe.n ≡ map (item_up probe.first) (accesses_of probe)
unfolding accesses
accesses_up probe = steps_up probe.width probe.first probe.background (steps_of probe.alg probe.n)

stays_on : PlansAreSteady → (probe : Probe) → IsAccepted probe.alg → Stays probe.n (accesses_of probe)
stays_on steady probe accepted i l =
    let few : i < length (steps_of probe.alg probe.n) = omega (arith, l, length-accesses probe) in
    let none : Step = record { cell = 0; act = ReadPlain } in
    let t : Step = get_or (steps_of probe.alg probe.n) i none in
    let at : get_or (accesses_of probe) i (Look 0) ≡ act_on probe.width t.cell probe.background t.act = access_at probe i t (slice_get-get_or (steps_of probe.alg probe.n) i none few) in
    let there : place (get_or (accesses_of probe) i (Look 0)) ≡ t.cell = ap place at ∙ place_of probe.width t.cell probe.background t.act in
    let inside : t.cell < probe.n = All-get_or (λ (x : Step). x.cell < probe.n) (steps_of probe.alg probe.n) i none few (steady probe.alg probe.n accepted).inside in
    omega (arith, there, inside)

pub in_memory : PlansAreSteady → FaultsStayWellPlaced → MissesAreThoseOfTheMemory
in_memory steady placed probe words fault accepted inside holds =
    let d : ℕ = probe.first in
    let n : ℕ = probe.n in
    let small : List ℕ = replicate n probe.initial in
    let low : Fault = moved_down d fault in
    let p : IsWellPlaced probe.width n low = placed probe.width d n fault inside in
    let back : fault ≡ fault_up d low = fault_back d n fault inside.inside in
    let same_words : SameBelow d words small n = λ a l. holds.initial (d + a) (record { from = omega arith; below = omega (arith, l) }) ∙ sym (get_or-replicate n a probe.initial 0 l) in
    ap (λ (f : Fault). misses_of (Some f) (first_words f words) (accesses probe.width probe.alg probe.background d n)) back
    ∙ ap (misses_of (Some (fault_up d low)) (first_words (fault_up d low) words)) (accesses_up probe)
    ∙ misses_up probe.width d n (first_words (fault_up d low) words) (first_words low small) low (accesses_of probe)
    (first_up probe.width d n words small low same_words holds.size (length-replicate n probe.initial) p) p (stays_on steady probe accepted)
