-- The tokens of a text that spells a line are those of the line.
use Rattle.std.proofs.Common.{◌≡◌, ℕ, zero, suc, ◌+◌, ◌≤◌, ◌<◌, ◌==◌, ◌||◌, Bool, true, false, cond, codes, List, [], ◌∷◌, ◌++◌, length, take, drop, get_or, Option, Some, None, Ok, refl, sym, ap, subst, ◌∙◌, inl, inr, arith, append_assoc, eqb-true, nat_le}
use Rattle.std.proofs.lemmas.Bool.{cases_Bool}
use Rattle.std.proofs.lemmas.Bool.Decides.{nat_tests}
use Rattle.std.proofs.lemmas.List.{append-nil, take-append-drop, drop_more}
use Rattle.std.proofs.lemmas.List.Quantifiers.{position-Some}
use Rattle.std.proofs.lemmas.Slice.Eq.{bytes_eq-Decides}
use Rattle.std.specs.Str.{bytes_eq}
use Rattle.std.specs.Fmt.{decimal}
use Rattle.mt_word.specs.declared.Width.{Width}
use Rattle.mt_fault.specs.declared.fault.Spot.{Spot}
use Rattle.mt_fault.specs.declared.fault.Fault.{Fault}
use Rattle.mt_port.specs.declared.board.Shape.{Shape}
use Rattle.mt_port.specs.declared.request.Module.{Module}
use Rattle.mt_port.specs.declared.request.Module.TheVariants.{RamTst, FlsTst}
use Rattle.mt_port.specs.declared.request.AppOp.{AppOp}
use Rattle.mt_port.specs.declared.request.HandlerCall.{HandlerCall}
use Rattle.mt_port.specs.declared.request.HandlerOp.{HandlerOp}
use Rattle.mt_port.specs.declared.request.HandlerOp.TheVariants.{App as AppIn, Call}
use Rattle.mt_port.specs.declared.request.Request.{Request}
use Rattle.mt_text.specs.declared.request.Mark.{Mark}
use Rattle.mt_text.specs.declared.line.RamCall.{RamCall}
use Rattle.mt_text.specs.declared.line.FlsCall.{FlsCall}
use Rattle.mt_text.specs.declared.line.Event.{Event}
use Rattle.mt_text.specs.declared.line.Event.TheVariants.{Nothing, Ram, Fls, TickRam, TickFls, App, Inject, Heal, Burn, Flip}
use Rattle.mt_text.specs.declared.line.Line.{Line}
use Rattle.mt_hex.specs.Hex.{hex_of}
use Rattle.mt_text.specs.Tokens.{Token, number_of, spot_of, point, parts, both}
use Rattle.mt_text.specs.Values.{Slot, Num, Addr, FlashAddr, OtherAddr, Data, Bit, bit_of, begins_mark, begins_urgent, mark_byte, spelled_in, value_rules, spot_in, spot_rules, mark_in, mark_rules, value_at, spot_at, mark_at}
use Rattle.mt_text.specs.Forms.{Form, done, none, row, barred, value, spot, mark, step, mapped}
use Rattle.mt_text.specs.Lines.{Part, Start, Ended, Requests, Handler, Open, Operation, Separator, event, app_op, fault, op_form, part_form, operation_form, request, line, follows, followed, running_module, whole, whole_at, Leads, SpellsTokens}
use Rattle.mt_text.specs.RamServices.{ram_call, ram_handler_call}
use Rattle.mt_text.specs.FlsServices.{fls_call, fls_handler_call}
use Rattle.mt_text.specs.Canonical.{ram_words, fls_words, app_words_by, fault_words_by, event_words_by, call_words, spot_text, bit_text}
use Rattle.mt_hex.specs.Digits.{word_text}
use Rattle.mt_text.specs.Kinds.{bytes_of}
use Rattle.mt_text.specs.LineTokens.{IsWriting, AreOfEvent, AreOfOp, AreOfFurther, AreOfOpened, AreOfHandler, AreOfRequests, AreOfLine}
use Rattle.mt_text.proofs.Judging.{judged_ok, is_first, after_option_map, after_mapped}
use Rattle.mt_text.proofs.Leading.{Follows}
use Rattle.mt_text.proofs.SpellingLaws.{one_spelling}
use Rattle.mt_text.proofs.Values.{word_of_text}

-- ---- what a token in its place is

number_is : (bytes : List ℕ) (n : ℕ) → number_of bytes ≡ Some n → bytes ≡ decimal n
number_is bytes n h = ((one_spelling bytes n).0 h).0

bit_is : (bytes : List ℕ) (n : ℕ) → bit_of bytes ≡ Some n → bytes ≡ bit_text (n == 1)
bit_is bytes n h =
    elim (cases_Bool (bytes_eq bytes (codes "0"))) [
      | inl e ↦ let q = rw e at h in let same : 0 ≡ n = cc in (bytes_eq-Decides bytes (codes "0")).0 e ∙ ap (λ (x : ℕ). bit_text (x == 1)) same
      | inr e ↦ elim (cases_Bool (bytes_eq bytes (codes "1"))) [
        | inl f ↦ let q = rw (e, f) at h in let same : 1 ≡ n = cc in (bytes_eq-Decides bytes (codes "1")).0 f ∙ ap (λ (x : ℕ). bit_text (x == 1)) same
        | inr f ↦ absurd (let q = rw (e, f) at h in cc)
      ]
    ]

both_are : (a b : Option ℕ) (p : ℕ × ℕ) → both a b ≡ Some p → (a ≡ Some p.0) × (b ≡ Some p.1)
both_are None b p h = absurd cc
both_are (Some a) None p h = absurd cc
both_are (Some a) (Some b) p h = let same : (a, b) ≡ p = cc in (ap (λ (q : ℕ × ℕ). Some q.0) same, ap (λ (q : ℕ × ℕ). Some q.1) same)

cut_at : (bytes : List ℕ) (i : ℕ) → i < length bytes → get_or bytes i 0 ≡ 46 → bytes ≡ take i bytes ++ 46 ∷ drop (i + 1) bytes
cut_at bytes i lt here =
    let d : drop i bytes ≡ get_or bytes i 0 ∷ drop (i + 1) bytes = drop_more bytes i 0 lt in
    sym (take-append-drop i bytes) ∙ ap (λ (x : List ℕ). take i bytes ++ x) (d ∙ ap (λ (x : ℕ). x ∷ drop (i + 1) bytes) here)

spot_by : (bytes : List ℕ) (o : Option ℕ) (p : ℕ × ℕ) → point bytes ≡ o → parts bytes o ≡ Some p → bytes ≡ decimal p.0 ++ 46 ∷ decimal p.1
spot_by bytes None p at h = absurd cc
spot_by bytes (Some i) p at h =
    let found = position-Some (λ b. b == 46) bytes i 0 at in
    let here : get_or bytes i 0 ≡ 46 = eqb-true (get_or bytes i 0) 46 found.1 in
    let two = both_are (number_of (take i bytes)) (number_of (drop (i + 1) bytes)) p h in
    let first : take i bytes ≡ decimal p.0 = number_is (take i bytes) p.0 two.0 in
    let second : drop (i + 1) bytes ≡ decimal p.1 = number_is (drop (i + 1) bytes) p.1 two.1 in
    cut_at bytes i found.0 here ∙ ap (λ (x : List ℕ). x ++ 46 ∷ drop (i + 1) bytes) first ∙ ap (λ (x : List ℕ). decimal p.0 ++ 46 ∷ x) second

spot_is : (bytes : List ℕ) (s : Spot) → spot_of bytes ≡ Some (s.word, s.bit) → bytes ≡ spot_text s
unfolding spot_of
spot_is bytes s h = spot_by bytes (point bytes) (s.word, s.bit) refl h ∙ sym (append_assoc (decimal s.word) (codes ".") (decimal s.bit))

spot_spelled : (bytes : List ℕ) (s : Spot) → spot_in bytes ≡ Some s → bytes ≡ spot_text s
spot_spelled bytes s h =
    let m = after_option_map (λ (p : ℕ × ℕ). record { word = p.0; bit = p.1 }) (spot_of bytes) s h in
    subst (λ (x : Spot). bytes ≡ spot_text x) m.2 (spot_is bytes (record { word = m.0.0; bit = m.0.1 }) m.1)

abbrev mark_word : Mark → List ℕ
mark_word k = mark_byte k.urgent ∷ decimal k.offset

mark_byte_is : (b : ℕ) → (b == 64 || b == 33) ≡ true → b ≡ mark_byte (b == 33)
mark_byte_is b h =
    elim (cases_Bool (b == 33)) [
      | inl e ↦ rw e (eqb-true b 33 e)
      | inr e ↦ elim (cases_Bool (b == 64)) [ inl f ↦ rw e (eqb-true b 64 f) | inr f ↦ absurd (let q = rw (f, e) at h in cc) ]
    ]

mark_is : (bytes : List ℕ) (n : ℕ) → begins_mark bytes ≡ true → number_of (drop 1 bytes) ≡ Some n → bytes ≡ mark_word (record { offset = n; urgent = begins_urgent bytes })
mark_is [] n h e = absurd cc
mark_is (b ∷ bs) n h e = ap (λ (x : ℕ). x ∷ bs) (mark_byte_is b h) ∙ ap (λ (x : List ℕ). mark_byte (b == 33) ∷ x) (number_is bs n e)

mark_spelled : (bytes : List ℕ) (k : Mark) → begins_mark bytes ≡ true → mark_in bytes ≡ Some k → bytes ≡ mark_word k
mark_spelled bytes k b h =
    let m = after_option_map (λ (n : ℕ). record { offset = n; urgent = begins_urgent bytes }) (number_of (drop 1 bytes)) k h in
    subst (λ (x : Mark). bytes ≡ mark_word x) m.2 (mark_is bytes m.0 b m.1)

-- ---- all ways through a form

-- P holds of the words and the value of each
abbrev Traced : {X : Type 0} → Shape → (List (List ℕ) → X → Type 0) → Form X → Type 0
Traced shape P (done x) = P [] x
Traced shape P none = Unit {0}
Traced shape P (row w form more) = Traced shape (λ ws x. P (w ∷ ws) x) form × Traced shape P more
Traced shape P (barred w kind form more) = Traced shape P more
Traced shape P (value Data form) = (b : List ℕ) (n : ℕ) → hex_of b ≡ Some n → Traced shape (λ ws x. P (b ∷ ws) x) (form n)
Traced shape P (value Bit form) = (n : ℕ) → Traced shape (λ ws x. P (bit_text (n == 1) ∷ ws) x) (form n)
Traced shape P (value slot form) = (n : ℕ) → Traced shape (λ ws x. P (decimal n ∷ ws) x) (form n)
Traced shape P (spot slot form) = (s : Spot) → Traced shape (λ ws x. P (spot_text s ∷ ws) x) (form s)
Traced shape P (mark last count form) = (k : Mark) → Traced shape (λ ws x. P (mark_word k ∷ ws) x) (form k)

value_traced : {X : Type 0} (shape : Shape) (P : List (List ℕ) → X → Type 0) (slot : Slot) (g : ℕ → Form X) (w : List ℕ) (n : ℕ) → Traced shape P (value slot g) → spelled_in slot w ≡ Some n → Traced shape (λ ws x. P (w ∷ ws) x) (g n)
value_traced {X} shape P Num g w n t e = subst (λ (b : List ℕ). Traced shape (λ ws x. P (b ∷ ws) x) (g n)) (sym (number_is w n e)) (t n)
value_traced {X} shape P Addr g w n t e = subst (λ (b : List ℕ). Traced shape (λ ws x. P (b ∷ ws) x) (g n)) (sym (number_is w n e)) (t n)
value_traced {X} shape P FlashAddr g w n t e = subst (λ (b : List ℕ). Traced shape (λ ws x. P (b ∷ ws) x) (g n)) (sym (number_is w n e)) (t n)
value_traced {X} shape P (OtherAddr a) g w n t e = subst (λ (b : List ℕ). Traced shape (λ ws x. P (b ∷ ws) x) (g n)) (sym (number_is w n e)) (t n)
value_traced {X} shape P Data g w n t e = t w n e
value_traced {X} shape P Bit g w n t e = subst (λ (b : List ℕ). Traced shape (λ ws x. P (b ∷ ws) x) (g n)) (sym (bit_is w n e)) (t n)

traced_step : {X : Type 0} (shape : Shape) (P : List (List ℕ) → X → Type 0) (F : Form X) (w : List ℕ) (G : Form X) → Traced shape P F → step shape F w ≡ Ok G → Traced shape (λ ws x. P (w ∷ ws) x) G
unfolding value_at spot_at mark_at
traced_step shape P (done x) w G t h = absurd cc
traced_step shape P none w G t h = absurd cc
traced_step {X} shape P (row u g more) w G t h =
    elim (cases_Bool (bytes_eq w u)) [
      | inl e ↦ (
          let q = rw e at h in
          let same : g ≡ G = cc in
          let word : w ≡ u = (bytes_eq-Decides w u).0 e in
          subst (λ (x : Form X). Traced shape (λ ws y. P (w ∷ ws) y) x) same (subst (λ (b : List ℕ). Traced shape (λ ws y. P (b ∷ ws) y) g) (sym word) t.0))
      | inr e ↦ traced_step shape P more w G t.1 (rw e at h)
    ]
traced_step shape P (barred u kind g more) w G t h =
    elim (cases_Bool (bytes_eq w u)) [
      | inl e ↦ absurd (let q = rw e at h in cc)
      | inr e ↦ traced_step shape P more w G t (rw e at h)
    ]
traced_step {X} shape P (value slot g) w G t h =
    let m = after_mapped g (value_at shape slot w) G h in
    let word = (judged_ok (value_rules shape slot w) (spelled_in slot w) m.0 m.1).1 in
    subst (λ (x : Form X). Traced shape (λ ws y. P (w ∷ ws) y) x) m.2 (value_traced shape P slot g w m.0 t word)
traced_step {X} shape P (spot slot g) w G t h =
    let m = after_mapped g (spot_at shape slot w) G h in
    let word = spot_spelled w m.0 (judged_ok (spot_rules shape slot w) (spot_in w) m.0 m.1).1 in
    subst (λ (x : Form X). Traced shape (λ ws y. P (w ∷ ws) y) x) m.2 (subst (λ (b : List ℕ). Traced shape (λ ws y. P (b ∷ ws) y) (g m.0)) (sym word) (t m.0))
traced_step {X} shape P (mark last count g) w G t h =
    let m = after_mapped g (mark_at last count w) G h in
    let j = judged_ok (mark_rules last count w) (mark_in w) m.0 m.1 in
    let word = mark_spelled w m.0 (is_first (begins_mark w) j.0.0) j.1 in
    subst (λ (x : Form X). Traced shape (λ ws y. P (w ∷ ws) y) x) m.2 (subst (λ (b : List ℕ). Traced shape (λ ws y. P (b ∷ ws) y) (g m.0)) (sym word) (t m.0))

through : {X : Type 0} (shape : Shape) (P : List (List ℕ) → X → Type 0) (F : Form X) (ws : List (List ℕ)) (x : X) → Traced shape P F → Follows shape F ws (done x) → P ws x
through {X} shape P F [] x t h = subst (λ (G : Form X). Traced shape P G) h t
through shape P F (w ∷ ws) x t h = through shape (λ us y. P (w ∷ us) y) h.0 ws x (traced_step shape P F w h.0 t h.1) h.2

traced_mapped : {X Y : Type 0} (shape : Shape) (P : List (List ℕ) → Y → Type 0) (f : X → Y) (F : Form X) → Traced shape (λ ws x. P ws (f x)) F → Traced shape P (mapped f F)
traced_mapped shape P f (done x) t = t
traced_mapped shape P f none t = tt
traced_mapped shape P f (row w g more) t = (traced_mapped shape (λ ws y. P (w ∷ ws) y) f g t.0, traced_mapped shape P f more t.1)
traced_mapped shape P f (barred w kind g more) t = traced_mapped shape P f more t
traced_mapped shape P f (value Num g) t = λ n. traced_mapped shape (λ ws y. P (decimal n ∷ ws) y) f (g n) (t n)
traced_mapped shape P f (value Addr g) t = λ n. traced_mapped shape (λ ws y. P (decimal n ∷ ws) y) f (g n) (t n)
traced_mapped shape P f (value FlashAddr g) t = λ n. traced_mapped shape (λ ws y. P (decimal n ∷ ws) y) f (g n) (t n)
traced_mapped shape P f (value (OtherAddr a) g) t = λ n. traced_mapped shape (λ ws y. P (decimal n ∷ ws) y) f (g n) (t n)
traced_mapped shape P f (value Data g) t = λ b n e. traced_mapped shape (λ ws y. P (b ∷ ws) y) f (g n) (t b n e)
traced_mapped shape P f (value Bit g) t = λ n. traced_mapped shape (λ ws y. P (bit_text (n == 1) ∷ ws) y) f (g n) (t n)
traced_mapped shape P f (spot slot g) t = λ s. traced_mapped shape (λ ws y. P (spot_text s ∷ ws) y) f (g s) (t s)
traced_mapped shape P f (mark last count g) t = λ k. traced_mapped shape (λ ws y. P (mark_word k ∷ ws) y) f (g k) (t k)

traced_more : {X : Type 0} (shape : Shape) (P Q : List (List ℕ) → X → Type 0) (F : Form X) → ((ws : List (List ℕ)) (x : X) → P ws x → Q ws x) → Traced shape P F → Traced shape Q F
traced_more shape P Q (done x) w t = w [] x t
traced_more shape P Q none w t = tt
traced_more shape P Q (row u g more) w t = (traced_more shape (λ ws x. P (u ∷ ws) x) (λ ws x. Q (u ∷ ws) x) g (λ ws x. w (u ∷ ws) x) t.0, traced_more shape P Q more w t.1)
traced_more shape P Q (barred u kind g more) w t = traced_more shape P Q more w t
traced_more shape P Q (value Num g) w t = λ n. traced_more shape (λ ws x. P (decimal n ∷ ws) x) (λ ws x. Q (decimal n ∷ ws) x) (g n) (λ ws x. w (decimal n ∷ ws) x) (t n)
traced_more shape P Q (value Addr g) w t = λ n. traced_more shape (λ ws x. P (decimal n ∷ ws) x) (λ ws x. Q (decimal n ∷ ws) x) (g n) (λ ws x. w (decimal n ∷ ws) x) (t n)
traced_more shape P Q (value FlashAddr g) w t = λ n. traced_more shape (λ ws x. P (decimal n ∷ ws) x) (λ ws x. Q (decimal n ∷ ws) x) (g n) (λ ws x. w (decimal n ∷ ws) x) (t n)
traced_more shape P Q (value (OtherAddr a) g) w t = λ n. traced_more shape (λ ws x. P (decimal n ∷ ws) x) (λ ws x. Q (decimal n ∷ ws) x) (g n) (λ ws x. w (decimal n ∷ ws) x) (t n)
traced_more shape P Q (value Data g) w t = λ b n e. traced_more shape (λ ws x. P (b ∷ ws) x) (λ ws x. Q (b ∷ ws) x) (g n) (λ ws x. w (b ∷ ws) x) (t b n e)
traced_more shape P Q (value Bit g) w t = λ n. traced_more shape (λ ws x. P (bit_text (n == 1) ∷ ws) x) (λ ws x. Q (bit_text (n == 1) ∷ ws) x) (g n) (λ ws x. w (bit_text (n == 1) ∷ ws) x) (t n)
traced_more shape P Q (spot slot g) w t = λ s. traced_more shape (λ ws x. P (spot_text s ∷ ws) x) (λ ws x. Q (spot_text s ∷ ws) x) (g s) (λ ws x. w (spot_text s ∷ ws) x) (t s)
traced_more shape P Q (mark last count g) w t = λ k. traced_more shape (λ ws x. P (mark_word k ∷ ws) x) (λ ws x. Q (mark_word k ∷ ws) x) (g k) (λ ws x. w (mark_word k ∷ ws) x) (t k)

-- ---- ways of writing words

plain : (width : Width) → IsWriting width (word_text width)
plain width n fits = word_of_text width n fits

abbrev written_as : Width → ℕ → List ℕ → ℕ → List ℕ
written_as width n token x = cond (x == n) token (word_text width x)

as_token : (width : Width) (n : ℕ) (token : List ℕ) → hex_of token ≡ Some n → IsWriting width (written_as width n token)
as_token width n token e x fits =
    elim (cases_Bool (x == n)) [
      | inl q ↦ rw q (e ∙ ap (λ (y : ℕ). Some y) (sym (eqb-true x n q)))
      | inr q ↦ rw q (word_of_text width x fits)
    ]

token_written : (width : Width) (n : ℕ) (token : List ℕ) → written_as width n token n ≡ token
token_written width n token = let same : (n == n) ≡ true = grind (arith, nat_tests) in rw same refl

-- the words of something that has a word or none, some way written
record AreWords (width : Width) (words : (ℕ → List ℕ) → List (List ℕ)) (tokens : List (List ℕ)) : Type 0 where
  write : ℕ → List ℕ
  writes : IsWriting width write
  same : tokens ≡ words write

abbrev fixed_words : (width : Width) (ws : List (List ℕ)) → AreWords width (λ write. ws) ws
fixed_words width ws = record { write = word_text width; writes = plain width; same = refl }

with_word : (width : Width) (words : List ℕ → List (List ℕ)) (n : ℕ) (token : List ℕ) → hex_of token ≡ Some n → AreWords width (λ write. words (write n)) (words token)
with_word width words n token e = record { write = written_as width n token; writes = as_token width n token e; same = ap words (sym (token_written width n token)) }

-- ---- the events

app_traced : (shape : Shape) → Traced shape (λ ws (o : AppOp). AreWords shape.width (λ write. app_words_by write o) ws) app_op
unfolding app_op
app_traced shape = (
  λ a. fixed_words shape.width _,
  (
    λ a b n e. with_word shape.width (λ t. codes "w" ∷ decimal a ∷ t ∷ []) n b e,
    (
      λ a b n e. with_word shape.width (λ t. codes "add" ∷ decimal a ∷ t ∷ []) n b e,
      (λ a b. fixed_words shape.width _, (λ a. fixed_words shape.width _, tt)),
    ),
  ),
)

fault_traced : (shape : Shape) → Traced shape (λ ws (f : Fault). AreWords shape.width (λ write. fault_words_by write f) ws) fault
unfolding fault
fault_traced shape = (
  λ v b. fixed_words shape.width _,
  (
    λ v. fixed_words shape.width _,
    (
      λ v. fixed_words shape.width _,
      (
        (λ a v. fixed_words shape.width _, (λ a v. fixed_words shape.width _, tt)),
        (
          (λ a v b. fixed_words shape.width _, (λ a v b. fixed_words shape.width _, tt)),
          (
            λ h a v b. fixed_words shape.width _,
            (
              λ a b n e. with_word shape.width (λ t. codes "af-none" ∷ decimal a ∷ t ∷ []) n b e,
              (λ a b. (fixed_words shape.width _, (fixed_words shape.width _, tt)), (λ a b. fixed_words shape.width _, tt)),
            ),
          ),
        ),
      ),
    ),
  ),
)

ram_traced : (shape : Shape) → Traced shape (λ ws (call : RamCall). ws ≡ ram_words call) ram_call
unfolding ram_call
ram_traced shape = (refl, (refl, (refl, (refl, (refl, (refl, (refl, (refl, (λ n. refl, (refl, (refl, (refl, (λ n. refl, (λ n. refl, (refl, (λ n. refl, (refl, tt)))))))))))))))))

fls_traced : (shape : Shape) → Traced shape (λ ws (call : FlsCall). ws ≡ fls_words call) fls_call
unfolding fls_call
fls_traced shape = (refl, (refl, (λ n. refl, (refl, (refl, (refl, (refl, (refl, (refl, (refl, (refl, tt)))))))))))

of_event : (width : Width) (ev : Event) (ws : List (List ℕ)) → AreWords width (λ write. event_words_by write ev) ws → AreOfEvent width ev ws
of_event width ev ws h = record { write = h.write; writes = h.writes; words = h.same }

in_event : (width : Width) (ev : Event) (ws : List (List ℕ)) → ws ≡ event_words_by (word_text width) ev → AreOfEvent width ev ws
in_event width ev ws h = record { write = word_text width; writes = plain width; words = h }

event_traced : (shape : Shape) → Traced shape (λ ws (ev : Event). AreOfEvent shape.width ev ws) event
unfolding event
event_traced shape = (
  traced_mapped shape (λ ws ev. AreOfEvent shape.width ev (codes "ram" ∷ ws)) (λ c. Ram c) ram_call
      (traced_more shape (λ ws (call : RamCall). ws ≡ ram_words call) (λ ws call. AreOfEvent shape.width (Ram call) (codes "ram" ∷ ws)) ram_call (λ ws call h. in_event shape.width (Ram call) (codes "ram" ∷ ws) (ap (λ (x : List (List ℕ)). codes "ram" ∷ x) h)) (ram_traced shape)),
  (
    traced_mapped shape (λ ws ev. AreOfEvent shape.width ev (codes "fls" ∷ ws)) (λ c. Fls c) fls_call
        (traced_more shape (λ ws (call : FlsCall). ws ≡ fls_words call) (λ ws call. AreOfEvent shape.width (Fls call) (codes "fls" ∷ ws)) fls_call (λ ws call h. in_event shape.width (Fls call) (codes "fls" ∷ ws) (ap (λ (x : List (List ℕ)). codes "fls" ∷ x) h)) (fls_traced shape)),
    (
      (in_event shape.width TickRam _ refl, (in_event shape.width TickFls _ refl, tt)),
      (
        traced_mapped shape (λ ws ev. AreOfEvent shape.width ev (codes "app" ∷ ws)) (λ o. App o) app_op
            (traced_more shape (λ ws (o : AppOp). AreWords shape.width (λ write. app_words_by write o) ws) (λ ws o. AreOfEvent shape.width (App o) (codes "app" ∷ ws)) app_op (λ ws o h. record { write = h.write; writes = h.writes; words = ap (λ (x : List (List ℕ)). codes "app" ∷ x) h.same }) (app_traced shape)),
        (
          traced_mapped shape (λ ws ev. AreOfEvent shape.width ev (codes "inject" ∷ ws)) (λ f. Inject f) fault
              (traced_more shape (λ ws (f : Fault). AreWords shape.width (λ write. fault_words_by write f) ws) (λ ws f. AreOfEvent shape.width (Inject f) (codes "inject" ∷ ws)) fault (λ ws f h. record { write = h.write; writes = h.writes; words = ap (λ (x : List (List ℕ)). codes "inject" ∷ x) h.same }) (fault_traced shape)),
          (
            in_event shape.width Heal _ refl,
            (
              λ a b n e. of_event shape.width (Burn a n) _ (with_word shape.width (λ t. codes "burn" ∷ decimal a ∷ t ∷ []) n b e),
              (λ s. in_event shape.width (Flip s) _ refl, tt),
            ),
          ),
        ),
      ),
    ),
  ),
)

-- ---- the operations of handlers

ram_op_traced : (shape : Shape) → Traced shape (λ ws (call : HandlerCall). codes "ram" ∷ ws ≡ call_words call) ram_handler_call
unfolding ram_handler_call
ram_op_traced shape = (refl, (refl, (refl, (refl, (refl, (refl, (λ n. refl, tt)))))))

fls_op_traced : (shape : Shape) → Traced shape (λ ws (call : HandlerCall). codes "fls" ∷ ws ≡ call_words call) fls_handler_call
unfolding fls_handler_call
fls_op_traced shape = (refl, (refl, (refl, (refl, (refl, (refl, tt))))))

call_of : (width : Width) (call : HandlerCall) (ws : List (List ℕ)) → ws ≡ call_words call → AreOfOp width (Call call) ws
call_of width call ws h = record { write = word_text width; writes = plain width; words = h }

apps_traced : (shape : Shape) → Traced shape (λ ws (o : HandlerOp). AreOfOp shape.width o ws) (mapped (λ o. AppIn o) app_op)
apps_traced shape =
    traced_mapped shape (λ ws o. AreOfOp shape.width o ws) (λ o. AppIn o) app_op
    (traced_more shape (λ ws (o : AppOp). AreWords shape.width (λ write. app_words_by write o) ws) (λ ws o. AreOfOp shape.width (AppIn o) ws) app_op (λ ws o h. record { write = h.write; writes = h.writes; words = h.same }) (app_traced shape))

op_traced : (shape : Shape) (m : Module) (full : Bool) → Traced shape (λ ws (o : HandlerOp). AreOfOp shape.width o ws) (op_form m full)
unfolding op_form app_op
op_traced shape RamTst true = tt
op_traced shape FlsTst true = tt
op_traced shape RamTst false = (
  traced_mapped shape (λ ws o. AreOfOp shape.width o (codes "ram" ∷ ws)) (λ c. Call c) ram_handler_call
      (traced_more shape (λ ws (call : HandlerCall). codes "ram" ∷ ws ≡ call_words call) (λ ws call. AreOfOp shape.width (Call call) (codes "ram" ∷ ws)) ram_handler_call (λ ws call h. call_of shape.width call (codes "ram" ∷ ws) h) (ram_op_traced shape)),
  apps_traced shape,
)
op_traced shape FlsTst false = (
  traced_mapped shape (λ ws o. AreOfOp shape.width o (codes "fls" ∷ ws)) (λ c. Call c) fls_handler_call
      (traced_more shape (λ ws (call : HandlerCall). codes "fls" ∷ ws ≡ call_words call) (λ ws call. AreOfOp shape.width (Call call) (codes "fls" ∷ ws)) fls_handler_call (λ ws call h. call_of shape.width call (codes "fls" ∷ ws) h) (fls_op_traced shape)),
  apps_traced shape,
)

-- ---- the rest of a line

-- what is left in a handler that has some operations already
record InHandler (width : Width) (l : Line) (ev : Event) (rs : List Request) (k : Mark) (before : List HandlerOp) (left : List HandlerOp → List (List ℕ) → Type 0) (ws : List (List ℕ)) : Type 0 where
  ops : List HandlerOp
  later : List Request
  own : List (List ℕ)
  more : List (List ℕ)
  line_is : l ≡ line ev (rs ++ request k (before ++ ops) ∷ later)
  split : ws ≡ own ++ more
  handler : left ops own
  requests : AreOfRequests width later more

record Behind (width : Width) (l : Line) (ev : Event) (rs : List Request) (ws : List (List ℕ)) : Type 0 where
  later : List Request
  line_is : l ≡ line ev (rs ++ later)
  requests : AreOfRequests width later ws

-- an operation and what follows it
abbrev AreOfNext : Width → List HandlerOp → List (List ℕ) → Type 0
AreOfNext width [] tokens = ⊥
AreOfNext width (o ∷ ops) tokens = AreOfOpened width (o ∷ ops) tokens

-- the tokens that are left of the line, from a part on
abbrev IsLeft : Width → Line → Part → List (List ℕ) → Type 0
IsLeft width l Start ws = AreOfLine width l ws
IsLeft width l (Ended ev) ws = (l ≡ line ev []) × (ws ≡ [])
IsLeft width l (Requests m ev rs) ws = Behind width l ev rs ws
IsLeft width l (Handler m ev rs k) ws = InHandler width l ev rs k [] (AreOfHandler width) ws
IsLeft width l (Open m ev rs k) ws = InHandler width l ev rs k [] (AreOfOpened width) ws
IsLeft width l (Operation m ev rs k ops) ws = InHandler width l ev rs k ops (AreOfNext width) ws
IsLeft width l (Separator m ev rs k ops) ws = InHandler width l ev rs k ops (AreOfFurther width) ws

-- at the end of a line
left_at_end : (width : Width) (l : Line) (p : Part) → whole p ≡ Some l → IsLeft width l p []
left_at_end width l Start h =
    let same : line Nothing [] ≡ l = cc in
    subst (λ (x : Line). AreOfLine width x []) same (record { own = []; more = []; split = refl; event = in_event width Nothing [] refl; requests = refl })
left_at_end width l (Ended ev) h = let same : line ev [] ≡ l = cc in (sym same, refl)
left_at_end width l (Requests m ev rs) h =
    let same : line ev rs ≡ l = cc in
    record { later = []; line_is = sym same ∙ ap (line ev) (sym (append-nil rs)); requests = refl }
left_at_end width l (Handler m ev rs k) h =
    let same : line ev (rs ++ request k [] ∷ []) ≡ l = cc in
    record { ops = []; later = []; own = []; more = []; line_is = sym same; split = refl; handler = inl (refl, refl); requests = refl }
left_at_end width l (Open m ev rs k) h = absurd cc
left_at_end width l (Operation m ev rs k ops) h = absurd cc
left_at_end width l (Separator m ev rs k ops) h = absurd cc

-- what is left behind leads to what is left before
abbrev Leaves : Width → Line → Part → List (List ℕ) → Part → Type 0
Leaves width l p ws q = (vs : List (List ℕ)) → IsLeft width l q vs → IsLeft width l p (ws ++ vs)

behind_event : (width : Width) (l : Line) (ev : Event) (ws vs : List (List ℕ)) (o : Option Module) → AreOfEvent width ev ws → IsLeft width l (followed ev o) vs → AreOfLine width l (ws ++ vs)
behind_event width l ev ws vs None h k =
    subst (λ (x : Line). AreOfLine width x (ws ++ vs)) (sym k.0) (record { own = ws; more = vs; split = refl; event = h; requests = k.1 })
behind_event width l ev ws vs (Some m) h k =
    subst (λ (x : Line). AreOfLine width x (ws ++ vs)) (sym k.line_is) (record { own = ws; more = vs; split = refl; event = h; requests = k.requests })

-- a further request, and the requests behind it
one_more : (width : Width) (l : Line) (m : Module) (ev : Event) (rs : List Request) (k : Mark) (vs : List (List ℕ)) → IsLeft width l (Handler m ev rs k) vs → Behind width l ev rs (mark_word k ∷ vs)
one_more width l m ev rs k vs h = record {
  later = request k h.ops ∷ h.later;
  line_is = h.line_is;
  requests = (h.own, h.more, ap (λ (x : List (List ℕ)). mark_word k ∷ x) h.split, h.handler, h.requests);
}

joined : (ev : Event) (rs : List Request) (r : Request) (later : List Request) → line ev ((rs ++ r ∷ []) ++ later) ≡ line ev (rs ++ r ∷ later)
joined ev rs r later = ap (line ev) (append_assoc rs (r ∷ []) later)

opened_from_further : (width : Width) (o : HandlerOp) (ops : List HandlerOp) (ws own : List (List ℕ)) → AreOfOp width o ws → AreOfFurther width ops own → AreOfOpened width (o ∷ ops) (ws ++ own)
opened_from_further width o ops ws own h k = (ws, own, refl, h, k)

further_from_next : (width : Width) (ops : List HandlerOp) (own : List (List ℕ)) → AreOfNext width ops own → AreOfFurther width ops (codes ";" ∷ own)
further_from_next width [] own h = absurd h
further_from_next width (o ∷ ops) own h = (h.0, h.1, ap (λ (x : List (List ℕ)). codes ";" ∷ x) h.2, h.3, h.4)

operation_left : (width : Width) (l : Line) (m : Module) (ev : Event) (rs : List Request) (k : Mark) (ops : List HandlerOp) (o : HandlerOp) (ws vs : List (List ℕ)) → AreOfOp width o ws → IsLeft width l (Separator m ev rs k (ops ++ o ∷ [])) vs
    → InHandler width l ev rs k ops (AreOfNext width) (ws ++ vs)
operation_left width l m ev rs k ops o ws vs h s = record {
  ops = o ∷ s.ops;
  later = s.later;
  own = ws ++ s.own;
  more = s.more;
  line_is = s.line_is ∙ ap (λ (x : List HandlerOp). line ev (rs ++ request k x ∷ s.later)) (append_assoc ops (o ∷ []) s.ops);
  split = ap (λ (x : List (List ℕ)). ws ++ x) s.split ∙ sym (append_assoc ws s.own s.more);
  handler = opened_from_further width o s.ops ws s.own h s.handler;
  requests = s.requests;
}

next_opens : (width : Width) (ops : List HandlerOp) (own : List (List ℕ)) → AreOfNext width ops own → AreOfOpened width ops own
next_opens width [] own h = absurd h
next_opens width (o ∷ ops) own h = h

opened_left : (width : Width) (l : Line) (ev : Event) (rs : List Request) (k : Mark) (ws : List (List ℕ)) → InHandler width l ev rs k [] (AreOfNext width) ws → InHandler width l ev rs k [] (AreOfOpened width) ws
opened_left width l ev rs k ws h = record {
  ops = h.ops;
  later = h.later;
  own = h.own;
  more = h.more;
  line_is = h.line_is;
  split = h.split;
  handler = next_opens width h.ops h.own h.handler;
  requests = h.requests;
}

operations_traced : (shape : Shape) (l : Line) (m : Module) (ev : Event) (rs : List Request) (k : Mark) (ops : List HandlerOp) → Traced shape (λ ws (q : Part). (vs : List (List ℕ)) → IsLeft shape.width l q vs → InHandler shape.width l ev rs k ops (AreOfNext shape.width) (ws ++ vs)) (operation_form m ev rs k ops)
operations_traced shape l m ev rs k ops =
    let P = λ (ws : List (List ℕ)) (q : Part). (vs : List (List ℕ)) → IsLeft shape.width l q vs → InHandler shape.width l ev rs k ops (AreOfNext shape.width) (ws ++ vs) in
    traced_mapped shape P (λ (o : HandlerOp). Separator m ev rs k (ops ++ o ∷ [])) (op_form m (nat_le 8 (length ops)))
    (traced_more shape (λ ws (o : HandlerOp). AreOfOp shape.width o ws) (λ ws o. P ws (Separator m ev rs k (ops ++ o ∷ []))) (op_form m (nat_le 8 (length ops))) (λ ws o h vs s. operation_left shape.width l m ev rs k ops o ws vs h s) (op_traced shape m (nat_le 8 (length ops))))

part_traced : (shape : Shape) (l : Line) (p : Part) → Traced shape (λ ws q. Leaves shape.width l p ws q) (part_form p)
part_traced shape l Start =
    traced_mapped shape (λ ws q. Leaves shape.width l Start ws q) follows event
    (traced_more shape (λ ws (ev : Event). AreOfEvent shape.width ev ws) (λ ws ev. Leaves shape.width l Start ws (follows ev)) event (λ ws ev h vs k. behind_event shape.width l ev ws vs (running_module ev) h k) (event_traced shape))
part_traced shape l (Ended ev) = tt
part_traced shape l (Requests m ev rs) = λ k vs h. one_more shape.width l m ev rs k vs h
part_traced shape l (Handler m ev rs k) = (
  λ vs h. record {
    ops = h.ops;
    later = h.later;
    own = codes "[" ∷ h.own;
    more = h.more;
    line_is = h.line_is;
    split = ap (λ (x : List (List ℕ)). codes "[" ∷ x) h.split;
    handler = inr (h.own, refl, h.handler);
    requests = h.requests;
  },
  λ next vs h. (
      let b = one_more shape.width l m ev (rs ++ request k [] ∷ []) next vs h in
      record {
        ops = [];
        later = b.later;
        own = [];
        more = mark_word next ∷ vs;
        line_is = b.line_is ∙ joined ev rs (request k []) b.later;
        split = refl;
        handler = inl (refl, refl);
        requests = b.requests;
      }),
)
part_traced shape l (Open m ev rs k) = (
  λ vs h. record {
    ops = [];
    later = h.later;
    own = codes "]" ∷ [];
    more = vs;
    line_is = h.line_is ∙ joined ev rs (request k []) h.later;
    split = refl;
    handler = refl;
    requests = h.requests;
  },
  traced_more shape (λ ws (q : Part). (vs : List (List ℕ)) → IsLeft shape.width l q vs → InHandler shape.width l ev rs k [] (AreOfNext shape.width) (ws ++ vs)) (λ ws q. Leaves shape.width l (Open m ev rs k) ws q) (operation_form m ev rs k []) (λ ws q h vs i. opened_left shape.width l ev rs k (ws ++ vs) (h vs i)) (operations_traced shape l m ev rs k []),
)
part_traced shape l (Operation m ev rs k ops) = operations_traced shape l m ev rs k ops
part_traced shape l (Separator m ev rs k ops) = (
  λ vs h. record {
    ops = h.ops;
    later = h.later;
    own = codes ";" ∷ h.own;
    more = h.more;
    line_is = h.line_is;
    split = ap (λ (x : List (List ℕ)). codes ";" ∷ x) h.split;
    handler = further_from_next shape.width h.ops h.own h.handler;
    requests = h.requests;
  },
  (
    λ vs h. record {
      ops = [];
      later = h.later;
      own = codes "]" ∷ [];
      more = vs;
      line_is = h.line_is ∙ joined ev rs (request k ops) h.later ∙ ap (λ (x : List HandlerOp). line ev (rs ++ request k x ∷ h.later)) (sym (append-nil ops));
      split = refl;
      handler = refl;
      requests = h.requests;
    },
    tt,
  ),
)

-- ---- along the tokens

-- the tokens up to the next part, and those behind it
record Split (shape : Shape) (f : Form Part) (ts : List Token) (last : Form Part) : Type 0 where
  inner : List (List ℕ)
  part : Part
  outer : List Token
  bytes : bytes_of ts ≡ inner ++ bytes_of outer
  inside : Follows shape f inner (done part)
  later : Leads shape (done part) outer last
  shorter : length outer ≤ length ts

split_one : (shape : Shape) (f h : Form Part) (t : Token) (ts : List Token) (last : Form Part) → step shape f t.bytes ≡ Ok h → Split shape h ts last → Split shape f (t ∷ ts) last
split_one shape f h t ts last s r = record {
  inner = t.bytes ∷ r.inner;
  part = r.part;
  outer = r.outer;
  bytes = ap (λ (x : List (List ℕ)). t.bytes ∷ x) r.bytes;
  inside = (h, s, r.inside);
  later = r.later;
  shorter = omega (arith, r.shorter);
}

ends_inside : (l : Line) (f last : Form Part) → whole_at f ≡ None → f ≡ last → whole_at last ≡ Some l → ⊥
ends_inside l f last n e h = let none_there : whole_at last ≡ None = ap whole_at (sym e) ∙ n in cc

split : (shape : Shape) (f : Form Part) (ts : List Token) (last : Form Part) (l : Line) → Leads shape f ts last → whole_at last ≡ Some l → Split shape f ts last
unfolding Leads
split shape (done p) ts last l h e = record { inner = []; part = p; outer = ts; bytes = refl; inside = refl; later = h; shorter = omega arith }
split shape none [] last l h e = absurd (ends_inside l none last refl h e)
split shape (row w g more) [] last l h e = absurd (ends_inside l (row w g more) last refl h e)
split shape (barred w k g more) [] last l h e = absurd (ends_inside l (barred w k g more) last refl h e)
split shape (value s g) [] last l h e = absurd (ends_inside l (value s g) last refl h e)
split shape (spot s g) [] last l h e = absurd (ends_inside l (spot s g) last refl h e)
split shape (mark a c g) [] last l h e = absurd (ends_inside l (mark a c g) last refl h e)
split shape none (t ∷ ts) last l h e = split_one shape none h.0 t ts last h.1 (split shape h.0 ts last l h.2 e)
split shape (row w g more) (t ∷ ts) last l h e = split_one shape (row w g more) h.0 t ts last h.1 (split shape h.0 ts last l h.2 e)
split shape (barred w k g more) (t ∷ ts) last l h e = split_one shape (barred w k g more) h.0 t ts last h.1 (split shape h.0 ts last l h.2 e)
split shape (value s g) (t ∷ ts) last l h e = split_one shape (value s g) h.0 t ts last h.1 (split shape h.0 ts last l h.2 e)
split shape (spot s g) (t ∷ ts) last l h e = split_one shape (spot s g) h.0 t ts last h.1 (split shape h.0 ts last l h.2 e)
split shape (mark a c g) (t ∷ ts) last l h e = split_one shape (mark a c g) h.0 t ts last h.1 (split shape h.0 ts last l h.2 e)

left_from : (n : ℕ) (shape : Shape) (l : Line) (p : Part) (ts : List Token) (last : Form Part) → length ts ≤ n → Leads shape (done p) ts last → whole_at last ≡ Some l → IsLeft shape.width l p (bytes_of ts)
unfolding Leads
left_from n shape l p [] last le h e = left_at_end shape.width l p (ap whole_at h ∙ e)
left_from zero shape l p (t ∷ ts) last le h e = absurd (omega arith)
left_from (suc n) shape l p (t ∷ ts) last le h e =
    let s = split shape h.0 ts last l h.2 e in
    let rest = left_from n shape l s.part s.outer last (let d = s.shorter in omega arith) s.later e in
    let all = through shape (λ ws q. Leaves shape.width l p ws q) (part_form p) (t.bytes ∷ s.inner) s.part (part_traced shape l p) (h.0, h.1, s.inside) (bytes_of s.outer) rest in
    subst (λ (x : List (List ℕ)). IsLeft shape.width l p (t.bytes ∷ x)) (sym s.bytes) all

pub tokens_are_of_line : (shape : Shape) (ts : List Token) (l : Line) → SpellsTokens shape ts l → AreOfLine shape.width l (bytes_of ts)
tokens_are_of_line shape ts l h = left_from (length ts) shape l Start ts h.last (omega arith) h.leads h.ends
