-- Texts without a line feed, and among them the canonical text of a line.
use Rattle.std.proofs.Common.{ℕ, zero, suc, ◌+◌, ◌/◌, ◌%◌, ◌≡◌, ◌==◌, ◌&&◌, not, Bool, true, false, cond, List, [], ◌∷◌, ◌++◌, inl, inr, refl, sym, ap, ◌∙◌, arith, codes}
use Rattle.std.specs.Prelude.{nat_lt}
use Rattle.std.specs.List.{list_all, AllByRecursion}
use Rattle.std.specs.Fmt.{decimal, digits, digits_onto, digit_glyph}
use Rattle.std.proofs.lemmas.Bool.{false≢true}
use Rattle.std.proofs.lemmas.List.Folds.{list_all-append}
use Rattle.mt_word.specs.declared.Width.{Width}
use Rattle.mt_word.specs.Word.{width_bits}
use Rattle.mt_fault.specs.declared.fault.Spot.{Spot}
use Rattle.mt_fault.specs.declared.fault.Fault.{Fault}
use Rattle.mt_fault.specs.declared.fault.Fault.TheVariants.{StuckAt, CannotRise, CannotFall, Invert, Force, State, NoCell, Also, Instead}
use Rattle.mt_port.specs.declared.request.AppOp.{AppOp}
use Rattle.mt_port.specs.declared.request.AppOp.TheVariants.{Read, Write, Add, Copy, Flash}
use Rattle.mt_port.specs.declared.request.HandlerCall.{HandlerCall}
use Rattle.mt_port.specs.declared.request.HandlerCall.TheVariants as handler
use Rattle.mt_port.specs.declared.request.HandlerOp.{HandlerOp}
use Rattle.mt_port.specs.declared.request.HandlerOp.TheVariants as op
use Rattle.mt_port.specs.declared.request.Request.{Request}
use Rattle.mt_text.specs.declared.line.RamCall.{RamCall}
use Rattle.mt_text.specs.declared.line.RamCall.TheVariants as ram
use Rattle.mt_text.specs.declared.line.FlsCall.{FlsCall}
use Rattle.mt_text.specs.declared.line.FlsCall.TheVariants as fls
use Rattle.mt_text.specs.declared.line.Event.{Event}
use Rattle.mt_text.specs.declared.line.Event.TheVariants.{Nothing, Ram, Fls, TickRam, TickFls, App, Inject, Heal, Burn, Flip}
use Rattle.mt_text.specs.declared.line.Line.{Line}
use Rattle.mt_text.specs.Values.{mark_byte}
use Rattle.mt_hex.specs.Digits.{digit_byte, hex_text, word_text}
use Rattle.mt_text.specs.Canonical.{ram_words, fls_words, app_words, spot_text, bit_text, direction_text, wiring_text, fault_words, event_words, call_words, op_words, Piece, shown, text_of, spaced_words, words, further_ops, handler_pieces, request_pieces, requests_pieces, canonical}
use Rattle.mt_replay.specs.Inner.Reading.{HasNoFeed}
use Rattle.mt_replay.proofs.Feeds.{feed_or_not}
use Rattle.mt_replay.proofs.Lines.{not_equal}

-- `HasNoFeed` as a test
abbrev pub feedless : List ℕ → Bool
feedless bytes = list_all (λ byte. not (byte == 10)) bytes

pub no_feed : (bytes : List ℕ) → feedless bytes ≡ true → HasNoFeed bytes
no_feed [] h = tt
no_feed (b ∷ bs) h =
    elim (feed_or_not b) [
      | inl e ↦ absurd (false≢true (sym (ap (λ (t : Bool). not t && feedless bs) e.0) ∙ h))
      | inr e ↦ (e.1, no_feed bs (sym (ap (λ (t : Bool). not t && feedless bs) e.0) ∙ h))
    ]

pub feedless-append : (xs ys : List ℕ) → feedless xs ≡ true → feedless ys ≡ true → feedless (xs ++ ys) ≡ true
feedless-append xs ys h k = list_all-append (λ byte. not (byte == 10)) xs ys ∙ ap (λ (t : Bool). t && feedless ys) h ∙ k

byte_more : (b : ℕ) (bs : List ℕ) → (b == 10) ≡ false → feedless bs ≡ true → feedless (b ∷ bs) ≡ true
byte_more b bs e h = ap (λ (t : Bool). not t && feedless bs) e ∙ h

-- ---- digits

glyph_no_feed : (upper : Bool) (d : ℕ) (t : Bool) → (cond t (48 + d) (cond upper (55 + d) (87 + d)) == 10) ≡ false
glyph_no_feed upper d true = not_equal (48 + d) 10 (λ e. omega (arith, e))
glyph_no_feed true d false = not_equal (55 + d) 10 (λ e. omega (arith, e))
glyph_no_feed false d false = not_equal (87 + d) 10 (λ e. omega (arith, e))

digits_feedless : (k n : ℕ) (acc : List ℕ) → feedless acc ≡ true → feedless (digits_onto k 10 false n acc) ≡ true
digits_feedless zero n acc h = h
digits_feedless (suc k) n acc h =
    let last = byte_more (digit_glyph false (n % 10)) acc (glyph_no_feed false (n % 10) (nat_lt (n % 10) 10)) h in
    of (n / 10 == 0) last (digits_feedless k (n / 10) (digit_glyph false (n % 10) ∷ acc) last)
  where
    of : (t : Bool) → feedless (digit_glyph false (n % 10) ∷ acc) ≡ true → feedless (digits_onto k 10 false (n / 10) (digit_glyph false (n % 10) ∷ acc)) ≡ true
        → feedless (cond t (digit_glyph false (n % 10) ∷ acc) (digits_onto k 10 false (n / 10) (digit_glyph false (n % 10) ∷ acc))) ≡ true
    of true last more = last
    of false last more = more

pub decimal_feedless : (n : ℕ) → feedless (decimal n) ≡ true
unfolding digits
decimal_feedless n = digits_feedless 64 n [] refl

hex_no_feed : (n : ℕ) (t : Bool) → (cond t (48 + n) (87 + n) == 10) ≡ false
hex_no_feed n true = not_equal (48 + n) 10 (λ e. omega (arith, e))
hex_no_feed n false = not_equal (87 + n) 10 (λ e. omega (arith, e))

hex_feedless : (n word : ℕ) → feedless (hex_text n word) ≡ true
unfolding hex_text
hex_feedless zero word = refl
hex_feedless (suc n) word =
    feedless-append (hex_text n (word / 16)) (digit_byte (word % 16) ∷ []) (hex_feedless n (word / 16)) (byte_more (digit_byte (word % 16)) [] (hex_no_feed (word % 16) (nat_lt (word % 16) 10)) refl)

pub word_feedless : (width : Width) (word : ℕ) → feedless (word_text width word) ≡ true
word_feedless width word = hex_feedless (width_bits width / 4) word

-- ---- words

abbrev pub AreFeedless : List (List ℕ) → Type 0
AreFeedless texts = AllByRecursion (λ text. feedless text ≡ true) texts

ram_feedless : (call : RamCall) → AreFeedless (ram_words call)
ram_feedless ram.Init = (refl, tt)
ram_feedless ram.DeInit = (refl, tt)
ram_feedless ram.Stop = (refl, tt)
ram_feedless ram.Allow = (refl, tt)
ram_feedless ram.Suspend = (refl, tt)
ram_feedless ram.Resume = (refl, tt)
ram_feedless ram.GetExecutionStatus = (refl, tt)
ram_feedless ram.GetTestResult = (refl, tt)
ram_feedless (ram.GetTestResultPerBlock n) = (refl, (decimal_feedless n, tt))
ram_feedless ram.GetAlgParams = (refl, tt)
ram_feedless ram.GetTestAlgorithm = (refl, tt)
ram_feedless ram.GetNumberOfTestedCells = (refl, tt)
ram_feedless (ram.SelectAlgParams n) = (refl, (decimal_feedless n, tt))
ram_feedless (ram.ChangeNumberOfTestedCells n) = (refl, (decimal_feedless n, tt))
ram_feedless ram.RunFullTest = (refl, tt)
ram_feedless (ram.RunPartialTest n) = (refl, (decimal_feedless n, tt))
ram_feedless ram.GetVersionInfo = (refl, tt)

fls_feedless : (call : FlsCall) → AreFeedless (fls_words call)
fls_feedless fls.Init = (refl, tt)
fls_feedless fls.DeInit = (refl, tt)
fls_feedless (fls.StartFgnd n) = (refl, (decimal_feedless n, tt))
fls_feedless fls.Abort = (refl, tt)
fls_feedless fls.Suspend = (refl, tt)
fls_feedless fls.Resume = (refl, tt)
fls_feedless fls.GetCurrentState = (refl, tt)
fls_feedless fls.GetTestResultBgnd = (refl, tt)
fls_feedless fls.GetTestResultFgnd = (refl, tt)
fls_feedless fls.GetErrorDetails = (refl, tt)
fls_feedless fls.GetVersionInfo = (refl, tt)

app_feedless : (width : Width) (o : AppOp) → AreFeedless (app_words width o)
app_feedless width (Read a) = (refl, (decimal_feedless a, tt))
app_feedless width (Write a x) = (refl, (decimal_feedless a, (word_feedless width x, tt)))
app_feedless width (Add a x) = (refl, (decimal_feedless a, (word_feedless width x, tt)))
app_feedless width (Copy a b) = (refl, (decimal_feedless a, (decimal_feedless b, tt)))
app_feedless width (Flash a) = (refl, (decimal_feedless a, tt))

bit_feedless : (b : Bool) → feedless (bit_text b) ≡ true
bit_feedless true = refl
bit_feedless false = refl

direction_feedless : (b : Bool) → feedless (direction_text b) ≡ true
direction_feedless true = refl
direction_feedless false = refl

wiring_feedless : (b : Bool) → feedless (wiring_text b) ≡ true
wiring_feedless true = refl
wiring_feedless false = refl

spot_feedless : (s : Spot) → feedless (spot_text s) ≡ true
spot_feedless s = feedless-append (decimal s.word ++ codes ".") (decimal s.bit) (feedless-append (decimal s.word) (codes ".") (decimal_feedless s.word) refl) (decimal_feedless s.bit)

fault_feedless : (width : Width) (f : Fault) → AreFeedless (fault_words width f)
fault_feedless width (StuckAt v b) = (refl, (spot_feedless v, (bit_feedless b, tt)))
fault_feedless width (CannotRise v) = (refl, (spot_feedless v, tt))
fault_feedless width (CannotFall v) = (refl, (spot_feedless v, tt))
fault_feedless width (Invert a up v) = (refl, (direction_feedless up, (spot_feedless a, (spot_feedless v, tt))))
fault_feedless width (Force a up v b) = (refl, (direction_feedless up, (spot_feedless a, (spot_feedless v, (bit_feedless b, tt)))))
fault_feedless width (State a s v b) = (refl, (bit_feedless s, (spot_feedless a, (spot_feedless v, (bit_feedless b, tt)))))
fault_feedless width (NoCell a x) = (refl, (decimal_feedless a, (word_feedless width x, tt)))
fault_feedless width (Also a b c) = (refl, (decimal_feedless a, (decimal_feedless b, (wiring_feedless c, tt))))
fault_feedless width (Instead a b) = (refl, (decimal_feedless a, (decimal_feedless b, tt)))

event_feedless : (width : Width) (e : Event) → AreFeedless (event_words width e)
event_feedless width Nothing = tt
event_feedless width (Ram call) = (refl, ram_feedless call)
event_feedless width (Fls call) = (refl, fls_feedless call)
event_feedless width TickRam = (refl, (refl, tt))
event_feedless width TickFls = (refl, (refl, tt))
event_feedless width (App o) = (refl, app_feedless width o)
event_feedless width (Inject f) = (refl, fault_feedless width f)
event_feedless width Heal = (refl, tt)
event_feedless width (Burn a x) = (refl, (decimal_feedless a, (word_feedless width x, tt)))
event_feedless width (Flip v) = (refl, (spot_feedless v, tt))

call_feedless : (call : HandlerCall) → AreFeedless (call_words call)
call_feedless handler.RamAllow = (refl, (refl, tt))
call_feedless handler.RamStop = (refl, (refl, tt))
call_feedless handler.RamSuspend = (refl, (refl, tt))
call_feedless handler.RamResume = (refl, (refl, tt))
call_feedless handler.RamGetExecutionStatus = (refl, (refl, tt))
call_feedless handler.RamGetTestResult = (refl, (refl, tt))
call_feedless (handler.RamGetTestResultPerBlock n) = (refl, (refl, (decimal_feedless n, tt)))
call_feedless handler.FlsSuspend = (refl, (refl, tt))
call_feedless handler.FlsResume = (refl, (refl, tt))
call_feedless handler.FlsAbort = (refl, (refl, tt))
call_feedless handler.FlsGetCurrentState = (refl, (refl, tt))
call_feedless handler.FlsGetTestResultBgnd = (refl, (refl, tt))
call_feedless handler.FlsGetTestResultFgnd = (refl, (refl, tt))

op_feedless : (width : Width) (o : HandlerOp) → AreFeedless (op_words width o)
op_feedless width (op.App o) = app_feedless width o
op_feedless width (op.Call call) = call_feedless call

-- ---- pieces

abbrev ArePieces : List Piece → Type 0
ArePieces pieces = AllByRecursion (λ p. feedless p.bytes ≡ true) pieces

pieces-append : (ps qs : List Piece) → ArePieces ps → ArePieces qs → ArePieces (ps ++ qs)
pieces-append [] qs h k = k
pieces-append (p ∷ ps) qs h k = (h.0, pieces-append ps qs h.1 k)

spaced_feedless : (ws : List (List ℕ)) → AreFeedless ws → ArePieces (spaced_words ws)
spaced_feedless [] h = tt
spaced_feedless (w ∷ ws) h = (h.0, spaced_feedless ws h.1)

words_feedless : (spaced : Bool) (ws : List (List ℕ)) → AreFeedless ws → ArePieces (words spaced ws)
words_feedless spaced [] h = tt
words_feedless spaced (w ∷ ws) h = (h.0, spaced_feedless ws h.1)

further_feedless : (width : Width) (ops : List HandlerOp) → ArePieces (further_ops width ops)
further_feedless width [] = (refl, tt)
further_feedless width (o ∷ ops) = (refl, pieces-append (words true (op_words width o)) (further_ops width ops) (words_feedless true (op_words width o) (op_feedless width o)) (further_feedless width ops))

handler_feedless : (width : Width) (ops : List HandlerOp) → ArePieces (handler_pieces width ops)
handler_feedless width [] = tt
handler_feedless width (o ∷ ops) = (refl, pieces-append (words false (op_words width o)) (further_ops width ops) (words_feedless false (op_words width o) (op_feedless width o)) (further_feedless width ops))

mark_feedless : (urgent : Bool) (n : ℕ) → feedless (mark_byte urgent ∷ decimal n) ≡ true
mark_feedless true n = decimal_feedless n
mark_feedless false n = decimal_feedless n

requests_feedless : (width : Width) (rs : List Request) → ArePieces (requests_pieces width rs)
requests_feedless width [] = tt
requests_feedless width (r ∷ rs) = pieces-append (request_pieces width r) (requests_pieces width rs) (mark_feedless r.urgent r.offset, handler_feedless width r.ops.items) (requests_feedless width rs)

shown_feedless : (spaced : Bool) (bytes : List ℕ) → feedless bytes ≡ true → feedless (shown spaced bytes) ≡ true
shown_feedless true bytes h = h
shown_feedless false bytes h = h

text_feedless : (ps : List Piece) → ArePieces ps → feedless (text_of ps) ≡ true
text_feedless [] h = refl
text_feedless (p ∷ ps) h = feedless-append (shown p.spaced p.bytes) (text_of ps) (shown_feedless p.spaced p.bytes h.0) (text_feedless ps h.1)

pub canonical_feedless : (width : Width) (line : Line) → feedless (canonical width line) ≡ true
unfolding canonical
canonical_feedless width line =
    let event = words false (event_words width line.event) in
    let requests = requests_pieces width line.requests.items in
    text_feedless (event ++ requests) (pieces-append event requests (words_feedless false (event_words width line.event) (event_feedless width line.event)) (requests_feedless width line.requests.items))
