-- The canonical text of an accepted line spells it.
use Rattle.std.proofs.Common.{◌≡◌, ℕ, Bool, false, List, [], ◌∷◌, ◌++◌, Option, Some, None, refl, sym, subst, ◌∙◌}
use Rattle.mt_port.specs.declared.board.Shape.{Shape}
use Rattle.mt_port.specs.declared.request.Module.{Module}
use Rattle.mt_port.specs.declared.request.Request.{Request}
use Rattle.mt_port.specs.Board.{IsWithinLimits, AreSoundRequests}
use Rattle.mt_text.specs.declared.line.Event.{Event}
use Rattle.mt_text.specs.declared.line.Event.TheVariants.{Nothing, Ram, Fls, TickRam, TickFls, App, Inject, Heal, Burn, Flip}
use Rattle.mt_text.specs.declared.line.Line.{Line}
use Rattle.mt_text.specs.Tokens.{Token, tokens}
use Rattle.mt_text.specs.Forms.{done}
use Rattle.mt_text.specs.Lines.{event, Start, Ended, follows, followed, running_module, line, Spells, SpellsAt, is_comment, begins_comment}
use Rattle.mt_text.specs.Accepted.{IsSoundEvent, AreFor, IsAccepted}
use Rattle.mt_text.specs.Canonical.{Piece, words, event_words, requests_pieces, text_of, canonical}
use Rattle.mt_text.proofs.Pieces.{bytes_of, pieces_of, pieces_tokens, pieces_of_words, apart_words, AreApart}
use Rattle.mt_text.proofs.Leading.{Follows, follows_mapped, Path, from_part, path_append, leads_of_path}
use Rattle.mt_hex.specs.Digits.{word_text}
use Rattle.mt_text.proofs.Values.{canonical_writes}
use Rattle.mt_text.proofs.Spellings.{event_follows, event_are_words, IsSome}
use Rattle.mt_text.proofs.RequestPaths.{Leads, all_requests, requests_begin, requests_apart}

-- the first word is no comment
first_begins : List (List ℕ) → Bool
first_begins [] = false
first_begins (w ∷ ws) = begins_comment w

comment_of_bytes : (ts : List Token) (ws : List (List ℕ)) → bytes_of ts ≡ ws → first_begins ws ≡ false → is_comment ts ≡ false
unfolding first_begins
comment_of_bytes [] ws e h = refl
comment_of_bytes (t ∷ ts) [] e h = absurd cc
comment_of_bytes (t ∷ ts) (w ∷ ws) e h = let same : w ≡ t.bytes = cc in subst (λ (x : List ℕ). begins_comment x ≡ false) same h

event_is_no_comment : (shape : Shape) (ev : Event) (ws : List (List ℕ)) → IsSome ev → first_begins (event_words shape.width ev ++ ws) ≡ false
unfolding first_begins
event_is_no_comment shape Nothing ws s = absurd s
event_is_no_comment shape (Ram call) ws s = refl
event_is_no_comment shape (Fls call) ws s = refl
event_is_no_comment shape TickRam ws s = refl
event_is_no_comment shape TickFls ws s = refl
event_is_no_comment shape (App op) ws s = refl
event_is_no_comment shape (Inject f) ws s = refl
event_is_no_comment shape Heal ws s = refl
event_is_no_comment shape (Burn a x) ws s = refl
event_is_no_comment shape (Flip v) ws s = refl

start_path : (shape : Shape) (ev : Event) (ws : List (List ℕ)) (w : List ℕ) (us : List (List ℕ)) → ws ≡ w ∷ us → Follows shape event ws (done ev) → Path shape (done Start) ws (done (follows ev))
start_path shape ev [] w us e h = absurd cc
start_path shape ev (v ∷ vs) w us e h = from_part shape Start v vs (done (follows ev)) (follows_mapped shape follows event (v ∷ vs) (done ev) h)

event_some : (shape : Shape) (ev : Event) → IsSome ev → (w : List ℕ) × (us : List (List ℕ)) × (event_words shape.width ev ≡ w ∷ us)
event_some shape Nothing s = absurd s
event_some shape (Ram call) s = (_, _, refl)
event_some shape (Fls call) s = (_, _, refl)
event_some shape TickRam s = (_, _, refl)
event_some shape TickFls s = (_, _, refl)
event_some shape (App op) s = (_, _, refl)
event_some shape (Inject f) s = (_, _, refl)
event_some shape Heal s = (_, _, refl)
event_some shape (Burn a x) s = (_, _, refl)
event_some shape (Flip v) s = (_, _, refl)

event_path : (shape : Shape) (ev : Event) → IsWithinLimits shape → IsSoundEvent shape ev → IsSome ev → Path shape (done Start) (event_words shape.width ev) (done (follows ev))
event_path shape ev w h s = let m = event_some shape ev s in start_path shape ev (event_words shape.width ev) m.0 m.1 m.2 (event_follows shape (word_text shape.width) (canonical_writes shape.width) ev w h s)

-- behind the event
behind_event : (shape : Shape) (ev : Event) (o : Option Module) (rs : List Request) → IsWithinLimits shape → AreSoundRequests shape rs → AreFor o rs → Leads shape ev (followed ev o) (pieces_of (requests_pieces shape.width rs)) rs
behind_event shape ev None rs w r f = subst (λ (x : List Request). Leads shape ev (Ended ev) (pieces_of (requests_pieces shape.width x)) x) (sym f) (record { last = Ended ev; path = refl; ends = refl })
behind_event shape ev (Some m) rs w r f = all_requests shape m ev rs w r.few r.ordered f r.sound

apart_behind : (shape : Shape) (o : Option Module) (rs : List Request) → IsWithinLimits shape → AreSoundRequests shape rs → AreFor o rs → AreApart (requests_pieces shape.width rs)
apart_behind shape None rs w r f = subst (λ (x : List Request). AreApart (requests_pieces shape.width x)) (sym f) tt
apart_behind shape (Some m) rs w r f = requests_apart shape m rs w f r.sound

pieces : Shape → Event → List Request → List Piece
pieces shape ev rs = words false (event_words shape.width ev) ++ requests_pieces shape.width rs

-- a line whose event has words
some_spells : (shape : Shape) (ev : Event) (rs : List Request) → IsWithinLimits shape → IsSoundEvent shape ev → AreSoundRequests shape rs → AreFor (running_module ev) rs → IsSome ev → Spells shape (text_of (pieces shape ev rs)) (line ev rs)
unfolding pieces Spells
some_spells shape ev rs w h r f s =
    let ps = pieces shape ev rs in
    let ws = event_words shape.width ev ++ pieces_of (requests_pieces shape.width rs) in
    let apart : AreApart ps = apart_words false (event_words shape.width ev) (requests_pieces shape.width rs) (event_are_words shape ev w h) (requests_begin shape.width rs) (apart_behind shape (running_module ev) rs w r f) in
    let bytes : bytes_of (tokens 1 (text_of ps)) ≡ ws = pieces_tokens 1 ps apart ∙ pieces_of_words false (event_words shape.width ev) (requests_pieces shape.width rs) in
    let rest = behind_event shape ev (running_module ev) rs w r f in
    let path = path_append shape (done Start) (event_words shape.width ev) (done (follows ev)) (pieces_of (requests_pieces shape.width rs)) (done rest.last) (event_path shape ev w h s) rest.path in
    let comment : is_comment (tokens 1 (text_of ps)) ≡ false = comment_of_bytes (tokens 1 (text_of ps)) ws bytes (event_is_no_comment shape ev (pieces_of (requests_pieces shape.width rs)) s) in
    subst (λ (b : Bool). SpellsAt b shape (tokens 1 (text_of ps)) (line ev rs)) (sym comment)
    (record { last = done rest.last; leads = leads_of_path shape (done Start) (tokens 1 (text_of ps)) ws (done rest.last) bytes path; ends = rest.ends })

-- an empty line
nothing_spells : (shape : Shape) → Spells shape [] (line Nothing [])
unfolding tokens Spells
nothing_spells shape = record { last = done Start; leads = leads_of_path shape (done Start) [] [] (done Start) refl refl; ends = refl }

line_spells : (shape : Shape) (ev : Event) (rs : List Request) → IsWithinLimits shape → IsSoundEvent shape ev → AreSoundRequests shape rs → AreFor (running_module ev) rs → Spells shape (text_of (pieces shape ev rs)) (line ev rs)
unfolding pieces
line_spells shape Nothing rs w h r f = subst (λ (x : List Request). Spells shape (text_of (pieces shape Nothing x)) (line Nothing x)) (sym f) (nothing_spells shape)
line_spells shape (Ram call) rs w h r f = some_spells shape (Ram call) rs w h r f tt
line_spells shape (Fls call) rs w h r f = some_spells shape (Fls call) rs w h r f tt
line_spells shape TickRam rs w h r f = some_spells shape TickRam rs w h r f tt
line_spells shape TickFls rs w h r f = some_spells shape TickFls rs w h r f tt
line_spells shape (App op) rs w h r f = some_spells shape (App op) rs w h r f tt
line_spells shape (Inject fault) rs w h r f = some_spells shape (Inject fault) rs w h r f tt
line_spells shape Heal rs w h r f = some_spells shape Heal rs w h r f tt
line_spells shape (Burn a x) rs w h r f = some_spells shape (Burn a x) rs w h r f tt
line_spells shape (Flip v) rs w h r f = some_spells shape (Flip v) rs w h r f tt

pub canonical_spells : (shape : Shape) (l : Line) → IsWithinLimits shape → IsAccepted shape l → Spells shape (canonical shape.width l) l
unfolding canonical pieces
canonical_spells shape l w h = line_spells shape l.event l.requests.items w h.event h.requests h.callees
