-- The lines: the table of what may stand on a line, in the order of its words.
use Rattle.std.specs.Prelude.{◌≡◌, ℕ, ◌+◌, ◌==◌, nat_le, ◌||◌, codes, Bool, true, false, if◌then◌else◌, List, [], ◌∷◌, ◌++◌, length, Option, Some, None, Result, Ok, Err, ◌⊎◌}
use Rattle.std.specs.Str.{bytes_eq}
use Rattle.mt_text.specs.Tokens.{Token, tokens}
use Rattle.mt_text.specs.Values.{Addr, FlashAddr, OtherAddr, Data, Bit, RamSpot, OtherSpot, FlashSpot}
use Rattle.mt_text.specs.Forms.{Form, done, none, row, barred, value, spot, mark, mapped, step, at_place, refused, ◌>>=◌}
use Rattle.mt_text.specs.RamServices.{ram_call, ram_handler_call}
use Rattle.mt_text.specs.FlsServices.{fls_call, fls_handler_call}
use Rattle.mt_port.specs.declared.board.Shape.{Shape}
use Rattle.mt_text.specs.declared.request.Mark.{Mark}
use Rattle.mt_text.specs.declared.line.LineKind.{LineKind}
use Rattle.mt_text.specs.declared.line.LineKind.TheVariants.{Spelling, TooManyOps, NotInHandler}
use Rattle.mt_text.specs.declared.line.LineRefusal.{LineRefusal}
use Rattle.mt_port.specs.declared.request.AppOp.{AppOp}
use Rattle.mt_port.specs.declared.request.AppOp.TheVariants.{Read, Write, Add, Copy, Flash as FlashRead}
use Rattle.mt_fault.specs.declared.fault.Fault.{Fault}
use Rattle.mt_fault.specs.declared.fault.Fault.TheVariants.{StuckAt, CannotRise, CannotFall, Invert, Force, State, NoCell, Also, Instead}
use Rattle.mt_text.specs.declared.line.RamCall.TheVariants.{RunFullTest, RunPartialTest}
use Rattle.mt_text.specs.declared.line.FlsCall.TheVariants.{StartFgnd}
use Rattle.mt_port.specs.declared.request.HandlerOp.{HandlerOp}
use Rattle.mt_port.specs.declared.request.HandlerOp.TheVariants.{App as AppIn, Call}
use Rattle.mt_port.specs.declared.request.Request.{Request}
use Rattle.mt_text.specs.declared.line.Event.{Event}
use Rattle.mt_text.specs.declared.line.Event.TheVariants.{Nothing, Ram, Fls, TickRam, TickFls, App, Inject, Heal, Burn, Flip}
use Rattle.mt_text.specs.declared.line.Line.{Line}
use Rattle.mt_port.specs.declared.request.Module.{Module}
use Rattle.mt_port.specs.declared.request.Module.TheVariants.{RamTst, FlsTst}

-- an operation of the application
unfoldable pub app_op : Form AppOp
app_op =
    row (codes "r") (value Addr (λ a. done (Read a)))
    (row (codes "w") (value Addr (λ a. value Data (λ x. done (Write a x))))
    (row (codes "add") (value Addr (λ a. value Data (λ x. done (Add a x))))
    (row (codes "copy") (value Addr (λ a. value Addr (λ b. done (Copy a b))))
    (row (codes "f") (value FlashAddr (λ a. done (FlashRead a)))
    none))))

-- the two directions of a change
abbrev pub direction : {X : Type 0} → (Bool → Form X) → Form X
direction form = row (codes "up") (form true) (row (codes "down") (form false) none)

-- what may stand behind the word `inject`; a second address or spot is none of the first word
unfoldable pub fault : Form Fault
fault =
    row (codes "sa") (spot RamSpot (λ v. value Bit (λ b. done (StuckAt v (b == 1)))))
    (row (codes "tf-up") (spot RamSpot (λ v. done (CannotRise v)))
    (row (codes "tf-down") (spot RamSpot (λ v. done (CannotFall v)))
    (row (codes "cfin") (direction (λ up. spot RamSpot (λ a. spot (OtherSpot a.word) (λ v. done (Invert a up v)))))
    (row (codes "cfid") (direction (λ up. spot RamSpot (λ a. spot (OtherSpot a.word) (λ v. value Bit (λ b. done (Force a up v (b == 1)))))))
    (row (codes "cfst") (value Bit (λ h. spot RamSpot (λ a. spot (OtherSpot a.word) (λ v. value Bit (λ b. done (State a (h == 1) v (b == 1)))))))
    (row (codes "af-none") (value Addr (λ a. value Data (λ x. done (NoCell a x))))
    (row (codes "af-also") (value Addr (λ a. value (OtherAddr a) (λ b. row (codes "and") (done (Also a b true)) (row (codes "or") (done (Also a b false)) none))))
    (row (codes "af-instead") (value Addr (λ a. value (OtherAddr a) (λ b. done (Instead a b))))
    none))))))))

-- what may stand behind the word `tick`
abbrev pub tick : Form Event
tick = row (codes "ram") (done TickRam) (row (codes "fls") (done TickFls) none)

-- what stands on a line before its requests
unfoldable pub event : Form Event
event =
    row (codes "ram") (mapped Ram ram_call)
    (row (codes "fls") (mapped Fls fls_call)
    (row (codes "tick") tick
    (row (codes "app") (mapped App app_op)
    (row (codes "inject") (mapped Inject fault)
    (row (codes "heal") (done Heal)
    (row (codes "burn") (value FlashAddr (λ a. value Data (λ x. done (Burn a x))))
    (row (codes "flip") (spot FlashSpot (λ s. done (Flip s)))
    none)))))))

-- ---- requests

-- the same words, each of which breaks this rule
abbrev pub all_barred : {X : Type 0} → LineKind → Form X → Form X
all_barred kind (row word form more) = barred word kind form (all_barred kind more)
all_barred kind form = form

-- the first words of operations
abbrev pub is_op_word : List ℕ → Bool
is_op_word bytes = (((((bytes_eq bytes (codes "ram") || bytes_eq bytes (codes "fls")) || bytes_eq bytes (codes "r")) || bytes_eq bytes (codes "w")) || bytes_eq bytes (codes "add")) || bytes_eq bytes (codes "copy")) || bytes_eq bytes (codes "f")

-- an operation of a handler of this module, where the handler is full or isn't
unfoldable pub op_form : Module → Bool → Form HandlerOp
op_form m true = all_barred TooManyOps (row (codes "ram") (mapped Call ram_handler_call) (row (codes "fls") (mapped Call fls_handler_call) (mapped AppIn app_op)))
op_form RamTst false = row (codes "ram") (mapped Call ram_handler_call) (barred (codes "fls") NotInHandler (mapped Call fls_handler_call) (mapped AppIn app_op))
op_form FlsTst false = barred (codes "ram") NotInHandler (mapped Call ram_handler_call) (row (codes "fls") (mapped Call fls_handler_call) (mapped AppIn app_op))

-- a request
abbrev pub request : Mark → List HandlerOp → Request
request k ops = record { offset = k.offset; urgent = k.urgent; ops = record { items = ops } }

-- a line
abbrev pub line : Event → List Request → Line
line ev rs = record { event = ev; requests = record { items = rs } }

-- the offset of the last request, or 0
abbrev pub last_offset : List Request → ℕ
last_offset [] = 0
last_offset (r ∷ []) = r.offset
last_offset (r ∷ s ∷ rs) = last_offset (s ∷ rs)

-- the module of a running event
abbrev pub running_module : Event → Option Module
running_module (Ram RunFullTest) = Some RamTst
running_module (Ram (RunPartialTest n)) = Some RamTst
running_module (Fls (StartFgnd n)) = Some FlsTst
running_module TickRam = Some RamTst
running_module TickFls = Some FlsTst
running_module _ = None

-- How far a line has come: nothing, an event that no request may follow, or a running event with the requests before this place.
-- In a request: behind its mark, behind its bracket, before a further operation, and behind an operation.
pub data Part : Type 0 where
  Start : Part
  Ended : Event → Part
  Requests : Module → Event → List Request → Part
  Handler : Module → Event → List Request → Mark → Part
  Open : Module → Event → List Request → Mark → Part
  Operation : Module → Event → List Request → Mark → List HandlerOp → Part
  Separator : Module → Event → List Request → Mark → List HandlerOp → Part

-- requests may follow where the event has a module that runs
abbrev pub followed : Event → Option Module → Part
followed ev None = Ended ev
followed ev (Some m) = Requests m ev []

-- what may follow an event
abbrev pub follows : Event → Part
follows ev = followed ev (running_module ev)

-- a further request
abbrev pub request_form : Module → Event → List Request → Form Part
request_form m ev rs = mark (last_offset rs) (length rs) (λ k. done (Handler m ev rs k))

-- a further operation of a handler
abbrev pub operation_form : Module → Event → List Request → Mark → List HandlerOp → Form Part
operation_form m ev rs k ops = mapped (λ op. Separator m ev rs k (ops ++ op ∷ [])) (op_form m (nat_le 8 (length ops)))

-- what may stand there next
abbrev pub part_form : Part → Form Part
part_form Start = mapped follows event
part_form (Ended ev) = none
part_form (Requests m ev rs) = request_form m ev rs
part_form (Handler m ev rs k) = row (codes "[") (done (Open m ev rs k)) (request_form m ev (rs ++ request k [] ∷ []))
part_form (Open m ev rs k) = row (codes "]") (done (Requests m ev (rs ++ request k [] ∷ []))) (operation_form m ev rs k [])
part_form (Operation m ev rs k ops) = operation_form m ev rs k ops
part_form (Separator m ev rs k ops) =
    row (codes ";") (done (Operation m ev rs k ops)) (row (codes "]") (done (Requests m ev (rs ++ request k ops ∷ []))) none)

-- the line, where it may end there
abbrev pub whole : Part → Option Line
whole Start = Some (line Nothing [])
whole (Ended ev) = Some (line ev [])
whole (Requests m ev rs) = Some (line ev rs)
whole (Handler m ev rs k) = Some (line ev (rs ++ request k [] ∷ []))
whole _ = None

-- the same of a form
abbrev pub whole_at : Form Part → Option Line
whole_at (done p) = whole p
whole_at _ = None

-- a form, or what may stand at the part that it leads to
abbrev pub settled : Form Part → Form Part
settled (done p) = part_form p
settled none = none
settled (row w g h) = row w g h
settled (barred w k g h) = barred w k g h
settled (value s g) = value s g
settled (spot s g) = spot s g
settled (mark l c g) = mark l c g

-- the line, or Spelling at the end of a line that ends too early
abbrev pub ends_with : ℕ → Option Line → Result Line LineRefusal
ends_with end None = refused Spelling end
ends_with end (Some l) = Ok l

-- token by token
unfoldable pub run : Shape → ℕ → Form Part → List Token → Result Line LineRefusal
run shape end f [] = ends_with end (whole_at f)
run shape end f (t ∷ ts) = at_place t.place (step shape (settled f) t.bytes) >>= λ g. run shape end g ts

-- ---- what a text is

-- the word begins with `#`
abbrev pub begins_comment : List ℕ → Bool
begins_comment [] = false
begins_comment (b ∷ bs) = b == 35

-- the first token does
abbrev pub is_comment : List Token → Bool
is_comment [] = false
is_comment (t ∷ ts) = begins_comment t.bytes

-- the line of a text, token by token
unfoldable pub line_of : Shape → List ℕ → Result Line LineRefusal
line_of shape text = if is_comment (tokens 1 text) then Ok (line Nothing []) else run shape (1 + length text) (done Start) (tokens 1 text)

-- ---- what a text spells

-- none of the tokens breaks a rule, and behind them the line goes on with that form
unfoldable pub Leads : Shape → Form Part → List Token → Form Part → Type 0
Leads shape f [] g = f ≡ g
Leads shape f (t ∷ ts) g = (h : Form Part) × (step shape (settled f) t.bytes ≡ Ok h) × Leads shape h ts g

-- the tokens are those of the line, from its start to its end
pub record SpellsTokens (shape : Shape) (ts : List Token) (l : Line) : Type 0 where
  pub last : Form Part
  pub leads : Leads shape (done Start) ts last
  pub ends : whole_at last ≡ Some l

-- a comment spells Nothing
abbrev pub SpellsAt : Bool → Shape → List Token → Line → Type 0
SpellsAt true shape ts l = l ≡ line Nothing []
SpellsAt false shape ts l = SpellsTokens shape ts l

-- the text spells the line
unfoldable pub Spells : Shape → List ℕ → Line → Type 0
Spells shape text l = SpellsAt (is_comment (tokens 1 text)) shape (tokens 1 text) l

-- the first token that breaks a rule, with the least rule that it breaks
pub record FirstBroken (shape : Shape) (ts : List Token) (e : LineRefusal) : Type 0 where
  pub before : List Token
  pub token : Token
  pub later : List Token
  pub whole : ts ≡ before ++ token ∷ later
  pub form : Form Part
  pub leads : Leads shape (done Start) before form
  pub broken : step shape (settled form) token.bytes ≡ Err e.kind
  pub place : e.place ≡ token.place

-- no token breaks a rule, but the line may not end there
pub record EndsEarly (shape : Shape) (ts : List Token) (end : ℕ) (e : LineRefusal) : Type 0 where
  pub form : Form Part
  pub leads : Leads shape (done Start) ts form
  pub goes_on : whole_at form ≡ None
  pub refusal : e ≡ record { kind = Spelling; place = end }

-- the text is refused: by the first token that breaks a rule, or for ending too early
unfoldable pub Refuses : Shape → List ℕ → LineRefusal → Type 0
Refuses shape text e = (is_comment (tokens 1 text) ≡ false) × (FirstBroken shape (tokens 1 text) e ⊎ EndsEarly shape (tokens 1 text) (1 + length text) e)
