-- Rule 1 is broken just where no line has a token of that kind.
use Rattle.std.proofs.Common.{◌≡◌, ◌≢◌, ℕ, Bool, true, false, cond, ◌&&◌, List, [], ◌∷◌, ◌++◌, length, Option, Some, None, Result, Ok, Err, refl, sym, ap, subst, ◌∙◌, ◌⊎◌, inl, inr, nat_le, drop, codes}
use Rattle.std.proofs.lemmas.Bool.{cases_Bool}
use Rattle.std.specs.Str.{bytes_eq}
use Rattle.std.proofs.lemmas.Slice.Eq.{bytes_eq-Decides}
use Rattle.mt_fault.specs.declared.fault.Spot.{Spot}
use Rattle.mt_port.specs.declared.board.Shape.{Shape}
use Rattle.mt_port.specs.declared.request.Module.{Module}
use Rattle.mt_port.specs.declared.request.Module.TheVariants.{RamTst, FlsTst}
use Rattle.mt_port.specs.declared.request.HandlerOp.{HandlerOp}
use Rattle.mt_port.specs.declared.request.HandlerOp.TheVariants.{App as AppIn, Call}
use Rattle.mt_port.specs.declared.request.Request.{Request}
use Rattle.mt_port.specs.declared.request.AppOp.TheVariants.{Read}
use Rattle.mt_text.specs.declared.request.Mark.{Mark}
use Rattle.mt_text.specs.declared.line.Event.{Event}
use Rattle.mt_text.specs.declared.line.Event.TheVariants.{Ram, Fls, App, Inject}
use Rattle.mt_text.specs.declared.line.Line.{Line}
use Rattle.mt_text.specs.declared.line.LineKind.{LineKind}
use Rattle.mt_text.specs.declared.line.LineRefusal.{LineRefusal}
use Rattle.std.proofs.lemmas.List.{append-nil}
use Rattle.mt_text.specs.declared.line.LineKind.TheVariants.{Spelling, TooManyOps, NotInHandler}
use Rattle.mt_text.specs.Tokens.{Token, begins_word}
use Rattle.mt_text.specs.Values.{Addr, begins_mark, spelled_in, value_rules, spot_in, spot_rules, mark_in, mark_rules, value_at, spot_at, mark_at}
use Rattle.mt_text.specs.Forms.{Form, done, none, row, barred, value, spot, mark, step, mapped, mapped_ok}
use Rattle.mt_text.specs.RamServices.{ram_call, ram_handler_call}
use Rattle.mt_text.specs.FlsServices.{fls_call, fls_handler_call}
use Rattle.mt_text.specs.Lines.{app_op, fault, event, op_form, Part, Start, Ended, Requests, Handler, Open, Operation, Separator, part_form, follows, request, settled, whole_at, Leads, FirstBroken, SpellsTokens}
use Rattle.mt_text.specs.Kinds.{Either, Allows, GoesOn, IsOfKinds, bytes_of}
use Rattle.mt_text.proofs.Judging.{judged_ok, is_first, after_mapped, spelling_told}

-- ---- the kinds of a form as a tree

-- how far a line has come, its values aside
data Stage : Type 0 where
  starts : Stage
  ended : Stage
  requests : Stage
  handler : Stage
  opened : Stage
  operation : Stage
  separator : Stage

-- some mark
abbrev no_mark : Mark
no_mark = record { offset = 0; urgent = false }

abbrev stage : Part → Stage
stage Start = starts
stage (Ended ev) = ended
stage (Requests m ev rs) = requests
stage (Handler m ev rs n) = handler
stage (Open m ev rs n) = opened
stage (Operation m ev rs n ops) = operation
stage (Separator m ev rs n ops) = separator

data Tree : Type 0 where
  leaf : Stage → Tree
  empty : Tree
  branch : List ℕ → Tree → Tree → Tree
  word : Tree → Tree
  marked : Tree → Tree

abbrev kinds : {X : Type 0} → (X → Stage) → Form X → Tree
kinds s (done x) = leaf (s x)
kinds s none = empty
kinds s (row w form more) = branch w (kinds s form) (kinds s more)
kinds s (barred w k form more) = branch w (kinds s form) (kinds s more)
kinds s (value slot form) = word (kinds s (form 0))
kinds s (spot slot form) = word (kinds s (form (record { word = 0; bit = 0 })))
kinds s (mark last count form) = marked (kinds s (form no_mark))

-- the kinds don't depend on the values, and no barred word breaks rule 1
abbrev Uniform : {X : Type 0} → (X → Stage) → Form X → Type 0
Uniform s (done x) = Unit {0}
Uniform s none = Unit {0}
Uniform s (row w form more) = Uniform s form × Uniform s more
Uniform s (barred w k form more) = (k ≢ Spelling) × Uniform s form × Uniform s more
Uniform s (value slot form) = ((n : ℕ) → kinds s (form n) ≡ kinds s (form 0)) × ((n : ℕ) → Uniform s (form n))
Uniform s (spot slot form) = ((p : Spot) → kinds s (form p) ≡ kinds s (form (record { word = 0; bit = 0 }))) × ((p : Spot) → Uniform s (form p))
Uniform s (mark last count form) = ((k : Mark) → kinds s (form k) ≡ kinds s (form no_mark)) × ((k : Mark) → Uniform s (form k))

kinds_mapped : {X Y : Type 0} (s : Y → Stage) (f : X → Y) (F : Form X) → kinds s (mapped f F) ≡ kinds (λ x. s (f x)) F
kinds_mapped s f (done x) = refl
kinds_mapped s f none = refl
kinds_mapped s f (row w g more) = rw (kinds_mapped s f g, kinds_mapped s f more) refl
kinds_mapped s f (barred w k g more) = rw (kinds_mapped s f g, kinds_mapped s f more) refl
kinds_mapped s f (value slot g) = ap word (kinds_mapped s f (g 0))
kinds_mapped s f (spot slot g) = ap word (kinds_mapped s f (g (record { word = 0; bit = 0 })))
kinds_mapped s f (mark l c g) = ap marked (kinds_mapped s f (g no_mark))

uniform_mapped : {X Y : Type 0} (s : Y → Stage) (f : X → Y) (F : Form X) → Uniform (λ x. s (f x)) F → Uniform s (mapped f F)
uniform_mapped s f (done x) h = tt
uniform_mapped s f none h = tt
uniform_mapped s f (row w g more) h = (uniform_mapped s f g h.0, uniform_mapped s f more h.1)
uniform_mapped s f (barred w k g more) h = (h.0, uniform_mapped s f g h.1, uniform_mapped s f more h.2)
uniform_mapped s f (value slot g) h = ((λ n. kinds_mapped s f (g n) ∙ h.0 n ∙ sym (kinds_mapped s f (g 0))), (λ n. uniform_mapped s f (g n) (h.1 n)))
uniform_mapped s f (spot slot g) h = ((λ n. kinds_mapped s f (g n) ∙ h.0 n ∙ sym (kinds_mapped s f (g (record { word = 0; bit = 0 })))), (λ n. uniform_mapped s f (g n) (h.1 n)))
uniform_mapped s f (mark l c g) h = ((λ k. kinds_mapped s f (g k) ∙ h.0 k ∙ sym (kinds_mapped s f (g no_mark))), (λ k. uniform_mapped s f (g k) (h.1 k)))

-- one token in a tree
abbrev tree_step : Tree → List ℕ → Option Tree
tree_step (leaf s) bytes = None
tree_step empty bytes = None
tree_step (branch w form more) bytes = cond (bytes_eq bytes w) (Some form) (tree_step more bytes)
tree_step (word form) bytes = cond (begins_word bytes) (Some form) None
tree_step (marked form) bytes = cond (begins_mark bytes) (Some form) None

-- a token of its kind is one in the tree, and the kinds go on to be the same for all values
allowed : {X : Type 0} (s : X → Stage) (F : Form X) (bytes : List ℕ) (G : Form X) → Uniform s F → Allows F bytes G → (tree_step (kinds s F) bytes ≡ Some (kinds s G)) × Uniform s G
allowed s (done x) bytes G u h = absurd h
allowed s none bytes G u h = absurd h
allowed {X} s (row w g more) bytes G u h =
    (elim (bytes_eq bytes w) as (λ b. Either b (g ≡ G) (Allows more bytes G) → (cond b (Some (kinds s g)) (tree_step (kinds s more) bytes) ≡ Some (kinds s G)) × Uniform s G) [
      | true ↦ λ e. (ap (λ (x : Form X). Some (kinds s x)) e, subst (λ (x : Form X). Uniform s x) e u.0)
      | false ↦ λ e. allowed s more bytes G u.1 e
    ]) h
allowed {X} s (barred w k g more) bytes G u h =
    (elim (bytes_eq bytes w) as (λ b. Either b (g ≡ G) (Allows more bytes G) → (cond b (Some (kinds s g)) (tree_step (kinds s more) bytes) ≡ Some (kinds s G)) × Uniform s G) [
      | true ↦ λ e. (ap (λ (x : Form X). Some (kinds s x)) e, subst (λ (x : Form X). Uniform s x) e u.1)
      | false ↦ λ e. allowed s more bytes G u.2 e
    ]) h
allowed {X} s (value slot g) bytes G u h = (rw h.0 (ap (λ (x : Tree). Some x) (sym (u.0 (h.1).0) ∙ ap (λ (x : Form X). kinds s x) (h.1).1)), subst (λ (x : Form X). Uniform s x) (h.1).1 (u.1 (h.1).0))
allowed {X} s (spot slot g) bytes G u h = (rw h.0 (ap (λ (x : Tree). Some x) (sym (u.0 (h.1).0) ∙ ap (λ (x : Form X). kinds s x) (h.1).1)), subst (λ (x : Form X). Uniform s x) (h.1).1 (u.1 (h.1).0))
allowed {X} s (mark l c g) bytes G u h = (rw h.0 (ap (λ (x : Tree). Some x) (sym (u.0 (h.1).0) ∙ ap (λ (x : Form X). kinds s x) (h.1).1)), subst (λ (x : Form X). Uniform s x) (h.1).1 (u.1 (h.1).0))

-- ---- what the rules let through is of its kind

-- a token that breaks no rule
taken : {X : Type 0} (shape : Shape) (F : Form X) (bytes : List ℕ) (G : Form X) → step shape F bytes ≡ Ok G → Allows F bytes G
unfolding value_at spot_at mark_at
taken shape (done x) bytes G h = absurd cc
taken shape none bytes G h = absurd cc
taken {X} shape (row w g more) bytes G h =
    (elim (bytes_eq bytes w) as (λ b. cond b (Ok g) (step shape more bytes) ≡ Ok G → Either b (g ≡ G) (Allows more bytes G)) [ true ↦ λ e. cc | false ↦ λ e. taken shape more bytes G e ]) h
taken {X} shape (barred w k g more) bytes G h =
    (elim (bytes_eq bytes w) as (λ b. cond b (Err k) (step shape more bytes) ≡ Ok G → Either b (g ≡ G) (Allows more bytes G)) [ true ↦ λ e. absurd cc | false ↦ λ e. taken shape more bytes G e ]) h
taken shape (value slot g) bytes G h = let m = after_mapped g (value_at shape slot bytes) G h in (is_first (begins_word bytes) (judged_ok (value_rules shape slot bytes) (spelled_in slot bytes) m.0 m.1).0.0, (m.0, m.2))
taken shape (spot slot g) bytes G h = let m = after_mapped g (spot_at shape slot bytes) G h in (is_first (begins_word bytes) (judged_ok (spot_rules shape slot bytes) (spot_in bytes) m.0 m.1).0.0, (m.0, m.2))
taken shape (mark l c g) bytes G h = let m = after_mapped g (mark_at l c bytes) G h in (is_first (begins_mark bytes) (judged_ok (mark_rules l c bytes) (mark_in bytes) m.0 m.1).0.0, (m.0, m.2))

-- ---- rule 1 in a form

handler_later : NotInHandler ≢ Spelling
handler_later e = cc

ops_later : TooManyOps ≢ Spelling
ops_later e = cc

mapped_later : {A B : Type 0} (f : A → B) (r : Result A LineKind) → mapped_ok f r ≡ Err Spelling → r ≡ Err Spelling
mapped_later f (Ok x) h = absurd cc
mapped_later f (Err k) h = let e : k ≡ Spelling = cc in cc

-- a token of no kind
no_kind : {X : Type 0} (s : X → Stage) (shape : Shape) (F : Form X) (bytes : List ℕ) → Uniform s F → step shape F bytes ≡ Err Spelling → tree_step (kinds s F) bytes ≡ None
unfolding value_at spot_at mark_at
no_kind s shape (done x) bytes b h = refl
no_kind s shape none bytes b h = refl
no_kind s shape (row w form more) bytes b h =
    elim (cases_Bool (bytes_eq bytes w)) [ inl e ↦ absurd (let g = rw e at h in cc) | inr e ↦ let g = rw e at h in rw e (no_kind s shape more bytes b.1 g) ]
no_kind s shape (barred w k form more) bytes b h =
    elim (cases_Bool (bytes_eq bytes w)) [ inl e ↦ absurd (b.0 (let g = rw e at h in let q : k ≡ Spelling = cc in q)) | inr e ↦ let g = rw e at h in rw e (no_kind s shape more bytes b.2 g) ]
no_kind s shape (value slot form) bytes b h =
    rw (spelling_told (begins_word bytes) (drop 1 (value_rules shape slot bytes)) (spelled_in slot bytes) refl (mapped_later form (value_at shape slot bytes) h)) refl
no_kind s shape (spot slot form) bytes b h =
    rw (spelling_told (begins_word bytes) (drop 1 (spot_rules shape slot bytes)) (spot_in bytes) refl (mapped_later form (spot_at shape slot bytes) h)) refl
no_kind s shape (mark l c form) bytes b h =
    rw (spelling_told (begins_mark bytes) (drop 1 (mark_rules l c bytes)) (mark_in bytes) refl (mapped_later form (mark_at l c bytes) h)) refl

-- a token of a kind, or rule 1
kind_or_rule : {X : Type 0} (shape : Shape) (F : Form X) (bytes : List ℕ) → ((G : Form X) × Allows F bytes G) ⊎ (step shape F bytes ≡ Err Spelling)
unfolding value_at spot_at mark_at
kind_or_rule shape (done x) bytes = inr refl
kind_or_rule shape none bytes = inr refl
kind_or_rule {X} shape (row w form more) bytes =
    elim (bytes_eq bytes w) as (λ b. ((G : Form X) × Either b (form ≡ G) (Allows more bytes G)) ⊎ (cond b (Ok form) (step shape more bytes) ≡ Err Spelling)) [ true ↦ inl (form, refl) | false ↦ kind_or_rule shape more bytes ]
kind_or_rule {X} shape (barred w k form more) bytes =
    elim (bytes_eq bytes w) as (λ b. ((G : Form X) × Either b (form ≡ G) (Allows more bytes G)) ⊎ (cond b (Err k) (step shape more bytes) ≡ Err Spelling)) [ true ↦ inl (form, refl) | false ↦ kind_or_rule shape more bytes ]
kind_or_rule shape (value slot form) bytes = elim (cases_Bool (begins_word bytes)) [ inl e ↦ inl (form 0, (e, (0, refl))) | inr e ↦ inr (rw e refl) ]
kind_or_rule shape (spot slot form) bytes = let o : Spot = record { word = 0; bit = 0 } in elim (cases_Bool (begins_word bytes)) [ inl e ↦ inl (form o, (e, (o, refl))) | inr e ↦ inr (rw e refl) ]
kind_or_rule shape (mark l c form) bytes = elim (cases_Bool (begins_mark bytes)) [ inl e ↦ inl (form no_mark, (e, (no_mark, refl))) | inr e ↦ inr (rw e refl) ]

-- ---- the tables

app_uniform : (c : Stage) → Uniform (λ _. c) app_op
unfolding app_op
app_uniform c =
    (((λ n. refl), (λ n. tt)), (((λ n. refl), (λ n. ((λ k. refl), (λ k. tt)))), (((λ n. refl), (λ n. ((λ k. refl), (λ k. tt)))), (((λ n. refl), (λ n. ((λ k. refl), (λ k. tt)))), (((λ n. refl), (λ n. tt)), tt)))))

fault_uniform : (c : Stage) → Uniform (λ _. c) fault
unfolding fault
fault_uniform c = (
  ((λ n. refl), (λ n. ((λ k. refl), (λ k. tt)))),
  (
    ((λ n. refl), (λ n. tt)),
    (
      ((λ n. refl), (λ n. tt)),
      (
        (((λ n. refl), (λ n. ((λ k. refl), (λ k. tt)))), (((λ n. refl), (λ n. ((λ k. refl), (λ k. tt)))), tt)),
        (
          (((λ n. refl), (λ n. ((λ k. refl), (λ k. ((λ j. refl), (λ j. tt)))))), (((λ n. refl), (λ n. ((λ k. refl), (λ k. ((λ j. refl), (λ j. tt)))))), tt)),
          (
            ((λ i. refl), (λ i. ((λ n. refl), (λ n. ((λ k. refl), (λ k. ((λ j. refl), (λ j. tt)))))))),
            (
              ((λ n. refl), (λ n. ((λ k. refl), (λ k. tt)))),
              (
                ((λ n. refl), (λ n. ((λ k. refl), (λ k. (tt, (tt, tt)))))),
                (((λ n. refl), (λ n. ((λ k. refl), (λ k. tt)))), tt),
              ),
            ),
          ),
        ),
      ),
    ),
  ),
)

ram_uniform : Uniform (λ c. stage (follows (Ram c))) ram_call
unfolding ram_call
ram_uniform = (tt, (tt, (tt, (tt, (tt, (tt, (tt, (tt, (((λ n. refl), (λ n. tt)), (tt, (tt, (tt, (((λ n. refl), (λ n. tt)), (((λ n. refl), (λ n. tt)), (tt, (((λ n. refl), (λ n. tt)), (tt, tt)))))))))))))))))

fls_uniform : Uniform (λ c. stage (follows (Fls c))) fls_call
unfolding fls_call
fls_uniform = (tt, (tt, (((λ n. refl), (λ n. tt)), (tt, (tt, (tt, (tt, (tt, (tt, (tt, (tt, tt)))))))))))

event_uniform : Uniform (λ ev. stage (follows ev)) event
unfolding event
event_uniform = (
  uniform_mapped (λ ev. stage (follows ev)) (λ c. Ram c) ram_call ram_uniform,
  (
    uniform_mapped (λ ev. stage (follows ev)) (λ c. Fls c) fls_call fls_uniform,
    (
      (tt, (tt, tt)),
      (
        uniform_mapped (λ ev. stage (follows ev)) (λ o. App o) app_op (app_uniform ended),
        (
          uniform_mapped (λ ev. stage (follows ev)) (λ f. Inject f) fault (fault_uniform ended),
          (tt, (((λ n. refl), (λ n. ((λ k. refl), (λ k. tt)))), (((λ n. refl), (λ n. tt)), tt))),
        ),
      ),
    ),
  ),
)

ram_handler_uniform : (c : Stage) → Uniform (λ _. c) ram_handler_call
unfolding ram_handler_call
ram_handler_uniform c = (
  handler_later,
  tt,
  (
    handler_later,
    tt,
    (
      tt,
      (
        tt,
        (
          tt,
          (
            tt,
            (
              tt,
              (
                tt,
                (
                  ((λ n. refl), (λ n. tt)),
                  (
                    handler_later,
                    tt,
                    (
                      handler_later,
                      tt,
                      (
                        handler_later,
                        tt,
                        (
                          handler_later,
                          ((λ n. refl), (λ n. tt)),
                          (handler_later, ((λ n. refl), (λ n. tt)), (handler_later, tt, (handler_later, ((λ n. refl), (λ n. tt)), (handler_later, tt, tt)))),
                        ),
                      ),
                    ),
                  ),
                ),
              ),
            ),
          ),
        ),
      ),
    ),
  ),
)

fls_handler_uniform : (c : Stage) → Uniform (λ _. c) fls_handler_call
unfolding fls_handler_call
fls_handler_uniform c = (handler_later, tt, (handler_later, tt, (handler_later, ((λ n. refl), (λ n. tt)), (tt, (tt, (tt, (tt, (tt, (tt, (handler_later, tt, (handler_later, tt, tt)))))))))))

full_uniform : (c : Stage) → Uniform (λ _. c) (op_form RamTst true)
unfolding op_form app_op
full_uniform c = (
  ops_later,
  uniform_mapped (λ _. c) (λ x. Call x) ram_handler_call (ram_handler_uniform c),
  (
    ops_later,
    uniform_mapped (λ _. c) (λ x. Call x) fls_handler_call (fls_handler_uniform c),
    (
      ops_later,
      ((λ n. refl), (λ n. tt)),
      (
        ops_later,
        ((λ n. refl), (λ n. ((λ k. refl), (λ k. tt)))),
        (ops_later, ((λ n. refl), (λ n. ((λ k. refl), (λ k. tt)))), (ops_later, ((λ n. refl), (λ n. ((λ k. refl), (λ k. tt)))), (ops_later, ((λ n. refl), (λ n. tt)), tt))),
      ),
    ),
  ),
)

op_uniform : (c : Stage) (m : Module) (full : Bool) → Uniform (λ _. c) (op_form m full)
unfolding op_form app_op
op_uniform c RamTst false = (
  uniform_mapped (λ _. c) (λ x. Call x) ram_handler_call (ram_handler_uniform c),
  (handler_later, uniform_mapped (λ _. c) (λ x. Call x) fls_handler_call (fls_handler_uniform c), uniform_mapped (λ _. c) (λ x. AppIn x) app_op (app_uniform c)),
)
op_uniform c FlsTst false = (
  handler_later,
  uniform_mapped (λ _. c) (λ x. Call x) ram_handler_call (ram_handler_uniform c),
  (uniform_mapped (λ _. c) (λ x. Call x) fls_handler_call (fls_handler_uniform c), uniform_mapped (λ _. c) (λ x. AppIn x) app_op (app_uniform c)),
)
op_uniform c RamTst true = full_uniform c
op_uniform c FlsTst true = full_uniform c

-- ---- parts

abbrev behind_op : Module → Event → List Request → Mark → List HandlerOp → HandlerOp → Part
behind_op m ev rs n ops op = Separator m ev rs n (ops ++ op ∷ [])

operation_uniform : (m : Module) (ev : Event) (rs : List Request) (n : Mark) (ops : List HandlerOp) → Uniform stage (part_form (Operation m ev rs n ops))
operation_uniform m ev rs n ops = uniform_mapped stage (behind_op m ev rs n ops) (op_form m (nat_le 8 (length ops))) (op_uniform separator m (nat_le 8 (length ops)))

part_uniform : (p : Part) → Uniform stage (part_form p)
part_uniform Start = uniform_mapped stage follows event event_uniform
part_uniform (Ended ev) = tt
part_uniform (Requests m ev rs) = ((λ n. refl), (λ n. tt))
part_uniform (Handler m ev rs n) = (tt, ((λ n. refl), (λ n. tt)))
part_uniform (Open m ev rs n) = (tt, operation_uniform m ev rs n [])
part_uniform (Operation m ev rs n ops) = operation_uniform m ev rs n ops
part_uniform (Separator m ev rs n ops) = (tt, (tt, tt))

settled_uniform : (f : Form Part) → Uniform stage f → Uniform stage (settled f)
settled_uniform (done p) u = part_uniform p
settled_uniform none u = u
settled_uniform (row w g k) u = u
settled_uniform (barred w b g k) u = u
settled_uniform (value s g) u = u
settled_uniform (spot s g) u = u
settled_uniform (mark l c g) u = u

op_tree : Tree
op_tree = kinds (λ _. separator) (op_form RamTst false)

start_tree : Tree
start_tree = kinds (λ ev. stage (follows ev)) event

stage_tree : Stage → Tree
stage_tree starts = start_tree
stage_tree ended = empty
stage_tree requests = marked (leaf handler)
stage_tree handler = branch (codes "[") (leaf opened) (marked (leaf handler))
stage_tree opened = branch (codes "]") (leaf requests) op_tree
stage_tree operation = op_tree
stage_tree separator = branch (codes ";") (leaf operation) (branch (codes "]") (leaf requests) empty)

settled_tree : Tree → Tree
settled_tree (leaf s) = stage_tree s
settled_tree empty = empty
settled_tree (branch w f more) = branch w f more
settled_tree (word f) = word f
settled_tree (marked f) = marked f

op_kinds : (m : Module) (full : Bool) → kinds (λ _. separator) (op_form m full) ≡ op_tree
unfolding op_tree op_form app_op
op_kinds RamTst false = refl
op_kinds FlsTst false = refl
op_kinds RamTst true = refl
op_kinds FlsTst true = refl

operation_kinds : (m : Module) (ev : Event) (rs : List Request) (n : Mark) (ops : List HandlerOp) → kinds stage (part_form (Operation m ev rs n ops)) ≡ op_tree
operation_kinds m ev rs n ops = kinds_mapped stage (behind_op m ev rs n ops) (op_form m (nat_le 8 (length ops))) ∙ op_kinds m (nat_le 8 (length ops))

part_kinds : (p : Part) → kinds stage (part_form p) ≡ stage_tree (stage p)
unfolding stage_tree start_tree
part_kinds Start = kinds_mapped stage follows event
part_kinds (Ended ev) = refl
part_kinds (Requests m ev rs) = refl
part_kinds (Handler m ev rs n) = refl
part_kinds (Open m ev rs n) = ap (λ (x : Tree). branch (codes "]") (leaf requests) x) (operation_kinds m ev rs n [])
part_kinds (Operation m ev rs n ops) = operation_kinds m ev rs n ops
part_kinds (Separator m ev rs n ops) = refl

settled_kinds : (f : Form Part) → kinds stage (settled f) ≡ settled_tree (kinds stage f)
unfolding settled_tree
settled_kinds (done p) = part_kinds p
settled_kinds none = refl
settled_kinds (row w g k) = refl
settled_kinds (barred w b g k) = refl
settled_kinds (value s g) = refl
settled_kinds (spot s g) = refl
settled_kinds (mark l c g) = refl

-- ---- no line has the token

some_is_not_none : (a b : Option Tree) (x : Tree) → a ≡ Some x → b ≡ None → a ≡ b → ⊥
some_is_not_none a b x h k e = cc

same_tree : (a b x y : Option Tree) (s t : Tree) → a ≡ Some s → b ≡ Some t → a ≡ b → s ≡ t
same_tree a b x y s t h k e = cc

no_line_from : (shape : Shape) (f g form : Form Part) (before : List Token) (bytes : List ℕ) (rest : List (List ℕ)) → kinds stage f ≡ kinds stage g → Uniform stage f → Uniform stage g
    → Leads shape f before form → step shape (settled form) bytes ≡ Err Spelling → GoesOn g (bytes_of before ++ bytes ∷ rest) → ⊥
unfolding Leads GoesOn
no_line_from shape f g form [] bytes rest e u v l h k =
    let s = subst (λ (x : Form Part). step shape (settled x) bytes ≡ Err Spelling) (sym l) h in
    let a = no_kind stage shape (settled f) bytes (settled_uniform f u) s in
    let b = allowed stage (settled g) bytes k.0 (settled_uniform g v) k.1 in
    let trees : kinds stage (settled g) ≡ kinds stage (settled f) = settled_kinds g ∙ ap settled_tree (sym e) ∙ sym (settled_kinds f) in
    some_is_not_none (tree_step (kinds stage (settled g)) bytes) (tree_step (kinds stage (settled f)) bytes) (kinds stage k.0) b.0 a (ap (λ (x : Tree). tree_step x bytes) trees)
no_line_from shape f g form (t ∷ before) bytes rest e u v l h k =
    let a = allowed stage (settled f) t.bytes l.0 (settled_uniform f u) (taken shape (settled f) t.bytes l.0 l.1) in
    let b = allowed stage (settled g) t.bytes k.0 (settled_uniform g v) k.1 in
    let trees : kinds stage (settled f) ≡ kinds stage (settled g) = settled_kinds f ∙ ap settled_tree e ∙ sym (settled_kinds g) in
    let same : kinds stage l.0 ≡ kinds stage k.0 = same_tree (tree_step (kinds stage (settled f)) t.bytes) (tree_step (kinds stage (settled g)) t.bytes) None None (kinds stage l.0) (kinds stage k.0) a.0 b.0 (ap (λ (x : Tree). tree_step x t.bytes) trees) in
    no_line_from shape l.0 k.0 form before bytes rest same a.1 b.1 l.2 h k.2

pub no_line : (shape : Shape) (form : Form Part) (before : List Token) (bytes : List ℕ) (rest : List (List ℕ)) → Leads shape (done Start) before form → step shape (settled form) bytes ≡ Err Spelling → IsOfKinds (bytes_of before ++ bytes ∷ rest) → ⊥
no_line shape form before bytes rest l h k = no_line_from shape (done Start) (done Start) form before bytes rest refl tt tt l h k

-- ---- some line has it

pub leads_goes : (shape : Shape) (f g : Form Part) (before : List Token) (rest : List (List ℕ)) → Leads shape f before g → GoesOn g rest → GoesOn f (bytes_of before ++ rest)
unfolding Leads GoesOn
leads_goes shape f g [] rest l k = subst (λ (x : Form Part). GoesOn x rest) (sym l) k
leads_goes shape f g (t ∷ before) rest l k = (l.0, taken shape (settled f) t.bytes l.0 l.1, leads_goes shape l.0 g before rest l.2 k)

lives : Tree → Bool
lives (leaf s) = true
lives empty = false
lives (branch w f more) = lives f
lives (word f) = lives f
lives (marked f) = lives f

-- each form behind a token lives
all_live : Tree → Bool
all_live (leaf s) = true
all_live empty = true
all_live (branch w f more) = lives f && (all_live f && all_live more)
all_live (word f) = lives f && all_live f
all_live (marked f) = lives f && all_live f

both : (a b : Bool) → (a && b) ≡ true → (a ≡ true) × (b ≡ true)
both true b h = (refl, h)
both false b h = absurd cc

live_step : (T : Tree) (bytes : List ℕ) (U : Tree) → all_live T ≡ true → tree_step T bytes ≡ Some U → (lives U ≡ true) × (all_live U ≡ true)
unfolding all_live
live_step (leaf s) bytes U h k = absurd cc
live_step empty bytes U h k = absurd cc
live_step (branch w f more) bytes U h k =
    let m = both (lives f) (all_live f && all_live more) h in
    let n = both (all_live f) (all_live more) m.1 in
    (elim (bytes_eq bytes w) as (λ b. cond b (Some f) (tree_step more bytes) ≡ Some U → (lives U ≡ true) × (all_live U ≡ true)) [
      | true ↦ λ e. let same : f ≡ U = cc in subst (λ (x : Tree). (lives x ≡ true) × (all_live x ≡ true)) same (m.0, n.0)
      | false ↦ λ e. live_step more bytes U n.1 e
    ]) k
live_step (word f) bytes U h k =
    let m = both (lives f) (all_live f) h in
    (elim (begins_word bytes) as (λ b. cond b (Some f) None ≡ Some U → (lives U ≡ true) × (all_live U ≡ true)) [
      | true ↦ λ e. let same : f ≡ U = cc in subst (λ (x : Tree). (lives x ≡ true) × (all_live x ≡ true)) same (m.0, m.1)
      | false ↦ λ e. absurd cc
    ]) k
live_step (marked f) bytes U h k =
    let m = both (lives f) (all_live f) h in
    (elim (begins_mark bytes) as (λ b. cond b (Some f) None ≡ Some U → (lives U ≡ true) × (all_live U ≡ true)) [
      | true ↦ λ e. let same : f ≡ U = cc in subst (λ (x : Tree). (lives x ≡ true) × (all_live x ≡ true)) same (m.0, m.1)
      | false ↦ λ e. absurd cc
    ]) k

stage_lives : (s : Stage) → all_live (stage_tree s) ≡ true
unfolding all_live lives stage_tree start_tree op_tree event app_op fault ram_call fls_call op_form ram_handler_call fls_handler_call
stage_lives starts = refl
stage_lives ended = refl
stage_lives requests = refl
stage_lives handler = refl
stage_lives opened = refl
stage_lives operation = refl
stage_lives separator = refl

settled_lives : (T : Tree) → all_live T ≡ true → all_live (settled_tree T) ≡ true
unfolding settled_tree
settled_lives (leaf s) h = stage_lives s
settled_lives empty h = h
settled_lives (branch w f more) h = h
settled_lives (word f) h = h
settled_lives (marked f) h = h

-- the forms to which tokens lead live
led_lives : (shape : Shape) (f g : Form Part) (before : List Token) → Uniform stage f → all_live (kinds stage f) ≡ true → Leads shape f before g → Uniform stage g × (all_live (kinds stage g) ≡ true)
unfolding Leads
led_lives shape f g [] u h l = (subst (λ (x : Form Part). Uniform stage x) l u, subst (λ (x : Form Part). all_live (kinds stage x) ≡ true) l h)
led_lives shape f g (t ∷ before) u h l =
    let a = allowed stage (settled f) t.bytes l.0 (settled_uniform f u) (taken shape (settled f) t.bytes l.0 l.1) in
    let s : all_live (kinds stage (settled f)) ≡ true = ap all_live (settled_kinds f) ∙ settled_lives (kinds stage f) h in
    led_lives shape l.0 g before a.1 (live_step (kinds stage (settled f)) t.bytes (kinds stage l.0) s a.0).1 l.2

bytes_same : (w : List ℕ) → bytes_eq w w ≡ true
bytes_same w = (bytes_eq-Decides w w).1 refl

-- how a line may end behind a form
Completion : Form Part → Type 0
Completion f = (rest : List (List ℕ)) × GoesOn f rest

first_chosen : {X : Type 0} (w : List ℕ) (form more : Form X) → Either (bytes_eq w w) (form ≡ form) (Allows more w form)
first_chosen {X} w form more = subst (λ (b : Bool). Either b (form ≡ form) (Allows more w form)) (sym (bytes_same w)) refl

line_ends : (p : Part) (l : Line) → whole_at (done p) ≡ Some l → Completion (done p)
unfolding Completion GoesOn
line_ends p l h = ([], (l, h))

behind_separator : (m : Module) (ev : Event) (rs : List Request) (n : Mark) (ops : List HandlerOp) → Completion (done (Separator m ev rs n ops))
unfolding Completion GoesOn
behind_separator m ev rs n ops = (codes "]" ∷ [], (done (Requests m ev (rs ++ request n ops ∷ [])), refl, (_, refl)))

-- a read of word 0, and the bracket
read_of : {X : Type 0} (f : HandlerOp → X) (m : Module) (full : Bool) → Allows (mapped f (op_form m full)) (codes "r") (value Addr (λ a. done (f (AppIn (Read a)))))
unfolding op_form app_op
read_of f RamTst false = refl
read_of f FlsTst false = refl
read_of f RamTst true = refl
read_of f FlsTst true = refl

behind_operation : (m : Module) (ev : Event) (rs : List Request) (n : Mark) (ops : List HandlerOp) → Completion (done (Operation m ev rs n ops))
unfolding Completion GoesOn
behind_operation m ev rs n ops =
    let c = behind_separator m ev rs n (ops ++ AppIn (Read 0) ∷ []) in (
      codes "r" ∷ codes "0" ∷ c.0,
      (
        value Addr (λ a. done (behind_op m ev rs n ops (AppIn (Read a)))),
        read_of (behind_op m ev rs n ops) m (nat_le 8 (length ops)),
        (done (Separator m ev rs n (ops ++ AppIn (Read 0) ∷ [])), (refl, (0, refl)), c.1),
      ),
    )

behind_part : (p : Part) → Completion (done p)
unfolding Completion GoesOn
behind_part Start = line_ends Start _ refl
behind_part (Ended ev) = line_ends (Ended ev) _ refl
behind_part (Requests m ev rs) = line_ends (Requests m ev rs) _ refl
behind_part (Handler m ev rs n) = line_ends (Handler m ev rs n) _ refl
behind_part (Open m ev rs n) = (codes "]" ∷ [], (done (Requests m ev (rs ++ request n [] ∷ [])), refl, (_, refl)))
behind_part (Operation m ev rs n ops) = behind_operation m ev rs n ops
behind_part (Separator m ev rs n ops) = behind_separator m ev rs n ops

complete : (f : Form Part) → lives (kinds stage f) ≡ true → Completion f
unfolding Completion GoesOn lives
complete (done p) h = behind_part p
complete none h = absurd (let q : false ≡ true = h in cc)
complete (row w form more) h = let c = complete form h in (w ∷ c.0, (form, first_chosen w form more, c.1))
complete (barred w k form more) h = let c = complete form h in (w ∷ c.0, (form, first_chosen w form more, c.1))
complete (value slot form) h = let c = complete (form 0) h in (codes "0" ∷ c.0, (form 0, (refl, (0, refl)), c.1))
complete (spot slot form) h = let o : Spot = record { word = 0; bit = 0 } in let c = complete (form o) h in (codes "0" ∷ c.0, (form o, (refl, (o, refl)), c.1))
complete (mark l c form) h = let k = complete (form no_mark) h in (codes "@" ∷ k.0, (form no_mark, (refl, (no_mark, refl)), k.1))

pub some_line : (shape : Shape) (form : Form Part) (before : List Token) (bytes : List ℕ) → Leads shape (done Start) before form → ((rest : List (List ℕ)) → ¬ IsOfKinds (bytes_of before ++ bytes ∷ rest)) → step shape (settled form) bytes ≡ Err Spelling
unfolding Completion GoesOn all_live
some_line shape form before bytes l none_ =
    let u = led_lives shape (done Start) form before tt refl l in
    let s : all_live (kinds stage (settled form)) ≡ true = ap all_live (settled_kinds form) ∙ settled_lives (kinds stage form) u.1 in
    elim (kind_or_rule shape (settled form) bytes) [
      | inl g ↦
          let a = allowed stage (settled form) bytes g.0 (settled_uniform form u.0) g.1 in
          let c = complete g.0 (live_step (kinds stage (settled form)) bytes (kinds stage g.0) s a.0).0 in
          absurd (none_ c.0 (leads_goes shape (done Start) form before (bytes ∷ c.0) l (g.0, g.1, c.1)))
      | inr e ↦ e
    ]

-- ---- as laws

pub refused_is_no_line : (shape : Shape) (ts : List Token) (e : LineRefusal) (b : FirstBroken shape ts e)
    → ((e.kind ≡ Spelling) → (rest : List (List ℕ)) → ¬ IsOfKinds (bytes_of b.before ++ b.token.bytes ∷ rest)) × (((rest : List (List ℕ)) → ¬ IsOfKinds (bytes_of b.before ++ b.token.bytes ∷ rest)) → e.kind ≡ Spelling)
refused_is_no_line shape ts e b = (
  (λ k rest. no_line shape b.form b.before b.token.bytes rest b.leads (b.broken ∙ ap (λ (x : LineKind). Err x) k)),
  (λ h. let s = some_line shape b.form b.before b.token.bytes b.leads h in let same : Err e.kind ≡ Err Spelling = sym b.broken ∙ s in cc (same)),
)

ends_there : (g : Form Part) (l : Line) → whole_at g ≡ Some l → GoesOn g []
unfolding GoesOn
ends_there g l h = (l, h)

bytes_nil : (xs : List (List ℕ)) → xs ++ [] ≡ xs
bytes_nil xs = append-nil xs

pub spelled_is_of_kinds : (shape : Shape) (ts : List Token) (l : Line) → SpellsTokens shape ts l → IsOfKinds (bytes_of ts)
spelled_is_of_kinds shape ts l h = subst IsOfKinds (bytes_nil (bytes_of ts)) (leads_goes shape (done Start) h.last ts [] h.leads (ends_there h.last l h.ends))
