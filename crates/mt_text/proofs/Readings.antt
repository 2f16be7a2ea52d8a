-- What comes of a text is what it spells, or what refuses it.
use Rattle.std.proofs.Common.{◌≡◌, ℕ, ◌+◌, true, false, cond, List, [], ◌∷◌, ◌++◌, length, Option, Some, None, Result, Ok, Err, refl, sym, ap, ◌∙◌, ◌⊎◌, inl, inr, IfOk, IfErr}
use Rattle.mt_text.specs.Tokens.{Token, tokens}
use Rattle.mt_text.specs.Forms.{Form, done, step, at_place, refused, ◌>>=◌}
use Rattle.mt_text.specs.Lines.{Part, Start, run, settled, whole_at, ends_with, Leads, SpellsAt, Spells, FirstBroken, EndsEarly, Refuses, line_of, is_comment, begins_comment, line}
use Rattle.mt_port.specs.declared.board.Shape.{Shape}
use Rattle.mt_text.specs.declared.line.Line.{Line}
use Rattle.mt_text.specs.declared.line.Event.TheVariants.{Nothing}
use Rattle.mt_text.specs.declared.line.LineKind.{LineKind}
use Rattle.mt_text.specs.declared.line.LineKind.TheVariants.{Spelling}
use Rattle.mt_text.specs.declared.line.LineRefusal.{LineRefusal}

-- tokens that lead somewhere
pub leads_run : (shape : Shape) (end : ℕ) (f g : Form Part) (ts : List Token) → Leads shape f ts g → run shape end f ts ≡ ends_with end (whole_at g)
unfolding run Leads
leads_run shape end f g [] h = ap (λ (x : Form Part). ends_with end (whole_at x)) h
leads_run shape end f g (t ∷ ts) h = ap (λ (r : Result (Form Part) LineKind). at_place t.place r >>= λ k. run shape end k ts) h.1 ∙ leads_run shape end h.0 g ts h.2

-- tokens that lead to one that breaks a rule
pub broken_run : (shape : Shape) (end : ℕ) (f g : Form Part) (before : List Token) (t : Token) (later : List Token) (kind : LineKind) → Leads shape f before g → step shape (settled g) t.bytes ≡ Err kind → run shape end f (before ++ t ∷ later) ≡ refused kind t.place
unfolding run Leads
broken_run shape end f g [] t later kind h k =
    let first : Form Part → Result Line LineRefusal = λ x. at_place t.place (step shape (settled x) t.bytes) >>= λ y. run shape end y later in
    ap first h ∙ ap (λ (r : Result (Form Part) LineKind). at_place t.place r >>= λ y. run shape end y later) k
broken_run shape end f g (s ∷ before) t later kind h k = ap (λ (r : Result (Form Part) LineKind). at_place s.place r >>= λ y. run shape end y (before ++ t ∷ later)) h.1 ∙ broken_run shape end h.0 g before t later kind h.2 k

ends_ok : (end : ℕ) (o : Option Line) (l : Line) → ends_with end o ≡ Ok l → o ≡ Some l
ends_ok end None l h = absurd cc
ends_ok end (Some k) l h = cc

ends_err : (end : ℕ) (o : Option Line) (e : LineRefusal) → ends_with end o ≡ Err e → (o ≡ None) × (e ≡ record { kind = Spelling; place = end })
ends_err end None e h = (refl, cc)
ends_err end (Some k) e h = absurd cc

pub record Arrives (shape : Shape) (f : Form Part) (ts : List Token) (l : Line) : Type 0 where
  pub last : Form Part
  pub leads : Leads shape f ts last
  pub ends : whole_at last ≡ Some l

pub run_ok : (shape : Shape) (end : ℕ) (f : Form Part) (ts : List Token) (l : Line) → run shape end f ts ≡ Ok l → Arrives shape f ts l
unfolding run Leads
run_ok shape end f [] l h = record { last = f; leads = refl; ends = ends_ok end (whole_at f) l h }
run_ok shape end f (t ∷ ts) l h =
    (elim (step shape (settled f) t.bytes) as (λ r. step shape (settled f) t.bytes ≡ r → (at_place t.place r >>= λ g. run shape end g ts) ≡ Ok l → Arrives shape f (t ∷ ts) l) [
      | Ok g ↦ λ e k. let m = run_ok shape end g ts l k in record { last = m.last; leads = (g, e, m.leads); ends = m.ends }
      | Err kind ↦ λ e k. absurd cc
    ]) refl h

pub record Breaks (shape : Shape) (f : Form Part) (ts : List Token) (e : LineRefusal) : Type 0 where
  pub before : List Token
  pub token : Token
  pub later : List Token
  pub whole : ts ≡ before ++ token ∷ later
  pub form : Form Part
  pub leads : Leads shape f before form
  pub broken : step shape (settled form) token.bytes ≡ Err e.kind
  pub place : e.place ≡ token.place

pub record Early (shape : Shape) (f : Form Part) (ts : List Token) (end : ℕ) (e : LineRefusal) : Type 0 where
  pub form : Form Part
  pub leads : Leads shape f ts form
  pub goes_on : whole_at form ≡ None
  pub refusal : e ≡ record { kind = Spelling; place = end }

pub run_err : (shape : Shape) (end : ℕ) (f : Form Part) (ts : List Token) (e : LineRefusal) → run shape end f ts ≡ Err e → Breaks shape f ts e ⊎ Early shape f ts end e
unfolding run Leads
run_err shape end f [] e h = let m = ends_err end (whole_at f) e h in inr (record { form = f; leads = refl; goes_on = m.0; refusal = m.1 })
run_err shape end f (t ∷ ts) e h =
    (elim (step shape (settled f) t.bytes) as (λ r. step shape (settled f) t.bytes ≡ r → (at_place t.place r >>= λ g. run shape end g ts) ≡ Err e → Breaks shape f (t ∷ ts) e ⊎ Early shape f (t ∷ ts) end e) [
      | Ok g ↦ λ q k. elim (run_err shape end g ts e k) [
        | inl b ↦ inl (record { before = t ∷ b.before; token = b.token; later = b.later; whole = ap (λ (x : List Token). t ∷ x) b.whole; form = b.form; leads = (g, q, b.leads); broken = b.broken; place = b.place })
        | inr b ↦ inr (record { form = b.form; leads = (g, q, b.leads); goes_on = b.goes_on; refusal = b.refusal })
      ]
      | Err kind ↦ λ q k. let same : record { kind = kind; place = t.place } ≡ e = cc in
          inl (record { before = []; token = t; later = ts; whole = refl; form = f; leads = refl; broken = q ∙ ap (λ (x : LineRefusal). Err x.kind) same; place = sym (ap (λ (x : LineRefusal). x.place) same) })
    ]) refl h

pub spells_from : (shape : Shape) (text : List ℕ) (l : Line) → line_of shape text ≡ Ok l → Spells shape text l
unfolding line_of Spells
spells_from shape text l h =
    (elim (is_comment (tokens 1 text)) as (λ b. cond b (Ok (line Nothing [])) (run shape (1 + length text) (done Start) (tokens 1 text)) ≡ Ok l → SpellsAt b shape (tokens 1 text) l) [
      | true ↦ λ k. cc
      | false ↦ λ k. let m = run_ok shape (1 + length text) (done Start) (tokens 1 text) l k in record { last = m.last; leads = m.leads; ends = m.ends }
    ]) h

pub refuses_from : (shape : Shape) (text : List ℕ) (e : LineRefusal) → line_of shape text ≡ Err e → Refuses shape text e
unfolding line_of Refuses
refuses_from shape text e h =
    (elim (is_comment (tokens 1 text)) as (λ b. cond b (Ok (line Nothing [])) (run shape (1 + length text) (done Start) (tokens 1 text)) ≡ Err e → (b ≡ false) × (FirstBroken shape (tokens 1 text) e ⊎ EndsEarly shape (tokens 1 text) (1 + length text) e)) [
      | true ↦ λ k. absurd cc
      | false ↦ λ k. (
        refl,
        elim (run_err shape (1 + length text) (done Start) (tokens 1 text) e k) [
          | inl b ↦ inl (record { before = b.before; token = b.token; later = b.later; whole = b.whole; form = b.form; leads = b.leads; broken = b.broken; place = b.place })
          | inr b ↦ inr (record { form = b.form; leads = b.leads; goes_on = b.goes_on; refusal = b.refusal })
        ],
      )
    ]) h

-- what is spelled comes
pub comes_from_spells : (shape : Shape) (text : List ℕ) (l : Line) → Spells shape text l → line_of shape text ≡ Ok l
unfolding line_of Spells
comes_from_spells shape text l h =
    (elim (is_comment (tokens 1 text)) as (λ b. SpellsAt b shape (tokens 1 text) l → cond b (Ok (line Nothing [])) (run shape (1 + length text) (done Start) (tokens 1 text)) ≡ Ok l) [
      | true ↦ λ k. cc
      | false ↦ λ k. leads_run shape (1 + length text) (done Start) k.last (tokens 1 text) k.leads ∙ ap (ends_with (1 + length text)) k.ends
    ]) h

pub one_line : (shape : Shape) (text : List ℕ) (a b : Line) → Spells shape text a → Spells shape text b → a ≡ b
one_line shape text a b h k = let x = comes_from_spells shape text a h in let y = comes_from_spells shape text b k in cc

pub line_comment : (shape : Shape) (text : List ℕ) (t : Token) (ts : List Token) → tokens 1 text ≡ t ∷ ts → begins_comment t.bytes ≡ true → line_of shape text ≡ Ok (line Nothing [])
unfolding line_of
line_comment shape text t ts h b = rw (h, b) refl

pub line_empty : (shape : Shape) (text : List ℕ) → tokens 1 text ≡ [] → line_of shape text ≡ Ok (line Nothing [])
unfolding line_of run
line_empty shape text h = rw h refl

pub line_word : (shape : Shape) (text : List ℕ) (t : Token) (ts : List Token) → tokens 1 text ≡ t ∷ ts → begins_comment t.bytes ≡ false → line_of shape text ≡ run shape (1 + length text) (done Start) (t ∷ ts)
unfolding line_of
line_word shape text t ts h b = rw (h, b) refl

pub ok_spells : (shape : Shape) (text : List ℕ) (r : Result Line LineRefusal) → line_of shape text ≡ r → IfOk r (λ l. Spells shape text l)
ok_spells shape text (Ok l) h = spells_from shape text l h
ok_spells shape text (Err e) h = tt

pub err_refuses : (shape : Shape) (text : List ℕ) (r : Result Line LineRefusal) → line_of shape text ≡ r → IfErr r (λ e. Refuses shape text e)
err_refuses shape text (Ok l) h = tt
err_refuses shape text (Err e) h = refuses_from shape text e h

pub comes_from_refuses : (shape : Shape) (text : List ℕ) (e : LineRefusal) → Refuses shape text e → line_of shape text ≡ Err e
unfolding line_of Refuses
comes_from_refuses shape text e h =
    rw h.0 (elim h.1 [
      | inl b ↦
          let place : LineRefusal = record { kind = e.kind; place = b.token.place } in
          let same : place ≡ e = ap (λ (n : ℕ). record { kind = e.kind; place = n }) (sym b.place) in
          let R : List Token → Result Line LineRefusal = λ ts. run shape (1 + length text) (done Start) ts in
          ap R b.whole ∙ broken_run shape (1 + length text) (done Start) b.form b.before b.token b.later e.kind b.leads b.broken ∙ (let E : LineRefusal → Result Line LineRefusal = λ x. Err x in ap E same)
      | inr b ↦ leads_run shape (1 + length text) (done Start) b.form (tokens 1 text) b.leads ∙ ap (ends_with (1 + length text)) b.goes_on ∙ (let E : LineRefusal → Result Line LineRefusal = λ x. Err x in ap E (sym b.refusal))
    ])

pub never_refused : (shape : Shape) (text : List ℕ) (a : Line) (e : LineRefusal) → Spells shape text a → Refuses shape text e → ⊥
never_refused shape text a e h k = let x = comes_from_spells shape text a h in let y = comes_from_refuses shape text e k in absurd cc
