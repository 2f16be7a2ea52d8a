-- Words that lead from one form to another.
use Rattle.std.proofs.Common.{◌≡◌, ℕ, List, [], ◌∷◌, ◌++◌, Ok, sym, ap, subst, ◌∙◌}
use Rattle.mt_port.specs.declared.board.Shape.{Shape}
use Rattle.mt_fault.specs.declared.fault.Spot.{Spot}
use Rattle.mt_text.specs.Tokens.{Token}
use Rattle.mt_text.specs.Values.{Slot, SpotSlot, value_at, spot_at}
use Rattle.mt_text.specs.Forms.{Form, done, none, row, barred, value, spot, mark, step, mapped, mapped_ok}
use Rattle.mt_text.specs.Lines.{Part, part_form, settled, Leads}
use Rattle.mt_text.proofs.Pieces.{bytes_of}
use Rattle.mt_text.proofs.FormLemmas.{step_mapped}

-- inside a form
abbrev pub Follows : {X : Type 0} → Shape → Form X → List (List ℕ) → Form X → Type 0
Follows shape f [] g = f ≡ g
Follows {X} shape f (w ∷ ws) g = (h : Form X) × (step shape f w ≡ Ok h) × Follows shape h ws g

pub follows_mapped : {X Y : Type 0} (shape : Shape) (f : X → Y) (F : Form X) (ws : List (List ℕ)) (G : Form X) → Follows shape F ws G → Follows shape (mapped f F) ws (mapped f G)
follows_mapped {X} {Y} shape f F [] G h = ap (mapped f) h
follows_mapped shape f F (w ∷ ws) G h = (mapped f h.0, step_mapped shape f F w ∙ ap (mapped_ok (mapped f)) h.1, follows_mapped shape f h.0 ws G h.2)

-- a value in its place
pub record Reads (shape : Shape) (slot : Slot) (bytes : List ℕ) (n : ℕ) : Type 0 where
  pub place : value_at shape slot bytes ≡ Ok n

pub record ReadsSpot (shape : Shape) (slot : SpotSlot) (bytes : List ℕ) (s : Spot) : Type 0 where
  pub place : spot_at shape slot bytes ≡ Ok s

pub value_step : {X : Type 0} (shape : Shape) (slot : Slot) (form : ℕ → Form X) (bytes : List ℕ) (n : ℕ) → Reads shape slot bytes n → step shape (value slot form) bytes ≡ Ok (form n)
value_step {X} shape slot form bytes n h = ap (mapped_ok form) h.place

pub spot_step : {X : Type 0} (shape : Shape) (slot : SpotSlot) (form : Spot → Form X) (bytes : List ℕ) (s : Spot) → ReadsSpot shape slot bytes s → step shape (spot slot form) bytes ≡ Ok (form s)
spot_step {X} shape slot form bytes s h = ap (mapped_ok form) h.place

-- from part to part
abbrev pub Path : Shape → Form Part → List (List ℕ) → Form Part → Type 0
Path shape f [] g = f ≡ g
Path shape f (w ∷ ws) g = (h : Form Part) × (step shape (settled f) w ≡ Ok h) × Path shape h ws g

path_of : (shape : Shape) (f : Form Part) (ws : List (List ℕ)) (g : Form Part) → Follows shape f ws g → Path shape f ws g
path_of shape f [] g h = h
path_of shape (done p) (w ∷ ws) g h = absurd (let q = h.1 in cc)
path_of shape none (w ∷ ws) g h = absurd (let q = h.1 in cc)
path_of shape (row u k more) (w ∷ ws) g h = (h.0, h.1, path_of shape h.0 ws g h.2)
path_of shape (barred u k b more) (w ∷ ws) g h = (h.0, h.1, path_of shape h.0 ws g h.2)
path_of shape (value s k) (w ∷ ws) g h = (h.0, h.1, path_of shape h.0 ws g h.2)
path_of shape (spot s k) (w ∷ ws) g h = (h.0, h.1, path_of shape h.0 ws g h.2)
path_of shape (mark l c k) (w ∷ ws) g h = (h.0, h.1, path_of shape h.0 ws g h.2)

pub from_part : (shape : Shape) (p : Part) (w : List ℕ) (ws : List (List ℕ)) (g : Form Part) → Follows shape (part_form p) (w ∷ ws) g → Path shape (done p) (w ∷ ws) g
from_part shape p w ws g h = (h.0, h.1, path_of shape h.0 ws g h.2)

pub path_append : (shape : Shape) (f : Form Part) (ws : List (List ℕ)) (g : Form Part) (us : List (List ℕ)) (k : Form Part) → Path shape f ws g → Path shape g us k → Path shape f (ws ++ us) k
path_append shape f [] g us k h i = subst (λ (x : Form Part). Path shape x us k) (sym h) i
path_append shape f (w ∷ ws) g us k h i = (h.0, h.1, path_append shape h.0 ws g us k h.2 i)

-- tokens of these words lead there
pub leads_of_path : (shape : Shape) (f : Form Part) (ts : List Token) (ws : List (List ℕ)) (g : Form Part) → bytes_of ts ≡ ws → Path shape f ws g → Leads shape f ts g
unfolding Leads
leads_of_path shape f [] [] g e h = h
leads_of_path shape f [] (w ∷ ws) g e h = absurd cc
leads_of_path shape f (t ∷ ts) [] g e h = absurd cc
leads_of_path shape f (t ∷ ts) (w ∷ ws) g e h =
    let same : w ≡ t.bytes = cc in
    let rest : bytes_of ts ≡ ws = cc in
    (h.0, ap (step shape (settled f)) (sym same) ∙ h.1, leads_of_path shape h.0 ts ws g rest h.2)
