-- Texts that are written piece by piece, and the ticks of a cut.
use Rattle.std.proofs.Common.{ℕ, ◌+◌, ◌≤◌, ◌≡◌, List, [], ◌∷◌, ◌++◌, length, take, drop, Option, refl, sym, ap, ◌∙◌, subst, arith, append_assoc, append-nil}
use Rattle.std.specs.Prelude.{sum, All, slice_index}
use Rattle.std.specs.Io.KnownBytes.{Appends}
use Rattle.std.proofs.lemmas.List.Elements.{All-head}
use Rattle.mt_port.specs.Streams.{AppendsFront}
use Rattle.mt_port.specs.Inner.Streams.{Appends-nil, Appends-trans, AppendsFront-after, AppendsFront-more}
use Rattle.mt_cut.specs.Cuts.{longest_runs}
use Rattle.mt_replay.specs.Cut.{tick_text, tick_lines, count_text}

-- A front of a text was written, and this is left of it.
pub record Partly (all rest : List ℕ) (held held' : Option (List ℕ)) : Type 0 where
  pub front : List ℕ
  pub written : Appends held held' front
  pub is : all ≡ front ++ rest

pub Partly-none : (all : List ℕ) (held : Option (List ℕ)) → Partly all all held held
Partly-none all held = record { front = []; written = Appends-nil held; is = refl }

pub Partly-next : (all piece rest : List ℕ) (held held' held'' : Option (List ℕ)) → Partly all (piece ++ rest) held held' → Appends held' held'' piece → Partly all rest held held''
Partly-next all piece rest held held' held'' p q = record {
  front = p.front ++ piece;
  written = Appends-trans held held' held'' p.front piece p.written q;
  is = p.is ∙ sym (append_assoc p.front piece rest);
}

pub Partly-cut : (all piece rest : List ℕ) (held held' held'' : Option (List ℕ)) → Partly all (piece ++ rest) held held' → AppendsFront held' held'' piece → AppendsFront held held'' all
Partly-cut all piece rest held held' held'' p q =
    subst (AppendsFront held held'') (append_assoc p.front piece rest ∙ sym p.is)
    (AppendsFront-more held held'' (p.front ++ piece) rest (AppendsFront-after held held' held'' p.front piece p.written q))

pub Partly-all : (all : List ℕ) (held held' : Option (List ℕ)) → Partly all [] held held' → Appends held held' all
Partly-all all held held' p = subst (Appends held held') (sym (append-nil p.front) ∙ sym p.is) p.written

-- ---- the ticks of a cut

-- what is left to be told from a tick on
abbrev pub left_text : ℕ → ℕ → List ℕ → List ℕ → List ℕ
left_text budget number rest end = tick_lines number (longest_runs budget rest) rest ++ end

pub left-next : (budget number n accesses : ℕ) (rest more end : List ℕ) → longest_runs budget rest ≡ n ∷ longest_runs budget more → more ≡ drop n rest → accesses ≡ sum (take n rest)
    → left_text budget number rest end ≡ tick_text number n accesses ++ left_text budget (number + 1) more end
left-next budget number n accesses rest more end next behind is =
    ap (λ (cut : List ℕ). tick_lines number cut rest ++ end) next
    ∙ ap (λ (l : List ℕ). (tick_text number n (sum (take n rest)) ++ tick_lines (number + 1) (longest_runs budget more) l) ++ end) (sym behind)
    ∙ ap (λ (x : ℕ). (tick_text number n x ++ tick_lines (number + 1) (longest_runs budget more) more) ++ end) (sym is)
    ∙ append_assoc (tick_text number n accesses) (tick_lines (number + 1) (longest_runs budget more) more) end

no-runs : (budget : ℕ) → longest_runs budget [] ≡ []
unfolding longest_runs
no-runs budget = refl

pub left-none : (budget number : ℕ) (rest end : List ℕ) → rest ≡ [] → left_text budget number rest end ≡ end
left-none budget number rest end none =
    ap (λ (l : List ℕ). tick_lines number (longest_runs budget l) l ++ end) none ∙ ap (λ (cut : List ℕ). tick_lines number cut [] ++ end) (no-runs budget)

-- one tick more of so many
pub ticks-more : (budget ticks n total : ℕ) (rest more : List ℕ) → longest_runs budget rest ≡ n ∷ longest_runs budget more → ticks + length (longest_runs budget rest) ≡ total
    → (ticks + 1) + length (longest_runs budget more) ≡ total
ticks-more budget ticks n total rest more next same = let one = ap (λ (l : List ℕ). length l) next in omega (arith, one, same)

pub ticks-done : (budget ticks total : ℕ) (rest : List ℕ) → rest ≡ [] → ticks + length (longest_runs budget rest) ≡ total → total ≡ ticks
ticks-done budget ticks total rest none same =
    let one = ap (λ (l : List ℕ). length (longest_runs budget l)) none in
    let two = ap (λ (l : List ℕ). length l) (no-runs budget) in
    omega (arith, one, two, same)

-- the first of slices that are not above the budget is not
pub first-low : (budget : ℕ) (rest : List ℕ) → All (λ hold. hold ≤ budget) rest → slice_index rest 0 ≤ budget
first-low budget [] low = omega arith
first-low budget (hold ∷ more) low = All-head (λ (h : ℕ). h ≤ budget) hold more low

-- the line of the next tick is what comes next
pub Partly-tick : (budget number n accesses : ℕ) (all rest more end piece : List ℕ) (held held' : Option (List ℕ)) → longest_runs budget rest ≡ n ∷ longest_runs budget more → more ≡ drop n rest
    → accesses ≡ sum (take n rest) → piece ≡ tick_text number n accesses → Partly all (left_text budget number rest end) held held' → Partly all (piece ++ left_text budget (number + 1) more end) held held'
Partly-tick budget number n accesses all rest more end piece held held' next behind is line p =
    subst (λ (l : List ℕ). Partly all l held held')
    (left-next budget number n accesses rest more end next behind is ∙ ap (λ (l : List ℕ). l ++ left_text budget (number + 1) more end) (sym line)) p

-- behind the last tick, their number
pub Partly-count : (budget number ticks total : ℕ) (all rest piece : List ℕ) (held held' : Option (List ℕ)) → rest ≡ [] → total ≡ ticks → piece ≡ count_text ticks
    → Partly all (left_text budget number rest (count_text total)) held held' → Partly all (piece ++ []) held held'
Partly-count budget number ticks total all rest piece held held' none same line p =
    subst (λ (l : List ℕ). Partly all l held held')
    (left-none budget number rest (count_text total) none ∙ ap count_text same ∙ sym line ∙ sym (append-nil piece)) p
