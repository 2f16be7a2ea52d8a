-- The nearest name so far.
use Rattle.std.proofs.Common.{ℕ, ◌+◌, ◌<◌, ◌≤◌, ◌≡◌, List, [], ◌∷◌, ◌++◌, length, take, get_or, Option, None, Some, option_map, Bor, refl, sym, ◌∙◌, subst, arith}
use Rattle.std.proofs.lemmas.List.Elements.{All-push, All-weaker, Contains-append_left, Contains-push}
use Rattle.mt_place.specs.Names.{AreFew, edits, IsNear, IsNearest}
use Rattle.mt_place.proofs.LineLemmas.{texts, more}

-- how many edits the best name takes, and more than few if there is none
abbrev pub least_of : List ℕ → Option (List ℕ) → ℕ
least_of word None = 3
least_of word (Some best) = edits word best

-- the best of some names, and how many edits it takes
pub record IsBest (word : List ℕ) (names : List (List ℕ)) (best : Option (List ℕ)) (least : ℕ) : Type 0 where
  pub nearest : IsNearest word names best
  pub count : least ≡ least_of word best

taken : (word : List ℕ) (names : List (List ℕ)) (best : Option (List ℕ)) (least : ℕ) (name : List ℕ)
    → IsBest word names best least → edits word name < least → AreFew (edits word name) name
    → IsBest word (names ++ name ∷ []) (Some name) (edits word name)
taken word names None least name is below few = record {
  nearest = (
    Contains-push names name,
    few,
    All-push (λ n. IsNear word n → edits word name ≤ edits word n) names name
        (All-weaker (λ n. ¬ (IsNear word n)) (λ n. IsNear word n → edits word name ≤ edits word n) (λ n far near. absurd (far near)) names is.nearest)
        (λ near. omega arith),
  );
  count = refl;
}
taken word names (Some best) least name is below few = record {
  nearest = (
    Contains-push names name,
    few,
    All-push (λ n. IsNear word n → edits word name ≤ edits word n) names name
        (All-weaker (λ n. IsNear word n → edits word best ≤ edits word n) (λ n. IsNear word n → edits word name ≤ edits word n)
        (λ n above near. let first = above near in let below_best : edits word name < edits word best = subst (λ (k : ℕ). edits word name < k) is.count below in omega arith)
        names is.nearest.2)
        (λ near. omega arith),
  );
  count = refl;
}

left : (word : List ℕ) (names : List (List ℕ)) (best : Option (List ℕ)) (least : ℕ) (name : List ℕ)
    → IsBest word names best least → (edits word name < least → AreFew (edits word name) name → ⊥)
    → IsBest word (names ++ name ∷ []) best least
left word names None least name is other = record {
  nearest = All-push (λ n. ¬ (IsNear word n)) names name is.nearest
      (λ near. other (subst (λ (k : ℕ). edits word name < k) (sym is.count) (let few = near.0 in let below : edits word name < 3 = omega arith in below)) near);
  count = is.count;
}
left word names (Some best) least name is other = record {
  nearest = (
    Contains-append_left names (name ∷ []) best is.nearest.0,
    is.nearest.1,
    All-push (λ n. IsNear word n → edits word best ≤ edits word n) names name is.nearest.2
        (λ near. let no : edits word name < edits word best → ⊥ = λ below. other (subst (λ (k : ℕ). edits word name < k) (sym is.count) below) near in omega arith),
  );
  count = is.count;
}

pub step_taken : (word : List ℕ) (names : List (Bor (List ℕ))) (i : ℕ) (d : Bor (List ℕ)) (best best' : Option (Bor (List ℕ))) (least least' count : ℕ)
    → i < length names → IsBest word (take i (texts names)) (option_map (λ name. name.now) best) least
    → count ≡ edits word (get_or names i d).now → count < least → AreFew count (get_or names i d).now
    → best' ≡ Some (get_or names i d) → least' ≡ count
    → IsBest word (take (i + 1) (texts names)) (option_map (λ name. name.now) best') least'
step_taken word names i d best best' least least' count inside is counted below few best-is least-is =
    let name = (get_or names i d).now in
    subst (λ (b : Option (Bor (List ℕ))). IsBest word (take (i + 1) (texts names)) (option_map (λ name. name.now) b) least') (sym best-is)
    (subst (λ (k : ℕ). IsBest word (take (i + 1) (texts names)) (Some name) k) (sym (least-is ∙ counted))
    (subst (λ (ns : List (List ℕ)). IsBest word ns (Some name) (edits word name)) (sym (more names i d inside))
    (taken word (take i (texts names)) (option_map (λ name. name.now) best) least name is
    (subst (λ (k : ℕ). k < least) counted below) (subst (λ (k : ℕ). AreFew k name) counted few))))

pub step_left : (word : List ℕ) (names : List (Bor (List ℕ))) (i : ℕ) (d : Bor (List ℕ)) (best best' : Option (Bor (List ℕ))) (least least' count : ℕ)
    → i < length names → IsBest word (take i (texts names)) (option_map (λ name. name.now) best) least
    → count ≡ edits word (get_or names i d).now → (count < least → AreFew count (get_or names i d).now → ⊥)
    → best' ≡ best → least' ≡ least
    → IsBest word (take (i + 1) (texts names)) (option_map (λ name. name.now) best') least'
step_left word names i d best best' least least' count inside is counted other best-is least-is =
    let name = (get_or names i d).now in
    subst (λ (b : Option (Bor (List ℕ))). IsBest word (take (i + 1) (texts names)) (option_map (λ name. name.now) b) least') (sym best-is)
    (subst (λ (k : ℕ). IsBest word (take (i + 1) (texts names)) (option_map (λ name. name.now) best) k) (sym least-is)
    (subst (λ (ns : List (List ℕ)). IsBest word ns (option_map (λ name. name.now) best) least) (sym (more names i d inside))
    (left word (take i (texts names)) (option_map (λ name. name.now) best) least name is
    (subst (λ (k : ℕ). k < least → AreFew k name → ⊥) counted other))))
