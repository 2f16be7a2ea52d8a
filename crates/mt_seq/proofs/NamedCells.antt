-- The cells that a fault names, as they are read, and how many accesses are made of them.
use Rattle.std.proofs.Common.{ℕ, ◌+◌, ◌<◌, ◌≤◌, ◌≡◌, Bool, true, List, [], ◌∷◌, ◌++◌, map, length, get_or, Option, Some, None, refl, ap, sym, ◌∙◌, subst, arith, length-append}
use Rattle.std.specs.Prelude.{All, nat_lt, slice_index, if◌then◌else◌}
use Rattle.std.specs.List.{range_with_len}
use Rattle.std.proofs.lemmas.List.{length-map}
use Rattle.std.proofs.lemmas.List.Elements.{All-filter, All-tail}
use Rattle.mt_word.specs.declared.Width.{Width}
use Rattle.mt_word.specs.Word.{complement_of}
use Rattle.mt_fault.specs.declared.fault.Fault.{Fault}
use Rattle.mt_fault.specs.Faulty.{answer}
use Rattle.mt_fault.specs.Items.{Look, Store}
use Rattle.mt_fault.specs.Projection.{cells_of_fault, is_of_fault}
use Rattle.mt_plan.specs.declared.algorithm.Algorithm.{Algorithm}
use Rattle.mt_plan.specs.declared.algorithm.Policy.{Policy}
use Rattle.mt_plan.specs.declared.algorithm.Policy.TheVariants.{NonDestructive}
use Rattle.mt_port.specs.declared.board.Touch.{Touch}
use Rattle.mt_port.specs.Board.{Board, Logs, answered}
use Rattle.mt_port.specs.Tape.{is_over}
use Rattle.mt_seq.specs.declared.own.Named.{Named}
use Rattle.mt_seq.specs.declared.sequence.Frame.{Frame}
use Rattle.mt_seq.specs.declared.sequence.Job.{Job}
use Rattle.mt_seq.specs.declared.sequence.Slice.{Slice}
use Rattle.mt_seq.specs.Inner.Own.{named_cells, own_accesses, own_looks, own_steps, own_stores, read_cell}
use Rattle.mt_seq.specs.Sequence.{back_of, is_transparent, saved_words, sequence, sequence_hold}
use Rattle.mt_seq.specs.Stepping.{job_of}
use Rattle.mt_seq.proofs.Apart.{own_few}
use Rattle.mt_seq.proofs.Attempts.{hold_length}
use Rattle.mt_seq.proofs.NamedLists.{cells_are, cells_low, own_is}
use Rattle.mt_seq.proofs.Sound.{cell_of}

-- the cells are those of the slice
pub fault_cells_low : (fault : Option Fault) (first n : ℕ) → All (λ (c : ℕ). c < n) (cells_of_fault fault first n)
fault_cells_low fault first n =
    All-filter (λ cell. is_of_fault fault (first + cell)) (λ (c : ℕ). c < n) (range_with_len 0 n) (subst (All (λ (c : ℕ). c < n)) (cells_are n) (cells_low n))

map_all : {X Y : Type 0} (f g : X → Y) (xs : List X) → All (λ x. f x ≡ g x) xs → map f xs ≡ map g xs
map_all f g [] all = refl
map_all {Y = Y} f g (x ∷ xs) all = ap (λ (y : Y). y ∷ map f xs) (all 0 x (omega arith)) ∙ ap (λ (l : List Y). g x ∷ l) (map_all f g xs (All-tail (λ y. f y ≡ g y) x xs all))

saved_at : (b : Board) (policy : Policy) (slice : Slice) (c : ℕ) → policy ≡ NonDestructive → c < slice.n → slice_index (saved_words policy b.fault b.words slice) c ≡ answered b.fault b.words (slice.first + c)
saved_at b policy slice c keeps h =
    ap (λ (p : Policy). slice_index (saved_words p b.fault b.words slice) c) keeps
    ∙ cell_of (λ (cell : ℕ). answer b.fault b.words [] (slice.first + cell)) slice.n c 0 h

-- a cell by its parts
cell_by : (cell first saved plain : ℕ) (width : Width) → Named
cell_by cell first saved plain width = record { cell = cell; saved = saved; target = record { addr = first + cell; plain = plain; flipped = complement_of width plain } }

-- what is read off the cells is what their items need
pub named_is : (b : Board) (alg : Algorithm) (frame : Frame) (slice : Slice) (n : ℕ) (width : Width) (transparent : Bool) → frame.policy ≡ NonDestructive → width ≡ b.shape.width → transparent ≡ is_transparent alg
    → map (read_cell (record { first = slice.first; n = n; width = width; background = frame.background; transparent = transparent }) b) (cells_of_fault b.fault slice.first slice.n) ≡ named_cells b (job_of alg frame) slice
unfolding cell_by
named_is b alg frame slice n width transparent keeps w t =
    let saved : List ℕ = saved_words frame.policy b.fault b.words slice in
    let word : ℕ → ℕ = λ c. answered b.fault b.words (slice.first + c) in
    let plain : ℕ → ℕ = λ c. if transparent then word c else frame.background in
    let back : ℕ → ℕ = back_of (job_of alg frame) saved in
    map_all (λ c. cell_by c slice.first (word c) (plain c) width) (λ c. cell_by c slice.first (slice_index saved c) (back c) b.shape.width) (cells_of_fault b.fault slice.first slice.n) (λ k d h.
    let c : ℕ = get_or (cells_of_fault b.fault slice.first slice.n) k d in
    let at : slice_index saved c ≡ word c = saved_at b frame.policy slice c keeps (fault_cells_low b.fault slice.first slice.n k d h) in
    let same : plain c ≡ back c = ap (λ (x : Bool). if x then word c else frame.background) t ∙ ap (λ (x : ℕ). if is_transparent alg then x else frame.background) (sym at) in
    ap (λ (x : ℕ). cell_by c slice.first x (plain c) width) (sym at) ∙ ap (λ (x : ℕ). cell_by c slice.first (slice_index saved c) x width) same ∙ ap (λ (x : Width). cell_by c slice.first (slice_index saved c) (back c) x) w)

-- there is room for all accesses of these cells where there is for the sequence
pub own_room : (b : Board) (job : Job) (slice : Slice) → job.policy ≡ NonDestructive
    → length (cells_of_fault b.fault slice.first slice.n) + length (own_steps job.alg slice.n (named_cells b job slice)) + length (named_cells b job slice) ≤ sequence_hold job slice.n
unfolding own_accesses
own_room b job slice keeps =
    let js : List ℕ = cells_of_fault b.fault slice.first slice.n in
    let ms : List Named = named_cells b job slice in
    omega (
      arith,
      ap length (own_is b job slice keeps),
      own_few b.fault (sequence b job slice),
      hold_length b job slice,
      length-append (own_looks slice.first js ++ own_steps job.alg slice.n ms) (own_stores ms),
      length-append (own_looks slice.first js) (own_steps job.alg slice.n ms),
      length-map js (λ (cell : ℕ). Look (slice.first + cell)),
      length-map ms (λ (m : Named). Store m.target.addr m.saved),
    )

pub own_long : (b : Board) (job : Job) (slice : Slice) → job.policy ≡ NonDestructive → length (own_accesses b job slice) ≤ sequence_hold job slice.n
own_long b job slice keeps = omega (arith, ap length (own_is b job slice keeps), own_few b.fault (sequence b job slice), hold_length b job slice)

-- the tape tells none in the end, wherever some of the accesses were told
pub over_later : (most : ℕ) (told now : Option (List Touch)) (touches : List Touch) (hold rest : ℕ) → is_over most told hold ≡ true → Logs told now touches → length touches + rest ≡ hold → is_over most now rest ≡ true
over_later most told None touches hold rest over logs e = refl
over_later most None (Some now) touches hold rest over logs e = absurd logs
over_later most (Some before) (Some now) touches hold rest over logs e =
    let long : length now + rest ≡ length before + hold = omega (arith, ap length logs, length-append before touches) in
    ap (nat_lt most) long ∙ over
