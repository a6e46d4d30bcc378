-- States and cells: each from the other; which states there are; edges in use, by number.
use Prim.Native.Nat.{ℕ, zero, suc, ◌≤◌, ◌<◌}
use native.Mathlib.Omega.{arith}
use mathlib.Core.Path.{◌≡◌, refl, sym, ap, subst, ◌∙◌}
use mathlib.Core.Bool.{Bool, true, false}
use mathlib.Core.Logic.{⊎_elim}
use mathlib.Core.List.Memᴰ
use mathlib.Core.List.{List, [], ◌∷◌, ◌++◌, map, Memᴰ}
use borrow.Author.Tests.{ltb-true, ltb-false}
use lib.Dec.{eqb, ltb}
use lib.ListN.{length, take}
use Rattle.pattern.specs.declared.Edge.{Edge}
use Rattle.pattern.specs.Clocks.{Clocks}
use Rattle.cells.specs.declared.Layout.{Layout}
use Rattle.cells.specs.Layout.{Laid, cells_in}
use Rattle.cells.specs.Index.{clocks_at, Within, index_of, len_at, stage_at, place_at, cell_clocks, Placed}
use Rattle.cells.proofs.Blocks.{found, at}
use lib.IntN.{ℤ}
use Rattle.weighting.specs.Cell.{held_in}
use Rattle.walks.specs.Automaton.{State}
use Rattle.walks.specs.Tables.{Table}
use Rattle.steps.specs.Steps.{edge_in}
use Rattle.table.specs.Moves.{cell_at}
use Rattle.table_laws.specs.Offers.{stage_of}
use Rattle.table_laws.specs.Meaning.{state_at, index_at, up_to, states_of, table_of, Seen}
use Rattle.table_laws.specs.Claims.{TableIsSeen}

-- ---- states by their parts

pub state-same : (n m : ℕ) (a b : Bool) (p q : ℕ) (c d : Clocks) → n ≡ m → a ≡ b → p ≡ q → c ≡ d → ◌≡◌ {A = State Clocks} (record { len = n; entered = a; place = p; clocks = c }) (record { len = m; entered = b; place = q; clocks = d })
state-same n m a b p q c d e f g h = rw (e, f, g, h)

entered-stage : (b : Bool) → eqb (stage_of b) 0 ≡ b
entered-stage true = refl
entered-stage false = refl

stage-entered : (s : ℕ) → s ≤ 1 → stage_of (eqb s 0) ≡ s
stage-entered zero h = refl
stage-entered (suc zero) h = refl
stage-entered (suc (suc s)) h = absurd (omega arith)

stage-low : (b : Bool) → stage_of b ≤ 1
stage-low true = omega arith
stage-low false = omega arith

-- a state of the table
pub record Cell (l : Layout) (s : State Clocks) : Type 0 where
  pub short : s.len ≤ l.high
  pub place_in : s.place < l.places
  pub within : Within l.radices s.clocks
  pub four : length s.clocks ≡ 4

module _ (l : Layout) (laid : Laid l) where
  placed : (s : State Clocks) → Cell l s → Placed l s.len (stage_of s.entered) s.place
  placed s c = record { laid = laid; low = c.short; stages = stage-low s.entered; place = c.place_in }

  -- the state of a state's cell is the state
  pub state_of_index : (s : State Clocks) → Cell l s → state_at l (index_at l s) ≡ s
  state_of_index s c =
      let f = found l s.len (stage_of s.entered) s.place s.clocks (placed s c) c.four c.within in
      state-same _ _ _ _ _ _ _ _ f.len (ap (λ (x : ℕ). eqb x 0) f.stage_is ∙ entered-stage s.entered) f.place f.clocks

  pub index-low : (s : State Clocks) → Cell l s → index_at l s < cells_in l
  index-low s c = (found l s.len (stage_of s.entered) s.place s.clocks (placed s c) c.four c.within).below

  -- the cell of a cell's state is the cell
  pub index_of_state : (i : ℕ) → i < cells_in l → index_at l (state_at l i) ≡ i
  index_of_state i h =
      let a = at l i laid h in
      ap (λ (x : ℕ). index_of l (len_at l i) x (place_at l i) (cell_clocks l i)) (stage-entered (stage_at l i) a.placed.stages) ∙ a.index

  pub cell-at : (i : ℕ) → i < cells_in l → Cell l (state_at l i)
  unfolding cell_clocks clocks_at
  cell-at i h =
      let a = at l i laid h in
      record { short = a.placed.low; place_in = a.placed.place; within = a.within; four = refl }

  -- ---- all states

  up_to-in : (n i : ℕ) → i < n → Memᴰ i (up_to n)
  unfolding up_to
  up_to-in zero i h = absurd (omega arith)
  up_to-in (suc n) i h = by (ltb i n) refl (λ z. up_to-in n i z)
    where
      by : (b : Bool) → ltb i n ≡ b → (i < n → Memᴰ i (up_to n)) → Memᴰ i (up_to n ++ (n ∷ []))
      by true q before = Memᴰ.append_left (n ∷ []) (before (ltb-true i n q))
      by false q before =
          let z = ltb-false i n q in
          let e : i ≡ n = omega arith in
          Memᴰ.append_right (up_to n) (Memᴰ.head e)

  in-up_to : (n i : ℕ) → Memᴰ i (up_to n) → i < n
  unfolding up_to
  in-up_to zero i m = absurd (Memᴰ.not-nil m)
  in-up_to (suc n) i m =
      ⊎_elim (λ a. let z = in-up_to n i a in omega arith) (λ b. let e = Memᴰ.eq_of_singleton b in omega arith) (Memᴰ.append_cases (up_to n) m)

  map-in : {A B : Type 0} (f : A → B) (a : A) (xs : List A) → Memᴰ a xs → Memᴰ (f a) (map f xs)
  map-in f a [] m = absurd (Memᴰ.not-nil m)
  map-in f a (x ∷ xs) m = ⊎_elim (λ e. Memᴰ.head (ap f e)) (λ n. Memᴰ.tail (map-in f a xs n)) (Memᴰ.cases_cons m)

  in_map : {A B : Type 0} (f : A → B) (b : B) (xs : List A) → Memᴰ b (map f xs) → (a : A) × Memᴰ a xs × (b ≡ f a)
  in_map f b [] m = absurd (Memᴰ.not-nil m)
  in_map f b (x ∷ xs) m =
      ⊎_elim (λ e. (x, Memᴰ.head refl, e)) (λ n. let r = in_map f b xs n in (r.0, Memᴰ.tail r.1, r.2)) (Memᴰ.cases_cons m)

-- ---- edges in use, by number

pub edge_in_lem : (es : List Edge) (count i : ℕ) → count ≤ length es → i < count → Memᴰ (edge_in es i) (take count es)
edge_in_lem [] count i h low = absurd (omega arith)
edge_in_lem (e ∷ es) zero i h low = absurd (omega arith)
edge_in_lem (e ∷ es) (suc count) zero h low = Memᴰ.head refl
edge_in_lem (e ∷ es) (suc count) (suc i) h low = Memᴰ.tail (edge_in_lem es count i (omega arith) (omega arith))

pub in-edges : (es : List Edge) (count : ℕ) (e : Edge) → Memᴰ e (take count es) → (i : ℕ) × (i < count) × (edge_in es i ≡ e)
in-edges [] zero e m = absurd (Memᴰ.not-nil m)
in-edges [] (suc count) e m = absurd (Memᴰ.not-nil m)
in-edges (x ∷ es) zero e m = absurd (Memᴰ.not-nil m)
in-edges (x ∷ es) (suc count) e m =
    ⊎_elim (λ q. (0, omega arith, sym q)) (λ n. let r = in-edges es count e n in (suc r.0, (let z = r.1 in omega arith), r.2)) (Memᴰ.cases_cons m)

-- ---- a table seen by its states

module _ (l : Layout) (laid : Laid l) (t : List ℤ) (all : List (State Clocks)) (U : Table ℤ Clocks) (seen : Seen l t all U) where
  pub seen-in : (s : State Clocks) → Cell l s → Memᴰ s all
  seen-in s c =
      subst (λ (x : State Clocks). Memᴰ x all) (state_of_index l laid s c) (seen.listed (index_at l s) (index-low l laid s c))

  pub in-seen : (s : State Clocks) → Memᴰ s all → Cell l s
  in-seen s m = let r = seen.only s m in subst (Cell l) (sym r.2) (cell-at l laid r.0 r.1)

  pub seen-holds : (s : State Clocks) → Cell l s → U s ≡ table_of l t s
  seen-holds s c =
      ap U (sym (state_of_index l laid s c)) ∙ seen.holds (index_at l s) (index-low l laid s c)

pub table-is-seen : (l : Layout) → TableIsSeen l
unfolding states_of
table-is-seen l laid t =
    record {
      listed = λ i h. map-in l laid (state_at l) i (up_to (cells_in l)) (up_to-in l laid (cells_in l) i h);
      only = λ s m. let r = in_map l laid (state_at l) s (up_to (cells_in l)) m in (r.0, in-up_to l laid (cells_in l) r.0 r.1, r.2);
      holds = λ i h. ap (λ (j : ℕ). held_in (cell_at t j)) (index_of_state l laid i h);
    }
