-- Runs, as document 01 lays them out, over plain clocks without any ceiling, and what they are worth.
use Rattle.std.specs.Prelude.{◌≡◌, Bool, true, false, ℕ, zero, suc, ◌+◌, ◌≤◌, T}
use Rattle.std.proofs.Math.Option.{Option, none, some, map}
use mathlib.Core.List.{List, [], ◌∷◌, Memᴰ}
use Rattle.weighting.specs.Weighting.{Weighting, combine_all}
use Rattle.walks.specs.Automaton.{Automaton, View}

-- A step is a stay of some ticks and the edge that ends it.
pub record Step (E : Type 0) : Type 0 where
  pub edge : E
  pub stay : ℕ

module _ {C E : Type 0} (A : Automaton C E) where
  -- The clocks n ticks later: "every clock growing with it".
  abbrev pub later : ℕ → C → C
  later zero c = c
  later (suc n) c = later n (A.tick c)

  -- A step that can be made from the place p with the clocks c: "Each step stays at least 1 tick ..; then takes an edge
  -- out of that place whose guards all hold".
  pub record Leg (p : ℕ) (c : C) (x : Step E) : Type 0 where
    pub known : Memᴰ x.edge A.edges
    pub fits : A.source x.edge ≡ p
    pub stays : 1 ≤ x.stay
    pub guarded : T (A.holds x.edge (later x.stay c))

  -- The steps can be made one after the other, and "the last edge enters an end place".
  abbrev pub Goes : ℕ → C → List (Step E) → Type 0
  Goes p c [] = T (A.is_end p)
  Goes p c (x ∷ xs) = Leg p c x × Goes (A.target x.edge) (A.reset x.edge (later x.stay c)) xs

abbrev pub total : {E : Type 0} → List (Step E) → ℕ
total [] = 0
total (x ∷ xs) = x.stay + total xs

abbrev pub non_empty : {E : Type 0} → List (Step E) → Bool
non_empty [] = false
non_empty (x ∷ xs) = true

-- One more in front, if there is all of it.
abbrev pub cons_if : {A : Type 0} → Option A → Option (List A) → Option (List A)
cons_if none l = none
cons_if (some a) none = none
cons_if (some a) (some l) = some (a ∷ l)

-- What the ticks of a stay gain, one a tick, from time t in place p: the first seen with the flag f, the later ones as
-- staying. None if the place cannot be stayed in at one of them.
unfoldable pub stay_gains : {W : Type 0} → View W → Bool → ℕ → ℕ → ℕ → Option (List W)
stay_gains 𝓥 f t p zero = some []
stay_gains 𝓥 f t p (suc n) = cons_if (𝓥 t f p) (stay_gains 𝓥 false (suc t) p n)

-- The worth of several together.
abbrev pub together : {W : Type 0} → Weighting W → Option (List W) → Option W
together 𝓦 o = map (combine_all 𝓦) o

-- What each stay of a run from time t is worth.
unfoldable pub stay_worths : {W C E : Type 0} → Weighting W → Automaton C E → View W → ℕ → List (Step E) → Option (List W)
stay_worths 𝓦 A 𝓥 t [] = some []
stay_worths 𝓦 A 𝓥 t (x ∷ xs) =
    cons_if (together 𝓦 (stay_gains 𝓥 true t (A.source x.edge) x.stay)) (stay_worths 𝓦 A 𝓥 (t + x.stay) xs)

-- What the run is worth: its stays' worths together.
unfoldable pub run_worth : {W C E : Type 0} → Weighting W → Automaton C E → View W → ℕ → List (Step E) → Option W
run_worth 𝓦 A 𝓥 t xs = together 𝓦 (stay_worths 𝓦 A 𝓥 t xs)

-- "A run over begin b to end e has one or more steps. It enters a start place at b, all clocks 0. .. The last edge
-- enters an end place at e exactly." Its length is len, its worth w.
pub record Run {W C E : Type 0} (𝓦 : Weighting W) (A : Automaton C E) (𝓥 : View W) (b e len : ℕ) (w : W) : Type 0 where
  pub steps : List (Step E)
  pub first : ℕ
  pub first_starts : T (A.is_start first)
  pub goes : Goes A first A.zeros steps
  pub has_steps : T (non_empty steps)
  pub lasts : total steps ≡ len
  pub ends : b + len ≡ e
  pub is_worth : run_worth 𝓦 A 𝓥 b steps ≡ some w
