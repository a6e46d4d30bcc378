-- The claims of specs/ on ceilings, cells and distances.
use Prim.Native.Nat.{ℕ, zero, suc, ◌+◌, ◌*◌, ◌≤◌, ◌<◌, min}
use native.Mathlib.Nat.{one-le-mul}
use native.Mathlib.Omega.{arith}
use mathlib.Core.Path.{◌≡◌, refl, sym, ap, subst, ◌∙◌}
use mathlib.Core.Logic.{◌⊎◌, inl, inr, ⊎_elim}
use mathlib.Core.List.Memᴰ
use mathlib.Core.List.{List, [], ◌∷◌, map, map-append, flat_map, Memᴰ}
use mathlib.Core.Bool.{Bool, true, false, cond, ◌&&◌}
use borrow.Author.Tests.{eq-eqb, leb-true}
use lib.Dec.{T, eqb, leb→le, le→leb, ltb→lt, lt→ltb}
use lib.IntN.{ℤ, pos, negsuc, nat_abs, ◌-ℤ◌}
use lib.Signed.{le_z}
use Rattle.integers.specs.Least.{min_z}
use Rattle.integers.proofs.Tests.{and_in, and_l, and_r}
use Rattle.integers.proofs.Linear.{pos_is, sub_is, min-is, T_le_of, of_T_le}
use Rattle.integers.proofs.Ranges.{abs_sub}
use Rattle.integers.proofs.Order.{le-through, le-self}
use Rattle.integers.proofs.Least.{min-left, min-right, min_assoc}
use Rattle.weighting.specs.Weighting.{combine_from, combine_all}
use Rattle.weighting.proofs.Worths.{combine_from-append}
use Rattle.weighting.proofs.Weightings.{margin}
use Rattle.pattern.specs.declared.Sign.{Sign}
use Rattle.pattern.specs.declared.Sign.TheVariants.{Less, AtMost, More, AtLeast}
use Rattle.pattern.specs.declared.Guard.{Guard}
use Rattle.pattern.specs.declared.Pattern.{Pattern}
use Rattle.pattern.specs.InUse.{guards_of, edges_of}
use Rattle.pattern.specs.Sound.{bounded, banded, bound_in_range, band_in_range, test_in_range, sound_of}
use Rattle.pattern.specs.Clocks.{on_side}
use Rattle.pattern.specs.Distance.{reading_of, distance_from, band_distance, distance_in, distances_of, place_worth, DistancesInRange, BandSign, BandIsTwoTests, MarginIsLeast}
use Rattle.std.specs.Prelude.{Ok, Err}
use Rattle.pattern.specs.declared.Refusal.TheVariants.{UnsoundPattern}
use Rattle.pattern.specs.Cells.{bounds_on, largest, ceiling_of, clock_cells, cells_for, cells_needed, cells_of, counted_as, GuardsSeeHeldClocks, SomeCell, CellsNumbers}
use Rattle.pattern.proofs.SoundLaws.{parts, band_parts}
use Rattle.pattern.proofs.DistanceLaws.{inside-size}

-- ---- two tests that pass together are equal

agree : (a b : Bool) → (T a → T b) → (T b → T a) → a ≡ b
agree true true f g = refl
agree true false f g = absurd (f tt)
agree false true f g = absurd (g tt)
agree false false f g = refl

side_held : (s : Sign) (v b top : ℕ) → b < top → on_side s (min v top) b ≡ on_side s v b
side_held Less v b top h = agree _ _ (λ t. omega (arith, ltb→lt, lt→ltb)) (λ t. omega (arith, ltb→lt, lt→ltb))
side_held AtMost v b top h = agree _ _ (λ t. omega (arith, leb→le, le→leb)) (λ t. omega (arith, leb→le, le→leb))
side_held More v b top h = agree _ _ (λ t. omega (arith, ltb→lt, lt→ltb)) (λ t. omega (arith, ltb→lt, lt→ltb))
side_held AtLeast v b top h = agree _ _ (λ t. omega (arith, leb→le, le→leb)) (λ t. omega (arith, leb→le, le→leb))

-- a guard's bound is among those on its clock
pub bound-low : (gs : List Guard) (g : Guard) → Memᴰ g gs → g.bound ≤ largest (bounds_on g.clock gs)
unfolding bounds_on largest
bound-low [] g m = absurd (Memᴰ.not-nil m)
bound-low (x ∷ gs) g m =
    ⊎_elim
    (λ (e : g ≡ x). subst (λ (y : Guard). g.bound ≤ largest (cond (eqb y.clock g.clock) (y.bound ∷ bounds_on g.clock gs) (bounds_on g.clock gs))) e (rw (eq-eqb g.clock g.clock refl) (omega arith)))
    (λ k. by (eqb x.clock g.clock) (bound-low gs g k)) (Memᴰ.cases_cons m)
  where
    by : (t : Bool) → g.bound ≤ largest (bounds_on g.clock gs) → g.bound ≤ largest (cond t (x.bound ∷ bounds_on g.clock gs) (bounds_on g.clock gs))
    by true h = omega arith
    by false h = h

pub guards_see_held : GuardsSeeHeldClocks
unfolding ceiling_of
guards_see_held p g m v = side_held g.sign v g.bound _ (let l = bound-low (flat_map guards_of (edges_of p)) g m in omega arith)

-- ---- cells

clocks-some : (p : Pattern) (n : ℕ) → 1 ≤ clock_cells p n
unfolding clock_cells
clocks-some p zero = omega arith
clocks-some p (suc n) = one-le-mul (clocks-some p n) (omega arith)

pub some-cell : SomeCell
unfolding cells_needed cells_for
some-cell p h = one-le-mul (one-le-mul {a = (p.high + 1) * 2} (omega arith) (parts p h).some_place) (clocks-some p p.clocks)

pub cells-numbers : CellsNumbers
unfolding cells_of
cells-numbers p = by (sound_of p)
  where
    by : (t : Bool) → counted_as (cond t (Ok (cells_needed p)) (Err UnsoundPattern)) ≡ cond t (0, cells_needed p) (7, 0)
    by true = refl
    by false = refl

-- ---- distances

pub distances_in-range : DistancesInRange
unfolding test_in_range bound_in_range
distances_in-range t v e h = either t.band e
  where
    by : (s : Sign) → nat_abs t.bound ≤ 1_000_000 → nat_abs (distance_from s t.bound v) ≤ 2_000_000
    by Less b = omega (arith, abs_sub t.bound v, abs_sub v t.bound)
    by AtMost b = omega (arith, abs_sub t.bound v, abs_sub v t.bound)
    by More b = omega (arith, abs_sub t.bound v, abs_sub v t.bound)
    by AtLeast b = omega (arith, abs_sub t.bound v, abs_sub v t.bound)

    either : (b : Bool) → cond b (band_in_range t.bound t.high) (bound_in_range t.bound) ≡ true
        → nat_abs (cond b (band_distance t.bound t.high v) (distance_from t.sign t.bound v)) ≤ 2_000_000
    either true e =
        let r = band_parts t.bound t.high e in
        omega (arith, r.low, r.high, inside-size t.bound t.high v, abs_sub v t.bound, abs_sub t.high v)
    either false e = by t.sign (leb-true _ _ e)

-- ---- bands

pub band_sign : BandSign
band_sign c l h v = agree _ _ inside within
  where
    inside : T (le_z (pos 0) (band_distance l h v)) → T (le_z l v && le_z v h)
    inside t =
        and_in (le_z l v) (le_z v h)
        (of_T_le l v (omega (arith, pos_is 0, T_le_of (pos 0) (band_distance l h v) t, min-is (v -ℤ l) (h -ℤ v), sub_is v l, sub_is h v)))
        (of_T_le v h (omega (arith, pos_is 0, T_le_of (pos 0) (band_distance l h v) t, min-is (v -ℤ l) (h -ℤ v), sub_is v l, sub_is h v)))

    within : T (le_z l v && le_z v h) → T (le_z (pos 0) (band_distance l h v))
    within t =
        of_T_le (pos 0) (band_distance l h v)
        (omega (arith, pos_is 0, T_le_of l v (and_l (le_z l v) (le_z v h) t), T_le_of v h (and_r (le_z l v) (le_z v h) t), min-is (v -ℤ l) (h -ℤ v), sub_is v l, sub_is h v))

-- the least of a list in which two stand for their least
pub band_is-two-tests : BandIsTwoTests
unfolding place_worth distances_of combine_from
band_is-two-tests l m before after c low high p q s =
    rw (p, q, map-append (distance_in s) before (banded c low high ∷ after), map-append (distance_in s) before (bounded AtLeast c low ∷ bounded AtMost c high ∷ after))
    (combine_from-append margin margin.unit (map (distance_in s) before) (distance_in s (banded c low high) ∷ map (distance_in s) after)
    ∙ ap (λ (z : ℤ). combine_from margin z (map (distance_in s) after)) (sym (min_assoc (combine_all margin (map (distance_in s) before)) (reading_of s c -ℤ low) (high -ℤ reading_of s c)))
    ∙ sym (combine_from-append margin margin.unit (map (distance_in s) before) (distance_in s (bounded AtLeast c low) ∷ distance_in s (bounded AtMost c high) ∷ map (distance_in s) after)))

-- ---- margins

-- the least of a and a list: a itself or one of the list, and no more than any of them
least-one : (a : ℤ) (l : List ℤ) → (combine_from margin a l ≡ a) ⊎ Memᴰ (combine_from margin a l) l
unfolding combine_from min_z
least-one a [] = inl refl
least-one a (d ∷ l) = by (le_z a d) (λ b. least-one b l)
  where
    by : (t : Bool) → ((b : ℤ) → (combine_from margin b l ≡ b) ⊎ Memᴰ (combine_from margin b l) l)
        → (combine_from margin (cond t a d) l ≡ a) ⊎ Memᴰ (combine_from margin (cond t a d) l) (d ∷ l)
    by true ih = ⊎_elim inl (λ m. inr (Memᴰ.tail m)) (ih a)
    by false ih = ⊎_elim (λ e. inr (Memᴰ.head e)) (λ m. inr (Memᴰ.tail m)) (ih d)

least_first : (a : ℤ) (l : List ℤ) → T (le_z (combine_from margin a l) a)
unfolding combine_from
least_first a [] = le-self a
least_first a (d ∷ l) = le-through (combine_from margin (min_z a d) l) (min_z a d) a (least_first (min_z a d) l) (min-left a d)

least-each : (a : ℤ) (l : List ℤ) (d : ℤ) → Memᴰ d l → T (le_z (combine_from margin a l) d)
unfolding combine_from
least-each a [] d m = absurd (Memᴰ.not-nil m)
least-each a (x ∷ l) d m =
    ⊎_elim
    (λ (e : d ≡ x). rw e (le-through (combine_from margin (min_z a x) l) (min_z a x) x (least_first (min_z a x) l) (min-right a x)))
    (λ k. least-each (min_z a x) l d k) (Memᴰ.cases_cons m)

pub margin-is-least : MarginIsLeast
unfolding place_worth
margin-is-least l s small d m =
    let low = least-each (pos 2_000_001) (distances_of l s) d m in (
      ⊎_elim
          (λ (e : combine_from margin (pos 2_000_001) (distances_of l s) ≡ pos 2_000_001). absurd (over d (small d m) (rw e at low)))
          (λ k. k) (least-one (pos 2_000_001) (distances_of l s)),
      low,
    )
  where
    over : (d : ℤ) → nat_abs d ≤ 2_000_000 → T (le_z (pos 2_000_001) d) → ⊥
    over (pos n) h t = omega (arith, leb→le)
    over (negsuc n) h t = t
