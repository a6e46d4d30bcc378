-- How large worths come: "within ±32,760,000,000". A cell of length n is within 8,000,000 × n in sum, and within 2,000,001 in
-- margin.
use Prim.Native.Nat.{ℕ, suc, ◌+◌, ◌*◌, ◌≤◌, ◌<◌}
use native.Mathlib.Omega.{arith}
use mathlib.Core.Path.{◌≡◌, refl, ap, subst}
use mathlib.Core.List.{Memᴰ}
use mathlib.Core.Option.{some, some-injective}
use mathlib.Core.Bool.{Bool, true, false, not, cond}
use borrow.Author.Tests.{ltb-true, ltb-false}
use lib.Dec.{ltb}
use lib.IntN.{ℤ, nat_abs}
use Rattle.integers.proofs.Ranges.{abs_add, abs_min}
use Rattle.weighting.specs.declared.Weighing.{Weighing}
use Rattle.weighting.specs.declared.Weighing.TheVariants.{Margin, Sum}
use Rattle.weighting.proofs.Weightings.{weighting_of}
use Rattle.pattern.specs.declared.Pattern.{Pattern}
use Rattle.pattern.specs.InUse.{place_at}
use Rattle.pattern.specs.Slots.{all}
use Rattle.pattern.specs.Sound.{sound_of}
use Rattle.pattern.specs.Clocks.{Clocks}
use Rattle.pattern.specs.Distance.{Sample, place_worth}
use Rattle.record.specs.Record.{Book, value_in_range}
use Rattle.record.specs.Joined.{agrees}
use Rattle.record.proofs.PlaceLaws.{place-at-sound, margin-place-size, place-size, testless_worth, past_testless}
use Rattle.walks.specs.Automaton.{State, View}
use Rattle.walks.specs.Tables.{Table}
use Rattle.walks.proofs.States.{opening-holds}
use Rattle.walks.proofs.Kept.{kept}
use Rattle.book.specs.View.{counts, gain_by, gain_in, tick_view, sample_at, before, view_of}
use Rattle.book.specs.Automaton.{same_clocks, held_automaton}
use Rattle.monitor.specs.Cells.{cell_states}
use Rattle.monitor.specs.Tick.{open_table, ticks_later}

-- the size of a worth of length l
abbrev pub Sized : Weighing → ℕ → ℤ → Type 0
Sized Margin l z = nat_abs z ≤ 2000001
Sized Sum l z = nat_abs z ≤ 8000000 * l

pub unit_sized : (w : Weighing) → Sized w 0 (weighting_of w).unit
unit_sized Margin = omega arith
unit_sized Sum = omega arith

-- the size of a gain
abbrev pub GainSized : Weighing → ℤ → Type 0
GainSized Margin g = nat_abs g ≤ 2000001
GainSized Sum g = nat_abs g ≤ 8000000

combine_sized : (w : Weighing) (l : ℕ) (z g : ℤ) → Sized w l z → GainSized w g → Sized w (suc l) ((weighting_of w).combine z g)
combine_sized Margin l z g h k = omega (arith, abs_min z g)
combine_sized Sum l z g h k = omega (arith, abs_add z g)

-- what is sized is within the limit
pub sized_low : (w : Weighing) (l : ℕ) (z : ℤ) → l ≤ 4095 → Sized w l z → nat_abs z ≤ 32760000000
sized_low Margin l z h k = omega arith
sized_low Sum l z h k = omega arith

-- ---- the gains of a book's ticks

module _ (p : Pattern) (sound : sound_of p ≡ true) where
  place_sized : (w : Weighing) (k : ℕ) (x : Sample) → all value_in_range x ≡ true → GainSized w (place_worth w (place_at p k) x)
  place_sized w k x h = by (ltb k p.placecount) refl
    where
      unit-gain : (w : Weighing) → GainSized w (weighting_of w).unit
      unit-gain Margin = omega arith
      unit-gain Sum = omega arith

      here : (w : Weighing) → k < p.placecount → GainSized w (place_worth w (place_at p k) x)
      here Margin l = margin-place-size p.channels (place_at p k) x (place-at-sound p k sound l) h
      here Sum l = place-size p.channels (place_at p k) x (place-at-sound p k sound l) h Sum

      by : (t : Bool) → ltb k p.placecount ≡ t → GainSized w (place_worth w (place_at p k) x)
      by true e = here w (ltb-true _ _ e)
      by false e = rw (testless_worth w (place_at p k) (past_testless p sound k (ltb-false _ _ e)) x) (unit-gain w)

  pub gain_sized : (w : Weighing) (k : ℕ) (x : Sample) (t : Bool) → all value_in_range x ≡ true → GainSized w (cond t (place_worth w (place_at p k) x) (weighting_of w).unit)
  gain_sized w k x true h = place_sized w k x h
  gain_sized Margin k x false h = omega arith
  gain_sized Sum k x false h = omega arith

  pub gain-in_sized : (last x : Sample) → all value_in_range x ≡ true → (f : Bool) (k : ℕ) → GainSized p.weighing (gain_in p.weighing (place_at p k) last x f)
  unfolding gain_by
  gain-in_sized last x fine f k = gain_sized p.weighing k x (counts p.weighing (not (agrees (place_at p k) last x)) f) fine

  pub tick_sized : (last x : Sample) → all value_in_range x ≡ true → (f : Bool) (k : ℕ) (g : ℤ) → tick_view p last x f k ≡ some g → GainSized p.weighing g
  tick_sized last x fine f k g q = subst (GainSized p.weighing) (some-injective _ g q) (gain-in_sized last x fine f k)

  open_sized : (s : State Clocks) (z : ℤ) → open_table p s ≡ some z → Sized p.weighing s.len z
  open_sized s z e =
      let h = opening-holds (weighting_of p.weighing) (held_automaton p) same_clocks s z e in
      let l : s.len ≡ 0 = ap (λ (x : State Clocks). x.len) h.1 in
      rw (l, h.2) (unit_sized p.weighing)

  -- every cell of a table that ticks of such samples made from the opening
  pub table_sized : (b : Book) → ((t : ℕ) → all value_in_range (sample_at b t) ≡ true) → (n : ℕ) (s : State Clocks) (z : ℤ) → Memᴰ s (cell_states p)
      → ticks_later p (view_of p b) (open_table p) n s ≡ some z → Sized p.weighing s.len z
  table_sized b fine n s z m e =
      kept (weighting_of p.weighing) (held_automaton p) same_clocks p.high (cell_states p)
      (Sized p.weighing) (unit_sized p.weighing) (view_of p b)
      (λ t f k g l w q h. combine_sized p.weighing l w g h (tick_sized (before p b t) (sample_at b t) (fine t) f k g q))
      (open_table p) (λ x w i q. open_sized x w q)
      n s z m e

  -- from any table whose worths are within the limit
  combine-low : (w : Weighing) (l : ℕ) (z g : ℤ) → nat_abs z ≤ 32760000000 + 8000000 * l → GainSized w g → nat_abs ((weighting_of w).combine z g) ≤ 32760000000 + 8000000 * suc l
  combine-low Margin l z g h k = omega (arith, abs_min z g)
  combine-low Sum l z g h k = omega (arith, abs_add z g)

  pub lent_sized : (𝓥 : View ℤ) → ((t : ℕ) (f : Bool) (k : ℕ) (g : ℤ) → 𝓥 t f k ≡ some g → GainSized p.weighing g)
      → (T₀ : Table ℤ Clocks) → ((s : State Clocks) (z : ℤ) → T₀ s ≡ some z → nat_abs z ≤ 32760000000)
      → (n : ℕ) (s : State Clocks) (z : ℤ) → Memᴰ s (cell_states p) → ticks_later p 𝓥 T₀ n s ≡ some z → nat_abs z ≤ 32760000000 + 8000000 * s.len
  lent_sized 𝓥 gains T₀ low n s z m e =
      kept (weighting_of p.weighing) (held_automaton p) same_clocks p.high (cell_states p)
      (λ (l : ℕ) (w : ℤ). nat_abs w ≤ 32760000000 + 8000000 * l) (unit-low p.weighing) 𝓥
      (λ t f k g l w q h. combine-low p.weighing l w g h (gains t f k g q))
      T₀ (λ x w i q. let h = low x w q in omega arith)
      n s z m e
    where
      unit-low : (w : Weighing) → nat_abs (weighting_of w).unit ≤ 32760000000 + 8000000 * 0
      unit-low Margin = omega arith
      unit-low Sum = omega arith
