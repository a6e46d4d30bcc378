-- What a tick does to the worth of a run that stays in a place through it: the view of ticks that a book gives.
use Rattle.std.specs.Prelude.{ℕ, zero, suc, List, [], ◌∷◌, Bool, true, false, not, cond, ◌||◌, get_or, replicate, ℤ, pos}
use Rattle.std.proofs.Math.Option.{some}
use Rattle.weighting.specs.declared.Weighing.{Weighing}
use Rattle.weighting.specs.declared.Weighing.TheVariants.{Margin, Sum}
use Rattle.weighting.proofs.Weightings.{weighting_of}
use Rattle.pattern.specs.declared.Place.{Place}
use Rattle.pattern.specs.declared.Pattern.{Pattern}
use Rattle.pattern.specs.InUse.{place_at}
use Rattle.pattern.specs.Distance.{Sample, place_worth}
use Rattle.record.specs.Record.{Book}
use Rattle.record.specs.Joined.{agrees}
use Rattle.walks.specs.Automaton.{TickView, View}

-- ---- what a tick gains, by any test of neighbours and any worth of a tick

-- Whether a tick counts: in margin each does; in sum the first of a stay does, and each that is a new observation in it.
abbrev pub counts : Weighing → (new entered : Bool) → Bool
counts Margin new entered = true
counts Sum new entered = entered || new

-- What the worth of a run is combined with, by the tick before and the tick now: the tick's worth, or the unit, which changes no
-- worth. The tick is a new observation if it is not one with the tick before.
unfoldable pub gain_by : {A : Type 0} → Weighing → (same : A → A → Bool) → (worth : A → ℤ) → (last now : A) → (entered : Bool) → ℤ
gain_by w same worth last now entered = cond (counts w (not (same last now)) entered) (worth now) (weighting_of w).unit

-- The ticks of a stay, one after the other, the first of them after the tick `last`.
unfoldable pub gains_by : {A : Type 0} → Weighing → (same : A → A → Bool) → (worth : A → ℤ) → (last : A) → (entered : Bool) → List A → List ℤ
gains_by w same worth last entered [] = []
gains_by w same worth last entered (x ∷ b) = gain_by w same worth last x entered ∷ gains_by w same worth x false b

-- ---- what a tick of a book gains

-- In a place, by the samples of the tick before and of the tick now: "a staying cell meets a new piece" (document 01, 'Monitor
-- tables') where these do not agree in the place (document 02, R-3).
abbrev pub gain_in : Weighing → Place → (last now : Sample) → (entered : Bool) → ℤ
gain_in w l = gain_by w (agrees l) (place_worth w l)

-- In every place of a pattern. Each can be stayed in.
abbrev pub tick_view : Pattern → (last now : Sample) → TickView ℤ
tick_view p last now entered k = some (gain_in p.weighing (place_at p k) last now entered)

abbrev pub sample_at : Book → (t : ℕ) → Sample
sample_at b t = get_or b t []

-- The values before tick t: those of the tick before, and before tick 0 "zeros before the first piece".
unfoldable pub before : Pattern → Book → (t : ℕ) → Sample
before p b zero = replicate p.channels (pos 0)
before p b (suc t) = sample_at b t

-- All ticks of a book.
abbrev pub view_of : Pattern → Book → View ℤ
view_of p b t = tick_view p (before p b t) (sample_at b t)
