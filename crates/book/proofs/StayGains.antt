-- What a stay observes is worth what its ticks gain, one after the other.
use Prim.Native.Nat.{ℕ, zero, suc, ◌+◌, ◌≤◌}
use native.Mathlib.Omega.{arith}
use mathlib.Core.Path.{◌≡◌, refl, sym, ap, subst, ◌∙◌}
use mathlib.Core.List.{List, [], ◌∷◌, map}
use mathlib.Core.Option.{some, some-injective}
use mathlib.Core.Bool.{Bool, true, false, not, cond}
use lib.Dec.{T}
use lib.ListN.{length, take, drop}
use lib.Seq.{drop-cons}
use lib.IntN.{ℤ, pos, ◌+ℤ◌, +ℤ_idr}
use Rattle.weighting.specs.declared.Weighing.{Weighing}
use Rattle.weighting.specs.declared.Weighing.TheVariants.{Margin, Sum}
use Rattle.weighting.specs.Weighting.{combine_from, combine_all}
use Rattle.weighting.proofs.Weightings.{margin, sum, weighting_of}
use Rattle.pattern.specs.declared.Pattern.{Pattern}
use Rattle.pattern.specs.InUse.{place_at}
use Rattle.pattern.specs.Distance.{Sample, place_worth}
use Rattle.record.specs.Record.{Book}
use Rattle.record.specs.Joined.{agrees, joined, observed, fresh_after}
use Rattle.record.specs.Worth.{stay_worth}
use Rattle.record.proofs.JoinedLaws.{joined_fresh, agree-worth}
use Rattle.record.proofs.PlaceLaws.{stays-worth-all, place-is-worth}
use Rattle.record.proofs.Claims.{margin-counts-ticks}
use Rattle.walks.specs.Runs.{stay_gains, together}
use Rattle.book.specs.View.{counts, gain_by, gains_by, sample_at, before, view_of}
use Rattle.book.specs.Claims.{GainsAreWorths, ObservedGains}

-- ---- every gain is a worth

-- worths together are a worth
pub all-worth : (w : Weighing) (l : List ℤ) → T ((weighting_of w).worth (combine_all (weighting_of w) l))
all-worth w l = stays-worth-all w (weighting_of w).unit l (weighting_of w).unit_worth

gain-worth : {A : Type 0} (w : Weighing) (same : A → A → Bool) (worth : A → ℤ) → ((x : A) → T ((weighting_of w).worth (worth x)))
    → (last now : A) (f : Bool) → T ((weighting_of w).worth (gain_by w same worth last now f))
unfolding gain_by
gain-worth w same worth h last now f = by (counts w (not (same last now)) f)
  where
    by : (t : Bool) → T ((weighting_of w).worth (cond t (worth now) (weighting_of w).unit))
    by true = h now
    by false = (weighting_of w).unit_worth

pub gains_are_worths : GainsAreWorths
gains_are_worths p b t f k g e =
    subst (λ (z : ℤ). T ((weighting_of p.weighing).worth z)) (some-injective _ g e)
    (gain-worth p.weighing _ _ (place-is-worth p.weighing (place_at p k)) (before p b t) (sample_at b t) f)

-- ---- observations together are worth what the ticks gain together

module _ {A : Type 0} (same : A → A → Bool) (worth : A → ℤ) where
  sum-after : (a : ℤ) (last : A) (b : List A) → combine_from sum a (map worth (fresh_after same last b)) ≡ combine_from sum a (gains_by Sum same worth last false b)
  unfolding fresh_after gains_by gain_by combine_from
  sum-after a last [] = refl
  sum-after a last (x ∷ b) = by (same last x) (λ c. sum-after c x b)
    where
      by : (t : Bool) → ((c : ℤ) → combine_from sum c (map worth (fresh_after same x b)) ≡ combine_from sum c (gains_by Sum same worth x false b))
          → combine_from sum a (map worth (cond t (fresh_after same x b) (x ∷ fresh_after same x b))) ≡ combine_from sum (a +ℤ cond (not t) (worth x) (pos 0)) (gains_by Sum same worth x false b)
      by true ih = ih a ∙ ap (λ (c : ℤ). combine_from sum c (gains_by Sum same worth x false b)) (sym (+ℤ_idr a))
      by false ih = ih (a +ℤ worth x)

  sum-joined : (last : A) (b : List A) → combine_all sum (map worth (joined same b)) ≡ combine_all sum (gains_by Sum same worth last true b)
  unfolding joined gains_by gain_by combine_from
  sum-joined last [] = refl
  sum-joined last (x ∷ b) = ap (λ (l : List A). combine_all sum (map worth l)) (joined_fresh same x b) ∙ sum-after (pos 0 +ℤ worth x) x b

  -- in margin each tick counts
  margin-gains : (last : A) (f : Bool) (b : List A) → gains_by Margin same worth last f b ≡ map worth b
  unfolding gains_by gain_by
  margin-gains last f [] = refl
  margin-gains last f (x ∷ b) = ap (◌∷◌ (worth x)) (margin-gains x false b)

pub observed-gains : ObservedGains
observed-gains A Margin same worth alike last b = margin-counts-ticks A same worth (alike refl) b ∙ ap (combine_all margin) (sym (margin-gains same worth last true b))
observed-gains A Sum same worth alike last b = sum-joined same worth last b

-- ---- a stay inside the book

-- the view's gains of the ticks from t on
view_gains : (p : Pattern) (b : Book) (k t n : ℕ) (f : Bool) → t + n ≤ length b
    → stay_gains (view_of p b) f t k n
    ≡ some (gains_by p.weighing (agrees (place_at p k)) (place_worth p.weighing (place_at p k)) (before p b t) f (take n (drop t b)))
unfolding stay_gains gains_by before
view_gains p b k t zero f h = refl
view_gains p b k t (suc n) f h = rw (drop-cons b t [] (omega arith), view_gains p b k (suc t) n false (omega arith))

pub stay-together : (p : Pattern) (b : Book) (k t n : ℕ) → t + n ≤ length b
    → together (weighting_of p.weighing) (stay_gains (view_of p b) true t k n) ≡ some (stay_worth p b k t n)
unfolding stay_worth observed
stay-together p b k t n h =
    let w = p.weighing in
    let l = place_at p k in
    rw (view_gains p b k t n true h)
    (ap some (sym (observed-gains Sample w (agrees l) (place_worth w l) (λ _. agree-worth w l) (before p b t) (take n (drop t b)))))
