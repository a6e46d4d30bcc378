-- The claims of specs/AsBefore.
use Prim.Native.Nat.{ℕ, ◌+◌}
use native.Mathlib.Omega.{arith}
use mathlib.Core.Path.{◌≡◌, refl, sym, ap, ap₂, subst, ◌∙◌}
use mathlib.Core.List.{List, [], ◌∷◌, map}
use mathlib.Core.Bool.{Bool, true, false, ◌&&◌, and-true, false≢true}
use borrow.Author.Tests.{ltb-true, ltb-false, eqb-true}
use lib.Dec.{eqb, ltb}
use lib.ListN.{length, take, drop}
use lib.IntN.{ℤ}
use Rattle.integers.specs.Equal.{eq_z}
use Rattle.integers.proofs.Equal.{eq-true}
use Rattle.weighting.specs.declared.Weighing.{Weighing}
use Rattle.weighting.specs.declared.Weighing.TheVariants.{Margin}
use Rattle.weighting.specs.Weighting.{combine_all}
use Rattle.weighting.proofs.Weightings.{margin, weighting_of}
use Rattle.pattern.specs.declared.Test.{Test}
use Rattle.pattern.specs.declared.Place.{Place}
use Rattle.pattern.specs.declared.Pattern.{Pattern}
use Rattle.pattern.specs.Slots.{all}
use Rattle.pattern.specs.Sound.{test_known, test_sound, place_sound}
use Rattle.pattern.specs.InUse.{tests_of, place_at, edge_at}
use Rattle.pattern.specs.Distance.{Sample, place_worth}
use Rattle.pattern.proofs.SoundLaws.{both, slotted, test_parts}
use Rattle.record.specs.Record.{Book}
use Rattle.record.specs.Joined.{joined, fresh_after, agree_on, agrees, observed}
use Rattle.record.specs.Run.{Step}
use Rattle.record.specs.Worth.{stay_worth, stay_worths, run_worth, price_of}
use Rattle.record.specs.AsBefore.{same_sample, whole_stay, whole_stays, whole_price, AsBefore, MarginsAsBefore, OneChannelAsBefore}
use Rattle.record.proofs.ListLaws.{all_take, all_drop}
use Rattle.record.proofs.JoinedLaws.{joined_fresh, margin-joined, agrees-self, agree-worth}
use Rattle.record.proofs.PlaceLaws.{place-at-sound, past_testless}
use Rattle.record.proofs.Observed.{units}

-- ---- samples that are the same agree in every place

same_true : (s t : Sample) → same_sample s t ≡ true → s ≡ t
unfolding same_sample
same_true [] [] e = refl
same_true [] (y ∷ t) e = absurd (false≢true e)
same_true (x ∷ s) [] e = absurd (false≢true e)
same_true (x ∷ s) (y ∷ t) e =
    let h = both (eq_z x y) (same_sample s t) e in
    let a : x ≡ y = eq-true x y h.0 in
    let b : s ≡ t = same_true s t h.1 in
    cc

same-agrees : (l : Place) (x y : Sample) → same_sample x y ≡ true → agrees l x y ≡ true
same-agrees l x y e = subst (λ (z : Sample). agrees l x z ≡ true) (same_true x y e) (agrees-self l x)

-- ---- where every stay is worth the same, every price is

module _ (p : Pattern) (b : Book) (alike : (k t n : ℕ) → stay_worth p b k t n ≡ whole_stay p b k t n) where
  stays-alike : (t : ℕ) (xs : List Step) → stay_worths p b t xs ≡ whole_stays p b t xs
  unfolding stay_worths whole_stays
  stays-alike t [] = refl
  stays-alike t (x ∷ xs) = ap₂ ◌∷◌ (alike (edge_at p x.edge).from t x.stay) (stays-alike (t + x.stay) xs)

  prices-alike : (begin : ℕ) (xs : List Step) → price_of p b begin xs ≡ whole_price p b begin xs
  unfolding price_of run_worth
  prices-alike begin xs = rw (stays-alike begin xs)

  as_before : AsBefore p b
  as_before = record { stays = alike; prices = prices-alike }

-- ---- margins

pub margins_as-before : MarginsAsBefore
unfolding stay_worth observed
margins_as-before p b is = as_before p b alike
  where
    alike : (k t n : ℕ) → stay_worth p b k t n ≡ whole_stay p b k t n
    alike k t n =
        let l = place_at p k in
        rw is
        (margin-joined (agrees l) (place_worth Margin l) (agree-worth Margin l) margin.unit (take n (drop t b))
        ∙ sym (margin-joined same_sample (place_worth Margin l) (λ x y e. agree-worth Margin l x y (same-agrees l x y e)) margin.unit (take n (drop t b))))

-- ---- one channel

-- tests of channel 0, one at least, agree exactly if the values are equal
agree-one : (v u : ℤ) (t : Test) (ts : List Test) → all (test_sound 1) (t ∷ ts) ≡ true → all (agree_on (v ∷ []) (u ∷ [])) (t ∷ ts) ≡ eq_z v u
unfolding test_known
agree-one v u t ts k =
    let h = both (test_sound 1 t) (all (test_sound 1) ts) k in
    rw (zeroth t h.0) (rest ts h.1 (eq_z v u) refl)
  where
    zeroth : (x : Test) → test_sound 1 x ≡ true → x.channel ≡ 0
    zeroth x e = let h = ltb-true x.channel 1 (test_parts 1 x e).known in omega arith

    rest : (xs : List Test) → all (test_sound 1) xs ≡ true → (b : Bool) → eq_z v u ≡ b → b && all (agree_on (v ∷ []) (u ∷ [])) xs ≡ b
    rest [] k true e = refl
    rest (x ∷ xs) k true e =
        let h = both (test_sound 1 x) (all (test_sound 1) xs) k in
        rw (zeroth x h.0, e) (rest xs h.1 true e)
    rest xs k false e = refl

-- a sample of one value
abbrev One : Sample → Bool
One s = eqb (length s) 1

agrees-one : (l : Place) (t : Test) (ts : List Test) → tests_of l ≡ t ∷ ts → all (test_sound 1) (t ∷ ts) ≡ true
    → (x y : Sample) → One x ≡ true → One y ≡ true → agrees l x y ≡ same_sample x y
unfolding agrees same_sample
agrees-one l t ts is k (v ∷ []) (u ∷ []) p q = rw is (agree-one v u t ts k ∙ sym (and-true (eq_z v u)))
agrees-one l t ts is k [] y p q = absurd (false≢true p)
agrees-one l t ts is k (v ∷ w ∷ x) y p q = absurd (let h = eqb-true (length (v ∷ w ∷ x)) 1 p in omega arith)
agrees-one l t ts is k (v ∷ []) [] p q = absurd (let h = eqb-true (length {A = ℤ} []) 1 q in omega arith)
agrees-one l t ts is k (v ∷ []) (u ∷ w ∷ y) p q = absurd (let h = eqb-true (length (u ∷ w ∷ y)) 1 q in omega arith)

-- joining goes by the test of neighbours alone
module _ {A : Type 0} (P : A → Bool) (same like : A → A → Bool) (e : (x y : A) → P x ≡ true → P y ≡ true → same x y ≡ like x y) where
  fresh_alike : (x : A) (b : List A) → P x ≡ true → all P b ≡ true → fresh_after same x b ≡ fresh_after like x b
  unfolding fresh_after
  fresh_alike x [] p h = refl
  fresh_alike x (y ∷ b) p h =
      let k = both (P y) (all P b) h in
      rw (e x y p k.0, fresh_alike y b k.0 k.1)

  joined-alike : (b : List A) → all P b ≡ true → joined same b ≡ joined like b
  unfolding joined
  joined-alike [] h = refl
  joined-alike (x ∷ b) h =
      let k = both (P x) (all P b) h in
      joined_fresh same x b ∙ ap (◌∷◌ x) (fresh_alike x b k.0 k.1) ∙ sym (joined_fresh like x b)

pub one_channel_as-before : OneChannelAsBefore
unfolding place_sound stay_worth observed
one_channel_as-before p b sound one h = as_before p b alike
  where
    some_tests : (l : Place) (q : List Test) → tests_of l ≡ q → all (test_sound 1) q ≡ true → (w : Weighing) (x : Book) → all One x ≡ true
        → combine_all (weighting_of w) (map (place_worth w l) (joined (agrees l) x)) ≡ combine_all (weighting_of w) (map (place_worth w l) (joined same_sample x))
    some_tests l [] is k w x o = units w l is (joined (agrees l) x) ∙ sym (units w l is (joined same_sample x))
    some_tests l (t ∷ ts) is k w x o = ap (λ (y : List Sample). combine_all (weighting_of w) (map (place_worth w l) y)) (joined-alike One (agrees l) same_sample (agrees-one l t ts is k) x o)

    known : (k : ℕ) → all (test_sound 1) (tests_of (place_at p k)) ≡ true
    known k = by (ltb k p.placecount) refl
      where
        by : (c : Bool) → ltb k p.placecount ≡ c → all (test_sound 1) (tests_of (place_at p k)) ≡ true
        by true e = subst (λ (n : ℕ). all (test_sound n) (tests_of (place_at p k)) ≡ true) one (slotted (place-at-sound p k sound (ltb-true _ _ e))).front
        by false e = rw (past_testless p sound k (ltb-false _ _ e))

    alike : (k t n : ℕ) → stay_worth p b k t n ≡ whole_stay p b k t n
    alike k t n = some_tests (place_at p k) (tests_of (place_at p k)) refl (known k) p.weighing (take n (drop t b)) (all_take One n (drop t b) (all_drop One t b h))
