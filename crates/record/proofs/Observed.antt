-- The claims of specs/Observed.
use Prim.Native.Nat.{ℕ, suc, ◌+◌, ◌-◌, ◌≤◌, ◌<◌}
use native.Mathlib.Omega.{arith}
use mathlib.Core.Path.{◌≡◌, refl, sym, ap, subst, ◌∙◌}
use mathlib.Core.List.{List, [], ◌∷◌, ◌++◌, map, append_assoc, map-append}
use mathlib.Core.Bool.{Bool, true, false, not, cond, ◌&&◌, and-false, true≢false, false≢true}
use borrow.Author.Tests.{eq-eqb, eqb-true}
use lib.Dec.{eqb}
use lib.ListN.{length, take, drop, get_or, length-drop}
use lib.Seq.{get_or-take, get_or-drop, length-take-le}
use lib.IntN.{ℤ}
use Rattle.integers.proofs.Equal.{eq_self, eq-true}
use Rattle.weighting.specs.declared.Weighing.{Weighing}
use Rattle.weighting.specs.Weighting.{combine_from, combine_all}
use Rattle.weighting.proofs.Weightings.{weighting_of}
use Rattle.weighting.proofs.Worths.{combine_from_snoc}
use Rattle.pattern.specs.declared.Test.{Test}
use Rattle.pattern.specs.declared.Place.{Place}
use Rattle.pattern.specs.Slots.{all}
use Rattle.pattern.specs.InUse.{tests_of, place_at}
use Rattle.pattern.specs.Distance.{Sample, reading_of, place_worth}
use Rattle.pattern.proofs.SoundLaws.{both}
use Rattle.pattern.proofs.ListLaws.{take_more}
use Rattle.record.specs.Record.{Book}
use Rattle.record.specs.Joined.{absorb, joined, fresh_after, agree_on, agrees, observed}
use Rattle.record.specs.Worth.{stay_worth}
use Rattle.record.specs.Observed.{OneTick, OneTickMore, AgreesWhereTested, TwitchAddsNothing, OnlyTestedSpeak, NoTestsAddNothing}
use Rattle.record.proofs.JoinedLaws.{joined_fresh, agree-worth, agrees-alike}
use Rattle.record.proofs.PlaceLaws.{place-is-worth, testless_worth}

-- ---- tick by tick

-- joining, with one more at the end
module _ {A : Type 0} (same : A → A → Bool) where
  fresh_last : (p : A) (xs : List A) (x y : A)
      → fresh_after same p (xs ++ x ∷ y ∷ []) ≡ cond (same x y) (fresh_after same p (xs ++ x ∷ [])) (fresh_after same p (xs ++ x ∷ []) ++ y ∷ [])
  unfolding fresh_after
  fresh_last p [] x y = by (same p x) (same x y)
    where
      by : (s t : Bool) → cond s (cond t [] (y ∷ [])) (x ∷ cond t [] (y ∷ [])) ≡ cond t (cond s [] (x ∷ [])) (cond s [] (x ∷ []) ++ y ∷ [])
      by true true = refl
      by true false = refl
      by false true = refl
      by false false = refl
  fresh_last p (z ∷ xs) x y = rw (fresh_last z xs x y) (by (same p z) (same x y) (fresh_after same z (xs ++ x ∷ [])))
    where
      by : (s t : Bool) (l : List A) → cond s (cond t l (l ++ y ∷ [])) (z ∷ cond t l (l ++ y ∷ [])) ≡ cond t (cond s l (z ∷ l)) (cond s l (z ∷ l) ++ y ∷ [])
      by true true l = refl
      by true false l = refl
      by false true l = refl
      by false false l = refl

  joined-last : (xs : List A) (x y : A) → joined same (xs ++ x ∷ y ∷ []) ≡ cond (same x y) (joined same (xs ++ x ∷ [])) (joined same (xs ++ x ∷ []) ++ y ∷ [])
  unfolding fresh_after
  joined-last [] x y = rw (joined_fresh same x (y ∷ []), joined_fresh same x []) (by (same x y))
    where
      by : (t : Bool) → x ∷ cond t [] (y ∷ []) ≡ cond t (x ∷ []) (x ∷ y ∷ [])
      by true = refl
      by false = refl
  joined-last (z ∷ xs) x y =
      rw (joined_fresh same z (xs ++ x ∷ y ∷ []), joined_fresh same z (xs ++ x ∷ []), fresh_last z xs x y) (by (same x y) (fresh_after same z (xs ++ x ∷ [])))
    where
      by : (t : Bool) (l : List A) → z ∷ cond t l (l ++ y ∷ []) ≡ cond t (z ∷ l) (z ∷ (l ++ y ∷ []))
      by true l = refl
      by false l = refl

-- the ticks of a stay, the last of them apart
ticks-last : (b : Book) (t n : ℕ) → t + n < length b → take (n + 1) (drop t b) ≡ take n (drop t b) ++ get_or b (t + n) [] ∷ []
ticks-last b t n h =
    take_more n (drop t b) [] (let l = length-drop t b in omega arith)
    ∙ ap (λ (x : Sample). take n (drop t b) ++ x ∷ []) (get_or-drop t b n [])

pub one-tick : OneTick
unfolding stay_worth observed joined absorb combine_from
one-tick p b k t inside =
    let w = p.weighing in
    let l = place_at p k in
    let none_before : t + 0 ≡ t = omega arith in
    let one : take 1 (drop t b) ≡ get_or b t [] ∷ [] = ticks-last b t 0 (omega arith) ∙ ap (λ (m : ℕ). get_or b m [] ∷ []) none_before in
    rw one ((weighting_of w).unit_left (place_worth w l (get_or b t [])) (place-is-worth w l (get_or b t [])))

-- observations, with one tick more
observed-last : (w : Weighing) (l : Place) (front : Book) (x y : Sample)
    → combine_all (weighting_of w) (map (place_worth w l) (joined (agrees l) (front ++ x ∷ y ∷ [])))
    ≡ cond (agrees l x y)
    (combine_all (weighting_of w) (map (place_worth w l) (joined (agrees l) (front ++ x ∷ []))))
    ((weighting_of w).combine (combine_all (weighting_of w) (map (place_worth w l) (joined (agrees l) (front ++ x ∷ [])))) (place_worth w l y))
observed-last w l front x y = rw (joined-last (agrees l) front x y) (by (agrees l x y) (joined (agrees l) (front ++ x ∷ [])))
  where
    by : (t : Bool) (seen : List Sample)
        → combine_all (weighting_of w) (map (place_worth w l) (cond t seen (seen ++ y ∷ [])))
        ≡ cond t (combine_all (weighting_of w) (map (place_worth w l) seen)) ((weighting_of w).combine (combine_all (weighting_of w) (map (place_worth w l) seen)) (place_worth w l y))
    by true seen = refl
    by false seen =
        ap (combine_all (weighting_of w)) (map-append (place_worth w l) seen (y ∷ []))
        ∙ combine_from_snoc (weighting_of w) (weighting_of w).unit (map (place_worth w l) seen) (place_worth w l y)

pub one-tick-more : OneTickMore
unfolding stay_worth observed
one-tick-more p b k t n some-ticks inside =
    let front = take (n - 1) (drop t b) in
    let x = get_or b (t + n - 1) [] in
    let y = get_or b (t + n) [] in
    let up : n - 1 + 1 ≡ n = omega arith in
    let at : t + (n - 1) ≡ t + n - 1 = omega arith in
    let one : take n (drop t b) ≡ front ++ x ∷ [] =
    ap (λ (m : ℕ). take m (drop t b)) (sym up) ∙ ticks-last b t (n - 1) (omega arith) ∙ ap (λ (m : ℕ). front ++ get_or b m [] ∷ []) at in
    let two : take (n + 1) (drop t b) ≡ front ++ x ∷ y ∷ [] =
    ticks-last b t n inside ∙ ap (λ (q : Book). q ++ y ∷ []) one ∙ append_assoc front (x ∷ []) (y ∷ []) in
    rw (two, one) (observed-last p.weighing (place_at p k) front x y)

-- ---- agreement, channel by channel

agree-all : (x y : Sample) (ts : List Test) → ((c : ℕ) → all (λ t. not (eqb t.channel c)) ts ≡ false → reading_of x c ≡ reading_of y c) → all (agree_on x y) ts ≡ true
agree-all x y [] h = refl
agree-all x y (t ∷ ts) h =
    let here : reading_of x t.channel ≡ reading_of y t.channel = h t.channel (rw (eq-eqb t.channel t.channel refl)) in
    rw (here, eq_self (reading_of y t.channel))
    (agree-all x y ts (λ c e. h c (ap (λ (r : Bool). not (eqb t.channel c) && r) e ∙ and-false (not (eqb t.channel c)))))

all-agree : (x y : Sample) (ts : List Test) → all (agree_on x y) ts ≡ true → (c : ℕ) → all (λ t. not (eqb t.channel c)) ts ≡ false → reading_of x c ≡ reading_of y c
all-agree x y [] e c h = absurd (true≢false h)
all-agree x y (t ∷ ts) e c h =
    let k = both (agree_on x y t) (all (agree_on x y) ts) e in
    by (eqb t.channel c) refl (eq-true (reading_of x t.channel) (reading_of y t.channel) k.0) (λ g. all-agree x y ts k.1 c g) h
  where
    by : (s : Bool) → eqb t.channel c ≡ s → reading_of x t.channel ≡ reading_of y t.channel
        → (all (λ t. not (eqb t.channel c)) ts ≡ false → reading_of x c ≡ reading_of y c)
        → not s && all (λ t. not (eqb t.channel c)) ts ≡ false → reading_of x c ≡ reading_of y c
    by true is here ih g = subst (λ (n : ℕ). reading_of x n ≡ reading_of y n) (eqb-true t.channel c is) here
    by false is here ih g = ih g

pub agrees_where_tested : AgreesWhereTested
unfolding agrees
agrees_where_tested l x y = record { readings = all-agree x y (tests_of l); agree = agree-all x y (tests_of l) }

pub twitch_adds-nothing : TwitchAddsNothing
twitch_adds-nothing p b k t n some-ticks inside h =
    one-tick-more p b k t n some-ticks inside ∙ rw ((agrees_where_tested (place_at p k) (get_or b (t + n - 1) []) (get_or b (t + n) [])).agree h)

-- ---- books that agree in a place

unfoldable agree_throughout : Place → Book → Book → Bool
agree_throughout l [] [] = true
agree_throughout l [] (y ∷ c) = false
agree_throughout l (x ∷ b) [] = false
agree_throughout l (x ∷ b) (y ∷ c) = agrees l x y && agree_throughout l b c

tick-by-tick : (l : Place) (b c : Book) → length b ≡ length c → ((i : ℕ) → i < length b → agrees l (get_or b i []) (get_or c i []) ≡ true) → agree_throughout l b c ≡ true
unfolding agree_throughout
tick-by-tick l [] [] e h = refl
tick-by-tick l [] (y ∷ c) e h = absurd (omega arith)
tick-by-tick l (x ∷ b) [] e h = absurd (omega arith)
tick-by-tick l (x ∷ b) (y ∷ c) e h = rw (h 0 (omega arith), tick-by-tick l b c (omega arith) (λ i q. h (suc i) (omega arith)))

module _ (w : Weighing) (l : Place) where
  fresh_worth : (a : ℤ) (x x' : Sample) (b c : Book) → agrees l x x' ≡ true → agree_throughout l b c ≡ true
      → combine_from (weighting_of w) a (map (place_worth w l) (fresh_after (agrees l) x b)) ≡ combine_from (weighting_of w) a (map (place_worth w l) (fresh_after (agrees l) x' c))
  unfolding fresh_after agree_throughout combine_from
  fresh_worth a x x' [] [] e h = refl
  fresh_worth a x x' [] (y ∷ c) e h = absurd (false≢true h)
  fresh_worth a x x' (y ∷ b) [] e h = absurd (false≢true h)
  fresh_worth a x x' (y ∷ b) (y' ∷ c) e h =
      let k = both (agrees l y y') (agree_throughout l b c) h in
      rw (agrees-alike l x x' y y' e k.0) (by (agrees l x' y') (λ z. fresh_worth z y y' b c k.0 k.1) (agree-worth w l y y' k.0))
    where
      by : (t : Bool)
          → ((z : ℤ) → combine_from (weighting_of w) z (map (place_worth w l) (fresh_after (agrees l) y b)) ≡ combine_from (weighting_of w) z (map (place_worth w l) (fresh_after (agrees l) y' c)))
          → place_worth w l y ≡ place_worth w l y'
          → combine_from (weighting_of w) a (map (place_worth w l) (cond t (fresh_after (agrees l) y b) (y ∷ fresh_after (agrees l) y b)))
          ≡ combine_from (weighting_of w) a (map (place_worth w l) (cond t (fresh_after (agrees l) y' c) (y' ∷ fresh_after (agrees l) y' c)))
      by true ih v = ih a
      by false ih v = rw v (ih ((weighting_of w).combine a (place_worth w l y')))

  joined-worth : (b c : Book) → agree_throughout l b c ≡ true
      → combine_all (weighting_of w) (map (place_worth w l) (joined (agrees l) b)) ≡ combine_all (weighting_of w) (map (place_worth w l) (joined (agrees l) c))
  unfolding agree_throughout combine_from
  joined-worth [] [] h = refl
  joined-worth [] (y ∷ c) h = absurd (false≢true h)
  joined-worth (x ∷ b) [] h = absurd (false≢true h)
  joined-worth (x ∷ b) (y ∷ c) h =
      let k = both (agrees l x y) (agree_throughout l b c) h in
      rw (joined_fresh (agrees l) x b, joined_fresh (agrees l) y c, agree-worth w l x y k.0)
      (fresh_worth ((weighting_of w).combine (weighting_of w).unit (place_worth w l y)) x y b c k.0 k.1)

-- a tick of a stay
tick-at : (b : Book) (t n i : ℕ) → i < n → get_or (take n (drop t b)) i [] ≡ get_or b (t + i) []
tick-at b t n i h = get_or-take n (drop t b) i [] h ∙ get_or-drop t b i []

stay-long : (b : Book) (t n : ℕ) → t + n ≤ length b → length (take n (drop t b)) ≡ n
stay-long b t n h = length-take-le n (drop t b) (let l = length-drop t b in omega arith)

pub only_tested_speak : OnlyTestedSpeak
unfolding stay_worth observed
only_tested_speak p b c k t n inside inside' h =
    let l = place_at p k in
    let e = stay-long b t n inside in
    joined-worth p.weighing l (take n (drop t b)) (take n (drop t c))
    (tick-by-tick l (take n (drop t b)) (take n (drop t c)) (e ∙ sym (stay-long c t n inside'))
    (λ i q. rw (tick-at b t n i (omega arith), tick-at c t n i (omega arith)) ((agrees_where_tested l (get_or b (t + i) []) (get_or c (t + i) [])).agree (h i (omega arith)))))

-- ---- places without tests

-- however many observations are worth nothing
pub units : (w : Weighing) (l : Place) → tests_of l ≡ [] → (xs : List Sample) → combine_all (weighting_of w) (map (place_worth w l) xs) ≡ (weighting_of w).unit
unfolding combine_from
units w l none [] = refl
units w l none (x ∷ xs) = rw (testless_worth w l none x, (weighting_of w).unit_right (weighting_of w).unit (weighting_of w).unit_worth) (units w l none xs)

pub no_tests-add-nothing : NoTestsAddNothing
unfolding stay_worth
no_tests-add-nothing p b k t n none = units p.weighing (place_at p k) none (observed (place_at p k) b t n)
