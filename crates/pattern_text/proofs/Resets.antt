-- A rising list of clocks, and a flag for each clock.
use Prim.Native.Nat.{ℕ, zero, suc, ◌+◌, ◌≤◌, ◌<◌}
use mathlib.Core.Path.{◌≡◌, refl, ap, ap₂, ◌∙◌}
use mathlib.Core.Logic.{◌≢◌}
use lib.Seq.{drop-length}
use mathlib.Core.List.{List, [], ◌∷◌}
use mathlib.Core.Bool.{Bool, true, false, not, ◌&&◌}
use native.Mathlib.Omega.{arith}
use lib.Dec.{leb, ltb, eqb}
use lib.ListN.{length, drop}
use borrow.Author.Tests.{leb-true, le-leb, eqb-true, eq-eqb, eqb-false, ne_eqb, ltb-true, lt-ltb}
use Rattle.pattern.specs.Slots.{all}
use Rattle.pattern_text.specs.Fault.{rising}
use Rattle.pattern_text.specs.Text.{among, flags, flagged}
use Rattle.pattern_text.proofs.Tools.{both, in_both, by-test}

pub record Rises (k m c : ℕ) (cs : List ℕ) : Type 0 where
  pub from : k ≤ c
  pub below : c < m
  pub others : rising (suc c) m cs ≡ true

pub rises : (k m c : ℕ) (cs : List ℕ) → rising k m (c ∷ cs) ≡ true → Rises k m c cs
unfolding rising
rises k m c cs h =
    let a = both (leb k c && ltb c m) (rising (suc c) m cs) h in
    let b = both (leb k c) (ltb c m) a.0 in
    record { from = leb-true k c b.0; below = ltb-true c m b.1; others = a.1 }

rise : (k m c : ℕ) (cs : List ℕ) → Rises k m c cs → rising k m (c ∷ cs) ≡ true
unfolding rising
rise k m c cs h = in_both (in_both (le-leb k c h.from) (lt-ltb c m h.below)) h.others

-- what lies below is not among them
not-among : (j k m : ℕ) (cs : List ℕ) → j < k → rising k m cs ≡ true → among j cs ≡ false
unfolding among
not-among j k m [] l h = refl
not-among j k m (c ∷ cs) l h =
    let r = rises k m c cs h in
    let a = r.from in
    rw (ne_eqb j c (λ e. omega arith)) (not-among j (suc c) m cs (omega arith) r.others)

skip : (j n c : ℕ) (cs : List ℕ) → c < j → flags j n (c ∷ cs) ≡ flags j n cs
unfolding flags among
skip j zero c cs h = refl
skip j (suc n) c cs h = rw (ne_eqb j c (λ e. omega arith), skip (suc j) n c cs (omega arith)) refl

-- the clocks of the flags of rising clocks
pub clocks-back : (n k m : ℕ) (cs : List ℕ) → k + n ≡ m → rising k m cs ≡ true → flagged k (flags k n cs) ≡ cs
unfolding flags flagged among rising
clocks-back zero k m [] e h = refl
clocks-back zero k m (c ∷ cs) e h = let r = rises k m c cs h in absurd (omega arith)
clocks-back (suc n) k m [] e h = clocks-back n (suc k) m [] (omega arith) refl
clocks-back (suc n) k m (c ∷ cs) e h =
    let r = rises k m c cs h in
    by-test (eqb k c)
    (λ t. let q = eqb-true k c t in
    rw t (ap₂ ◌∷◌ q (rw (skip (suc k) n c cs (omega arith)) (clocks-back n (suc k) m cs (omega arith) (rw (← q) at r.others)))))
    (λ t. let q : k ≢ c = eqb-false k c t in
    rw (t, not-among k (suc c) m cs (omega arith) r.others)
    (clocks-back n (suc k) m (c ∷ cs) (omega arith) (rise (suc k) m c cs (record { from = omega arith; below = r.below; others = r.others }))))

-- flags set for known clocks alone mark rising ones
none-flagged : (bs : List Bool) (k : ℕ) → all not bs ≡ true → flagged k bs ≡ []
unfolding flagged
none-flagged [] k h = refl
none-flagged (true ∷ bs) k h = cc
none-flagged (false ∷ bs) k h = none-flagged bs (suc k) h

lower : (k m : ℕ) (cs : List ℕ) → rising (suc k) m cs ≡ true → rising k m cs ≡ true
unfolding rising
lower k m [] h = refl
lower k m (c ∷ cs) h = let r = rises (suc k) m c cs h in rise k m c cs (record { from = omega arith; below = r.below; others = r.others })

pub flagged_rise : (n : ℕ) (bs : List Bool) (k m : ℕ) → k + n ≡ m → all not (drop n bs) ≡ true → rising k m (flagged k bs) ≡ true
unfolding flagged rising
flagged_rise zero bs k m e h = rw (none-flagged bs k h) refl
flagged_rise (suc n) [] k m e h = refl
flagged_rise (suc n) (true ∷ bs) k m e h = rise k m k (flagged (suc k) bs) (record { from = omega arith; below = omega arith; others = flagged_rise n bs (suc k) m (omega arith) h })
flagged_rise (suc n) (false ∷ bs) k m e h = lower k m (flagged (suc k) bs) (flagged_rise n bs (suc k) m (omega arith) h)

pub flags-back : (bs : List Bool) (k : ℕ) → flags k (length bs) (flagged k bs) ≡ bs
unfolding flags flagged among
flags-back [] k = refl
flags-back (true ∷ bs) k = rw (eq-eqb k k refl) (ap (◌∷◌ true) (skip (suc k) (length bs) k (flagged (suc k) bs) (omega arith) ∙ flags-back bs (suc k)))
flags-back (false ∷ bs) k =
    let m = suc k + length bs in
    rw (not-among k (suc k) m (flagged (suc k) bs) (omega arith) (flagged_rise (length bs) bs (suc k) m refl (rw (drop-length bs) refl)))
    (ap (◌∷◌ false) (flags-back bs (suc k)))

-- flags of known clocks are set for known clocks alone
above : (j k m : ℕ) (cs : List ℕ) → m ≤ j → rising k m cs ≡ true → among j cs ≡ false
unfolding among
above j k m [] l h = refl
above j k m (c ∷ cs) l h = let r = rises k m c cs h in let b = r.below in rw (ne_eqb j c (λ e. omega arith)) (above j (suc c) m cs l r.others)

pub flags-known : (a n k m : ℕ) (cs : List ℕ) → k + a ≡ m → rising 0 m cs ≡ true → all not (drop a (flags k n cs)) ≡ true
unfolding flags
flags-known zero zero k m cs e h = refl
flags-known zero (suc n) k m cs e h = rw (above k 0 m cs (omega arith) h) (more n (suc k) (omega arith))
  where
    more : (n k : ℕ) → m ≤ k → all not (flags k n cs) ≡ true
    more zero k l = refl
    more (suc n) k l = rw (above k 0 m cs l h) (more n (suc k) (omega arith))
flags-known (suc a) zero k m cs e h = refl
flags-known (suc a) (suc n) k m cs e h = flags-known a n (suc k) m cs (omega arith) h

pub flags-length : (n k : ℕ) (cs : List ℕ) → length (flags k n cs) ≡ n
unfolding flags
flags-length zero k cs = refl
flags-length (suc n) k cs = ap suc (flags-length n (suc k) cs)

pub widen : (k m m' : ℕ) (cs : List ℕ) → m ≤ m' → rising k m cs ≡ true → rising k m' cs ≡ true
unfolding rising
widen k m m' [] l h = refl
widen k m m' (c ∷ cs) l h = let r = rises k m c cs h in let b = r.below in rise k m' c cs (record { from = r.from; below = omega arith; others = widen (suc c) m m' cs l r.others })
