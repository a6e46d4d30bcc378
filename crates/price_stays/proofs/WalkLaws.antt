-- A stay that goes through one piece: what it is worth at its end and where that is stay the same.
use Prim.Native.Nat.{ℕ, zero, suc, ◌+◌, ◌-◌, ◌*◌, ◌^◌, ◌≤◌, ◌<◌, min}
use native.Mathlib.Numerals.{add-one}
use native.Mathlib.Omega.{arith}
use mathlib.Core.Path.{◌≡◌, refl, sym, ap, ◌∙◌}
use mathlib.Core.List.{List, [], ◌∷◌, ◌++◌, map}
use mathlib.Core.Option.{Option, some}
use mathlib.Core.Bool.{Bool, true, false, cond}
use borrow.Author.Tests.{lt-ltb, le-ltb, ltb-true, ltb-false}
use lib.Dec.{ltb}
use lib.ListN.{length, take, drop, get_or, replicate}
use lib.Seq.{drop-drop, take-add}
use lib.IntN.{ℤ, nat_abs}
use Rattle.integers.proofs.Ranges.{abs_fits_64}
use Rattle.weighting.specs.declared.Weighing.{Weighing}
use Rattle.weighting.specs.Weighting.{Weighting, combine_from}
use Rattle.weighting.proofs.Weightings.{weighting_of}
use Rattle.weighting.proofs.Sizes.{combine-size}
use Rattle.pattern.specs.declared.Place.{Place}
use Rattle.pattern.specs.Distance.{Sample, place_worth}
use Rattle.price_stays.specs.declared.Walk.{Walk}
use Rattle.record.specs.Record.{Book, value_in_range}
use Rattle.record.specs.Record.{sample_at}
use Rattle.price_stays.specs.Walk.{ahead, new_to, joins_to, seen_at, with_piece, Observes, Walks, to_come, Turned, Stayed}
use Rattle.price_stays.proofs.AheadLaws.{new-nothing, new_stretch}
use Rattle.price_stays.proofs.AheadLaws.{ahead-on, ahead-next, ahead-take, ahead-length, ahead_none}
use Rattle.record.proofs.ListLaws.{all_take, all_drop}
use Rattle.std.proofs.lemmas.List.{get_or_default}
use Rattle.record.proofs.RecordLaws.{sample-within, parts, lasts-at}

-- ---- over plain lists

module _ (W : Weighting ℤ) (l : Place) (f : Sample → ℤ) where
  -- one observation more, unless it joins the one before
  observed-one : (t : Bool) (a : ℤ) (x : Sample) (ys : List Sample)
      → combine_from W (cond t a (W.combine a (f x))) (map f ys) ≡ combine_from W a (map f (cond t ys (x ∷ ys)))
  unfolding combine_from
  observed-one true a x ys = refl
  observed-one false a x ys = refl

  -- m ticks of one sample, and k that follow
  pub stretch_worth : (o : Option Sample) (a : ℤ) (x : Sample) (m k : ℕ) (b : Book) → 0 < m → take m b ≡ replicate m x
      → combine_from W (cond (joins_to l o x) a (W.combine a (f x))) (map f (new_to l (some x) (take k (drop m b)))) ≡ combine_from W a (map f (new_to l o (take (m + k) b)))
  stretch_worth o a x zero k b h e = absurd (omega arith)
  stretch_worth o a x (suc m) k b h e =
      observed-one (joins_to l o x) a x (new_to l (some x) (take k (drop (suc m) b)))
      ∙ ap (λ (ys : List Sample). combine_from W a (map f ys)) (sym (new_stretch l o m x (take k (drop (suc m) b))) ∙ ap (new_to l o) (sym split))
    where
      split : take (suc m + k) b ≡ replicate (suc m) x ++ take k (drop (suc m) b)
      split = take-add (suc m) k b ∙ ap (λ (ys : Book). ys ++ take k (drop (suc m) b)) e

-- ---- a turn

module _ (w : Weighing) (l : Place) (n : ℕ) (ds : List ℕ) (vs : List ℤ) (first : ℕ) (s : Walk) (h : Walks w l n ds vs first s) (some_left : 0 < s.left) where
  pub inside : s.piece < length ds
  inside = by (ltb s.piece (length ds)) refl
    where
      by : (t : Bool) → ltb s.piece (length ds) ≡ t → s.piece < length ds
      by true e = ltb-true s.piece (length ds) e
      by false e =
          let z = ap length (ahead_none n ds vs s.piece s.used (ltb-false s.piece (length ds) e)) in
          absurd (omega (arith, h.enough))

  pub below : s.used < get_or ds s.piece 0
  below = let e = get_or_default ds s.piece 0 1 inside in omega (arith, h.stands.below)

  -- the worth once the piece is observed
  unfoldable pub next : ℤ
  next = with_piece w l n vs first s.piece s.worth

  mild-here : nat_abs (place_worth w l (sample_at n vs s.piece)) ≤ 8000000
  unfolding sample_at
  mild-here =
      h.mild (sample_at n vs s.piece) (all_take value_in_range n (drop (s.piece * n) vs) (all_drop value_in_range (s.piece * n) vs (parts n ds vs h.sound).values))

  pub observes : Observes w l n vs s.piece s.worth
  observes =
      record {
        part = let e = (parts n ds vs h.sound).agree in omega (arith, sample-within s.piece (length ds) n inside);
        fits =
            abs_fits_64 ((weighting_of w).combine s.worth (place_worth w l (sample_at n vs s.piece))) (2 ^ 61)
            (let k = h.size in omega (arith, mild-here, combine-size w s.worth (place_worth w l (sample_at n vs s.piece))))
            (omega arith);
      }

  next-size : nat_abs next ≤ nat_abs s.worth + 8000000
  unfolding next
  next-size = by (joins_to l (seen_at n vs first s.piece) (sample_at n vs s.piece))
    where
      by : (t : Bool) → nat_abs (cond t s.worth ((weighting_of w).combine s.worth (place_worth w l (sample_at n vs s.piece)))) ≤ nat_abs s.worth + 8000000
      by true = omega arith
      by false = omega (arith, mild-here, combine-size w s.worth (place_worth w l (sample_at n vs s.piece)))

  -- the stay ends in the piece
  ends : s.left < get_or ds s.piece 0 - s.used
      → Turned w l n ds vs first s (record { piece = s.piece; used = s.used + s.left; left = 0; worth = next })
  unfolding to_come next
  ends short =
      let B = ahead n ds vs s.piece s.used in
      let o = seen_at n vs first s.piece in
      let x = sample_at n vs s.piece in
      let nothing : new_to l o (take 0 (ahead n ds vs s.piece (s.used + s.left))) ≡ new_to l (some x) (take 0 (drop s.left B)) = new-nothing l o ∙ sym (new-nothing l (some x)) in
      let all_of : s.left + 0 ≡ s.left = omega arith in
      record {
        stands = record { inside = omega (arith, inside); below = let e = get_or_default ds s.piece 0 1 inside in omega arith };
        onward = h.onward;
        less = omega arith;
        rest = sym (ahead-on n ds vs s.piece s.used s.left);
        enough = omega arith;
        worth =
            ap (λ (l' : List Sample). combine_from (weighting_of w) next (map (place_worth w l) l')) nothing
            ∙ stretch_worth (weighting_of w) l (place_worth w l) o s.worth x s.left 0 B some_left (ahead-take n ds vs s.piece s.used s.left inside (omega (arith, below)) (omega arith))
            ∙ ap (λ (k : ℕ). combine_from (weighting_of w) s.worth (map (place_worth w l) (new_to l o (take k B)))) all_of;
        size = omega (arith, next-size);
      }

  -- the stay goes on in the next piece
  moves : get_or ds s.piece 0 - s.used ≤ s.left
      → Turned w l n ds vs first s (record { piece = s.piece + 1; used = 0; left = s.left - (get_or ds s.piece 0 - s.used); worth = next })
  unfolding to_come next seen_at
  moves long =
      let i = s.piece in
      let B = ahead n ds vs i s.used in
      let m = get_or ds i 0 - s.used in
      let k = s.left - m in
      let o = seen_at n vs first i in
      let x = sample_at n vs i in
      let i-next : i + 1 ≡ suc i = add-one i in
      let back : i + 1 - 1 ≡ i = omega arith in
      let on : first < i + 1 = let e = h.onward in omega arith in
      let all_of : m + k ≡ s.left = omega arith in
      let there : drop m B ≡ ahead n ds vs (i + 1) 0 = rw i-next (ahead-next n ds vs i s.used inside (omega (arith, below))) in
      let long-is : length B ≡ m + length (ahead n ds vs (i + 1) 0) = rw i-next (ahead-length n ds vs i s.used inside (omega (arith, below))) in
      record {
        stands = record { inside = omega (arith, inside); below = lasts-at ds (i + 1) (parts n ds vs h.sound).lasting };
        onward = omega arith;
        less = omega (arith, below);
        rest = rw (← there) (drop-drop k m B ∙ ap (λ (j : ℕ). drop j B) all_of);
        enough = let e = h.enough in omega arith;
        worth =
            rw (lt-ltb first (i + 1) on, back, ← there)
            (stretch_worth (weighting_of w) l (place_worth w l) o s.worth x m k B (omega (arith, below)) (ahead-take n ds vs i s.used m inside (omega (arith, below)) (omega arith))
            ∙ ap (λ (j : ℕ). combine_from (weighting_of w) s.worth (map (place_worth w l) (new_to l o (take j B)))) all_of);
        size = omega (arith, next-size, below);
      }

  -- m ticks of the piece are taken: all that the stay wants, or all that the piece has left
  module _ (m : ℕ) (is : m ≡ min s.left (get_or ds s.piece 0 - s.used)) where
    pub taken-within : m < get_or ds s.piece 0 - s.used
        → Turned w l n ds vs first s (record { piece = s.piece; used = s.used + m; left = s.left - m; worth = next })
    taken-within short =
        let all_of : m ≡ s.left = omega arith in
        let none_left : s.left - s.left ≡ 0 = omega arith in
        rw (all_of, none_left) (ends (omega arith))

    pub taken-whole : get_or ds s.piece 0 - s.used ≤ m
        → Turned w l n ds vs first s (record { piece = s.piece + 1; used = 0; left = s.left - m; worth = next })
    taken-whole long =
        let all_of : m ≡ get_or ds s.piece 0 - s.used = omega arith in
        rw all_of (moves (omega arith))

-- ---- turn after turn

-- so far: where the stay stands, and that it will end as it would have ended
pub record Far (w : Weighing) (l : Place) (n : ℕ) (ds : List ℕ) (vs : List ℤ) (first : ℕ) (s r : Walk) : Type 0 where
  pub walks : Walks w l n ds vs first r
  pub rest : drop r.left (ahead n ds vs r.piece r.used) ≡ drop s.left (ahead n ds vs s.piece s.used)
  pub worth : to_come w l n ds vs first r ≡ to_come w l n ds vs first s
  pub size : nat_abs r.worth + 8000000 * r.left ≤ nat_abs s.worth + 8000000 * s.left

module _ (w : Weighing) (l : Place) (n : ℕ) (ds : List ℕ) (vs : List ℤ) (first : ℕ) (s : Walk) where
  pub far_none : Walks w l n ds vs first s → Far w l n ds vs first s s
  far_none h = record { walks = h; rest = refl; worth = refl; size = omega arith }

  pub far-more : (r t : Walk) → Far w l n ds vs first s r → Turned w l n ds vs first r t → Far w l n ds vs first s t
  far-more r t f h =
      record {
        walks = record {
          sound = f.walks.sound;
          mild = f.walks.mild;
          stands = h.stands;
          onward = h.onward;
          enough = h.enough;
          size = let a = f.walks.size in let b = h.size in omega arith;
        };
        rest = h.rest ∙ f.rest;
        worth = h.worth ∙ f.worth;
        size = let a = f.size in let b = h.size in omega arith;
      }

  pub far-all : (r : Walk) → s.piece ≡ first → Far w l n ds vs first s r → r.left ≡ 0 → Stayed w l n ds vs s r
  unfolding to_come seen_at new_to combine_from
  far-all r e f z =
      let o = seen_at n vs first r.piece in
      let nothing : new_to l o (take r.left (ahead n ds vs r.piece r.used)) ≡ [] = rw z (new-nothing l o) in
      record {
        stands = f.walks.stands;
        rest = rw z at f.rest;
        worth =
            sym (ap (λ (b : List Sample). combine_from (weighting_of w) r.worth (map (place_worth w l) b)) nothing)
            ∙ f.worth
            ∙ rw (e, le-ltb first first (omega arith));
        size = let a = f.size in omega arith;
      }
