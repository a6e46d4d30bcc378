-- The ticks that lie ahead of a place in a record, and what they bring that is new.
use Prim.Native.Nat.{ℕ, suc, ◌+◌, ◌-◌, ◌≤◌, ◌<◌}
use native.Mathlib.Omega.{arith}
use mathlib.Core.Path.{◌≡◌, refl, ap, ◌∙◌}
use mathlib.Core.List.{List, [], ◌∷◌, ◌++◌}
use mathlib.Core.Option.{Option, none, some}
use mathlib.Core.Bool.{cond}
use lib.ListN.{length, take, drop, get_or, replicate, length-append, length-replicate, drop_of_length-le}
use lib.Seq.{drop-nil, drop-append-le, drop-drop, drop_at, take-append-le}
use lib.IntN.{ℤ}
use Rattle.pattern.specs.declared.Place.{Place}
use Rattle.pattern.specs.Distance.{Sample}
use Rattle.record.specs.Record.{Book, ticks_of, pieces_of, sample_at}
use Rattle.record.specs.Joined.{agrees, joined, fresh_after}
use Rattle.std.proofs.lemmas.List.{drop-replicate, take-replicate}
use Rattle.record.proofs.JoinedLaws.{joined_fresh, fresh_same, agrees-self}
use Rattle.record.proofs.RecordLaws.{drop_pieces, piece-at}
use Rattle.price_stays.specs.Walk.{ahead, new_to, joins_to}

-- ---- what is new

pub new-nothing : (l : Place) (o : Option Sample) → new_to l o [] ≡ []
unfolding new_to joined fresh_after
new-nothing l none = refl
new-nothing l (some p) = refl

-- a stretch of equal samples is one observation, or none where it joins the one before
pub new_stretch : (l : Place) (o : Option Sample) (m : ℕ) (x : Sample) (b : Book) → new_to l o (replicate (suc m) x ++ b) ≡ cond (joins_to l o x) (new_to l (some x) b) (x ∷ new_to l (some x) b)
unfolding new_to joins_to fresh_after
new_stretch l none m x b = joined_fresh (agrees l) x (replicate m x ++ b) ∙ ap (◌∷◌ x) (fresh_same (agrees l) m x b (agrees-self l x))
new_stretch l (some p) m x b = rw (fresh_same (agrees l) m x b (agrees-self l x))

-- ---- where it stands

module _ (n : ℕ) (ds : List ℕ) (vs : List ℤ) where
  -- the ticks ahead: those of the piece, and then those from the next piece on
  pub ahead-piece : (i u : ℕ) → i < length ds → u ≤ get_or ds i 0
      → ahead n ds vs i u ≡ replicate (get_or ds i 0 - u) (sample_at n vs i) ++ ahead n ds vs (suc i) 0
  unfolding ahead ticks_of
  ahead-piece i u h k =
      let d = get_or ds i 0 in
      let s = sample_at n vs i in
      let t = ticks_of (drop (suc i) (pieces_of n ds vs)) in
      rw (piece-at n i ds vs h)
      (drop-append-le u (replicate d s) t (let e = length-replicate d s in omega arith)
      ∙ ap (λ (b : Book). b ++ t) (drop-replicate u d s))

  pub ahead-on : (i u m : ℕ) → drop m (ahead n ds vs i u) ≡ ahead n ds vs i (u + m)
  unfolding ahead
  ahead-on i u m = drop-drop m u (ticks_of (drop i (pieces_of n ds vs)))

  pub ahead-next : (i u : ℕ) → i < length ds → u ≤ get_or ds i 0
      → drop (get_or ds i 0 - u) (ahead n ds vs i u) ≡ ahead n ds vs (suc i) 0
  ahead-next i u h k =
      rw (ahead-piece i u h k)
      (drop_at (replicate (get_or ds i 0 - u) (sample_at n vs i)) (ahead n ds vs (suc i) 0) (get_or ds i 0 - u) (length-replicate (get_or ds i 0 - u) (sample_at n vs i)))

  -- the first ticks ahead are the piece's
  pub ahead-take : (i u m : ℕ) → i < length ds → u ≤ get_or ds i 0 → m ≤ get_or ds i 0 - u
      → take m (ahead n ds vs i u) ≡ replicate m (sample_at n vs i)
  ahead-take i u m h k l =
      let d = get_or ds i 0 - u in
      let s = sample_at n vs i in
      rw (ahead-piece i u h k)
      (take-append-le m (replicate d s) (ahead n ds vs (suc i) 0) (let e = length-replicate d s in omega arith)
      ∙ take-replicate m d s l)

  pub ahead-length : (i u : ℕ) → i < length ds → u ≤ get_or ds i 0
      → length (ahead n ds vs i u) ≡ (get_or ds i 0 - u) + length (ahead n ds vs (suc i) 0)
  ahead-length i u h k =
      let d = get_or ds i 0 - u in
      let s = sample_at n vs i in
      ap length (ahead-piece i u h k)
      ∙ length-append (replicate d s) (ahead n ds vs (suc i) 0)
      ∙ ap (λ (m : ℕ). m + length (ahead n ds vs (suc i) 0)) (length-replicate d s)

  -- past the last piece there are no ticks
  pub ahead_none : (i u : ℕ) → length ds ≤ i → ahead n ds vs i u ≡ []
  unfolding ahead ticks_of pieces_of
  ahead_none i u h =
      rw (drop_pieces n i ds vs, drop_of_length-le ds {i = i} h) (drop-nil u)
